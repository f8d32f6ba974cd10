-- The loop ends where nothing is left, or where the next place is past the end, and then storing what is left changes nothing.
use Rattle.std.proofs.Common.{ℕ, List, ◌≡◌, ◌∙◌, sym, ap, set, get_or, arith, ◌≤◌, ◌+◌, length, drop, add-zero}
use Rattle.std.proofs.lemmas.List.Edits.{sets}
use native.Mathlib.Decide.{dec_le}
use Rattle.store.proofs.Stored.{sets_next, sets_end, sets_out}
use Rattle.store.proofs.put_all.Goals as goal

pub loop-i-init : goal.loop-i-init
loop-i-init c = ap (λ (k : ℕ). sets c.args.t.now k c.args.s.now) (add-zero c.args.at)

pub loop-i-preserved : goal.loop-i-preserved
loop-i-preserved c =
    let s = c.args.s.now in
    let t = c.loop-i.t in
    let i = c.loop-i.i in
    let p = c.args.at + i in
    let next : c.args.at + (i + 1) ≡ p + 1 = omega arith in
    ap (λ (k : ℕ). sets (set t p (get_or s i 0)) k (drop (i + 1) s)) next ∙ sym (sets_next t p s i (omega arith)) ∙ c.loop-i.invariant

pub returns : goal.returns
returns c = go (dec_le (length s) i)
  where
    s : List ℕ
    s = c.args.s.now

    i : ℕ
    i = c.loop-i.i

    go : Dec (length s ≤ i) → c.loop-i.t ≡ sets c.args.t.now c.args.at s
    go (yes h) = sym (sets_end c.loop-i.t (c.args.at + i) s i h) ∙ c.loop-i.invariant
    go (no n) = sym (sets_out c.loop-i.t (c.args.at + i) (drop i s) (omega arith)) ∙ c.loop-i.invariant
