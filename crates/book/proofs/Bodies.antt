-- The walk of a rule's body: at each place the entries from there on decide whether all pass a test.
use mathlib.Core.Path.{◌≡◌, refl, ◌∙◌}
use mathlib.Core.Bool.{Bool, true, false, ◌&&◌, and-false}
use mathlib.Core.List.{List, map}
use Prim.Native.Nat.{ℕ, zero, suc, ◌+◌, ◌-◌, ◌≤◌, ◌<◌}
use native.Mathlib.Omega.{arith}
use lib.ListN.{get_or, take, drop}
use Rattle.wfsx.specs.Program.{Entry}
use Rattle.wfsx.specs.Model.{every}
use Rattle.wfsx.proofs.Supported.{every_none, every_first}
use Rattle.book.specs.Book.{entry_of, body_start, body_end, entry_at, body_of}
use Rattle.book.proofs.Parts.{part_step, part_end}

-- the entries of rule r from place j on
abbrev entries_from : List ℕ → List ℕ → ℕ → ℕ → List Entry
entries_from starts entries r j = map entry_of (take (get_or starts (r + 1) 0 - j) (drop j entries))

pub record BodyLeft (f : Entry → Bool) (starts entries : List ℕ) (r j : ℕ) : Type 0 where
  pub from : body_start starts r ≤ j
  pub left : every f (body_of starts entries r) ≡ every f (entries_from starts entries r j)

module _ {f : Entry → Bool} {starts entries : List ℕ} {r j : ℕ} where
  pub body_first : j ≡ body_start starts r → BodyLeft f starts entries r j
  body_first e = record { from = omega (arith, e); left = rw e refl }

  module _ (l : BodyLeft f starts entries r j) where
    -- the entry at j, and the rest
    next : j < body_end starts entries r → every f (body_of starts entries r) ≡ (f (entry_at entries j) && every f (entries_from starts entries r (j + 1)))
    next h = l.left ∙ rw (part_step entries j (get_or starts (r + 1) 0) (omega arith) (omega arith)) (every_first f _ _)

    pub body_more : j < body_end starts entries r → f (entry_at entries j) ≡ true → BodyLeft f starts entries r (j + 1)
    body_more h e = record { from = omega (arith, l.from); left = next h ∙ rw e refl }

    pub body_fails : j < body_end starts entries r → f (entry_at entries j) ≡ false → every f (body_of starts entries r) ≡ false
    body_fails h e = next h ∙ rw e refl

    pub body_over : body_end starts entries r ≤ j → every f (body_of starts entries r) ≡ true
    body_over h = l.left ∙ rw (part_end entries j (get_or starts (r + 1) 0) h) (every_none f)

    -- an entry that fails another test fails the body, whatever the entries before it are
    pub body_one : (g : Entry → Bool) → j < body_end starts entries r → g (entry_at entries j) ≡ false → every g (body_of starts entries r) ≡ false
    body_one g h e = before (j - body_start starts r) (body_start starts r) (omega (arith, l.from))
      where
        step : (k : ℕ) → k < body_end starts entries r → every g (entries_from starts entries r k) ≡ (g (entry_at entries k) && every g (entries_from starts entries r (k + 1)))
        step k i = rw (part_step entries k (get_or starts (r + 1) 0) (omega arith) (omega arith)) (every_first g _ _)

        before : (n k : ℕ) → k + n ≡ j → every g (entries_from starts entries r k) ≡ false
        before zero k s = let here : k ≡ j = omega arith in step k (omega arith) ∙ rw (here, e) refl
        before (suc n) k s = step k (omega arith) ∙ rw (before n (k + 1) (omega arith)) (and-false (g (entry_at entries k)))
