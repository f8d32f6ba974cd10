use Rattle.std.proofs.Common.{rules, arith}
use mathlib.Core.Path.{◌≡◌, sym, ◌∙◌, ap, ap₂}
use mathlib.Core.List.{List, [], ◌∷◌, ◌++◌}
use Prim.Native.Nat.{ℕ, ◌+◌, ◌<◌}
use native.Mathlib.Numerals.{add-one}
use lib.ListN.{length, take, set, length-set}
use lib.Seq.{take-suc-set}
use Rattle.book.proofs.Rows.{rows_none, rows_last}
use Rattle.fixpoint.proofs.all_numbers.Goals as goal

pub loop-k-init : goal.loop-k-init
loop-k-init c = (search rules, sym (rows_none (λ j. j) 0))

pub loop-k-preserved : goal.loop-k-preserved
loop-k-preserved c =
    let turn = c.loop-k in
    let k = turn.k in
    let inside : k < length turn.numbers = omega (arith, turn.invariant.0, c.requires) in
    let sum : 0 + k ≡ k = omega arith in (
      length-set turn.numbers k k ∙ turn.invariant.0,
      ap (λ (n : ℕ). take n (set turn.numbers k k)) (add-one k) ∙ take-suc-set turn.numbers k k inside
          ∙ ap₂ (λ (l : List ℕ) (n : ℕ). l ++ (n ∷ [])) turn.invariant.1 (sym sum) ∙ sym (rows_last (λ j. j) 0 k),
    )

pub returns : goal.returns
returns c =
    let all : c.loop-k.k ≡ c.args.count = omega arith in
    rw all at c.loop-k.invariant.1
