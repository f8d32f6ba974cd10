-- `find_key`: a name that the hint leads to is the one where its key matches; else the first name with the key is the one, or none has it.
use borrow.Author.Rules.{rules}
use borrow.Author.Tests.{tests}
use Prim.Native.Nat.{zero-le}
use native.Mathlib.Omega.{arith}
use Rattle.std.proofs.Common.{ℕ, List, Option, Some, None, refl, ◌≡◌, sym, ◌∙◌, take, true, false}
use Rattle.std.proofs.lemmas.Iterator.{YieldsList-from_slice, IsFirst-from_position}
use Rattle.scan.specs.Keys.{same_key}
use Rattle.scan.specs.declared.Key.{Key}
use Rattle.keys.proofs.Found.{looked_at, looked_first, looked_none}
use Rattle.keys.specs.Keyed.{no_key, LookedUp}
use Rattle.keys.proofs.find_key.Goals as goal

pub returns-then-eq : goal.returns-then-eq
returns-then-eq c =
    looked_at c.args.keys.now c.args.count c.args.key c.hint_at-hint.result (omega (arith, c.min-few.ensures, c.if-hint-few.true)) (sym c.eq.ensures ∙ c.if-eq.true)

pub returns : goal.returns
returns c = go c.position.result refl
  where
    few : List Key
    few = take c.min-few.result c.args.keys.now

    go : (r : Option ℕ) → c.position.result ≡ r → LookedUp c.args.keys.now c.args.count c.args.key r
    go (Some k) e =
        let by = IsFirst-from_position _ _ c.position.result (λ (x : Key). same_key x c.args.key ≡ true) (λ (x : Key). same_key x c.args.key ≡ false)
        c.position.ensures.ran (YieldsList-from_slice few cc) (λ x q k. search (rules, tests)) (λ x q k. search (rules, tests)) in
        let first = rw e at by in
        looked_first c.args.keys.now c.args.count c.args.key c.min-few.result k (omega (arith, c.min-few.ensures)) first.0 (first.1 no_key)
    go None e =
        let by = IsFirst-from_position _ _ c.position.result (λ (x : Key). same_key x c.args.key ≡ true) (λ (x : Key). same_key x c.args.key ≡ false)
        c.position.ensures.ran (YieldsList-from_slice few cc) (λ x q k. search (rules, tests)) (λ x q k. search (rules, tests)) in
        let none = rw e at by in
        looked_none c.args.keys.now c.args.count c.args.key c.min-few.result c.min-few.ensures (λ k h. none k no_key zero-le h)
