-- The result of `fixpoint` in the published terms: M has a lowest-numbered name with both literals exactly where the program is contradictory, the
-- verdict is that of the semantics, and nothing is left open.
use mathlib.Core.Path.{◌≡◌, refl, sym, ◌∙◌, ap, ap₂}
use mathlib.Core.Logic.{◌↔◌}
use Prim.Native.Nat.{ℕ, ◌<◌}
use native.Mathlib.Omega.{arith}
use borrow.Author.Tests.{ltb-true, lt-ltb}
use Rattle.wfsx.specs.Sets.{Set, ◌∈◌}
use Rattle.wfsx.specs.Program.{Program}
use Rattle.wfsx.specs.Model.{M, N, Heads⊆, Contradictory, verdict}
use Rattle.wfsx.specs.Rounds.{rounds}
use Rattle.wfsx.proofs.Contradiction.{heads_in, contradiction}
use Rattle.wfsx.proofs.Operators.{M-head, N-head, verdict_is_lem}
use Rattle.litset.specs.Words.{capacity, room, set_of, LowestBoth, ClashOf, clash_in}
use Rattle.std.specs.Prelude.{Option, Some, None}
use Rattle.litset.proofs.Clashes.{lowest_one, clash_of}
use Rattle.litset.proofs.Made.{words_for}
use Rattle.fixpoint.specs.declared.Model.{Model}
use Rattle.fixpoint.specs.Result.{ModelOf, verdict_in}

none_name : (n : ℕ) → ◌≡◌ {A = Option ℕ} None (Some n) → ⊥
none_name n e = let z : ◌≡◌ {A = ℕ} 0 1 = cc in omega arith

same_name : (k n : ℕ) → ◌≡◌ {A = Option ℕ} (Some k) (Some n) → k ≡ n
same_name k n e = cc

-- a program whose heads a set has room for
module _ (P : Program) (small : Heads⊆ P room) where
  M-small : (A : ℕ) → A ∈ M P → A < capacity
  M-small A h = ltb-true A capacity (heads_in P room small A (M-head P A h))

  N-small : (A : ℕ) → A ∈ N P → A < capacity
  N-small A h = ltb-true A capacity (heads_in P room small A (N-head P A h))

  -- its model has room in memory
  pub model_exists : (m : Model) × ModelOf P m
  model_exists =
      let T = words_for (M P) (λ A h. lt-ltb A capacity (M-small A h)) in
      let U = words_for (N P) (λ A h. lt-ltb A capacity (N-small A h)) in
      (record { truths = T.0; nonfalse = U.0; rounds = rounds P }, record { truths = T.2; nonfalse = U.2; rounds = refl })

  module _ (base : Set) (over : Heads⊆ P base) where
    -- M has no clash exactly where the program has a partial stable model
    pub no_clash : (clash_in (M P) ≡ None) ↔ (Contradictory P base → ⊥)
    no_clash = go (clash_in (M P)) (clash_of (M P) M-small)
      where
        go : (c : Option ℕ) → ClashOf (M P) c → (c ≡ None) ↔ (Contradictory P base → ⊥)
        go None a = (λ e no. let w = (contradiction P base over).0 no in a w.0 w.1, λ q. refl)
        go (Some k) a = (λ e. absurd (none_name k (sym e)), λ q. absurd (q ((contradiction P base over).1 (k, a.0))))

    -- it has one in the name n exactly where the program is contradictory and n is the lowest-numbered name with both literals in M
    pub clash_name : (n : ℕ) → (clash_in (M P) ≡ Some n) ↔ (Contradictory P base × LowestBoth (M P) n)
    clash_name n = go (clash_in (M P)) (clash_of (M P) M-small)
      where
        go : (c : Option ℕ) → ClashOf (M P) c → (c ≡ Some n) ↔ (Contradictory P base × LowestBoth (M P) n)
        go None a = (λ e. absurd (none_name n e), λ w. absurd (a n w.1.0))
        go (Some k) a =
            (λ e. ((contradiction P base over).1 (k, a.0), rw (same_name k n e) at a), λ w. ap Some (lowest_one (M P) k n a w.1))

-- the verdict that M and N give is that of the semantics
pub verdict_same : (P : Program) (T U : Set) → T ≡ M P → U ≡ N P → (A : ℕ) → verdict_in T U A ≡ verdict P A
verdict_same P T U t u A = ap₂ (λ (T U : Set). verdict_in T U A) t u ∙ sym (verdict_is_lem P A)

-- a program has one model: its sets settle their words (`set_settles`)
pub model_settles : (P : Program) (m n : Model) → ModelOf P m → ModelOf P n
    → (set_of m.truths.words ≡ set_of n.truths.words) × (set_of m.nonfalse.words ≡ set_of n.nonfalse.words) × (m.rounds ≡ n.rounds)
model_settles P m n is other = (is.truths ∙ sym other.truths, is.nonfalse ∙ sym other.nonfalse, is.rounds ∙ sym other.rounds)
