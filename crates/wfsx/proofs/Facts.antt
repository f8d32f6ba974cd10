-- A fact is supported whatever the test, so the facts put in join what the rules support.
use mathlib.Core.Path.{◌≡◌, refl, sym, ◌∙◌, ap}
use mathlib.Core.Bool.{Bool, true, ◌&&◌, ◌||◌}
use mathlib.Core.List.Memᴰ
use mathlib.Core.List.{List, [], ◌∷◌, map}
use Prim.Native.Nat.{ℕ, ◌<◌}
use lib.Dec.{eqb}
use borrow.Author.Tests.{eq-eqb}
use Rattle.wfsx.specs.Sets.{Set, ◌∈◌, ◌is_in◌, members}
use Rattle.wfsx.specs.Program.{Entry, Rule, fact, with_facts}
use Rattle.wfsx.specs.Model.{every, supported}
use Rattle.truth.proofs.Truth.{same_test, or_l, or_r}
use Rattle.wfsx.proofs.Members.{members_are}
use Rattle.wfsx.proofs.Supported.{heads, supported_head, supported_append}

fact_supported : (l : List ℕ) (f : Entry → Bool) (A : ℕ) → A is_in l → A ∈ supported (map fact l) f
unfolding supported every
fact_supported [] f A x' = elim x' [ ]
fact_supported (x ∷ l) f A (Memᴰ.head e) = or_l (eqb x A && true) _ (rw (eq-eqb x A (sym e)) refl)
fact_supported (x ∷ l) f A (Memᴰ.tail m) = or_r (eqb x A && true) _ (fact_supported l f A m)

heads_of_facts : (l : List ℕ) → heads (map fact l) ≡ l
heads_of_facts [] = refl
heads_of_facts (x ∷ l) = ap (λ (m : List ℕ). x ∷ m) (heads_of_facts l)

-- the facts are the members of a set that lies below n
pub supported_facts : (rules : List Rule) (n : ℕ) (S : Set) → ((A : ℕ) → A ∈ S → A < n) → (f : Entry → Bool) (A : ℕ)
    → supported (with_facts rules (members n S)) f A ≡ (supported rules f A || S A)
supported_facts rules n S below f A =
    supported_append rules (map fact (members n S)) f A ∙ ap (λ (b : Bool). supported rules f A || b) (same_test there back)
  where
    there : A ∈ supported (map fact (members n S)) f → A ∈ S
    there h = ((members_are n S A).0 (rw (heads_of_facts (members n S)) at (supported_head (map fact (members n S)) f A h))).0

    back : A ∈ S → A ∈ supported (map fact (members n S)) f
    back h = fact_supported (members n S) f A ((members_are n S A).1 (h, below A h))
