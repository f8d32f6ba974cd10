-- Laws of sets, and how many entries of a list lie outside a set.
use mathlib.Core.Path.{◌≡◌, refl, fun_ext}
use mathlib.Core.Logic.{◌⊎◌, inl, inr, ⊎_elim}
use mathlib.Core.Bool.{Bool, true, false, ◌||◌}
use mathlib.Core.List.Memᴰ
use mathlib.Core.List.{List, [], ◌∷◌}
use Prim.Native.Nat.{ℕ, zero, suc, ◌≤◌, ◌<◌}
use native.Mathlib.Omega.{arith}
use lib.ListN.{length}
use lib.Dec.{eqb}
use borrow.Author.Tests.{eqb-true, eq-eqb}
use Rattle.truth.proofs.Truth.{clash, decided, refuted, same_test, or_elim, or_l, or_r, or_none, or_map}
use Rattle.wfsx.specs.Sets.{Set, ◌∈◌, ◌∉◌, ◌⊆◌, ∅, ◌∪◌, add, ◌is_in◌}

-- ---- sets

pub ⊆_antisym : {S U : Set} → S ⊆ U → U ⊆ S → S ≡ U
⊆_antisym f g = fun_ext (λ A. same_test (f A) (g A))

pub add_has : (A : ℕ) (S : Set) → A ∈ add A S
add_has A S = or_l _ _ (eq-eqb A A refl)

pub ⊆_add : (A : ℕ) (S : Set) → S ⊆ add A S
⊆_add A S B h = or_r (eqb B A) (S B) h

pub add_same : (A : ℕ) (S : Set) → A ∈ S → add A S ≡ S
add_same A S m = ⊆_antisym (λ B h. ⊎_elim (λ e. rw (eqb-true B A e) m) (λ b. b) (or_elim (eqb B A) (S B) h)) (⊆_add A S)

pub add_more : (A : ℕ) {S U : Set} → S ⊆ U → add A S ⊆ add A U
add_more A {S} f B h = or_map (eqb B A) (S B) (λ e. e) (f B) h

pub add_swap : (A B : ℕ) (S : Set) → add A (add B S) ≡ add B (add A S)
add_swap A B S = fun_ext (λ C. go (eqb C A) (eqb C B) (S C))
  where
    go : (a b c : Bool) → (a || (b || c)) ≡ (b || (a || c))
    go true true c = refl
    go true false c = refl
    go false b c = refl

-- what holds of a literal and of the members of a set holds of the members of the set with it
pub with_one : (Q : ℕ → Type 0) (A : ℕ) (S : Set) → Q A → ((B : ℕ) → B ∈ S → Q B) → (B : ℕ) → B ∈ add A S → Q B
with_one Q A S q f B m = ⊎_elim (λ e. rw (eqb-true B A e) q) (f B) (or_elim (eqb B A) (S B) m)

-- an ancestor added to the left part of a union is added to the union
pub add_∪ : (A : ℕ) (S U : Set) → add A S ∪ U ≡ add A (S ∪ U)
add_∪ A S U = fun_ext (λ B. go (eqb B A) (S B) (U B))
  where
    go : (a b c : Bool) → ((a || b) || c) ≡ (a || (b || c))
    go true b c = refl
    go false b c = refl

-- U and S have no member in common
abbrev pub Apart : Set → Set → Type 0
Apart U S = (B : ℕ) → B ∈ U → B ∉ S

pub apart_∅ : (U : Set) → Apart U ∅
apart_∅ U B b = refl

pub apart_add : {U S : Set} (A : ℕ) → A ∉ U → Apart U S → Apart U (add A S)
apart_add {U} {S} A a d B b = or_none (eqb B A) (S B) (refuted (λ e. clash (rw (eqb-true B A e) at b) a)) (d B b)

-- ---- how many entries of a list lie outside a set

abbrev pub tally : Bool → ℕ → ℕ
tally true n = n
tally false n = suc n

abbrev pub outside : Set → List ℕ → ℕ
outside S [] = zero
outside S (h ∷ H) = tally (S h) (outside S H)

tally_le : (a b : Bool) {n m : ℕ} → (a ≡ true → b ≡ true) → n ≤ m → tally b n ≤ tally a m
tally_le true true f h = h
tally_le true false f h = absurd (clash (f refl) refl)
tally_le false true f h = omega arith
tally_le false false f h = omega arith

tally_lt : (a b : Bool) {n m : ℕ} → (a ≡ true → b ≡ true) → n < m → tally b n < tally a m
tally_lt true true f h = h
tally_lt true false f h = absurd (clash (f refl) refl)
tally_lt false true f h = omega arith
tally_lt false false f h = omega arith

tally_new : (a b : Bool) {n m : ℕ} → a ≡ false → b ≡ true → n ≤ m → tally b n < tally a m
tally_new a b p q h = rw (p, q) (omega arith)

pub outside_most : (S : Set) (H : List ℕ) → outside S H ≤ length H
outside_most S [] = omega arith
outside_most S (h ∷ H) = tally_le false (S h) (λ e. absurd (clash e refl)) (outside_most S H)

pub outside_anti : (S U : Set) → S ⊆ U → (H : List ℕ) → outside U H ≤ outside S H
outside_anti S U f [] = omega arith
outside_anti S U f (h ∷ H) = tally_le (S h) (U h) (f h) (outside_anti S U f H)

-- a set with one more entry of the list leaves fewer outside
pub outside_falls : (S U : Set) → S ⊆ U → (A : ℕ) → A ∉ S → A ∈ U → {H : List ℕ} → A is_in H → outside U H < outside S H
outside_falls S U f A s u (Memᴰ.head {x = h} {xs = H} e) = tally_new (S h) (U h) (rw e at s) (rw e at u) (outside_anti S U f H)
outside_falls S U f A s u (Memᴰ.tail {x = h} m) = tally_lt (S h) (U h) (f h) (outside_falls S U f A s u m)

pub outside_add : (S : Set) (A : ℕ) → A ∉ S → {H : List ℕ} → A is_in H → outside (add A S) H < outside S H
outside_add S A s m = outside_falls S (add A S) (⊆_add A S) A s (add_has A S) m

-- an entry of the list that is in U and not in S, or none
pub first_missing : (S U : Set) (H : List ℕ) → ((A : ℕ) → A is_in H → A ∈ U → A ∈ S) ⊎ ((A : ℕ) × A is_in H × A ∈ U × A ∉ S)
first_missing S U [] = inl (λ A m u. elim m [ ])
first_missing S U (h ∷ H) = go (decided (U h)) (decided (S h)) (first_missing S U H)
  where
    none : (h ∈ U → h ∈ S) → ((A : ℕ) → A is_in H → A ∈ U → A ∈ S) → (A : ℕ) → A is_in h ∷ H → A ∈ U → A ∈ S
    none here rest A (Memᴰ.head e) u = rw e (here (rw e at u))
    none here rest A (Memᴰ.tail m) u = rest A m u

    go : (h ∈ U) ⊎ (h ∉ U) → (h ∈ S) ⊎ (h ∉ S) → ((A : ℕ) → A is_in H → A ∈ U → A ∈ S) ⊎ ((A : ℕ) × A is_in H × A ∈ U × A ∉ S)
        → ((A : ℕ) → A is_in h ∷ H → A ∈ U → A ∈ S) ⊎ ((A : ℕ) × A is_in h ∷ H × A ∈ U × A ∉ S)
    go (inl u) (inr s) r = inr (h, Memᴰ.head refl, u, s)
    go (inl u) (inl s) (inl f) = inl (none (λ _. s) f)
    go (inr u) s (inl f) = inl (none (λ v. absurd (clash v u)) f)
    go (inl u) (inl s) (inr w) = inr (w.0, Memᴰ.tail w.1, w.2, w.3)
    go (inr u) s (inr w) = inr (w.0, Memᴰ.tail w.1, w.2, w.3)
