-- Sets of literals. A literal is a number, and a set is its test: `A ∈ S` says that S answers `true` at A.
-- There is no bound on literals; membership is decided, and two sets with the same members are equal.
use Rattle.std.specs.Prelude.{◌≡◌, Bool, true, false, not, cond, ◌&&◌, ◌||◌, ℕ, zero, suc, eqb}
use mathlib.Core.List.{List, [], ◌∷◌, Memᴰ}

abbrev pub Set : Type 0
Set = ℕ → Bool

infix 4 ◌∈◌ ◌∉◌ ◌⊆◌ ◌is_in◌
infixl 6 ◌∪◌ ◌∖◌
abbrev pub ◌∈◌ : ℕ → Set → Type 0
A ∈ S = S A ≡ true

abbrev pub ◌∉◌ : ℕ → Set → Type 0
A ∉ S = S A ≡ false

abbrev pub ◌⊆◌ : Set → Set → Type 0
S ⊆ U = (A : ℕ) → A ∈ S → A ∈ U

abbrev pub ∅ : Set
∅ A = false

abbrev pub ◌∪◌ : Set → Set → Set
(S ∪ U) A = S A || U A

-- the members of S that are not in U
abbrev pub ◌∖◌ : Set → Set → Set
(S ∖ U) A = S A && not (U A)

-- S with A added
abbrev pub add : ℕ → Set → Set
add A S B = eqb B A || S B

-- x is an entry of a list
abbrev pub ◌is_in◌ : {X : Type 0} → X → List X → Type 0
x is_in l = Memᴰ x l

-- the chain S, f S, f (f S), ..: its n-th set
abbrev pub iterate : (Set → Set) → Set → ℕ → Set
iterate f S zero = S
iterate f S (suc n) = f (iterate f S n)

-- the members of S among the n numbers from b on, in order
unfoldable pub members_from : Set → ℕ → ℕ → List ℕ
members_from S b zero = []
members_from S b (suc n) = cond (S b) (b ∷ members_from S (suc b) n) (members_from S (suc b) n)

-- the list of the members of S below n
abbrev pub members : ℕ → Set → List ℕ
members n S = members_from S 0 n
