-- The order 20, 21, then the one that fits the call: what a call says once the state has been looked at.
use mathlib.Core.Path.{◌≡◌, refl, sym, ◌∙◌, ap}
use mathlib.Core.Bool.{Bool, true, false, cond, true≢false}
use Prim.Native.Nat.{ℕ, ◌*◌, ◌<◌}
use native.Mathlib.Omega.{arith}
use lib.ListN.{length}
use borrow.Author.Tests.{ltb-true}
use Rattle.wfsx.specs.Sets.{◌∈◌}
use Rattle.wfsx.specs.Reach.{name_of}
use Rattle.lesson.specs.State.{Ack, acknowledged, BookState, unloaded, loaded_with, its_names, none_loaded, in_book, Said, gives, refused, if_loaded, in_order, known_in}

abbrev is_given : {X : Type 0} → Said X → Bool
is_given (gives x) = true
is_given (refused n) = false

-- the number of a refusal
abbrev number_in : {X : Type 0} → Said X → ℕ
number_in (gives x) = 0
number_in (refused n) = n

pub given_refused : {X : Type 0} (x : X) (n : ℕ) → ◌≡◌ {A = Said X} (gives x) (refused n) → ⊥
given_refused x n e = true≢false (ap is_given e)

pub refused_same : {X : Type 0} (m n : ℕ) → ◌≡◌ {A = Said X} (refused m) (refused n) → m ≡ n
refused_same m n e = ap number_in e

pub given_same : {X : Type 0} (x y : X) → ◌≡◌ {A = Said X} (gives x) (gives y) → x ≡ y
given_same x y e = cc

module _ {X : Type 0} (b : BookState) (said : Said X) where
  pub unloaded_says : none_loaded b ≡ true → if_loaded b said ≡ refused 20
  unfolding if_loaded
  unloaded_says e = rw e refl

  pub loaded_says : none_loaded b ≡ false → if_loaded b said ≡ said
  unfolding if_loaded
  loaded_says e = rw e refl

module _ {X : Type 0} (b : BookState) (A : ℕ) (said : Said X) where
  pub outside : none_loaded b ≡ false → in_book b A ≡ false → in_order b A said ≡ refused 21
  unfolding in_order
  outside e i = loaded_says b _ e ∙ rw i refl

  pub inside : none_loaded b ≡ false → in_book b A ≡ true → in_order b A said ≡ said
  unfolding in_order
  inside e i = loaded_says b _ e ∙ rw i refl

  -- what is given is given of a literal of the book
  pub given_inside : (x : X) → in_order b A said ≡ gives x → (none_loaded b ≡ false) × (A ∈ in_book b)
  unfolding in_order if_loaded
  given_inside x e = go (none_loaded b) (in_book b A) e
    where
      go : (a i : Bool) → cond a (refused 20) (cond i said (refused 21)) ≡ gives x → (a ≡ false) × (i ≡ true)
      go true i h = absurd (given_refused x 20 (sym h))
      go false true h = (refl, refl)
      go false false h = absurd (given_refused x 21 (sym h))

-- a literal of a book tells that there is one
pub some_book : (b : BookState) (A : ℕ) → A ∈ in_book b → none_loaded b ≡ false
unfolding in_book
some_book unloaded A i = let h = ltb-true A 0 i in absurd (omega arith)
some_book (loaded_with names rules) A i = refl

-- a literal of a book is below twice the count of its names
pub literal_below : (b : BookState) (A : ℕ) → A ∈ in_book b → A < known_in b
unfolding in_book
literal_below b A i = ltb-true A (known_in b) i

-- and is of one of its names
pub name_inside : (b : BookState) (A : ℕ) → A ∈ in_book b → name_of A < length (its_names b)
unfolding in_book
name_inside b A i = let h = ltb-true A (2 * length (its_names b)) i in omega arith

-- what 20 or 21 turns down is turned down whatever fits the call
pub turned_so : {X : Type 0} (b : BookState) (A n : ℕ) → in_order b A (gives acknowledged) ≡ refused n → (said : Said X) → refused n ≡ in_order b A said
unfolding in_order if_loaded
turned_so {X} b A n e said = go (none_loaded b) (in_book b A) (sym e)
  where
    go : (a i : Bool) → ◌≡◌ {A = Said Ack} (refused n) (cond a (refused 20) (cond i (gives acknowledged) (refused 21))) → ◌≡◌ {A = Said X} (refused n) (cond a (refused 20) (cond i said (refused 21)))
    go true i h = ap refused (refused_same n 20 h)
    go false true h = absurd (given_refused acknowledged n (sym h))
    go false false h = ap refused (refused_same n 21 h)

-- what 20 turns down, too
pub turned_loaded : {X : Type 0} (b : BookState) (n : ℕ) → refused n ≡ if_loaded b (gives acknowledged) → (said : Said X) → refused n ≡ if_loaded b said
unfolding if_loaded
turned_loaded {X} b n e said = go (none_loaded b) e
  where
    go : (a : Bool) → ◌≡◌ {A = Said Ack} (refused n) (cond a (refused 20) (gives acknowledged)) → ◌≡◌ {A = Said X} (refused n) (cond a (refused 20) said)
    go true h = ap refused (refused_same n 20 h)
    go false h = absurd (given_refused acknowledged n (sym h))

-- where 20 turns nothing down, there is a book
pub loaded_passed : (b : BookState) → gives acknowledged ≡ if_loaded b (gives acknowledged) → none_loaded b ≡ false
unfolding if_loaded
loaded_passed b e = go (none_loaded b) e
  where
    go : (a : Bool) → ◌≡◌ {A = Said Ack} (gives acknowledged) (cond a (refused 20) (gives acknowledged)) → a ≡ false
    go true h = absurd (given_refused acknowledged 20 h)
    go false h = refl

module _ (b : BookState) (A : ℕ) where
  -- a refusal by the state decides before whatever fits the call
  pub turned_down : {X : Type 0} (n : ℕ) → refused n ≡ in_order b A (gives acknowledged) → (said : Said X) → refused n ≡ in_order b A said
  turned_down n e said = turned_so b A n (sym e) said

  module _ (e : gives acknowledged ≡ in_order b A (gives acknowledged)) where
    -- where the state turns nothing down, the call says what fits it
    pub state_passed : (none_loaded b ≡ false) × (A ∈ in_book b)
    state_passed = given_inside b A (gives acknowledged) acknowledged (sym e)

    pub passed : {X : Type 0} (said : Said X) → in_order b A said ≡ said
    passed said = inside b A said state_passed.0 state_passed.1
