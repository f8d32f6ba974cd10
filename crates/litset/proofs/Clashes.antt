-- A set has one lowest-numbered name with both literals, or none, and going up through the names finds it, since no member is past the capacity.
use mathlib.Core.Path.{◌≡◌, refl, ap}
use mathlib.Core.Bool.{true, false, ◌&&◌}
use mathlib.Core.Logic.{◌⊎◌, inl, inr}
use Prim.Native.Nat.{ℕ, zero, suc, ◌+◌, ◌*◌, ◌/◌, ◌<◌}
use native.Mathlib.Decide.{dec_lt, ℕ_discrete}
use native.Mathlib.Omega.{arith}
use Rattle.truth.proofs.Truth.{clash, decided, and_l, and_r, and_intro}
use Rattle.wfsx.specs.Sets.{Set, ◌∈◌}
use Rattle.wfsx.specs.Model.{Both}
use Rattle.litset.specs.Words.{capacity, LowestBoth, ClashOf, clash_from, clash_in}
use Rattle.std.specs.Prelude.{Option, None, Some}

-- a set has one clash
pub lowest_one : (S : Set) (k n : ℕ) → LowestBoth S k → LowestBoth S n → k ≡ n
lowest_one S k n a b = go (dec_lt k n) (dec_lt n k)
  where
    go : Dec (k < n) → Dec (n < k) → k ≡ n
    go (yes h) q = absurd (b.1 k h a.0)
    go (no h) (yes l) = absurd (a.1 n l b.0)
    go (no h) (no l) = omega arith

pub clash_settles : (S : Set) (c d : Option ℕ) → ClashOf S c → ClashOf S d → c ≡ d
clash_settles S None None a b = refl
clash_settles S None (Some n) a b = absurd (a n b.0)
clash_settles S (Some k) None a b = absurd (b k a.0)
clash_settles S (Some k) (Some n) a b = ap Some (lowest_one S k n a b)

-- Where no name below k has both literals in S and none past the n names from k on has, the search finds the clash of S.
clash_found : (S : Set) (k n : ℕ) → ((i : ℕ) → i < k → Both S i → ⊥) → ((i : ℕ) → Both S i → i < k + n) → ClashOf S (clash_from S k n)
unfolding clash_from
clash_found S k zero below within = λ i b. below i (let h = within i b in omega arith) b
clash_found S k (suc n) below within = go (clash_found S (suc k) n) (decided (S (2 * k) && S (2 * k + 1)))
  where
    within_later : (i : ℕ) → Both S i → i < suc k + n
    within_later i b = let h = within i b in omega arith

    below_later : S (2 * k) && S (2 * k + 1) ≡ false → (i : ℕ) → i < suc k → Both S i → ⊥
    below_later e i h b = pick (ℕ_discrete i k)
      where
        pick : Dec (i ≡ k) → ⊥
        pick (yes q) = let both : Both S k = rw q at b in clash (and_intro (S (2 * k)) (S (2 * k + 1)) both.0 both.1) e
        pick (no q) = below i (omega arith) b

    go : (((i : ℕ) → i < suc k → Both S i → ⊥) → ((i : ℕ) → Both S i → i < suc k + n) → ClashOf S (clash_from S (suc k) n))
        → (S (2 * k) && S (2 * k + 1) ≡ true) ⊎ (S (2 * k) && S (2 * k + 1) ≡ false) → ClashOf S (clash_from S k (suc n))
    go later (inl e) = rw e ((and_l (S (2 * k)) (S (2 * k + 1)) e, and_r (S (2 * k)) (S (2 * k + 1)) e), below)
    go later (inr e) = rw e (later (below_later e) within_later)

module _ (S : Set) (inside : (A : ℕ) → A ∈ S → A < capacity) where
  pub clash_of : ClashOf S (clash_in S)
  clash_of =
      clash_found S 0 (capacity / 2) (λ i h. absurd (omega arith)) (λ i b. let h = inside (2 * i + 1) b.1 in omega arith)

  pub clash_is : (c : Option ℕ) → ClashOf S c → c ≡ clash_in S
  clash_is c h = clash_settles S c (clash_in S) h clash_of
