-- The visits and what they are paid with. The stock counts heads alone, so each of its counts is at most their number. One law for each
-- store and turn says what it leaves, and the rest is linear.
use mathlib.Core.Path.{◌≡◌, refl, sym, ◌∙◌, ap, ap₂}
use mathlib.Core.Bool.{Bool, not, ◌&&◌}
use mathlib.Core.List.{List}
use Prim.Native.Nat.{ℕ, ◌+◌, ◌*◌, ◌≤◌, ◌<◌}
use native.Mathlib.Nat.{mul-le-mul_right, suc-mul, mul-add, mul-one, mul_assoc, mul_comm, mul_left_comm, mul-le-mul}
use native.Mathlib.Omega.{arith}
use lib.Dec.{eqb}
use lib.ListN.{length, get_or, set, length-set}
use Rattle.wfsx.specs.Sets.{Set, ◌∈◌}
use Rattle.wfsx.specs.Program.{Program}
use Rattle.wfsx.specs.Model.{headed, head_count}
use Rattle.wfsx.proofs.Members.{length_most}
use Rattle.litset.specs.Words.{capacity}
use Rattle.search.specs.declared.Finding.{Finding}
use Rattle.search.specs.Marks.{turned, turned_in, u_left, count, others, blanks, without}
use Rattle.search.specs.Bound.{most_visits}
use Rattle.search.specs.Walk.{stock, kept}
use Rattle.search.proofs.Marks.{turned_at, turned_room, turned_other, count_set_same, count_set_less, count_turned_same, count_turned_le, count_within}

-- ---- products

times : {x y : ℕ} (w : ℕ) → x < y → x * w + w ≤ y * w
times {x} {y} w h = omega (arith, mul-le-mul_right w h, suc-mul x w)

times_le : {x y : ℕ} (w : ℕ) → x ≤ y → x * w ≤ y * w
times_le w h = mul-le-mul_right w h

square : (n : ℕ) → n * (n + 1) ≡ n * n + n
square n = mul-add n n 1 ∙ ap (λ (k : ℕ). n * n + k) (mul-one n)

cube : (n : ℕ) → most_visits n ≡ n * (2 * (n * (n + 1))) + 2 * (n * (n + 1))
cube n = whole (n * ((n + 1) * (n + 1))) (n * (2 * (n * (n + 1)))) (n * (n * (n + 1))) (n * (n + 1)) outer (mul_left_comm n 2 (n * (n + 1)))
  where
    outer : n * ((n + 1) * (n + 1)) ≡ n * (n * (n + 1)) + n * (n + 1)
    outer = sym (mul_assoc n (n + 1) (n + 1)) ∙ mul-add (n * (n + 1)) n 1 ∙ ap₂ ◌+◌ (mul_comm (n * (n + 1)) n) (mul-one (n * (n + 1)))

    whole : (y z w x : ℕ) → y ≡ w + x → z ≡ 2 * w → 2 * y ≡ z + 2 * x
    whole y z w x p q = omega arith

counted_at : (S : Set) (a : ℕ) → a ∈ S → 0 + a ∈ S
counted_at S a m = let e : 0 + a ≡ a = omega arith in rw e m

-- ---- no count is above the number of heads

module _ (P : Program) (s : List ℕ) (long : length s ≡ capacity) where
  within : (test : ℕ → Bool) → count (headed P) test s ≤ head_count capacity P
  unfolding head_count
  within test = rw long at (count_within (headed P) test 0 s)

-- so all that may be left is at most the bound
pub left_most : (P : Program) (t u : List ℕ) → length t ≡ capacity → length u ≡ capacity → stock P t u + blanks (headed P) u ≤ most_visits (head_count capacity P)
unfolding stock
left_most P t u t-long u-long =
    let n = head_count capacity P in
    omega (
      arith,
      times_le (2 * (n * (n + 1))) (within P t t-long (λ x. not (eqb x 1))),
      times_le (n + 1) (within P t t-long (λ x. eqb x 0)),
      times_le n (within P u u-long (λ x. not (eqb x 1) && not (eqb x 2))),
      within P u u-long (λ x. eqb x 0),
      square n,
      cube n,
    )

-- the bound is a number that the machine's words hold
pub most_small : (P : Program) → most_visits (head_count capacity P) + head_count capacity P ≤ most_visits capacity + capacity
unfolding head_count
most_small P =
    let few = length_most (headed P) 0 capacity in
    omega (arith, few, mul-le-mul few (mul-le-mul (more few) (more few)))
  where
    more : {x y : ℕ} → x ≤ y → x + 1 ≤ y + 1
    more h = omega arith

-- ---- a T-node

module _ (P : Program) (t u : List ℕ) (a : ℕ) (room : a < length t) (head : a ∈ headed P) (zero-there : get_or t a 0 ≡ 0) where
  -- a fact is proved
  pub t_fact_less : stock P (set t a 1) u + (head_count capacity P + 1) ≤ stock P t u
  unfolding stock
  t_fact_less =
      let n = head_count capacity P in
      omega (
        arith,
        times (2 * (n * (n + 1))) (count_set_less (headed P) (λ x. not (eqb x 1)) 0 t a 1 room (counted_at (headed P) a head) (rw zero-there refl) refl),
        times (n + 1) (count_set_less (headed P) (λ x. eqb x 0) 0 t a 1 room (counted_at (headed P) a head) (rw zero-there refl) refl),
      )

  -- the way down
  pub t_mark_less : stock P (set t a 3) u + (head_count capacity P + 1) ≤ stock P t u
  unfolding stock
  t_mark_less =
      let n = head_count capacity P in
      let same : others 1 (headed P) (set t a 3) ≡ others 1 (headed P) t = count_set_same (headed P) (λ x. not (eqb x 1)) 0 t a 3 (rw zero-there refl) in
      omega (arith, ap (λ (k : ℕ). k * (2 * (n * (n + 1)))) same, times (n + 1) (count_set_less (headed P) (λ x. eqb x 0) 0 t a 3 room (counted_at (headed P) a head) (rw zero-there refl) refl))

-- the way up, from tables with the literal still marked
module _ (P : Program) (t u : List ℕ) (a : ℕ) (above : get_or t a 0 ≡ 3) where
  pub t_fails_left : stock P (set t a 2) u ≡ stock P t u
  unfolding stock
  t_fails_left =
      rw (count_set_same (headed P) (λ x. not (eqb x 1)) 0 t a 2 (rw above refl), count_set_same (headed P) (λ x. eqb x 0) 0 t a 2 (rw above refl)) refl

  pub t_holds_left : length t ≡ capacity → length u ≡ capacity → a < capacity → a ∈ headed P
      → stock P (set (turned_in 2 0 t) a 1) (turned_in 2 0 u) + blanks (headed P) (turned_in 2 0 u) ≤ stock P t u
  unfolding stock
  t_holds_left t-long u-long small head =
      let n = head_count capacity P in
      let t₁ = turned_in 2 0 t in
      let u₁ = turned_in 2 0 u in
      let pos : 0 < 2 = omega arith in
      let t-long₁ : length t₁ ≡ capacity = turned_room 2 0 pos t ∙ t-long in
      let u-long₁ : length u₁ ≡ capacity = turned_room 2 0 pos u ∙ u-long in
      let still : get_or t₁ a 0 ≡ 3 = turned_at 2 0 pos t a ∙ ap (turned 2 0) above ∙ turned_other 2 0 3 (λ e. omega arith) in
      let same : others 1 (headed P) t₁ ≡ others 1 (headed P) t = count_turned_same (headed P) (λ x. not (eqb x 1)) 2 0 refl 0 t in
      let less : others 1 (headed P) (set t₁ a 1) < others 1 (headed P) t₁ = count_set_less (headed P) (λ x. not (eqb x 1)) 0 t₁ a 1 (omega arith) (counted_at (headed P) a head) (rw still refl) refl in
      omega (
        arith,
        times (2 * (n * (n + 1))) less,
        ap (λ (k : ℕ). k * (2 * (n * (n + 1)))) same,
        times_le (n + 1) (within P (set t₁ a 1) (length-set t₁ a 1 ∙ t-long₁) (λ x. eqb x 0)),
        times_le n (within P u₁ u-long₁ (λ x. not (eqb x 1) && not (eqb x 2))),
        within P u₁ u-long₁ (λ x. eqb x 0),
        square n,
      )

-- ---- a TU-node

module _ (P : Program) (t u : List ℕ) (a : ℕ) (long : length u ≡ capacity) (small : a < capacity) (head : a ∈ headed P) where
  pub u_mark_less : get_or u a 0 ≡ 0 → stock P t (set u a 4) + blanks (headed P) (set u a 4) < stock P t u + blanks (headed P) u
  unfolding stock
  u_mark_less zero-there =
      let n = head_count capacity P in
      let same : without 1 2 (headed P) (set u a 4) ≡ without 1 2 (headed P) u = count_set_same (headed P) (λ x. not (eqb x 1) && not (eqb x 2)) 0 u a 4 (rw zero-there refl) in
      omega (arith, ap (λ (k : ℕ). k * n) same, count_set_less (headed P) (λ x. eqb x 0) 0 u a 4 (omega arith) (counted_at (headed P) a head) (rw zero-there refl) refl)

  -- the way up, from tables with the literal still on the path
  pub u_left_lem : (f : Finding) → get_or u a 0 ≡ 4 → stock P t (u_left f a u) + kept P f (u_left f a u) ≤ stock P t u + kept P f u
  unfolding stock kept u_left
  u_left_lem Finding.Fails there =
      let n = head_count capacity P in
      let same : without 1 2 (headed P) (set u a 3) ≡ without 1 2 (headed P) u = count_set_same (headed P) (λ x. not (eqb x 1) && not (eqb x 2)) 0 u a 3 (rw there refl) in
      omega (arith, ap (λ (k : ℕ). k * n) same, count_set_same (headed P) (λ x. eqb x 0) 0 u a 3 (rw there refl))
  u_left_lem (Finding.Waits l) there =
      let n = head_count capacity P in
      let same : without 1 2 (headed P) (set u a 0) ≡ without 1 2 (headed P) u = count_set_same (headed P) (λ x. not (eqb x 1) && not (eqb x 2)) 0 u a 0 (rw there refl) in
      omega (arith, ap (λ (k : ℕ). k * n) same)
  u_left_lem Finding.Holds there =
      let n = head_count capacity P in
      let u₁ = turned_in 3 0 u in
      let pos : 0 < 3 = omega arith in
      let long₁ : length u₁ ≡ capacity = turned_room 3 0 pos u ∙ long in
      let still : get_or u₁ a 0 ≡ 4 = turned_at 3 0 pos u a ∙ ap (turned 3 0) there ∙ turned_other 3 0 4 (λ e. omega arith) in
      let same : without 1 2 (headed P) u₁ ≡ without 1 2 (headed P) u = count_turned_same (headed P) (λ x. not (eqb x 1) && not (eqb x 2)) 3 0 refl 0 u in
      let less : without 1 2 (headed P) (set u₁ a 2) < without 1 2 (headed P) u₁ = count_set_less (headed P) (λ x. not (eqb x 1) && not (eqb x 2)) 0 u₁ a 2 (omega arith) (counted_at (headed P) a head) (rw still refl) refl in
      omega (arith, times n less, ap (λ (k : ℕ). k * n) same, within P (set u₁ a 2) (length-set u₁ a 2 ∙ long₁) (λ x. eqb x 0))

-- ---- the search of a TU-tree

module _ (P : Program) (t u : List ℕ) where
  pub settled_left : stock P t (turned_in 3 1 u) + blanks (headed P) (turned_in 3 1 u) ≤ stock P t u + blanks (headed P) u
  unfolding stock
  settled_left =
      let n = head_count capacity P in
      omega (arith, times_le n (count_turned_le (headed P) (λ x. not (eqb x 1) && not (eqb x 2)) 3 1 refl 0 u), count_turned_same (headed P) (λ x. eqb x 0) 3 1 refl 0 u)

  pub forgotten_left : length u ≡ capacity → stock P t (turned_in 3 0 u) + blanks (headed P) (turned_in 3 0 u) ≤ stock P t u + head_count capacity P
  unfolding stock
  forgotten_left long =
      let n = head_count capacity P in
      let same : without 1 2 (headed P) (turned_in 3 0 u) ≡ without 1 2 (headed P) u = count_turned_same (headed P) (λ x. not (eqb x 1) && not (eqb x 2)) 3 0 refl 0 u in
      omega (arith, ap (λ (k : ℕ). k * n) same, within P (turned_in 3 0 u) (turned_room 3 0 (omega arith) u ∙ long) (λ x. eqb x 0))
