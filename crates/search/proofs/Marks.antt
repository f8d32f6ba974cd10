-- Laws of a table of marks: a mark set, a mark turned into another, a table filled place by place, and how many marks pass a test.
use mathlib.Core.Path.{◌≡◌, refl, sym, ◌∙◌, ap, fun_ext}
use mathlib.Core.Logic.{◌⊎◌, inl, inr}
use mathlib.Core.Bool.{Bool, true, false, not, cond, ◌&&◌, ◌||◌}
use mathlib.Core.List.{List, [], ◌∷◌}
use Prim.Native.Nat.{ℕ, zero, suc, ◌+◌, ◌≤◌, ◌<◌}
use native.Mathlib.Omega.{arith}
use native.Mathlib.Decide.{ℕ_discrete}
use native.Mathlib.Nat.{suc_inj}
use lib.Dec.{eqb}
use lib.ListN.{length, get_or, set, length-set, length-map}
use lib.Seq.{get_or-set_same, get_or-set_other, ext_get_or}
use borrow.Author.Tests.{eqb-true, eq-eqb, ne_eqb}
use Rattle.truth.proofs.Truth.{clash, and_l, and_r, and_intro}
use Rattle.wfsx.specs.Sets.{Set, ◌∈◌, ◌∉◌, add, members_from}
use Rattle.wfsx.proofs.Members.{length_first, length_most}
use Rattle.search.specs.Marks.{marked, turned, turned_in, count_from, count, others}

-- ---- which literals are marked

module _ (v : ℕ) (s : List ℕ) (A : ℕ) where
  pub marked_is : get_or s A 0 ≡ v → A ∈ marked v s
  unfolding marked
  marked_is e = eq-eqb (get_or s A 0) v e

  pub marked_at : A ∈ marked v s → get_or s A 0 ≡ v
  unfolding marked
  marked_at m = eqb-true (get_or s A 0) v m

  pub marked_not : (get_or s A 0 ≡ v → ⊥) → A ∉ marked v s
  unfolding marked
  marked_not n = ne_eqb (get_or s A 0) v n

-- ---- a mark set

module _ (v : ℕ) (s : List ℕ) (a w : ℕ) (room : a < length s) where
  -- another mark than the one set and the one that stood there
  pub mark_same : (get_or s a 0 ≡ v → ⊥) → (w ≡ v → ⊥) → marked v (set s a w) ≡ marked v s
  unfolding marked
  mark_same n m = fun_ext (λ A. go A (ℕ_discrete A a))
    where
      go : (A : ℕ) → Dec (A ≡ a) → eqb (get_or (set s a w) A 0) v ≡ eqb (get_or s A 0) v
      go A (yes e) = rw (e, get_or-set_same s a w 0 room) (ne_eqb w v m ∙ sym (ne_eqb (get_or s a 0) v n))
      go A (no e) = rw (get_or-set_other s a A w 0 e) refl

  pub mark_added : w ≡ v → marked v (set s a w) ≡ add a (marked v s)
  unfolding marked
  mark_added m = fun_ext (λ A. go A (ℕ_discrete A a))
    where
      go : (A : ℕ) → Dec (A ≡ a) → eqb (get_or (set s a w) A 0) v ≡ (eqb A a || eqb (get_or s A 0) v)
      go A (yes e) = rw (e, get_or-set_same s a w 0 room, eq-eqb w v m, eq-eqb a a refl) refl
      go A (no e) = rw (get_or-set_other s a A w 0 e, ne_eqb A a e) refl

  pub mark_removed : (S : Set) → marked v s ≡ add a S → a ∉ S → (w ≡ v → ⊥) → marked v (set s a w) ≡ S
  unfolding marked
  mark_removed S q n m = fun_ext (λ A. go A (ℕ_discrete A a))
    where
      go : (A : ℕ) → Dec (A ≡ a) → eqb (get_or (set s a w) A 0) v ≡ S A
      go A (yes e) = rw (e, get_or-set_same s a w 0 room) (ne_eqb w v m ∙ sym n)
      go A (no e) = rw (get_or-set_other s a A w 0 e) (ap (λ (U : Set). U A) q ∙ rw (ne_eqb A a e) refl)

pub small_set : (n : ℕ) (s : List ℕ) (a w : ℕ) → ((A : ℕ) → get_or s A 0 ≤ n) → w ≤ n → (A : ℕ) → get_or (set s a w) A 0 ≤ n
small_set n [] a w h l A = h A
small_set n (x ∷ s) zero w h l zero = l
small_set n (x ∷ s) zero w h l (suc A) = h (suc A)
small_set n (x ∷ s) (suc a) w h l zero = h 0
small_set n (x ∷ s) (suc a) w h l (suc A) = small_set n s a w (λ B. h (suc B)) l A

-- ---- a mark turned into another

pub turned_other : (from to x : ℕ) → (x ≡ from → ⊥) → turned from to x ≡ x
unfolding turned
turned_other from to x n = rw (ne_eqb x from n)

pub turned_is : (from to x : ℕ) → x ≡ from → turned from to x ≡ to
unfolding turned
turned_is from to x e = rw (eq-eqb x from e)

module _ (from to : ℕ) (some-mark : 0 < from) where
  -- where there is no mark, nothing turns
  pub turned_at : (s : List ℕ) (A : ℕ) → get_or (turned_in from to s) A 0 ≡ turned from to (get_or s A 0)
  turned_at [] A = sym (turned_other from to 0 (λ e. omega arith))
  turned_at (x ∷ s) zero = refl
  turned_at (x ∷ s) (suc A) = turned_at s A

  pub turned_room : (s : List ℕ) → length (turned_in from to s) ≡ length s
  turned_room s = length-map s (turned from to)

  module _ (s : List ℕ) where
    pub turned_gone : (to ≡ from → ⊥) → (A : ℕ) → A ∉ marked from (turned_in from to s)
    turned_gone n A = marked_not from (turned_in from to s) A (go (ℕ_discrete (get_or s A 0) from))
      where
        go : Dec (get_or s A 0 ≡ from) → get_or (turned_in from to s) A 0 ≡ from → ⊥
        go (yes e) q = n (sym (turned_is from to (get_or s A 0) e) ∙ sym (turned_at s A) ∙ q)
        go (no e) q = e (sym (turned_other from to (get_or s A 0) e) ∙ sym (turned_at s A) ∙ q)

    pub turned_same : (v : ℕ) → (from ≡ v → ⊥) → (to ≡ v → ⊥) → marked v (turned_in from to s) ≡ marked v s
    unfolding marked
    turned_same v n m = fun_ext (λ A. rw (turned_at s A) (go (get_or s A 0) (ℕ_discrete (get_or s A 0) from)))
      where
        go : (x : ℕ) → Dec (x ≡ from) → eqb (turned from to x) v ≡ eqb x v
        go x (yes e) = rw (turned_is from to x e, e) (ne_eqb to v m ∙ sym (ne_eqb from v n))
        go x (no e) = rw (turned_other from to x e) refl

    pub turned_into : (A : ℕ) → A ∈ marked to (turned_in from to s) → (A ∈ marked from s) ⊎ (A ∈ marked to s)
    turned_into A m = go (ℕ_discrete (get_or s A 0) from)
      where
        go : Dec (get_or s A 0 ≡ from) → (A ∈ marked from s) ⊎ (A ∈ marked to s)
        go (yes e) = inl (marked_is from s A e)
        go (no e) = inr (marked_is to s A (sym (turned_other from to (get_or s A 0) e) ∙ sym (turned_at s A) ∙ marked_at to (turned_in from to s) A m))

    pub turned_small : (n : ℕ) → to ≤ n → ((A : ℕ) → get_or s A 0 ≤ n) → (A : ℕ) → get_or (turned_in from to s) A 0 ≤ n
    turned_small n l k A = rw (turned_at s A) (go (get_or s A 0) (k A) (ℕ_discrete (get_or s A 0) from))
      where
        go : (x : ℕ) → x ≤ n → Dec (x ≡ from) → turned from to x ≤ n
        go x b (yes e) = rw (turned_is from to x e) l
        go x b (no e) = rw (turned_other from to x e) b

-- ---- a table filled place by place

-- before place i stand the values of f, and behind it the table as it was
pub record FilledTo {X : Type 0} (d : X) (f : ℕ → X) (s : List X) (i : ℕ) (s' : List X) : Type 0 where
  pub room : length s' ≡ length s
  pub done : (A : ℕ) → A < i → get_or s' A d ≡ f A
  pub left : (A : ℕ) → i ≤ A → get_or s' A d ≡ get_or s A d

module _ {X : Type 0} (d : X) (f : ℕ → X) (s : List X) (i : ℕ) (s' : List X) (h : FilledTo d f s i s') where
  pub filled_more : i < length s' → (v : X) → v ≡ f i → FilledTo d f s (i + 1) (set s' i v)
  filled_more l v e =
      record {
        room = length-set s' i v ∙ h.room;
        done = λ A k. go A k (ℕ_discrete A i);
        left = λ A k. get_or-set_other s' i A v d (λ q. omega arith) ∙ h.left A (omega arith);
      }
    where
      go : (A : ℕ) → A < i + 1 → Dec (A ≡ i) → get_or (set s' i v) A d ≡ f A
      go A k (yes q) = rw q (get_or-set_same s' i v d l ∙ e)
      go A k (no n) = get_or-set_other s' i A v d n ∙ h.done A (omega arith)

  pub filled_is : length s ≤ i → (r : List X) → length r ≡ length s → ((A : ℕ) → A < length s → get_or r A d ≡ f A) → s' ≡ r
  filled_is all r l e = ext_get_or d s' r (h.room ∙ sym l) (λ A k. h.done A (omega (arith, h.room)) ∙ sym (e A (omega (arith, h.room))))

-- ---- how many marks pass a test

module _ (S : Set) (test : ℕ → Bool) where
  pub count_set_same : (k : ℕ) (s : List ℕ) (a w : ℕ) → test w ≡ test (get_or s a 0) → count_from S test k (set s a w) ≡ count_from S test k s
  unfolding count_from
  count_set_same k [] a w e = refl
  count_set_same k (x ∷ s) zero w e = rw e refl
  count_set_same k (x ∷ s) (suc a) w e = rw (count_set_same (suc k) s a w e) refl

  pub count_set_less : (k : ℕ) (s : List ℕ) (a w : ℕ) → a < length s → k + a ∈ S → test (get_or s a 0) ≡ true → test w ≡ false → count_from S test k (set s a w) < count_from S test k s
  unfolding count_from
  count_set_less k [] a w l m e n = absurd (omega arith)
  count_set_less k (x ∷ s) zero w l m e n = let here : k + 0 ≡ k = omega arith in rw (rw here at m, e, n) (omega arith)
  count_set_less k (x ∷ s) (suc a) w l m e n =
      let there : k + suc a ≡ suc k + a = omega arith in
      go (S k && test x) (count_set_less (suc k) s a w (omega arith) (rw there at m) e n)
    where
      go : (b : Bool) → count_from S test (suc k) (set s a w) < count_from S test (suc k) s
          → cond b (suc (count_from S test (suc k) (set s a w))) (count_from S test (suc k) (set s a w)) < cond b (suc (count_from S test (suc k) s)) (count_from S test (suc k) s)
      go true i = omega arith
      go false i = i

  pub count_turned_same : (from to : ℕ) → test to ≡ test from → (k : ℕ) (s : List ℕ) → count_from S test k (turned_in from to s) ≡ count_from S test k s
  unfolding count_from
  count_turned_same from to e k [] = refl
  count_turned_same from to e k (x ∷ s) = rw (count_turned_same from to e (suc k) s, go (ℕ_discrete x from)) refl
    where
      go : Dec (x ≡ from) → test (turned from to x) ≡ test x
      go (yes q) = rw (turned_is from to x q, q) e
      go (no q) = rw (turned_other from to x q) refl

  pub count_turned_le : (from to : ℕ) → test to ≡ false → (k : ℕ) (s : List ℕ) → count_from S test k (turned_in from to s) ≤ count_from S test k s
  unfolding count_from
  count_turned_le from to e k [] = omega arith
  count_turned_le from to e k (x ∷ s) = go (ℕ_discrete x from) (count_turned_le from to e (suc k) s)
    where
      more : (b c : Bool) → (c ≡ true → b ≡ true) → count_from S test (suc k) (turned_in from to s) ≤ count_from S test (suc k) s
          → cond c (suc (count_from S test (suc k) (turned_in from to s))) (count_from S test (suc k) (turned_in from to s)) ≤ cond b (suc (count_from S test (suc k) s)) (count_from S test (suc k) s)
      more true true f l = omega arith
      more true false f l = omega arith
      more false true f l = absurd (clash (f refl) refl)
      more false false f l = l

      fewer : (test (turned from to x) ≡ true → test x ≡ true) → S k && test (turned from to x) ≡ true → S k && test x ≡ true
      fewer f h = and_intro (S k) (test x) (and_l (S k) (test (turned from to x)) h) (f (and_r (S k) (test (turned from to x)) h))

      go : Dec (x ≡ from) → count_from S test (suc k) (turned_in from to s) ≤ count_from S test (suc k) s → count_from S test k (turned_in from to (x ∷ s)) ≤ count_from S test k (x ∷ s)
      go (yes q) l = more (S k && test x) (S k && test (turned from to x)) (fewer (λ t. absurd (clash t (ap test (turned_is from to x q) ∙ e)))) l
      go (no q) l = more (S k && test x) (S k && test (turned from to x)) (fewer (λ t. ap test (sym (turned_other from to x q)) ∙ t)) l

  -- at most as many as the set has members
  pub count_within : (k : ℕ) (s : List ℕ) → count_from S test k s ≤ length (members_from S k (length s))
  unfolding count_from
  count_within k [] = omega arith
  count_within k (x ∷ s) = rw (length_first S k (length s)) (go (S k) (test x) (count_within (suc k) s))
    where
      go : (p q : Bool) → count_from S test (suc k) s ≤ length (members_from S (suc k) (length s))
          → cond (p && q) (suc (count_from S test (suc k) s)) (count_from S test (suc k) s) ≤ cond p 1 0 + length (members_from S (suc k) (length s))
      go true true l = omega arith
      go true false l = omega arith
      go false q l = omega arith

  pub count_most : (s : List ℕ) → count S test s ≤ length s
  count_most s = omega (arith, count_within 0 s, length_most S 0 (length s))

-- as many lack a mark where the same literals have it
others_from : (v : ℕ) (S : Set) (k : ℕ) (s s' : List ℕ) → length s ≡ length s' → marked v s ≡ marked v s' → count_from S (λ x. not (eqb x v)) k s ≡ count_from S (λ x. not (eqb x v)) k s'
unfolding count_from marked
others_from v S k [] [] l e = refl
others_from v S k [] (y ∷ s') l e = absurd (omega arith)
others_from v S k (x ∷ s) [] l e = absurd (omega arith)
others_from v S k (x ∷ s) (y ∷ s') l e =
    let first : eqb x v ≡ eqb y v = ap (λ (U : Set). U 0) e in
    rw (first, others_from v S (suc k) s s' (suc_inj l) (fun_ext (λ A. ap (λ (U : Set). U (suc A)) e))) refl

pub others_same : (v : ℕ) (S : Set) (s s' : List ℕ) → length s ≡ length s' → marked v s ≡ marked v s' → others v S s ≡ others v S s'
others_same v S = others_from v S 0
