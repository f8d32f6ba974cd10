-- The names of a group at their places. A list of members begins with the lowest, and goes on with the members without it.
use mathlib.Core.Path.{◌≡◌, refl, sym, ◌∙◌, ap, ap₂, fun_ext}
use mathlib.Core.Bool.{Bool, true, false, not, cond, ◌&&◌, ◌||◌, and-true}
use mathlib.Core.List.{List, [], ◌∷◌, map}
use Prim.Native.Nat.{ℕ, zero, suc, ◌+◌, ◌-◌, ◌*◌, ◌≤◌, ◌<◌}
use native.Mathlib.Decide.{dec_lt, ℕ_discrete}
use native.Mathlib.Nat.{add-zero}
use native.Mathlib.Numerals.{add-one}
use native.Mathlib.Omega.{arith}
use lib.Dec.{eqb, ltb}
use lib.ListN.{length, set, length-set}
use lib.Seq.{sets}
use borrow.Author.Tests.{eq-eqb, ne_eqb, lt-ltb, le-ltb}
use Rattle.wfsx.specs.Sets.{Set, ◌∈◌, ◌∉◌, ∅, ◌∖◌, members_from, members}
use Rattle.wfsx.specs.Reach.{name_of}
use Rattle.std.specs.Prelude.{Some, None}
use Rattle.reach.specs.Table.{n_names, only, with_name, both_in, PutFits, PutNames}
use Rattle.reach.proofs.Names.{LowestOf}

-- ---- lists of members

-- the same tests give the same members
same_members : (S U : Set) (b n : ℕ) → ((j : ℕ) → b ≤ j → S j ≡ U j) → members_from S b n ≡ members_from U b n
unfolding members_from
same_members S U b zero e = refl
same_members S U b (suc n) e =
    ap₂ (λ (t : Bool) (l : List ℕ). cond t (b ∷ l) l) (e b (omega arith)) (same_members S U (suc b) n (λ j h. e j (omega arith)))

no_members : (S : Set) (b n : ℕ) → ((j : ℕ) → j ∉ S) → members_from S b n ≡ []
unfolding members_from
no_members S b zero none = refl
no_members S b (suc n) none = rw (none b) (no_members S (suc b) n none)

first_member : (S : Set) (k b n : ℕ) → k ∈ S → b ≤ k → k < b + n → ((j : ℕ) → j < k → j ∉ S) → members_from S b n ≡ k ∷ members_from (S ∖ only k) b n
unfolding members_from
first_member S k b zero here low high none = absurd (omega arith)
first_member S k b (suc n) here low high none = go (first_member S k (suc b) n here) (ℕ_discrete b k)
  where
    go : (suc b ≤ k → k < suc b + n → ((j : ℕ) → j < k → j ∉ S) → members_from S (suc b) n ≡ k ∷ members_from (S ∖ only k) (suc b) n) → Dec (b ≡ k)
        → members_from S b (suc n) ≡ k ∷ members_from (S ∖ only k) b (suc n)
    go rest (yes e) =
        rw (e, here, eq-eqb k k refl) (ap (λ (l : List ℕ). k ∷ l) (same_members S (S ∖ only k) (suc k) n (λ j h. rw (ne_eqb j k (λ q. omega arith)) (sym (and-true (S j))))))
    go rest (no ne) = rw (none b (omega arith)) (rest (omega arith) (omega arith) none)

-- the members below n of a set that has none from n on
pub members_below : (S : Set) (n b m : ℕ) → n ≤ b + m → members_from (λ j. ltb j n && S j) b m ≡ members_from S b (n - b)
unfolding members_from
members_below S n b zero h = let none : n - b ≡ 0 = omega arith in rw none refl
members_below S n b (suc m) h = go (dec_lt b n) (members_below S n (suc b) m (omega arith))
  where
    go : Dec (b < n) → members_from (λ j. ltb j n && S j) (suc b) m ≡ members_from S (suc b) (n - suc b) → members_from (λ j. ltb j n && S j) b (suc m) ≡ members_from S b (n - b)
    go (yes l) rest =
        let more : n - b ≡ suc (n - suc b) = omega arith in
        rw (more, lt-ltb b n l) (ap (λ (l : List ℕ). cond (S b) (b ∷ l) l) rest)
    go (no l) rest =
        let none : n - b ≡ 0 = omega arith in
        let later : n - suc b ≡ 0 = omega arith in
        rw (none, le-ltb b n (omega arith)) (rest ∙ rw later refl)

-- ---- one name after another

-- a set without a name
both_without : (k : ℕ) (S none left : Set) → none ≡ ∅ → left ≡ S ∖ with_name k none → both_in left ≡ both_in S ∖ only k
both_without k S none left e is =
    ap both_in (is ∙ ap (λ (U : Set). S ∖ with_name k U) e) ∙ fun_ext (λ j.
    let first : name_of (2 * j) ≡ j = omega arith in
    let second : name_of (2 * j + 1) ≡ j = omega arith in
    rw (first, second) (go (S (2 * j)) (S (2 * j + 1)) (eqb j k)))
  where
    go : (a b t : Bool) → ((a && not (t || false)) && (b && not (t || false))) ≡ ((a && b) && not t)
    go true true true = refl
    go true true false = refl
    go true false true = refl
    go true false false = refl
    go false b t = refl

-- the places and names that are left are those of the whole group
pub record Putting (S : Set) (number at : ℕ) (name numbers : List ℕ) (left : Set) (p : ℕ) (name' numbers' : List ℕ) : Type 0 where
  pub fits : PutFits left number p name' numbers'
  pub size : length name' ≡ length name
  pub behind : at + length (members n_names (both_in S)) ≡ p + length (members n_names (both_in left))
  pub named : sets name at (members n_names (both_in S)) ≡ sets name' p (members n_names (both_in left))
  pub counted : sets numbers at (map (λ _. number) (members n_names (both_in S))) ≡ sets numbers' p (map (λ _. number) (members n_names (both_in left)))

module _ (S : Set) (number at : ℕ) (name numbers : List ℕ) where
  pub putting_start : PutFits S number at name numbers → Putting S number at name numbers S at name numbers
  putting_start f = record { fits = f; size = refl; behind = refl; named = refl; counted = refl }

  module _ (left : Set) (p : ℕ) (name' numbers' : List ℕ) (t : Putting S number at name numbers left p name' numbers') where
    pub putting_end : LowestOf (both_in left) None → PutNames (both_in S) number at name numbers p name' numbers'
    putting_end none =
        let over = no_members (both_in left) 0 n_names none in
        record {
          behind = sym (t.behind ∙ ap (λ (l : List ℕ). p + length l) over ∙ add-zero p);
          named = sym (t.named ∙ ap (sets name' p) over);
          counted = sym (t.counted ∙ ap (λ (l : List ℕ). sets numbers' p (map (λ _. number) l)) over);
        }

    module _ (k : ℕ) (low : LowestOf (both_in left) (Some k)) where
      next_first : members n_names (both_in left) ≡ k ∷ members n_names (both_in left ∖ only k)
      next_first = first_member (both_in left) k 0 n_names low.0 (omega arith) (omega (arith, low.2)) low.1

      -- there is a place for it
      pub place : p < length name'
      place = omega (arith, t.fits.room, ap length next_first)

      module _ (left' none : Set) (e : none ≡ ∅) (is : left' ≡ left ∖ with_name k none) where
        goes_on : members n_names (both_in left) ≡ k ∷ members n_names (both_in left')
        goes_on = next_first ∙ ap (λ (S : Set). k ∷ members n_names S) (sym (both_without k left none left' e is))

        pub fewer : length (members n_names (both_in left')) < length (members n_names (both_in left))
        fewer = omega (arith, ap length goes_on)

        pub putting_more : Putting S number at name numbers left' (p + 1) (set name' p k) (set numbers' p number)
        putting_more =
            record {
              fits =
                  record {
                    room = omega (arith, t.fits.room, ap length goes_on, length-set name' p k);
                    alike = length-set numbers' p number ∙ t.fits.alike ∙ sym (length-set name' p k);
                    small = t.fits.small;
                  };
              size = length-set name' p k ∙ t.size;
              behind = omega (arith, t.behind, ap length goes_on);
              named = rw add-one (t.named ∙ ap (sets name' p) goes_on);
              counted = rw add-one (t.counted ∙ ap (λ (l : List ℕ). sets numbers' p (map (λ _. number) l)) goes_on);
            }
