-- The groups one after another. What is listed is made of whole groups, the next one is the first of those that are left, and with them the table so far is
-- the whole table. All groups have as many names as there are, so each name has a place.
use mathlib.Core.Path.{◌≡◌, refl, sym, ◌∙◌, ap, ap₂, fun_ext}
use mathlib.Core.Bool.{Bool, true, false, not, ◌&&◌, ◌||◌, and-true}
use mathlib.Core.List.{List, [], ◌∷◌, ◌++◌, map, append_assoc, append-nil}
use Prim.Native.Nat.{ℕ, suc, ◌+◌, ◌-◌, ◌*◌, ◌≤◌, ◌<◌}
use native.Mathlib.Decide.{dec_lt}
use native.Mathlib.Nat.{sub-zero, add-zero}
use native.Mathlib.Omega.{arith}
use lib.Dec.{ltb}
use lib.ListN.{length, replicate, length-append, length-map, length-replicate}
use lib.Seq.{sets}
use borrow.Author.Tests.{lt-ltb}
use Rattle.truth.proofs.Truth.{clash, and_intro}
use Rattle.wfsx.specs.Sets.{Set, ∅, ◌∪◌, ◌∖◌, ◌is_in◌, members}
use Rattle.wfsx.specs.Program.{Program}
use Rattle.wfsx.specs.Reach.{name_of, group, literals_of}
use Rattle.wfsx.specs.Groups.{MayCome, InOrder, all_listed, comes_next, leaders, working_order}
use Rattle.wfsx.proofs.Members.{members_are}
use Rattle.wfsx.proofs.Order.{group_itself, in_order, order_is, names_listed, Whole, whole_none, whole_more, all_counted}
use Rattle.book.specs.Limits.{max_names}
use Rattle.book.specs.Book.{padded, joined}
use Rattle.book.proofs.Tables.{padded_length, padded_sets, joined_more}
use Rattle.reach.specs.Order.{numbered, order_table}
use Rattle.litset.specs.declared.LitSet.{LitSet}
use Rattle.litset.specs.Words.{set_of}
use Rattle.reach.specs.Table.{n_names, WholeRows, both_in, below, unlisted_below, Next, found, nothing, Waiting, Stuck, Released, PutFits, PutNames}
use Rattle.reach.proofs.Names.{both_names, literal_in_lem}
use Rattle.reach.proofs.Placing.{members_below}
use Rattle.reach.proofs.Rows.{rows_alike}
use Rattle.reach.proofs.Waiting.{stuck_left}

-- ---- the number of each place

pub numbered_length : (i : ℕ) (gs : List (List ℕ)) → length (numbered i gs) ≡ length (joined gs)
unfolding numbered joined
numbered_length i [] = refl
numbered_length i (g ∷ gs) =
    omega (arith, length-append (map (λ _. i) g) (numbered (suc i) gs), length-append g (joined gs), length-map g (λ (_ : ℕ). i), numbered_length (suc i) gs)

pub numbered_more : (i : ℕ) (gs : List (List ℕ)) (g : List ℕ) → numbered i (gs ++ (g ∷ [])) ≡ numbered i gs ++ map (λ _. i + length gs) g
unfolding numbered
numbered_more i [] g = let same : i ≡ i + 0 = omega arith in append-nil _ ∙ ap (λ (k : ℕ). map (λ _. k) g) same
numbered_more i (f ∷ gs) g =
    let next : suc i + length gs ≡ i + suc (length gs) = omega arith in
    ap (λ (l : List ℕ). map (λ _. i) f ++ l) (numbered_more (suc i) gs g ∙ ap (λ (k : ℕ). numbered (suc i) gs ++ map (λ _. k) g) next)
    ∙ sym (append_assoc (map (λ _. i) f) (numbered (suc i) gs) (map (λ _. i + suc (length gs)) g))

pub order_table_is : (gs : List (List ℕ)) (names groups : ℕ) (name group : List ℕ) → names ≡ length (joined gs) → groups ≡ length gs → name ≡ padded max_names (joined gs)
    → group ≡ padded max_names (numbered 0 gs) → record { names = names; groups = groups; name = name; group = group } ≡ order_table gs
unfolding order_table
order_table_is gs names groups name group a b c d = rw (a, b, c, d) refl

-- what is stored behind a list that has zeros behind it
stored : (table xs ys zs : List ℕ) (i : ℕ) → table ≡ padded max_names xs → i ≡ length xs → zs ≡ ys → length xs + length ys ≤ max_names → sets table i zs ≡ padded max_names (xs ++ ys)
stored table xs ys zs i t e z fits = rw (t, e, z) (padded_sets max_names xs ys fits)

-- ---- the loop

some_length : (l : List ℕ) (x : ℕ) → x is_in l → 0 < length l
some_length [] x m = elim m [ ]
some_length (y ∷ l) x m = omega arith

module _ (P : Program) (n : ℕ) where
  -- the names of the group of k
  abbrev named : ℕ → List ℕ
  named k = members n (group P k)

  pub record Listing (left : Set) (watch : List LitSet) (stuck : Set) (name numbers : List ℕ) (at groups : ℕ) : Type 0 where
    pub listed : Set
    pub before : List (List ℕ)
    pub rest : List ℕ
    pub order : InOrder P n listed rest
    pub whole : Whole P n listed
    pub left_are : left ≡ literals_of (unlisted_below n listed)
    pub waiting : Stuck P n listed watch stuck
    pub all : working_order P n ≡ before ++ map named rest
    pub total : at + names_listed P n rest ≡ n
    pub places : at ≡ length (joined before)
    pub count : groups ≡ length before
    pub few : groups ≤ at
    pub names_are : name ≡ padded max_names (joined before)
    pub numbers_are : numbers ≡ padded max_names (numbered 0 before)

  pub listing_start : n ≤ max_names → (left stuck : Set) (row : LitSet) → left ≡ literals_of (below n) → stuck ≡ ∅ → set_of row.words ≡ ∅ → Listing left (replicate n_names row) stuck (replicate max_names 0) (replicate max_names 0) 0 0
  unfolding joined numbered
  listing_start most left stuck row e none empty =
      record {
        listed = ∅;
        before = [];
        rest = leaders P n;
        order = in_order P n;
        whole = whole_none P n;
        left_are = e ∙ fun_ext (λ A. sym (and-true _));
        waiting =
            record {
              size = length-replicate {A = LitSet} n_names row;
              watched = λ j A l h. absurd (clash (ap (λ (S : Set). S A) (sym (rows_alike row empty j (omega arith))) ∙ h) refl);
              on = λ A h. absurd (clash (ap (λ (S : Set). S A) (sym none) ∙ h) refl);
            };
        all = order_is P n;
        total = omega (arith, all_counted P n);
        places = refl;
        count = refl;
        few = omega arith;
        names_are = refl;
        numbers_are = refl;
      }

  module _ (left : Set) (watch : List LitSet) (stuck : Set) (name numbers : List ℕ) (at groups : ℕ) (s : Listing left watch stuck name numbers at groups) (most : n ≤ max_names) where
    pub listing_waits : (table : List LitSet) → WholeRows P n table → Waiting P n s.listed table left
    listing_waits table rows = record { most = omega arith; rows = rows; groups = s.whole; left_are = s.left_are }

    pub name_size : length name ≡ max_names
    name_size = ap length s.names_are ∙ padded_length max_names (joined s.before) (omega (arith, s.places, s.total))

    pub numbers_size : length numbers ≡ max_names
    numbers_size =
        ap length s.numbers_are ∙ padded_length max_names (numbered 0 s.before) (omega (arith, numbered_length 0 s.before, s.places, s.total))

    -- no group is left
    over : ((k : ℕ) → MayCome P n s.listed k → ⊥) → (rest : List ℕ) → InOrder P n s.listed rest → rest ≡ []
    over none [] o = refl
    over none (k ∷ ks) (comes_next c low o) = absurd (none k c)

    pub listing_end : ((k : ℕ) → MayCome P n s.listed k → ⊥) → record { names = n; groups = groups; name = name; group = numbers } ≡ order_table (working_order P n)
    unfolding names_listed
    listing_end none =
        let empty = over none s.rest s.order in
        let is : working_order P n ≡ s.before = s.all ∙ ap (λ (l : List ℕ). s.before ++ map named l) empty ∙ append-nil s.before in
        let size : n ≡ length (joined s.before) = sym s.total ∙ ap (λ (l : List ℕ). at + names_listed P n l) empty ∙ add-zero at ∙ s.places in
        order_table_is s.before n groups name numbers size s.count s.names_are s.numbers_are ∙ ap order_table (sym is)

    module _ (k : ℕ) (c : MayCome P n s.listed k) (low : (j : ℕ) → j < k → MayCome P n s.listed j → ⊥) (G : Set) (is : G ≡ literals_of (λ j. ltb j n && group P k j)) where
      -- the group is the first of those that are left
      first : {rest : List ℕ} → InOrder P n s.listed rest → (ks : List ℕ) × (rest ≡ k ∷ ks) × InOrder P n (s.listed ∪ group P k) ks
      first (all_listed f) = absurd (clash (f k c.below) c.unlisted)
      first (comes_next {k = i} {ks = ks} d also o) = let e : i ≡ k = same (dec_lt i k) (dec_lt k i) in (ks, ap (λ (j : ℕ). j ∷ ks) e, rw e at o)
        where
          same : Dec (i < k) → Dec (k < i) → i ≡ k
          same (yes h) f = absurd (low i h d)
          same (no h) (yes l) = absurd (also k l c)
          same (no h) (no l) = omega arith

      later : List ℕ
      later = (first s.order).0

      rest_is : s.rest ≡ k ∷ later
      unfolding later
      rest_is = (first s.order).1

      its_names : members n_names (both_in G) ≡ named k
      its_names = ap (members n_names) (both_names _ is) ∙ members_below (group P k) n 0 n_names (omega arith) ∙ ap (λ (m : ℕ). members m (group P k)) (sub-zero n)

      counts : at + (length (named k) + names_listed P n later) ≡ n
      unfolding names_listed
      counts = ap (λ (l : List ℕ). at + names_listed P n l) (sym rest_is) ∙ s.total

      names_fit : length (joined s.before) + length (named k) ≤ max_names
      names_fit = omega (arith, counts, s.places)

      numbers_fit : length (numbered 0 s.before) + length (named k) ≤ max_names
      numbers_fit = omega (arith, names_fit, numbered_length 0 s.before)

      pub listing_fits : PutFits G groups at name numbers
      listing_fits =
          record {
            room = omega (arith, ap length its_names, counts, name_size);
            alike = numbers_size ∙ sym name_size;
            small = omega (arith, counts, s.few);
          }

      some_name : 0 < length (named k)
      some_name = some_length (named k) k ((members_are n (group P k) k).1 (group_itself P k, c.below))

      module _ (end : ℕ) (name' numbers' : List ℕ) (put : PutNames (both_in G) groups at name numbers end name' numbers') where
        end_is : end ≡ at + length (named k)
        end_is = put.behind ∙ ap (λ (l : List ℕ). at + length l) its_names

        pub listing_less : n - end < n - at
        listing_less = omega (arith, end_is, counts, some_name)

        pub listing_more : (left' : Set) (watch' : List LitSet) (waits stuck' : Set) → left' ≡ left ∖ G → Stuck P n s.listed watch' waits → Released watch' G waits stuck'
            → Listing left' watch' stuck' name' numbers' end (groups + 1)
        unfolding later
        listing_more left' watch' waits stuck' e t r =
            record {
              listed = s.listed ∪ group P k;
              before = s.before ++ (named k ∷ []);
              rest = later;
              order = (first s.order).2;
              whole = whole_more P n s.listed k s.whole;
              left_are = e ∙ ap₂ (λ (S U : Set). S ∖ U) s.left_are is ∙ fun_ext (λ A. apart (ltb (name_of A) n) (s.listed (name_of A)) (group P k (name_of A)));
              waiting =
                  stuck_left P n s.listed watch' waits stuck' G (group P k) t r (λ j l g. ap (λ (S : Set). S j) (both_names (λ i. ltb i n && group P k i) is) ∙ and_intro _ _ (lt-ltb j n l) g);
              all = s.all ∙ ap (λ (l : List ℕ). s.before ++ map named l) rest_is ∙ sym (append_assoc s.before (named k ∷ []) (map named later));
              total = omega (arith, end_is, counts);
              places = end_is ∙ omega (arith, s.places, ap length (joined_more s.before (named k)), length-append (joined s.before) (named k));
              count = omega (arith, s.count, length-append s.before (named k ∷ []));
              few = omega (arith, s.few, end_is, some_name);
              names_are =
                  put.named ∙ stored name (joined s.before) (named k) _ at s.names_are s.places its_names names_fit
                  ∙ ap (padded max_names) (sym (joined_more s.before (named k)));
              numbers_are =
                  put.counted
                  ∙ stored numbers (numbered 0 s.before) (map (λ _. 0 + length s.before) (named k)) _ at s.numbers_are
                  (s.places ∙ sym (numbered_length 0 s.before)) (ap₂ (λ (i : ℕ) (l : List ℕ). map (λ _. i) l) numbers_next its_names)
                  (omega (arith, numbers_fit, length-map (named k) (λ (_ : ℕ). 0 + length s.before)))
                  ∙ ap (padded max_names) (sym (numbered_more 0 s.before (named k)));
            }
          where
            numbers_next : groups ≡ 0 + length s.before
            numbers_next = omega (arith, s.count)

            apart : (b l g : Bool) → ((b && not l) && not (b && g)) ≡ (b && not (l || g))
            apart true true g = refl
            apart true false g = refl
            apart false l g = refl

    -- ---- by what was found next

    module _ (G : Set) (x : Next P n s.listed G) where
      pub listing_over : G ≡ ∅ → (k : ℕ) → MayCome P n s.listed k → ⊥
      listing_over e = go x
        where
          go : Next P n s.listed G → (k : ℕ) → MayCome P n s.listed k → ⊥
          go (nothing none is) = none
          go (found k c low is) =
              absurd (clash (and_intro (ltb k n) _ (lt-ltb k n c.below) (group_itself P k)) (sym (literal_in_lem (λ j. ltb j n && group P k j) is k) ∙ ap (λ (S : Set). S (2 * k)) e))

      -- a group was found
      pub record Found : Type 0 where
        pub leader : ℕ
        pub comes : MayCome P n s.listed leader
        pub lowest : (j : ℕ) → j < leader → MayCome P n s.listed j → ⊥
        pub names_are : G ≡ literals_of (λ j. ltb j n && group P leader j)

      pub some_found : (G ≡ ∅ → ⊥) → Found
      some_found ne = go x
        where
          go : Next P n s.listed G → Found
          go (nothing none is) = absurd (ne is)
          go (found k c low is) = record { leader = k; comes = c; lowest = low; names_are = is }

-- the table of no groups is zeros
pub order_none : order_table [] ≡ record { names = 0; groups = 0; name = replicate max_names 0; group = replicate max_names 0 }
unfolding order_table joined numbered
order_none = refl
