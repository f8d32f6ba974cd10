-- What a name reaches. The names found are reached, and the names in the bodies for those that are done are found. Where a row is whole, all its names are
-- done with it. Where all names found are done, they are closed, so every reached name is found.
use mathlib.Core.Path.{◌≡◌, refl, sym, ◌∙◌, ap, ap₂, fun_ext}
use mathlib.Core.Logic.{◌⊎◌, inl, inr, ⊎_elim}
use mathlib.Core.Bool.{Bool, true, false, ◌&&◌, or-false}
use mathlib.Core.List.{List}
use Prim.Native.Nat.{ℕ, ◌+◌, ◌*◌, ◌<◌}
use native.Mathlib.Decide.{ℕ_discrete}
use native.Mathlib.Omega.{arith}
use lib.Dec.{eqb}
use borrow.Author.Tests.{eqb-true, eq-eqb, not-false}
use Rattle.truth.proofs.Truth.{clash, decided, contra, refuted, and_l, and_r, and_intro, or_elim, or_l, or_r}
use Rattle.wfsx.specs.Sets.{Set, ◌∈◌, ◌∉◌, ◌⊆◌, ∅, ◌∪◌, ◌∖◌, add, ◌is_in◌}
use Rattle.wfsx.specs.Program.{Entry, Rule, Program}
use Rattle.wfsx.specs.Reach.{name_of, name_in, name_for, body_names, reach, literals_of}
use Rattle.wfsx.proofs.Sets.{⊆_antisym}
use Rattle.wfsx.proofs.Reach.{body_intro, body_elim, reach_itself, reach_body, reach_trans, reach_inside}
use Rattle.litset.specs.declared.LitSet.{LitSet}
use Rattle.litset.specs.Words.{capacity}
use Rattle.std.specs.Prelude.{Some, None}
use Rattle.litset.proofs.Room.{free}
use Rattle.reach.specs.Table.{n_names, row_set, only, with_name, both_in, Put, Rows, WholeRows, ReachedBy, settled_with, Swept, Completed, TurnOf, SweptBy}
use Rattle.reach.proofs.Names.{with_name_has, with_name_keeps, double, literal_in_lem, both_names, left_out, LowestOf, grows}

-- the names found and the names done, for name k
pub record Growing (P : Program) (k : ℕ) (found done : Set) : Type 0 where
  pub names : Set
  pub over : Set
  pub found_are : found ≡ literals_of names
  pub done_are : done ≡ literals_of over
  pub itself : k ∈ names
  pub sound : names ⊆ reach P k
  pub inside : over ⊆ names
  pub closed : (r : Rule) (e : Entry) → r is_in P → name_for r ∈ over → e is_in r.body → name_in e ∈ names

-- one more name j is done: it has the row R, and the names `more` of R are done with it
record Done (P : Program) (j : ℕ) (R more : Set) : Type 0 where
  sound : R ⊆ reach P j
  bodies : (r : Rule) (e : Entry) → r is_in P → name_for r ≡ j → e is_in r.body → name_in e ∈ R
  inside : more ⊆ R
  closed : (r : Rule) (e : Entry) → r is_in P → name_for r ∈ more → e is_in r.body → name_in e ∈ R

-- a set with j has it already
with_own : (j : ℕ) (S R : Set) → j ∈ R → add j S ∪ R ≡ S ∪ R
with_own j S R h = ⊆_antisym there (λ i m. ⊎_elim (λ s. or_l (add j S i) (R i) (or_r (eqb i j) (S i) s)) (λ r. or_r (add j S i) (R i) r) (or_elim (S i) (R i) m))
  where
    own : (i : ℕ) → (eqb i j ≡ true) ⊎ (i ∈ S) → i ∈ S ∪ R
    own i (inl e) = or_r (S i) (R i) (rw (eqb-true i j e) h)
    own i (inr s) = or_l (S i) (R i) s

    there : add j S ∪ R ⊆ S ∪ R
    there i m = ⊎_elim (λ a. own i (or_elim (eqb i j) (S i) a)) (λ r. or_r (S i) (R i) r) (or_elim (add j S i) (R i) m)

module _ (P : Program) (k : ℕ) where
  growing_start : (found done : Set) → found ≡ with_name k ∅ → done ≡ ∅ → Growing P k found done
  growing_start found done f d =
      record {
        names = add k ∅;
        over = ∅;
        found_are = f;
        done_are = d;
        itself = or_l (eqb k k) _ (eq-eqb k k refl);
        sound = λ j h. ⊎_elim (λ e. rw (eqb-true j k e) (reach_itself P k)) (λ e. absurd (clash e refl)) (or_elim (eqb j k) false h);
        inside = λ j h. absurd (clash h refl);
        closed = λ r e m h. absurd (clash h refl);
      }

  module _ {found done : Set} (g : Growing P k found done) where
    -- the names found with row R, and those done with j and with `more`
    grow : {j : ℕ} {R more : Set} → j ∈ g.names → Done P j R more → (found' done' : Set) → found' ≡ literals_of (g.names ∪ R) → done' ≡ literals_of (add j g.over ∪ more)
        → Growing P k found' done'
    grow {j} {R} {more} here d found' done' f o =
        record {
          names = g.names ∪ R;
          over = add j g.over ∪ more;
          found_are = f;
          done_are = o;
          itself = or_l (g.names k) _ g.itself;
          sound = λ i h. ⊎_elim (g.sound i) (λ q. reach_trans P k j i (g.sound j here) (d.sound i q)) (or_elim (g.names i) (R i) h);
          inside = λ i h. go_in i (or_elim (add j g.over i) (more i) h);
          closed = λ r e m h b. go_on r e m b (or_elim (add j g.over (name_for r)) (more (name_for r)) h);
        }
      where
        go_in : (i : ℕ) → (i ∈ add j g.over) ⊎ (i ∈ more) → i ∈ g.names ∪ R
        go_in i (inl a) =
            or_l (g.names i) (R i)
            (⊎_elim (λ e. rw (eqb-true i j e) here) (g.inside i) (or_elim (eqb i j) (g.over i) a))
        go_in i (inr a) = or_r (g.names i) (R i) (d.inside i a)

        go_on : (r : Rule) (e : Entry) → r is_in P → e is_in r.body → (name_for r ∈ add j g.over) ⊎ (name_for r ∈ more) → name_in e ∈ g.names ∪ R
        go_on r e m b (inl a) =
            ⊎_elim (λ q. or_r (g.names (name_in e)) _ (d.bodies r e m (eqb-true (name_for r) j q) b)) (λ q. or_l (g.names (name_in e)) _ (g.closed r e m q b))
            (or_elim (eqb (name_for r) j) (g.over (name_for r)) a)
        go_on r e m b (inr a) = or_r (g.names (name_in e)) _ (d.closed r e m a b)

    module _ (table : List LitSet) (whole : Set) (rows : Rows P whole table) where
      growing_more : (j : ℕ) → j ∈ g.names → j < n_names → (found' done' row : Set) → row ≡ row_set table j → found' ≡ found ∪ row → done' ≡ settled_with j whole row done
          → Growing P k found' done'
      growing_more j here small found' done' row is f d = go (decided (whole (2 * j)))
        where
          -- the row in hand, and what it adds
          adds : (R : Set) → row_set table j ≡ literals_of R → found' ≡ literals_of (g.names ∪ R)
          adds R e = f ∙ ap₂ (λ (S U : Set). S ∪ U) g.found_are (is ∙ e)

          go : (2 * j ∈ whole) ⊎ (2 * j ∉ whole) → Growing P k found' done'
          go (inl w) =
              let row_is : row ≡ literals_of (reach P j) = is ∙ rows.whole j w in
              let itself : 2 * j ∈ row = literal_in_lem (reach P j) row_is j ∙ reach_itself P j in
              grow here
              (record {
                sound = λ i h. h;
                bodies = λ r e m q b. reach_body P j r e m (rw q (reach_itself P j)) b;
                inside = λ i h. h;
                closed = reach_body P j;
              })
              found' done' (adds (reach P j) (rows.whole j w))
              (d ∙ rw (w, itself) (ap₂ (λ (S U : Set). S ∪ U) g.done_are row_is) ∙ ap literals_of (sym (with_own j g.over (reach P j) (reach_itself P j))))
          go (inr w) =
              let direct = rows.direct j w small in
              grow here
              (record {
                sound = λ i h.
                    let b = body_elim P (only j) i h in
                    rw (← b.5) (reach_body P j b.0 b.1 b.2 (rw (eqb-true _ j b.3) (reach_itself P j)) b.4);
                bodies = λ r e m q b. body_intro P (only j) r e m (eq-eqb _ j q) b;
                inside = λ i h. absurd (clash h refl);
                closed = λ r e m h. absurd (clash h refl);
              })
              found' done' (adds (body_names P (only j)) direct)
              (d ∙ rw w (ap (with_name j) g.done_are ∙ fun_ext (λ A. sym (or-false _))))

    growing_end : ((j : ℕ) → j ∉ g.names ∖ g.over) → found ≡ literals_of (reach P k)
    growing_end none = g.found_are ∙ ap literals_of (⊆_antisym g.sound (reach_inside P k g.names g.itself (λ r e m h b. g.closed r e m (all _ h) b)))
      where
        all : g.names ⊆ g.over
        all j h = not-false (g.over j) (refuted (λ o. clash (and_intro _ _ h o) (none j)))

-- ---- the loop's own values, whatever the program is

pub record Grown (table : List LitSet) (whole : Set) (k : ℕ) (found done : Set) : Type 0 where
  pub by : (P : Program) → Rows P whole table → Growing P k found done

pub grown_start : (table : List LitSet) (whole : Set) (k : ℕ) (found done none : Set) → found ≡ with_name k none → none ≡ ∅ → done ≡ ∅ → Grown table whole k found done
grown_start table whole k found done none f n d = record { by = λ P rows. growing_start P k found done (f ∙ ap (with_name k) n) d }

-- one more name is done
pub settled_falls : (j : ℕ) (whole row found done left done' : Set) → left ≡ found ∖ done → j ∈ both_in left → done' ≡ settled_with j whole row done → ((A : ℕ) → A ∈ done' → A < capacity)
    → free done' < free done
settled_falls j whole row found done left done' e low is inside =
    grows done done' (2 * j) (λ A h. rw is (keeps A (decided (whole (2 * j) && row (2 * j))) h)) (left_out j found done left e low) (rw is (has (decided (whole (2 * j) && row (2 * j))))) inside
  where
    keeps : (A : ℕ) → (whole (2 * j) && row (2 * j) ≡ true) ⊎ (whole (2 * j) && row (2 * j) ≡ false) → A ∈ done → A ∈ settled_with j whole row done
    keeps A (inl w) h = rw w (or_l (done A) _ h)
    keeps A (inr w) h = rw w (with_name_keeps j done A h)

    has : (whole (2 * j) && row (2 * j) ≡ true) ⊎ (whole (2 * j) && row (2 * j) ≡ false) → 2 * j ∈ settled_with j whole row done
    has (inl w) = rw w (or_r (done (2 * j)) _ (and_r (whole (2 * j)) _ w))
    has (inr w) = rw w (with_name_has j done)

module _ (table : List LitSet) (whole : Set) (k : ℕ) (found done left : Set) (g : Grown table whole k found done) (is : left ≡ found ∖ done) where
  -- the names that are left
  names_left : (P : Program) (rows : Rows P whole table) → both_in left ≡ (g.by P rows).names ∖ (g.by P rows).over
  names_left P rows = both_names _ (is ∙ ap₂ (λ (S U : Set). S ∖ U) (g.by P rows).found_are (g.by P rows).done_are)

  pub grown_end : LowestOf (both_in left) None → ReachedBy table whole k found
  grown_end none = record { is = λ P rows. growing_end P k (g.by P rows) (λ j. ap (λ (S : Set). S j) (sym (names_left P rows)) ∙ none j) }

  pub grown_more : (j : ℕ) → j < n_names → LowestOf (both_in left) (Some j) → (found' done' row : Set) → row ≡ row_set table j → found' ≡ found ∪ row → done' ≡ settled_with j whole row done
      → Grown table whole k found' done'
  grown_more j h low found' done' row e f d =
      record {
        by = λ P rows.
            let here : j ∈ (g.by P rows).names ∖ (g.by P rows).over = ap (λ (S : Set). S j) (sym (names_left P rows)) ∙ low.0 in
            growing_more P k (g.by P rows) table whole rows j (and_l _ _ here) h found' done' row e f d;
      }

-- ---- row by row

pub swept_none : (table : List LitSet) (S : Set) → Swept table S table S
swept_none table S = record { size = refl; keeps = λ A h. h; by = λ P rows. rows }

pub swept_then : {table table' table'' : List LitSet} {S S' S'' : Set} → Swept table S table' S' → Swept table' S' table'' S'' → Swept table S table'' S''
swept_then a b = record { size = b.size ∙ a.size; keeps = λ A h. b.keeps A (a.keeps A h); by = λ P rows. b.by P (a.by P rows) }

-- one more row is whole
whole_more : (table after : List LitSet) (S S' row : Set) (k : ℕ) → ReachedBy table S k row → Put table k row after → S' ≡ with_name k S → Swept table S after S'
whole_more table after S S' row k reached put s =
    record {
      size = put.size;
      keeps = λ A h. rw s (with_name_keeps k S A h);
      by = λ P rows.
          record {
            size = put.size ∙ rows.size;
            whole = λ i h. at P rows i (ℕ_discrete i k) (rw s at h);
            direct = λ i h l. put.others i (λ e. clash (rw e (with_name_has k S)) (rw s at h)) ∙ rows.direct i (contra (λ m. rw s (with_name_keeps k S (2 * i) m)) h) l;
          };
    }
  where
    at : (P : Program) → Rows P S table → (i : ℕ) → Dec (i ≡ k) → 2 * i ∈ with_name k S → row_set after i ≡ literals_of (reach P i)
    at P rows i (yes e) h = rw e (put.here ∙ reached.is P rows)
    at P rows i (no ne) h =
        put.others i ne ∙ rows.whole i (⊎_elim (λ e. absurd (ne (sym (double i) ∙ eqb-true (name_of (2 * i)) k e))) (λ m. m) (or_elim (eqb (name_of (2 * i)) k) (S (2 * i)) h))

pub completed : (table after : List LitSet) (S S' row : Set) (k : ℕ) (all : Bool) → ReachedBy table S k row → Put table k row after → S' ≡ with_name k S → Completed table S k all after S'
completed table after S S' row k all reached put s = record { swept = whole_more table after S S' row k reached put s; has = λ a. rw s (with_name_has k S) }

-- ---- a way through the names, turn by turn

pub sweep_start : (table : List LitSet) (S : Set) (down all : Bool) → SweptBy table S 0 down all table S
sweep_start table S down all = record { swept = swept_none table S; each = λ a u j h. absurd (omega arith) }

pub sweep_more : {table table' table'' : List LitSet} {S S' S'' : Set} {n i k : ℕ} {down all : Bool} → SweptBy table S i down all table' S' → TurnOf n i down k → Completed table' S' k all table'' S''
    → SweptBy table S (i + 1) down all table'' S''
sweep_more {S'' = S''} {i = i} {down = down} {all = all} g turn c = record { swept = swept_then g.swept c.swept; each = λ a u j h. at a u j h (ℕ_discrete j i) }
  where
    at : all ≡ true → down ≡ false → (j : ℕ) → j < i + 1 → Dec (j ≡ i) → 2 * j ∈ S''
    at a u j h (yes e) = rw (e, ← turn.upwards u) (c.has a)
    at a u j h (no ne) = c.swept.keeps (2 * j) (g.each a u j (omega arith))

-- all rows below n are whole at the end
pub swept_all : (P : Program) (n : ℕ) (table table' : List LitSet) (S S' : Set) → Rows P S table → Swept table S table' S' → ((j : ℕ) → j < n → 2 * j ∈ S') → WholeRows P n table'
swept_all P n table table' S S' rows swept all = let after = swept.by P rows in record { size = after.size; whole = λ i l. after.whole i (all i l) }
