-- The calls about proof sheets: what they reply once the tests have picked an arm, when they are turned down, and what an accepted sheet tells. A sheet is judged
-- over the lesson's own rules and facts, so an accepted claim is so in every lesson, whoever wrote the sheet.
use mathlib.Core.Path.{◌≡◌, refl, sym, ◌∙◌, ap}
use mathlib.Core.Bool.{true≢false, Bool, true, false, cond, ◌&&◌}
use mathlib.Core.List.Memᴰ
use mathlib.Core.List.{List, [], ◌∷◌, ◌++◌}
use mathlib.Core.Logic.{◌⊎◌, inl, inr}
use Prim.Native.Nat.{zero-le, ℕ, ◌*◌, ◌≤◌, ◌<◌}
use native.Mathlib.Omega.{arith}
use lib.Dec.{eqb, ltb, leb}
use lib.ListN.{length, take, drop}
use lib.Seq.{take_at, drop_at}
use borrow.Author.Tests.{lt-ltb, le-leb, lt-leb, leb-true, leb-false, ltb-true, ltb-false}
use Rattle.truth.proofs.Truth.{clash, decided, and_l, and_r}
use Rattle.wfsx.specs.Sets.{Set, ◌∈◌, ◌is_in◌}
use Rattle.wfsx.specs.Program.{Rule, positive}
use Rattle.litset.specs.Words.{capacity}
use Rattle.book.specs.Book.{names_of, rules_of}
use Rattle.book.specs.Limits.{max_names}
use Rattle.book.proofs.Counts.{clamp_most}
use Rattle.book.proofs.Names.{names_counted}
use Rattle.book.proofs.Rows.{rows_length}
use Rattle.sheet.specs.Sheet.{max_sheet, Fault, none, at, fault, kind_of, among, Judgement, accepted, judged_by, judgement, IsSo}
use Rattle.sheet.specs.Sheet as sheet
use Rattle.sheet.specs.Flat.{entry_in, entries_in, blank}
use Rattle.sheet.specs.Answers.{judgement_of}
use Rattle.sheet.specs.declared.Rejection.{Rejection}
use Rattle.std.specs.Option.{is_some, IfSome}
use Rattle.std.specs.Prelude.{Option, None, Some}
use Rattle.sheet.specs.declared.SheetEntry.{SheetEntry}
use Rattle.sheet.proofs.Sound.{accepted_sound}
use Rattle.maker.specs.Result.{MadeFor}
use Rattle.maker.specs.declared.Made.{Made}
use Rattle.maker.proofs.Rounds.{rules_small}
use Rattle.maker.proofs.Exists.{made_exists}
use Rattle.std.specs.Prelude.{Result, Ok, Err, IfOk, IfErr}
use Rattle.std.proofs.lemmas.Result.{IfOk-at_ok}
use Rattle.lesson.specs.State.{BookState, unloaded, loaded_with, State, its_names, its_rules, in_force, program_in, none_loaded, in_book, Said, gives, refused, number_of, Ack, acknowledged, if_loaded, in_order, known_in, judged_in, judgement_says, unless_turned, check_says, make_says}
use Rattle.lesson.specs.Calls.{shelf_of, own_of, meaning_of, index_of, judged, Checks, make_told, count_in, MakesUnless, MakesTable, entries_after, Makes}
use Rattle.lesson.specs.Conditions.{Miscounted, sheet_rows, check_rows, claim_rows, make_rows}
use Rattle.lesson.specs.declared.Shelf.{Shelf}
use Rattle.lesson.specs.declared.Lesson.{Lesson}
use Rattle.lesson.specs.declared.Refusal.{Refusal}
use Rattle.lesson.specs.declared.Refusal.TheVariants as refusal
use Rattle.lesson.specs.declared.Unmade.{Unmade}
use Rattle.lesson.proofs.Order.{given_refused, refused_same, given_same, inside, given_inside, some_book, turned_so, state_passed}
use Rattle.lesson.proofs.Meaning.{shelf_is}
use Rattle.lesson.proofs.Sound.{Sound, book_in_room, literals_within}
use Rattle.lesson.proofs.Rows.{By, met, unmet, given_by, order_by_lem}

-- ---- what the functions reply

-- 20 and 21 are of the claim, and have no index
index_0 : (e : Refusal) (b : BookState) (A : ℕ) → refused (number_of e) ≡ in_order b A (gives acknowledged) → index_of e ≡ 0
unfolding in_order if_loaded
index_0 e b A h = go e (none_loaded b) (in_book b A) h
  where
    go : (e : Refusal) (a i : Bool) → ◌≡◌ {A = Said Ack} (refused (number_of e)) (cond a (refused 20) (cond i (gives acknowledged) (refused 21))) → index_of e ≡ 0
    go refusal.NoBook a i h = refl
    go refusal.NotInBook a i h = refl
    go refusal.AlreadyPutIn a i h = refl
    go refusal.NotPutIn a i h = refl
    go refusal.ContradictoryName a i h = refl
    go refusal.TooShort a i h = refl
    go refusal.EntryCount a i h = refl
    go refusal.ClaimNotShown a i h = refl
    go (refusal.EntryAt index) true i h = let z = refused_same 27 20 h in absurd (omega arith)
    go (refusal.EntryAt index) false true h = absurd (given_refused acknowledged 27 (sym h))
    go (refusal.EntryAt index) false false h = let z = refused_same 27 21 h in absurd (omega arith)

-- an answer of the check, with this crate's refusal
pub judged_ok : (u : Unit {0}) (q : Result (Unit {0}) Rejection) → q ≡ Ok u → judged (Ok u) ≡ judgement_of q
judged_ok u q is = rw is refl

module _ (s : Shelf) (l : Lesson) (A : ℕ) (truth : Bool) where
  module _ (e : Refusal) (h : refused (number_of e) ≡ in_order (shelf_of s) A (gives acknowledged)) where
    pub check_state : (es : List SheetEntry) → Checks s l A truth es (Err e)
    unfolding check_says
    check_state es = record { says = rw (← h, index_0 e (shelf_of s) A h) refl }

    pub make_state : (room : ℕ) (u : Unmade) → u.refusal ≡ e → MakesTable s l A truth room (Err u)
    make_state room u is = record { unless = rw (← h, is) refl }

  module _ (e : gives acknowledged ≡ in_order (shelf_of s) A (gives acknowledged)) where
    pub check_given : (es : List SheetEntry) (F : Set) → F ≡ in_force (own_of l) → (r : Result (Unit {0}) Refusal)
        → judged r ≡ judgement (rules_of s.book) F (2 * length (names_of s.book)) truth A es → Checks s l A truth es r
    unfolding check_says judged_in
    check_given es F force r h = record { says = rw (← e) (h ∙ rw (force, shelf_is s (state_passed (shelf_of s) A e).0) refl) }

    module _ (room : ℕ) (F : Set) (force : F ≡ in_force (own_of l)) (m : Option Made) (h : MadeFor (rules_of s.book) F (2 * length (names_of s.book)) truth A m)
        (names : ℕ) (count : names ≡ length (names_of s.book)) where
      made : (r : Result Made Unmade) → make_told r ≡ make_says (2 * names) room (is_some m) (count_in m) → IfOk r (λ n. m ≡ Some n) → IfErr r (λ u. IfSome m (λ n. u.made ≡ n)) → MakesTable s l A truth room r
      made r q i b =
          let book = shelf_is s (state_passed (shelf_of s) A e).0 in
          record { unless = rw (← e) (record { made = m; made_for = rw (book, ← force) h; says = q ∙ rw (book, count) refl; gives_it = i; beside = b }) }

      pub make_28 : m ≡ None → (u : Unmade) → u.refusal ≡ refusal.ClaimNotShown → MakesTable s l A truth room (Err u)
      unfolding make_says
      make_28 f u is = made (Err u) (rw (f, is) refl) (record {}) (rw f (record {}))

      module _ (x : Made) (is : m ≡ Some x) where
        pub make_25 : room < 4 * names → MakesTable s l A truth room (Err (record { made = x; refusal = refusal.TooShort }))
        unfolding make_says
        make_25 h = made (Err _) (rw (is, lt-leb (2 * (2 * names)) room (omega arith)) refl) (record {}) (rw is refl)

        pub make_count : 4 * names ≤ room → MakesTable s l A truth room (Ok x)
        unfolding make_says
        make_count h = made (Ok x) (rw (is, le-leb (2 * (2 * names)) room (omega arith)) refl) is (record {})

-- ---- when the check is turned down, and what an accepted sheet tells

module _ (d : State) (A : ℕ) (truth : Bool) (es : List SheetEntry) where
  abbrev the_fault : Fault
  the_fault = fault (its_rules d.book) (in_force d.own) (known_in d.book) es

  abbrev claimed : Bool
  claimed = among (kind_of truth) A es

  abbrev counted : Bool
  counted = ltb 0 (length es) && leb (length es) max_sheet

  well_counted : counted ≡ true → Miscounted es → ⊥
  well_counted h (inl z) = let some = ltb-true 0 (length es) (and_l (ltb 0 (length es)) (leb (length es) max_sheet) h) in omega arith
  well_counted h (inr m) = let few = leb-true (length es) max_sheet (and_r (ltb 0 (length es)) (leb (length es) max_sheet) h) in omega arith

  miscounted : counted ≡ false → Miscounted es
  miscounted h = go (decided (ltb 0 (length es)))
    where
      go : (ltb 0 (length es) ≡ true) ⊎ (ltb 0 (length es) ≡ false) → Miscounted es
      go (inr z) = inl (let none = ltb-false 0 (length es) z in omega arith)
      go (inl y) = inr (leb-false (length es) max_sheet (rw y at h))

  judged_by_lem : By (judgement_says (judged_in d A truth es)) (sheet_rows d A truth es)
  unfolding judged_in judgement judged_by
  judged_by_lem = by_count (decided counted)
    where
      by_claim : (t : Bool) → claimed ≡ t → By (judgement_says (cond t accepted (sheet.refused 28 0))) ((28, claimed ≡ false) ∷ [])
      by_claim true e = unmet 28 (claimed ≡ false) [] _ (λ h. clash e h) (given_by acknowledged _ refl)
      by_claim false e = met 28 (claimed ≡ false) [] _ e refl

      by_fault : (f : Fault) → the_fault ≡ f → By (judgement_says (judged_by f claimed)) ((27, (i : ℕ) × (the_fault ≡ at i)) ∷ (28, claimed ≡ false) ∷ [])
      by_fault (at i) e = met 27 ((i : ℕ) × (the_fault ≡ at i)) ((28, claimed ≡ false) ∷ []) _ (i, e) refl
      by_fault none e = unmet 27 ((i : ℕ) × (the_fault ≡ at i)) ((28, claimed ≡ false) ∷ []) _ (λ w. no_fault w.0 (sym e ∙ w.1)) (by_claim claimed refl)
        where
          no_fault : (i : ℕ) → none ≡ at i → ⊥
          no_fault i h = let z : ◌≡◌ {A = ℕ} 0 1 = cc in omega arith

      by_count : (counted ≡ true) ⊎ (counted ≡ false)
          → By (judgement_says (cond counted (judged_by the_fault claimed) (sheet.refused 26 0))) ((26, Miscounted es) ∷ (27, (i : ℕ) × (the_fault ≡ at i)) ∷ (28, claimed ≡ false) ∷ [])
      by_count (inl y) = rw y (unmet 26 (Miscounted es) ((27, (i : ℕ) × (the_fault ≡ at i)) ∷ (28, claimed ≡ false) ∷ []) _ (well_counted y) (by_fault the_fault refl))
      by_count (inr y) = rw y (met 26 (Miscounted es) ((27, (i : ℕ) × (the_fault ≡ at i)) ∷ (28, claimed ≡ false) ∷ []) _ (miscounted y) refl)

  -- what is said of the claim comes behind 20 and 21
  check_order : judgement_says (check_says d A truth es) ≡ in_order d.book A (judgement_says (judged_in d A truth es))
  unfolding check_says in_order if_loaded
  check_order = go (none_loaded d.book) (in_book d.book A) (judged_in d A truth es)
    where
      go : (a i : Bool) (j : Judgement) → judgement_says (unless_turned (cond a (refused 20) (cond i (gives acknowledged) (refused 21))) j) ≡ cond a (refused 20) (cond i (judgement_says j) (refused 21))
      go true i j = refl
      go false true j = refl
      go false false j = refl

  pub check_by : By (judgement_says (check_says d A truth es)) (check_rows d A truth es)
  check_by = rw check_order (order_by_lem d A (sheet_rows d A truth es) _ (λ i. judged_by_lem))

  -- An accepted claim "true" lies in M, an accepted claim "false" outside N.
  pub check_sound : ((B : ℕ) → B ∈ in_force d.own → B < capacity) → check_says d A truth es ≡ accepted → IsSo (program_in d) truth A
  unfolding check_says program_in judged_in
  check_sound room h = accepted_sound (its_rules d.book) (in_force d.own) room (known_in d.book) truth A es (go (in_order d.book A (gives acknowledged)) _ h)
    where
      go : (said : Said Ack) (j : Judgement) → unless_turned said j ≡ accepted → j ≡ accepted
      go (gives x) j e = e
      go (refused n) j e = let z : ◌≡◌ {A = ℕ} 0 1 = cc in absurd (omega arith)

  -- a claim that 20 and 21 do not turn down is accepted with the entries that are judged so
  check_passes : (x : Ack) → in_order d.book A (gives acknowledged) ≡ gives x
      → judgement (its_rules d.book) (in_force d.own) (known_in d.book) truth A es ≡ accepted → check_says d A truth es ≡ accepted
  unfolding check_says judged_in
  check_passes x e h = rw e h

-- beyond the most entries of a sheet the answer depends on their count alone
pub check_length : (d : State) (A : ℕ) (truth : Bool) (es fs : List SheetEntry) → length es ≡ length fs → (length es ≤ max_sheet → es ≡ fs) → check_says d A truth es ≡ check_says d A truth fs
unfolding check_says judged_in judgement
check_length d A truth es fs e same = go (decided (leb (length es) max_sheet))
  where
    go : (leb (length es) max_sheet ≡ true) ⊎ (leb (length es) max_sheet ≡ false) → check_says d A truth es ≡ check_says d A truth fs
    go (inl y) = ap (check_says d A truth) (same (leb-true (length es) max_sheet y))
    go (inr y) = let many = leb-false (length es) max_sheet y in rw (← e, y, lt-ltb 0 (length es) (omega arith)) refl

-- ---- what the maker says

said_count : (known room : ℕ) (found : Bool) (count n : ℕ) → make_says known room found count ≡ gives n → (found ≡ true) × (count ≡ n) × (2 * known ≤ room)
unfolding make_says
said_count known room found count n e = go found (leb (2 * known) room) refl e
  where
    go : (f t : Bool) → leb (2 * known) room ≡ t → cond f (cond t (gives count) (refused 25)) (refused 28) ≡ gives n → (f ≡ true) × (count ≡ n) × (2 * known ≤ room)
    go true true y q = (refl, given_same count n q, leb-true (2 * known) room y)
    go true false y q = absurd (given_refused n 25 (sym q))
    go false t y q = absurd (given_refused n 28 (sym q))

-- where a count is told, a sheet was given
told_made : (r : Result Made Unmade) (n : ℕ) → make_told r ≡ gives n → (m : Made) × (r ≡ Ok m) × (m.count ≡ n)
told_made (Ok m) n e = (m, refl, given_same _ _ e)
told_made (Err u) n e = absurd (given_refused n (number_of u.refusal) (sym e))

few_counted : (m : Option Made) (most : ℕ) → IfSome m (λ x. x.count ≤ most) → count_in m ≤ most
few_counted None most h = zero-le
few_counted (Some x) most h = h

-- a book on a shelf has no more names than its table
names_few : (s : Shelf) → length (its_names (shelf_of s)) ≤ max_names
unfolding shelf_of
names_few s = go (eqb s.loaded 0)
  where
    go : (b : Bool) → length (its_names (cond b unloaded (loaded_with (names_of s.book) (rules_of s.book)))) ≤ max_names
    go true = zero-le
    go false = omega (arith, names_counted s.book, clamp_most max_names s.book.names)

-- no more entries are written than there is room for, nor than a sheet may have
pub make_within : (s : Shelf) (l : Lesson) (A : ℕ) (truth : Bool) (room : ℕ) (m : Made) → MakesTable s l A truth room (Ok m) → (m.count ≤ room) × (m.count ≤ max_sheet)
make_within s l A truth room m h = go (in_order (shelf_of s) A (gives acknowledged)) h.unless
  where
    go : (said : Said Ack) → MakesUnless said s l A truth room (Ok m) → (m.count ≤ room) × (m.count ≤ max_sheet)
    go (refused n) w = absurd (given_refused m.count n w)
    go (gives x) w =
        let fits = said_count (known_in (shelf_of s)) room (is_some w.made) (count_in w.made) m.count (sym w.says) in
        let few = few_counted w.made _ w.made_for.few in
        let names = names_few s in
        (omega arith, omega arith)

-- ---- when the maker is turned down

module _ (s : Shelf) (l : Lesson) (A : ℕ) (truth : Bool) (before : List SheetEntry) (r : Result Made Unmade) (after : List SheetEntry) (h : Makes s l A truth before r after) where
  abbrev d : State
  d = meaning_of s l

  pub make_unwritten : (n : ℕ) → make_told r ≡ refused n → after ≡ before
  make_unwritten n e = go r e h.entries
    where
      go : (r : Result Made Unmade) → make_told r ≡ refused n → after ≡ entries_after before r → after ≡ before
      go (Ok m) e w = absurd (given_refused m.count n e)
      go (Err f) e w = w

  module _ (sound : Sound d) where
    facts_room : (B : ℕ) → B ∈ in_force d.own → B < capacity
    facts_room B i = book_in_room d sound B (sound.facts_known B i)

    -- a sheet is found exactly for a claim that is so
    found_so : (m : Option Made) → MadeFor (its_rules (shelf_of s)) (in_force (own_of l)) (known_in (shelf_of s)) truth A m → is_some m ≡ true → IsSo (program_in d) truth A
    unfolding program_in
    found_so None f y = absurd (true≢false (sym y))
    found_so (Some x) f y = accepted_sound (its_rules (shelf_of s)) (in_force (own_of l)) facts_room (known_in (shelf_of s)) truth A _ f.passes

    so_found : (m : Option Made) → MadeFor (its_rules (shelf_of s)) (in_force (own_of l)) (known_in (shelf_of s)) truth A m → A ∈ in_book (shelf_of s) → IsSo (program_in d) truth A → is_some m ≡ true
    unfolding program_in in_book
    so_found (Some x) f i so = refl
    so_found None f i so = absurd (true≢false (sym (f.complete (literals_within d sound) (ltb-true A (known_in (shelf_of s)) i) so)))

    made_by : (m : Option Made) → MadeFor (its_rules (shelf_of s)) (in_force (own_of l)) (known_in (shelf_of s)) truth A m → A ∈ in_book (shelf_of s)
        → By (make_says (known_in (shelf_of s)) (length before) (is_some m) (count_in m)) (claim_rows d A truth before)
    unfolding make_says
    made_by m f i = by_found (is_some m) refl
      where
        Short : Type 0
        Short = length before < 2 * known_in (shelf_of s)

        by_room : (t : Bool) → leb (2 * known_in (shelf_of s)) (length before) ≡ t → By (cond t (gives (count_in m)) (refused 25)) ((25, Short) ∷ [])
        by_room true e = let fits = leb-true (2 * known_in (shelf_of s)) (length before) e in unmet 25 Short [] _ (λ q. omega arith) (given_by (count_in m) _ refl)
        by_room false e = met 25 Short [] _ (leb-false (2 * known_in (shelf_of s)) (length before) e) refl

        by_found : (t : Bool) → is_some m ≡ t → By (cond t (cond (leb (2 * known_in (shelf_of s)) (length before)) (gives (count_in m)) (refused 25)) (refused 28)) (claim_rows d A truth before)
        by_found true e = unmet 28 (IsSo (program_in d) truth A → ⊥) ((25, Short) ∷ []) _ (λ never. never (found_so m f e)) (by_room (leb (2 * known_in (shelf_of s)) (length before)) refl)
        by_found false e = met 28 (IsSo (program_in d) truth A → ⊥) ((25, Short) ∷ []) _ (λ so. clash (so_found m f i so) e) refl

    pub make_by : By (make_told r) (make_rows d A truth before)
    make_by = go (in_order (shelf_of s) A (gives acknowledged)) refl h.makes.unless
      where
        go : (said : Said Ack) → in_order (shelf_of s) A (gives acknowledged) ≡ said → MakesUnless said s l A truth (length before) r → By (make_told r) (make_rows d A truth before)
        go (gives x) e w =
            let in-book = given_inside (shelf_of s) A (gives acknowledged) x e in
            let says : make_told r ≡ in_order (shelf_of s) A (make_says (known_in (shelf_of s)) (length before) (is_some w.made) (count_in w.made)) =
            w.says ∙ sym (inside (shelf_of s) A _ in-book.0 in-book.1) in
            rw says (order_by_lem d A (claim_rows d A truth before) _ (λ i. made_by w.made w.made_for i))
        go (refused n) e w =
            let says : make_told r ≡ in_order (shelf_of s) A (refused 0) = w ∙ turned_so (shelf_of s) A n e (refused 0) in
            rw says (order_by_lem d A (claim_rows d A truth before) (refused 0) (λ i. absurd (given_refused acknowledged n (sym (inside (shelf_of s) A (gives acknowledged) (some_book (shelf_of s) A i) i) ∙ e))))

  -- ---- what it wrote, in every lesson

  -- no more than two entries for each literal; the check accepts them; those after them stay
  pub make_wrote : (n : ℕ) → make_told r ≡ gives n → (n ≤ 2 * known_in (shelf_of s)) × (check_says d A truth (take n after) ≡ accepted) × (drop n after ≡ drop n before)
  make_wrote n e = go (in_order (shelf_of s) A (gives acknowledged)) refl h.makes.unless
    where
      go : (said : Said Ack) → in_order (shelf_of s) A (gives acknowledged) ≡ said → MakesUnless said s l A truth (length before) r
          → (n ≤ 2 * known_in (shelf_of s)) × (check_says d A truth (take n after) ≡ accepted) × (drop n after ≡ drop n before)
      go (refused m) q w = absurd (given_refused n m (sym e ∙ w))
      go (gives x) q w =
          (omega (arith, counted.1, few_counted w.made _ w.made_for.few), accepts, ap (drop n) after_is ∙ drop_at (entries_in table n) (drop n before) n size)
        where
          counted : (is_some w.made ≡ true) × (count_in w.made ≡ n) × (2 * known_in (shelf_of s) ≤ length before)
          counted = said_count (known_in (shelf_of s)) (length before) (is_some w.made) (count_in w.made) n (sym w.says ∙ e)

          given : (m : Made) × (r ≡ Ok m) × (m.count ≡ n)
          given = told_made r n e

          made_is : w.made ≡ Some given.0
          made_is = IfOk-at_ok (λ m. w.made ≡ Some m) given.1 w.gives_it

          table : List SheetEntry
          table = given.0.sheet.entries

          after_is : after ≡ entries_in table n ++ drop n before
          after_is = h.entries ∙ ap (entries_after before) given.1 ∙ ap (λ (k : ℕ). entries_in table k ++ drop k before) given.2

          size : length (entries_in table n) ≡ n
          size = rows_length (entry_in table) 0 n

          there : entries_in table given.0.count ≡ take n after
          there = ap (entries_in table) given.2 ∙ sym (ap (take n) after_is ∙ take_at (entries_in table n) (drop n before) n size)

          accepts : check_says d A truth (take n after) ≡ accepted
          accepts = check_passes d A truth (take n after) x q (rw there at (rw made_is at w.made_for.passes))

-- ---- some reply meets each contract

-- each positive literal of a rule on the shelf has room in a set
rules_room : (s : Shelf) (r : Rule) → r is_in its_rules (shelf_of s) → (B : ℕ) → positive B is_in r.body → B < capacity
unfolding shelf_of
rules_room s = go (eqb s.loaded 0)
  where
    go : (t : Bool) (r : Rule) → r is_in its_rules (cond t unloaded (loaded_with (names_of s.book) (rules_of s.book))) → (B : ℕ) → positive B is_in r.body → B < capacity
    go true r m = absurd (Memᴰ.not-nil m)
    go false r m = rules_small s.book.heads s.book.starts s.book.entries _ r m

module _ (s : Shelf) (l : Lesson) (A : ℕ) (truth : Bool) where
  pub check_exists : (es : List SheetEntry) → (r : Result (Unit {0}) Refusal) × Checks s l A truth es r
  unfolding check_says judged_in judgement judged_by in_order if_loaded
  check_exists es =
      let w = go (none_loaded (shelf_of s)) (in_book (shelf_of s) A) (ltb 0 (length es) && leb (length es) max_sheet)
      (fault (its_rules (shelf_of s)) (in_force (own_of l)) (known_in (shelf_of s)) es) (among (kind_of truth) A es) in
      (w.0, record { says = w.1 })
    where
      go : (a i counted : Bool) (f : Fault) (claimed : Bool)
          → (r : Result (Unit {0}) Refusal) × (judged r ≡ unless_turned (cond a (refused 20) (cond i (gives acknowledged) (refused 21))) (cond counted (judged_by f claimed) (sheet.refused 26 0)))
      go true i counted f claimed = (Err refusal.NoBook, refl)
      go false false counted f claimed = (Err refusal.NotInBook, refl)
      go false true false f claimed = (Err refusal.EntryCount, refl)
      go false true true (at j) claimed = (Err (refusal.EntryAt j), refl)
      go false true true none true = (Ok tt, refl)
      go false true true none false = (Err refusal.ClaimNotShown, refl)

  pub make_exists : Sound (meaning_of s l) → (before : List SheetEntry) → (r : Result Made Unmade) × (after : List SheetEntry) × Makes s l A truth before r after
  unfolding make_says in_order if_loaded
  make_exists sound before = let w = go (in_order (shelf_of s) A (gives acknowledged)) refl in (w.0, entries_after before w.0, record { makes = w.1; entries = refl })
    where
      -- a refusal with no sheet made
      unmade : Refusal → Unmade
      unmade e = record { made = record { count = 0; sheet = blank }; refusal = e }

      -- 20 or 21 as a refusal
      turned : (n : ℕ) → in_order (shelf_of s) A (gives acknowledged) ≡ refused n → (r : Result Made Unmade) × (make_told r ≡ refused n)
      turned n e = go (none_loaded (shelf_of s)) (in_book (shelf_of s) A) e
        where
          go : (a i : Bool) → cond a (refused 20) (cond i (gives acknowledged) (refused 21)) ≡ refused n → (r : Result Made Unmade) × (make_told r ≡ refused n)
          go true i h = (Err (unmade refusal.NoBook), ap refused (refused_same 20 n h))
          go false true h = absurd (given_refused acknowledged n h)
          go false false h = (Err (unmade refusal.NotInBook), ap refused (refused_same 21 n h))

      answer_for : (m : Option Made)
          → (r : Result Made Unmade) × (make_told r ≡ make_says (known_in (shelf_of s)) (length before) (is_some m) (count_in m)) × IfOk r (λ n. m ≡ Some n) × IfErr r (λ u. IfSome m (λ n. u.made ≡ n))
      answer_for None = (Err (unmade refusal.ClaimNotShown), refl, record {}, record {})
      answer_for (Some x) = by (leb (2 * known_in (shelf_of s)) (length before))
        where
          by : (t : Bool) → (r : Result Made Unmade) × (make_told r ≡ cond t (gives x.count) (refused 25)) × IfOk r (λ n. Some x ≡ Some n) × IfErr r (λ u. u.made ≡ x)
          by false = (Err (record { made = x; refusal = refusal.TooShort }), refl, record {}, refl)
          by true = (Ok x, refl, refl, record {})

      go : (said : Said Ack) → in_order (shelf_of s) A (gives acknowledged) ≡ said → (r : Result Made Unmade) × MakesTable s l A truth (length before) r
      go (refused n) e = let w = turned n e in (w.0, record { unless = rw e w.1 })
      go (gives x) e =
          let m = made_exists (its_rules (shelf_of s)) (in_force (own_of l)) (known_in (shelf_of s)) _ refl sound.few_names (λ B i. book_in_room (meaning_of s l) sound B (sound.facts_known B i)) (rules_room s) truth A in
          let a = answer_for m.0 in
          (a.0, record { unless = rw e (record { made = m.0; made_for = m.1; says = a.1; gives_it = a.2; beside = a.3 }) })
