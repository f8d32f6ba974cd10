-- What a call says is a refusal exactly by the first of its conditions that is met.
use mathlib.Core.Path.{◌≡◌, refl, sym, ◌∙◌, ap}
use mathlib.Core.Bool.{Bool, true, false, cond, true≢false}
use mathlib.Core.List.{List, [], ◌∷◌, ◌++◌}
use mathlib.Core.Logic.{◌↔◌, ◌⊎◌, inl, inr}
use Prim.Native.Nat.{ℕ, ◌*◌, ◌<◌}
use native.Mathlib.Omega.{arith}
use lib.Dec.{leb}
use lib.ListN.{length}
use borrow.Author.Tests.{ltb-true, ltb-false, leb-true, leb-false}
use Rattle.wfsx.specs.Sets.{Set, ◌∈◌, ◌∉◌}
use Rattle.wfsx.specs.Program.{Entry, Rule, Program}
use Rattle.wfsx.specs.Reach.{name_of}
use Rattle.wfsx.specs.ContradictoryNames.{ContradictoryName, contradictory_names}
use Rattle.wfsx.proofs.ContradictoryNames.{contradictory_is}
use Rattle.wfsx.specs.Trees.{Tree}
use Rattle.truth.proofs.Truth.{decided}
use Rattle.reader.specs.Conditions.{Row, First}
use Rattle.fixpoint.specs.Result.{verdict_in}
use Rattle.lesson.specs.State.{BookState, unloaded, loaded_with, State, its_names, program_in, listing_in, none_loaded, in_book, Said, gives, refused, acknowledged, if_loaded, in_order, its_literal, change_fits, change_says, search_says, contradictory_below, verdict_says, model_says, listing_says}
use Rattle.lesson.specs.Conditions.{NoBook, NotBelow, change_row, change_rows, verdict_rows, search_rows, book_rows, listing_rows}
use Rattle.lesson.specs.declared.Change.{Change}
use Rattle.lesson.specs.declared.Change.TheVariants.{PutIn, TakeOut}
use Rattle.lesson.proofs.Order.{given_refused, refused_same, unloaded_says, loaded_says}
use Rattle.lesson.proofs.Marks.{contradictory_at}

abbrev pub By : {X : Type 0} → Said X → List Row → Type 0
By said rows = (number : ℕ) → (said ≡ refused number) ↔ First number rows

pub met : {X : Type 0} (n : ℕ) (C : Type 0) (rows : List Row) (said : Said X) → C → said ≡ refused n → By said ((n, C) ∷ rows)
met {X} n C rows said c e k = (λ h. inl (refused_same k n (sym h ∙ e), c), back)
  where
    back : First k ((n, C) ∷ rows) → said ≡ refused k
    back (inl w) = rw w.0 e
    back (inr w) = absurd (w.0 c)

pub unmet : {X : Type 0} (n : ℕ) (C : Type 0) (rows : List Row) (said : Said X) → (C → ⊥) → By said rows → By said ((n, C) ∷ rows)
unmet {X} n C rows said never by k = (λ h. inr (never, (by k).0 h), back)
  where
    back : First k ((n, C) ∷ rows) → said ≡ refused k
    back (inl w) = absurd (never w.1)
    back (inr w) = (by k).1 w.1

pub given_by : {X : Type 0} (x : X) (said : Said X) → said ≡ gives x → By said []
given_by x said e k = (λ h. given_refused x k (sym e ∙ h), λ w. absurd w)

not_unloaded : (names : List (List ℕ)) (rules : List Rule) → ◌≡◌ {A = BookState} (loaded_with names rules) unloaded → ⊥
not_unloaded names rules e = true≢false (sym (ap none_loaded e))

-- 20 first
loaded_by : {X : Type 0} (d : State) (rows : List Row) (said : Said X) → By said rows → By (if_loaded d.book said) ((20, NoBook d) ∷ rows)
loaded_by {X} d rows said by = go d.book refl
  where
    go : (b : BookState) → d.book ≡ b → By (if_loaded d.book said) ((20, NoBook d) ∷ rows)
    go unloaded e = met 20 (NoBook d) rows _ e (unloaded_says d.book said (ap none_loaded e))
    go (loaded_with names rules) e =
        unmet 20 (NoBook d) rows _ (λ h. not_unloaded names rules (sym e ∙ h)) (rw (loaded_says d.book said (ap none_loaded e)) by)

-- 20, then 21
pub order_by_lem : {X : Type 0} (d : State) (A : ℕ) (rows : List Row) (fits : Said X) → (A ∈ in_book d.book → By fits rows) → By (in_order d.book A fits) ((20, NoBook d) ∷ (21, NotBelow d A) ∷ rows)
unfolding in_order in_book
order_by_lem {X} d A rows fits by = loaded_by d ((21, NotBelow d A) ∷ rows) _ (go (decided (in_book d.book A)))
  where
    go : (A ∈ in_book d.book) ⊎ (A ∉ in_book d.book) → By (cond (in_book d.book A) fits (refused 21)) ((21, NotBelow d A) ∷ rows)
    go (inl i) =
        let below = ltb-true A (2 * length (its_names d.book)) i in
        unmet 21 (NotBelow d A) rows _ (λ q. omega arith) (rw i (by i))
    go (inr o) = met 21 (NotBelow d A) rows _ (ltb-false A (2 * length (its_names d.book)) o) (rw o refl)

-- ---- two calls, one after the other

-- the conditions of the second call decide where none of the first's is met
pub after_given : {X Y : Type 0} (x : X) (rows : List Row) → By (gives x) rows → (more : List Row) (said : Said Y) → By said more → By said (rows ++ more)
after_given {X} {Y} x rows first more said by = go rows (λ n w. given_refused x n ((first n).1 w))
  where
    go : (rows : List Row) → ((n : ℕ) → First n rows → ⊥) → By said (rows ++ more)
    go [] never = by
    go (row ∷ rows) never =
        let not_met : row.1 → ⊥ = λ c. never row.0 (inl (refl, c)) in
        unmet row.0 row.1 (rows ++ more) said not_met (go rows (λ n w. never n (inr (not_met, w))))

-- and are not looked at where one is
pub after_refused : {X Y : Type 0} (n : ℕ) (rows : List Row) → By {X = X} (refused n) rows → (more : List Row) → By {X = Y} (refused n) (rows ++ more)
after_refused {X} {Y} n rows first more = go rows ((first n).0 refl)
  where
    go : (rows : List Row) → First n rows → By {X = Y} (refused n) (rows ++ more)
    go [] w = absurd w
    go (row ∷ rows) (inl w) = met row.0 row.1 (rows ++ more) _ w.1 (ap refused w.0)
    go (row ∷ rows) (inr w) = unmet row.0 row.1 (rows ++ more) _ w.0 (go rows w.1)

-- ---- the calls

pub change_by : (d : State) (c : Change) → By (change_says d c) (change_rows d c)
unfolding change_says
change_by d c = order_by_lem d (its_literal c) (change_row d c ∷ []) _ (λ i. fits c)
  where
    fits : (c : Change) → By (change_fits c (d.own.put_in (its_literal c))) (change_row d c ∷ [])
    fits (PutIn A) = go (d.own.put_in A) refl
      where
        go : (t : Bool) → d.own.put_in A ≡ t → By (change_fits (PutIn A) t) ((22, A ∈ d.own.put_in) ∷ [])
        go true e = met 22 (A ∈ d.own.put_in) [] _ e refl
        go false e = unmet 22 (A ∈ d.own.put_in) [] _ (λ h. true≢false (sym h ∙ e)) (given_by acknowledged _ refl)
    fits (TakeOut A) = go (d.own.put_in A) refl
      where
        go : (t : Bool) → d.own.put_in A ≡ t → By (change_fits (TakeOut A) t) ((23, A ∉ d.own.put_in) ∷ [])
        go true e = unmet 23 (A ∉ d.own.put_in) [] _ (λ h. true≢false (sym e ∙ h)) (given_by acknowledged _ refl)
        go false e = met 23 (A ∉ d.own.put_in) [] _ e refl

pub search_by : (d : State) (A : ℕ) (k : Tree) (question : Entry) → By (search_says d A k question) (search_rows d A)
unfolding search_says
search_by d A k question = order_by_lem d A [] _ (λ i. given_by _ _ refl)

-- where C has the literals of the contradictory names, 24 is said exactly of these
pub verdict_by : (d : State) (T U C : Set) → C ≡ contradictory_below (length (its_names d.book)) (program_in d) → (A : ℕ) → By (verdict_says d.book T U C A) (verdict_rows d A)
unfolding verdict_says
verdict_by d T U C c A = order_by_lem d A ((24, ContradictoryName P (name_of A)) ∷ []) _ (λ i. rw (contradictory_at d.book P C c A i) (go (contradictory_names P (name_of A)) refl))
  where
    P : Program
    P = program_in d

    go : (t : Bool) → contradictory_names P (name_of A) ≡ t → By (cond t (refused 24) (gives (verdict_in T U A))) ((24, ContradictoryName P (name_of A)) ∷ [])
    go true e = met 24 (ContradictoryName P (name_of A)) [] _ ((contradictory_is P (name_of A)).0 e) refl
    go false e = unmet 24 (ContradictoryName P (name_of A)) [] _ (λ h. true≢false (sym ((contradictory_is P (name_of A)).1 h) ∙ e)) (given_by _ _ refl)

pub model_by : (d : State) (T : Set) → By (model_says d.book T) (book_rows d)
unfolding model_says
model_by d T = loaded_by d [] _ (given_by _ _ refl)

pub working_order_by : (d : State) → By (if_loaded d.book (gives acknowledged)) (book_rows d)
working_order_by d = loaded_by d [] _ (given_by acknowledged _ refl)

pub listing_by_lem : (d : State) (buffer : List ℕ) → By (listing_says d.book (listing_in d) buffer) (listing_rows d buffer)
unfolding listing_says
listing_by_lem d buffer = loaded_by d ((25, length buffer < length (listing_in d)) ∷ []) _ (go (leb (length (listing_in d)) (length buffer)) refl)
  where
    go : (t : Bool) → leb (length (listing_in d)) (length buffer) ≡ t
        → By (cond t (gives (length (listing_in d))) (refused 25)) ((25, length buffer < length (listing_in d)) ∷ [])
    go true e =
        let fits = leb-true (length (listing_in d)) (length buffer) e in
        unmet 25 (length buffer < length (listing_in d)) [] _ (λ h. omega arith) (given_by (length (listing_in d)) _ refl)
    go false e = met 25 (length buffer < length (listing_in d)) [] _ (leb-false (length (listing_in d)) (length buffer) e) refl
