-- What every model call, listing and preview of a run answers: the sets that stand are M and N of the list's program, so the model call gives them, and the
-- bytes that a listing writes from them are the listing of the list's book and facts. Those of the copy that a preview lists are M and N of the changed program.
use mathlib.Core.Path.{◌≡◌, refl, sym, ◌∙◌, ap}
use mathlib.Core.Bool.{Bool, true, false, true≢false}
use mathlib.Core.Logic.{inl}
use mathlib.Core.List.{List, [], ◌∷◌, ◌++◌}
use Prim.Native.Nat.{ℕ, ◌≤◌}
use lib.ListN.{length}
use Rattle.wfsx.specs.Sets.{Set}
use Rattle.wfsx.specs.Model.{M, N}
use Rattle.wfsx.specs.Groups.{leaders}
use Rattle.wfsx.proofs.Order.{in_order, order_is}
use Rattle.litset.specs.Words.{clash_in}
use Rattle.fixpoint.proofs.Published.{no_clash, clash_name}
use Rattle.reach.specs.Order.{order_table}
use Rattle.reader.specs.Conditions.{First}
use Rattle.std.specs.Prelude.{Option, None, Some, Result, Ok, Err}
use Rattle.std.proofs.lemmas.Result.{IfOk-at_ok}
use Rattle.reach.specs.declared.Order.{Order}
use Rattle.lesson.specs.State.{number_of, told, told_done, BookState, unloaded, loaded_with, State, none_loaded, in_book, program_in, listing_in, Said, gives, acknowledged, is_clash, model_says, order_in, change_says, state_after, buffer_after}
use Rattle.lesson.specs.Calls.{shelf_of, meaning_of, truths_of, Standing, ThatStands, GivesModel, GivesOrder, ValuesOf, GivesGroups, Lists, bytes_of, FollowedBy, Previews}
use Rattle.lesson.specs.Conditions.{NoBook, change_rows}
use Rattle.lesson.specs.declared.Shelf.{Shelf}
use Rattle.lesson.specs.declared.Lesson.{Lesson}
use Rattle.lesson.specs.declared.Change.{Change}
use Rattle.lesson.specs.declared.Refusal.{Refusal}
use Rattle.lesson.specs.declared.WholeModel.{WholeModel}
use Rattle.lesson.specs.declared.ModelByGroups.{ModelByGroups}
use Rattle.lesson.proofs.Order.{given_same, loaded_says}
use Rattle.lesson.proofs.Refusals.{told_ok}
use Rattle.lesson.proofs.Meaning.{order_of_program}
use Rattle.lesson.proofs.WithBook.{model_loaded, listing_fits, listing_short}
use Rattle.lesson.proofs.Sound.{Sound, heads_in_book, heads_in_room, rounds_in_room}
use Rattle.lesson.proofs.Replies.{bytes_most}
use Rattle.lesson.proofs.Standing.{bytes_stand}
use Rattle.lesson.proofs.Rows.{change_by}
use Rattle.lesson.proofs.Listings.{copy_means, copy_stands}
use Rattle.calls.proofs.Lists.{after_parts}
use Rattle.desk.specs.Calls.{state_of, Fresh}
use Rattle.desk.specs.Runs.{Call, change, nothing, spec_of, left, Run, ConsistencyDue, ModelDue, ListingDue}
use Rattle.desk.specs.Groups.{name_count, OrderDue, GroupsDue}
use Rattle.desk.specs.declared.Desk.{Desk}
use Rattle.desk.proofs.Left.{left_means, left_good, standing_left}
use Rattle.desk.proofs.Exists.{left_sound}

loaded : (d : State) → (NoBook d → ⊥) → none_loaded d.book ≡ false
loaded d some = go d.book some
  where
    go : (b : BookState) → (b ≡ unloaded → ⊥) → none_loaded b ≡ false
    go unloaded n = absurd (n refl)
    go (loaded_with names rules) n = refl

-- ---- the listing call, over a shelf with a book and a lesson whose marks are those of its program

lists_due : (s : Shelf) (l : Lesson) → none_loaded (shelf_of s) ≡ false → Standing s l → (buffer : List ℕ) (r : Result ℕ Refusal) (after : List ℕ) → Lists s l buffer r after
    → ListingDue (meaning_of s l) buffer (told r) after
lists_due s l e stands buffer r after h =
    let bytes = listing_in (meaning_of s l) in
    let says = rw (bytes_stand s l stands) at h.says in
    let leaves = rw (bytes_stand s l stands) at h.buffer in
    record {
      fitting = λ fits. let q = says ∙ listing_fits (shelf_of s) e bytes buffer fits in (q, leaves ∙ ap (buffer_after bytes buffer) q);
      short = λ short. let q = says ∙ listing_short (shelf_of s) e bytes buffer short in (q, leaves ∙ ap (buffer_after bytes buffer) q);
    }

-- ---- the model call

module _ (d : State) (s : Sound d) where
  clash_due : (c : Option ℕ) → clash_in (M (program_in d)) ≡ c → ConsistencyDue d (gives (is_clash c))
  clash_due None e =
      let never = (no_clash (program_in d) (heads_in_room d s) (in_book d.book) (heads_in_book d s)).0 e in
      record { contradictory = (λ q. absurd (true≢false (sym (given_same false true q))), λ c. absurd (never c)); consistent = (λ q. never, λ q. refl) }
  clash_due (Some n) e =
      let c = ((clash_name (program_in d) (heads_in_room d s) (in_book d.book) (heads_in_book d s) n).0 e).0 in
      record { contradictory = (λ q. c, λ q. refl); consistent = (λ q. absurd (true≢false (given_same true false q)), λ never. absurd (never c)) }

module _ (cs : List Call) (start k : Desk) (f : Fresh start) (run : Run start cs k) (some : NoBook (left cs) → ⊥) where
  there : none_loaded (shelf_of k.shelf) ≡ false
  there = ap (λ (d : State). none_loaded d.book) (left_means cs start k f run) ∙ loaded (left cs) some

  -- a call that says of M whether it has a clash says whether the lesson is contradictory
  consistency_due : (T : Set) → T ≡ M (program_in (left cs)) → (said : Said Bool) → said ≡ model_says (shelf_of k.shelf) T → ConsistencyDue (left cs) said
  consistency_due T t said e =
      rw (e ∙ model_loaded (shelf_of k.shelf) there T ∙ ap (λ (S : Set). gives (is_clash (clash_in S))) t) (clash_due (left cs) (left_sound cs) (clash_in (M (program_in (left cs)))) refl)

  -- every model call of a run gives M, N and whether the lesson is contradictory, of the list's program
  pub model_due : (r : Result WholeModel Refusal) → GivesModel k.shelf k.lesson r → ModelDue (left cs) r
  model_due r h =
      let stands = standing_left cs start k f run in
      let w = told_ok (λ (m : WholeModel). m.contradictory) r _ (h.says ∙ model_loaded (shelf_of k.shelf) there (truths_of k.lesson)) in
      let is = IfOk-at_ok (ThatStands k.lesson) w.1 h.gives_it in
      record {
        consistency = consistency_due (truths_of k.lesson) stands.truths _ h.says;
        given = w.0;
        is_given = w.1;
        model_is = record { truths = is.truths ∙ stands.truths; nonfalse = is.nonfalse ∙ stands.nonfalse; rounds = is.rounds ∙ stands.rounds };
      }

  -- every working order of a run is that of the list's program, in which facts alter nothing
  pub order_due : (r : Result Order Refusal) → GivesOrder k.shelf r → OrderDue (left cs) r
  order_due r h =
      let P = program_in (left cs) in
      let n = name_count (left cs) in
      let w = told_ok (λ (table : Order). acknowledged) r _ (h.says ∙ loaded_says (shelf_of k.shelf) (gives acknowledged) there) in
      let is = IfOk-at_ok (λ (table : Order). table ≡ order_table (order_in (shelf_of k.shelf))) w.1 h.gives_it in
      record {
        ones = leaders P n;
        in_order = in_order P n;
        table = w.1 ∙ ap Ok (is ∙ ap (λ (d : State). order_table (order_in d.book)) (left_means cs start k f run)
            ∙ ap order_table (order_of_program (left cs) ∙ order_is P n));
      }

  -- every model by groups of a run is M and N of the list's program
  pub groups_due : (r : Result ModelByGroups Refusal) → GivesGroups k.shelf k.lesson r → GroupsDue (left cs) r
  groups_due r h =
      let same = ap program_in (left_means cs start k f run) in
      let w = told_ok (λ (m : ModelByGroups). m.contradictory) r _ (h.says ∙ model_loaded (shelf_of k.shelf) there (M (program_in (state_of k)))) in
      let is = IfOk-at_ok (ValuesOf (program_in (state_of k))) w.1 h.gives_it in
      record {
        consistency = consistency_due (M (program_in (state_of k))) (ap M same) _ h.says;
        given = w.0;
        is_given = w.1;
        whole = record { truths = is.truths ∙ ap M same; nonfalse = is.nonfalse ∙ ap N same };
      }

  bytes_left : bytes_of k.shelf k.lesson ≡ listing_in (left cs)
  bytes_left = bytes_stand k.shelf k.lesson (left_good cs start k f run).stands ∙ ap listing_in (left_means cs start k f run)

  -- a buffer of this length is enough for every listing
  pub listing_most : length (listing_in (left cs)) ≤ 65536
  listing_most =
      let few = rounds_in_room (left cs) (left_sound cs) in
      rw bytes_left at (bytes_most k.shelf k.lesson there (rw (standing_left cs start k f run).rounds few))

  -- every listing of a run gives the length of the listing of the list's book and facts, and writes it into a buffer that is long enough
  pub listing_due : (buffer : List ℕ) (r : Result ℕ Refusal) (after : List ℕ) → Lists k.shelf k.lesson buffer r after → ListingDue (left cs) buffer (told r) after
  listing_due buffer r after h =
      rw (left_means cs start k f run) at (lists_due k.shelf k.lesson there (left_good cs start k f run).stands buffer r after h)

-- Every preview of a run, where no condition of the change is met, gives and writes what is due of a listing after the same list with the change behind it.
pub preview_due : (cs : List Call) (start k : Desk) → Fresh start → Run start cs k → (c : Change) → ((number : ℕ) → First number (change_rows (left cs) c) → ⊥)
    → (buffer : List ℕ) (r : Result ℕ Refusal) (after : List ℕ) → Previews k.shelf k.lesson c buffer r after
    → ListingDue (left (cs ++ change c ∷ [])) buffer (told r) after
preview_due cs start k f run c never buffer r after h = go h.answer h.changes.says h.followed
  where
    means : state_of k ≡ left cs
    means = left_means cs start k f run

    copy_left : meaning_of k.shelf h.copy ≡ left (cs ++ change c ∷ [])
    copy_left =
        copy_means k.shelf k.lesson c buffer r after h ∙ ap (λ (d : State). state_after d c) means ∙ sym (after_parts spec_of cs (change c ∷ []) nothing)

    go : (a : Result (Unit {0}) Refusal) → told_done a ≡ change_says (state_of k) c → FollowedBy k.shelf a h.copy buffer r after
        → ListingDue (left (cs ++ change c ∷ [])) buffer (told r) after
    go (Ok done) e w =
        let loaded = there cs start k f run (λ none. never 20 (inl (refl, none))) in
        let stands = copy_stands k.shelf k.lesson c buffer r after h (left_good cs start k f run).stands in
        rw copy_left at (lists_due k.shelf h.copy loaded stands buffer r after w)
    go (Err e) h w = absurd (never (number_of e) ((change_by (left cs) c (number_of e)).0 (rw (← means) (sym h))))
