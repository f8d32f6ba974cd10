-- Some lesson begins on each book, and some answer meets the contract of each call that reads.
use mathlib.Core.Path.{◌≡◌, refl, sym, ap}
use mathlib.Core.Bool.{Bool, true, false, cond}
use mathlib.Core.List.{List}
use Prim.Native.Nat.{ℕ}
use native.Mathlib.Omega.{arith}
use lib.Dec.{leb}
use lib.ListN.{length, replicate}
use Rattle.wfsx.specs.Program.{Entry}
use Rattle.wfsx.specs.Model as wfsx
use Rattle.wfsx.specs.Trees.{Tree, answer}
use Rattle.litset.specs.Words.{n_words, set_of, clash_in}
use Rattle.litset.specs.declared.LitSet.{LitSet}
use Rattle.litset.proofs.Words.{set_zeros}
use Rattle.book.specs.Limits.{max_names}
use Rattle.book.specs.Book.{names_of, program_of}
use Rattle.book.specs.declared.Book.{Book}
use Rattle.book.proofs.Counts.{clamp_most}
use Rattle.book.proofs.Heads.{program_heads}
use Rattle.book.proofs.Names.{names_counted}
use Rattle.fixpoint.specs.Result.{verdict_is, verdict_in}
use Rattle.fixpoint.specs.declared.Verdict.{Verdict}
use Rattle.fixpoint.specs.declared.Verdict.TheVariants.{True, False, Undefined}
use Rattle.fixpoint.specs.declared.Values.{Values}
use Rattle.reach.specs.Order.{order_table}
use Rattle.reach.specs.declared.Order.{Order}
use Rattle.fixpoint.proofs.Published.{model_exists}
use Rattle.std.specs.Prelude.{Result, Ok, Err}
use Rattle.lesson.specs.State.{none_loaded, in_force, program_in, gives, refused, told, search_says, verdict_says, model_says, is_clash, order_in, listing_says, buffer_after}
use Rattle.lesson.specs.Calls.{shelf_of, own_of, meaning_of, truths_of, nonfalse_of, contradictory_of, Begins, GivesVerdict, Searches, GivesModel, GivesOrder, GivesGroups, bytes_of, Lists}
use Rattle.lesson.specs.declared.Shelf.{Shelf}
use Rattle.lesson.specs.declared.Lesson.{Lesson}
use Rattle.lesson.specs.declared.Refusal.{Refusal}
use Rattle.lesson.specs.declared.Refusal.TheVariants as refusal
use Rattle.lesson.specs.declared.WholeModel.{WholeModel}
use Rattle.lesson.specs.declared.ModelByGroups.{ModelByGroups}
use Rattle.lesson.proofs.Order.{loaded_says, unloaded_says}
use Rattle.lesson.proofs.Refusals.{Told, loaded_told, order_told_lem}
use Rattle.lesson.proofs.Meaning.{program_is}
use Rattle.lesson.proofs.Marks.{marks_exist}

abbrev none : LitSet
none = record { words = replicate n_words 0 }

pub begin_exists : (b : Book) → (l : Lesson) × Begins b l
begin_exists b =
    let few = clamp_most max_names b.names in
    let m = marks_exist (length (names_of b)) (program_of b (set_of none.words)) (omega (arith, names_counted b)) (program_heads b (set_of none.words)) in
    (record { facts = none; marks = m.0 }, record { none_put_in = set_zeros n_words; marks_are = m.1 })

-- a verdict of the machine for each of the semantics
verdict_for : (v : wfsx.Verdict) → (w : Verdict) × (verdict_is w ≡ v)
verdict_for wfsx.is_true = (True, refl)
verdict_for wfsx.is_false = (False, refl)
verdict_for wfsx.is-undefined = (Undefined, refl)

-- sets that hold M and N of a lesson's program where there is a book
values_for : (s : Shelf) (l : Lesson) → none_loaded (shelf_of s) ≡ false
    → (v : Values) × (set_of v.truths.words ≡ wfsx.M (program_in (meaning_of s l))) × (set_of v.nonfalse.words ≡ wfsx.N (program_in (meaning_of s l)))
values_for s l e =
    let P = program_in (meaning_of s l) in
    let m = model_exists P (rw (program_is s e (own_of l)) at (program_heads s.book (in_force (own_of l)))) in
    (record { truths = m.0.truths; nonfalse = m.0.nonfalse }, m.1.truths, m.1.nonfalse)

module _ (s : Shelf) (l : Lesson) where
  pub verdict_exists : (A : ℕ) → (r : Result Verdict Refusal) × GivesVerdict s l A r
  unfolding verdict_says
  verdict_exists A = let w = order_told_lem verdict_is (shelf_of s) _ (read (contradictory_of l A)) A in (w.0, record { says = w.1 })
    where
      read : (c : Bool) → Told verdict_is (cond c (refused 24) (gives (verdict_in (truths_of l) (nonfalse_of l) A)))
      read true = (Err refusal.ContradictoryName, refl)
      read false = let v = verdict_for (verdict_in (truths_of l) (nonfalse_of l) A) in (Ok v.0, ap gives v.1)

  pub search_exists : (A : ℕ) (k : Tree) (question : Entry) → (r : Result Bool Refusal) × Searches s l A k question r
  unfolding search_says
  search_exists A k question =
      let w = order_told_lem (λ (b : Bool). b) (shelf_of s) (gives (answer (program_in (meaning_of s l)) k question)) (Ok (answer (program_in (meaning_of s l)) k question), refl) A in
      (w.0, record { says = w.1 })

  pub model_reply_exists : (r : Result WholeModel Refusal) × GivesModel s l r
  unfolding model_says
  model_reply_exists = go (none_loaded (shelf_of s)) refl
    where
      go : (t : Bool) → none_loaded (shelf_of s) ≡ t → (r : Result WholeModel Refusal) × GivesModel s l r
      go true e = (Err refusal.NoBook, record { says = sym (unloaded_says (shelf_of s) _ e); gives_it = record {} })
      go false e = (
        Ok (record { model = l.marks.model; contradictory = is_clash (clash_in (truths_of l)) }),
        record { says = sym (loaded_says (shelf_of s) _ e); gives_it = record { truths = refl; nonfalse = refl; rounds = refl } },
      )

  pub order_exists : (r : Result Order Refusal) × GivesOrder s r
  order_exists = go (none_loaded (shelf_of s)) refl
    where
      go : (t : Bool) → none_loaded (shelf_of s) ≡ t → (r : Result Order Refusal) × GivesOrder s r
      go true e = (Err refusal.NoBook, record { says = sym (unloaded_says (shelf_of s) _ e); gives_it = record {} })
      go false e = (Ok (order_table (order_in (shelf_of s))), record { says = sym (loaded_says (shelf_of s) _ e); gives_it = refl })

  pub groups_exists : (r : Result ModelByGroups Refusal) × GivesGroups s l r
  unfolding model_says
  groups_exists = go (none_loaded (shelf_of s)) refl
    where
      go : (t : Bool) → none_loaded (shelf_of s) ≡ t → (r : Result ModelByGroups Refusal) × GivesGroups s l r
      go true e = (Err refusal.NoBook, record { says = sym (unloaded_says (shelf_of s) _ e); gives_it = record {} })
      go false e =
          let v = values_for s l e in (
            Ok (record { values = v.0; contradictory = is_clash (clash_in (wfsx.M (program_in (meaning_of s l)))) }),
            record { says = sym (loaded_says (shelf_of s) _ e); gives_it = record { truths = v.1; nonfalse = v.2 } },
          )

  pub listing_exists : (buffer : List ℕ) → (r : Result ℕ Refusal) × (after : List ℕ) × Lists s l buffer r after
  unfolding listing_says
  listing_exists buffer =
      let w = loaded_told (λ (n : ℕ). n) (shelf_of s) _ (fits (leb (length (bytes_of s l)) (length buffer))) in
      (w.0, buffer_after (bytes_of s l) buffer (told w.0), record { says = w.1; buffer = refl })
    where
      fits : (t : Bool) → Told (λ (n : ℕ). n) (cond t (gives (length (bytes_of s l))) (refused 25))
      fits true = (Ok (length (bytes_of s l)), refl)
      fits false = (Err refusal.TooShort, refl)
