-- What a reply is once the tests of a call have picked an arm, over plain values: the calls' proofs cite these.
use mathlib.Core.Path.{◌≡◌, refl, sym, ◌∙◌, ap}
use mathlib.Core.Bool.{Bool, true, false, cond}
use mathlib.Core.List.{List}
use lib.Dec.{leb}
use lib.ListN.{length}
use Prim.Native.Nat.{ℕ, ◌*◌, ◌≤◌, ◌<◌}
use native.Mathlib.Omega.{arith}
use Rattle.wfsx.specs.Sets.{Set}
use Rattle.wfsx.specs.Program.{Entry, Program}
use Rattle.wfsx.specs.Model.{M, N}
use Rattle.wfsx.specs.Groups.{working_order}
use Rattle.wfsx.specs.Trees as trees
use Rattle.wfsx.specs.Trees.{answer}
use Rattle.litset.specs.Words.{capacity, set_of, with, without, clash_in}
use Rattle.litset.specs.declared.LitSet.{LitSet}
use Rattle.litset.proofs.Words.{with_room}
use Rattle.book.specs.Limits.{max_names}
use Rattle.book.specs.Book.{clamp, names_of, rules_of, program_of}
use Rattle.book.proofs.Names.{names_counted}
use Rattle.fixpoint.specs.Result.{verdict_is, verdict_in}
use Rattle.fixpoint.specs.declared.Values.{Values}
use Rattle.fixpoint.specs.declared.Verdict.{Verdict}
use Rattle.reach.specs.Order.{order_table}
use Rattle.reach.specs.declared.Order.{Order}
use Rattle.groups.specs.Whole.{WholeOf}
use Rattle.lister.specs.Listing as lister
use Rattle.lister.specs.Buffer.{Writes}
use Rattle.lister.specs.declared.Marks.{Marks}
use Rattle.std.specs.Prelude.{Option}
use Rattle.std.specs.Prelude.{None, Some}
use Rattle.lister.proofs.Calls.{was_written, was_short}
use Rattle.lister.proofs.Lines.{listing_room}
use Rattle.std.specs.Prelude.{Ok, Err}
use Rattle.lesson.specs.State.{BookState, its_names, in_force, Said, gives, refused, number_of, Ack, acknowledged, none_loaded, if_loaded, in_order, its_literal, change_fits, change_says, changed_set, changed, search_says, verdict_says, is_clash, model_says, program_in, order_in, listing_from, listing_says}
use Rattle.lesson.specs.Calls.{shelf_of, own_of, meaning_of, truths_of, nonfalse_of, contradictory_of, MarksAfter, Changes, GivesVerdict, Searches, GivesModel, GivesOrder, GivesGroups, bytes_of, Lists}
use Rattle.lesson.specs.declared.Shelf.{Shelf}
use Rattle.lesson.specs.declared.Lesson.{Lesson}
use Rattle.lesson.specs.declared.Change.{Change}
use Rattle.lesson.specs.declared.Change.TheVariants.{PutIn, TakeOut}
use Rattle.lesson.specs.declared.Refusal.{Refusal}
use Rattle.lesson.specs.declared.Refusal.TheVariants as refusal
use Rattle.lesson.proofs.Order.{unloaded_says, loaded_says, outside, inside, given_inside, turned_down, turned_loaded, loaded_passed, state_passed, passed}
use Rattle.lesson.proofs.Meaning.{shelf_is, none_loaded_is, loaded_is, literal_outside, literal_inside, inside_room, program_is}

-- ---- the lesson

pub force_is : (l : Lesson) → set_of l.facts.words ≡ in_force (own_of l)
unfolding in_force own_of
force_is l = refl

pub own_with : (l : Lesson) (F : Set) → set_of l.facts.words ≡ F → own_of l ≡ record { put_in = F }
unfolding own_of
own_with l F e = ap (λ (S : Set). record { put_in = S }) e

-- ---- 20 and 21

module _ (s : Shelf) where
  pub shelf_20 : s.loaded ≡ 0 → refused 20 ≡ if_loaded (shelf_of s) (gives acknowledged)
  shelf_20 e = sym (unloaded_says (shelf_of s) (gives acknowledged) (none_loaded_is s e))

  pub shelf_given : (s.loaded ≡ 0 → ⊥) → gives acknowledged ≡ if_loaded (shelf_of s) (gives acknowledged)
  shelf_given e = sym (loaded_says (shelf_of s) (gives acknowledged) (loaded_is s e))

  module _ (A : ℕ) where
    pub literal_20 : (n : ℕ) → refused n ≡ if_loaded (shelf_of s) (gives acknowledged) → refused n ≡ in_order (shelf_of s) A (gives acknowledged)
    unfolding in_order
    literal_20 n e = turned_loaded (shelf_of s) n e _

    module _ (e : gives acknowledged ≡ if_loaded (shelf_of s) (gives acknowledged)) (n : ℕ) (count : n ≡ clamp max_names s.book.names) where
      pub literal_21 : 2 * n ≤ A → refused 21 ≡ in_order (shelf_of s) A (gives acknowledged)
      literal_21 h = let some = loaded_passed (shelf_of s) e in sym (outside (shelf_of s) A _ some (literal_outside s some A n count h))

      pub literal_given : A < 2 * n → gives acknowledged ≡ in_order (shelf_of s) A (gives acknowledged)
      literal_given h = let some = loaded_passed (shelf_of s) e in sym (inside (shelf_of s) A _ some (literal_inside s some A n count h))

-- ---- putting in and taking out

module _ (c : Change) (A : ℕ) (S W : Set) where
  pub put_in_set : c ≡ PutIn A → its_literal c < capacity → W ≡ with A S → W ≡ changed_set c S
  put_in_set e h w = w ∙ with_room A S (rw e at h) ∙ rw e refl

  pub taken_out_set : c ≡ TakeOut A → W ≡ without A S → W ≡ changed_set c S
  taken_out_set e w = w ∙ rw e refl

module _ (s : Shelf) (l : Lesson) (c : Change) (A : ℕ) (is : A ≡ its_literal c) where
  abbrev fits : Said Ack
  fits = change_fits c (set_of l.facts.words (its_literal c))

  says_fits : in_order (shelf_of s) A fits ≡ change_says (meaning_of s l) c
  unfolding change_says own_of
  says_fits = ap (λ (B : ℕ). in_order (shelf_of s) B fits) is

  pub change_turned : (n : ℕ) → refused n ≡ in_order (shelf_of s) A (gives acknowledged) → refused n ≡ change_says (meaning_of s l) c
  change_turned n e = turned_down (shelf_of s) A n e fits ∙ says_fits

  pub change_fitting : gives acknowledged ≡ in_order (shelf_of s) A (gives acknowledged) → (now : Bool) → now ≡ set_of l.facts.words A
      → (said : Said Ack) → said ≡ change_fits c now → said ≡ change_says (meaning_of s l) c
  change_fitting e now h said f =
      f ∙ ap (change_fits c) (h ∙ ap (set_of l.facts.words) is) ∙ sym (passed (shelf_of s) A e fits) ∙ says_fits

module _ (s : Shelf) (l : Lesson) (c : Change) where
  pub change_refused : (e : Refusal) → refused (number_of e) ≡ change_says (meaning_of s l) c → Changes s l c (Err e) l
  change_refused e h = record { says = h; leaves = refl }

  module _ (e : gives acknowledged ≡ change_says (meaning_of s l) c) where
    accepted : (none_loaded (shelf_of s) ≡ false) × (its_literal c < capacity)
    unfolding change_says
    accepted =
        let given = given_inside (shelf_of s) (its_literal c) _ acknowledged (sym e) in
        (given.0, inside_room s (its_literal c) given.1)

    pub change_room : its_literal c < capacity
    change_room = accepted.1

    pub change_done : (facts : LitSet) (m : Marks) → set_of facts.words ≡ changed_set c (set_of l.facts.words)
        → (F : Set) → F ≡ in_force (own_of (record { facts = facts; marks = l.marks })) → MarksAfter l F (length (names_of s.book)) (program_of s.book F) m
        → Changes s l c (Ok tt) (record { facts = facts; marks = m })
    unfolding own_of
    change_done facts m is F force after =
        let own = own_with (record { facts = facts; marks = m }) _ is in
        let same : F ≡ in_force (changed c (own_of l)) = force ∙ ap in_force own in
        let names : length (names_of s.book) ≡ length (its_names (shelf_of s)) = sym (ap (λ (b : BookState). length (its_names b)) (shelf_is s accepted.0)) in
        record {
          says = e;
          leaves =
              record {
                own_is = own;
                marks_are = rw (program_is s accepted.0 (changed c (own_of l)), names) at (rw same at after);
              };
        }

-- ---- verdict and search

module _ (s : Shelf) (l : Lesson) (A : ℕ) where
  module _ (e : Refusal) (h : refused (number_of e) ≡ in_order (shelf_of s) A (gives acknowledged)) where
    pub verdict_state : GivesVerdict s l A (Err e)
    unfolding verdict_says
    verdict_state = record { says = turned_down (shelf_of s) A (number_of e) h _ }

    pub search_state : (k : trees.Tree) (question : Entry) → Searches s l A k question (Err e)
    unfolding search_says
    search_state k question = record { says = turned_down (shelf_of s) A (number_of e) h _ }

  module _ (e : gives acknowledged ≡ in_order (shelf_of s) A (gives acknowledged)) where
    pub search_given : (k : trees.Tree) (question : Entry) (F : Set) → F ≡ in_force (own_of l) → (holds : Bool) → holds ≡ answer (program_of s.book F) k question
        → Searches s l A k question (Ok holds)
    unfolding search_says
    search_given k question F force holds h =
        let same = program_is s (state_passed (shelf_of s) A e).0 (own_of l) in
        record {
          says =
              ap gives (h ∙ ap (λ (G : Set). answer (program_of s.book G) k question) force ∙ ap (λ (Q : Program). answer Q k question) same)
              ∙ sym (passed (shelf_of s) A e _);
        }

    module _ (found : Bool) (f : found ≡ contradictory_of l A) where
      says_by : (b : Bool) → found ≡ b
          → verdict_says (shelf_of s) (truths_of l) (nonfalse_of l) (contradictory_of l) A ≡ cond b (refused 24) (gives (verdict_in (truths_of l) (nonfalse_of l) A))
      unfolding verdict_says
      says_by b h = passed (shelf_of s) A e _ ∙ ap (λ (x : Bool). cond x (refused 24) (gives (verdict_in (truths_of l) (nonfalse_of l) A))) (sym f ∙ h)

      pub verdict_24 : found ≡ true → GivesVerdict s l A (Err refusal.ContradictoryName)
      verdict_24 h = record { says = sym (says_by true h) }

      pub verdict_given : found ≡ false → (v : Verdict) → verdict_is v ≡ verdict_in (truths_of l) (nonfalse_of l) A → GivesVerdict s l A (Ok v)
      verdict_given h v w = record { says = ap gives w ∙ sym (says_by false h) }

-- ---- model

module _ (s : Shelf) (l : Lesson) where
  module _ (e : Refusal) (h : refused (number_of e) ≡ if_loaded (shelf_of s) (gives acknowledged)) where
    pub model_state : GivesModel s l (Err e)
    unfolding model_says
    model_state = record { says = turned_loaded (shelf_of s) (number_of e) h _; gives_it = record {} }

    pub order_state : GivesOrder s (Err e)
    order_state = record { says = turned_loaded (shelf_of s) (number_of e) h _; gives_it = record {} }

    pub groups_state : GivesGroups s l (Err e)
    unfolding model_says
    groups_state = record { says = turned_loaded (shelf_of s) (number_of e) h _; gives_it = record {} }

  module _ (e : gives acknowledged ≡ if_loaded (shelf_of s) (gives acknowledged)) where
    pub model_given : (c : Bool) → c ≡ is_clash (clash_in (truths_of l)) → GivesModel s l (Ok (record { model = l.marks.model; contradictory = c }))
    unfolding model_says
    model_given c h =
        record { says = ap gives h ∙ sym (loaded_says (shelf_of s) _ (loaded_passed (shelf_of s) e)); gives_it = record { truths = refl; nonfalse = refl; rounds = refl } }

    -- working order, model by groups

    pub order_given : (o : Order) → o ≡ order_table (working_order (rules_of s.book) (clamp max_names s.book.names)) → GivesOrder s (Ok o)
    unfolding order_in
    order_given o h =
        record {
          says = sym (loaded_says (shelf_of s) _ (loaded_passed (shelf_of s) e));
          gives_it = h ∙ rw (shelf_is s (loaded_passed (shelf_of s) e), names_counted s.book) refl;
        }

    pub groups_given : (F : Set) → F ≡ in_force (own_of l) → (v : Values) → WholeOf (program_of s.book F) v
        → (c : Bool) → c ≡ is_clash (clash_in (set_of v.truths.words)) → GivesGroups s l (Ok (record { values = v; contradictory = c }))
    unfolding model_says
    groups_given F force v h c q =
        let some = loaded_passed (shelf_of s) e in
        let same : program_of s.book F ≡ program_in (meaning_of s l) = ap (program_of s.book) force ∙ program_is s some (own_of l) in
        let truths = h.truths ∙ ap M same in
        record {
          says = ap gives (q ∙ ap (λ (T : Set). is_clash (clash_in T)) truths) ∙ sym (loaded_says (shelf_of s) _ some);
          gives_it = record { truths = truths; nonfalse = h.nonfalse ∙ ap N same };
        }

-- ---- listing

bytes_are : (s : Shelf) (l : Lesson) → none_loaded (shelf_of s) ≡ false → (facts : LitSet) → set_of facts.words ≡ in_force (own_of l) → lister.listing_held s.book facts l.marks ≡ bytes_of s l
unfolding listing_from
bytes_are s l e facts force = rw (force, shelf_is s e) refl

-- no listing is longer
pub bytes_most : (s : Shelf) (l : Lesson) → none_loaded (shelf_of s) ≡ false → l.marks.model.rounds ≤ capacity → length (bytes_of s l) ≤ 65536
bytes_most s l e few =
    let same = bytes_are s l e l.facts (force_is l) in
    omega (arith, ap length same, (listing_room s.book l.facts l.marks (omega arith)).fits)

module _ (s : Shelf) (l : Lesson) (before : List ℕ) where
  pub listing_state : (e : Refusal) → refused (number_of e) ≡ if_loaded (shelf_of s) (gives acknowledged) → Lists s l before (Err e) before
  unfolding listing_says
  listing_state e h = record { says = turned_loaded (shelf_of s) (number_of e) h _; buffer = refl }

  module _ (e : gives acknowledged ≡ if_loaded (shelf_of s) (gives acknowledged)) (facts : LitSet) (force : set_of facts.words ≡ in_force (own_of l)) (after : List ℕ) (w : Option ℕ)
      (h : Writes (lister.listing_held s.book facts l.marks) before w after) where
    writes : Writes (bytes_of s l) before w after
    writes = rw (bytes_are s l (loaded_passed (shelf_of s) e) facts force) at h

    says_by_length : (t : Bool) → leb (length (bytes_of s l)) (length before) ≡ t
        → listing_says (shelf_of s) (bytes_of s l) before ≡ cond t (gives (length (bytes_of s l))) (refused 25)
    unfolding listing_says
    says_by_length t q = loaded_says (shelf_of s) _ (loaded_passed (shelf_of s) e) ∙ rw q refl

    pub listing_length : (n : ℕ) → w ≡ Some n → Lists s l before (Ok n) after
    listing_length n q =
        let was = was_written writes n q in
        record { says = sym (says_by_length true was.0 ∙ ap gives was.1); buffer = was.2 }

    pub listing_25 : w ≡ None → Lists s l before (Err refusal.TooShort) after
    listing_25 q =
        let was = was_short writes q in
        record { says = sym (says_by_length false was.0); buffer = was.1 }
