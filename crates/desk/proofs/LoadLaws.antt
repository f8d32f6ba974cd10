-- A desk whose lesson begins on a book is good, and means the book with no facts; so a load keeps its laws.
use mathlib.Core.Path.{◌≡◌, refl, sym, ◌∙◌, ap}
use mathlib.Core.Bool.{Bool, true, false, true≢false}
use mathlib.Core.List.Memᴰ
use mathlib.Core.List.{List, []}
use mathlib.Core.Logic.{◌↔◌}
use Prim.Native.Nat.{ℕ}
use native.Mathlib.Omega.{arith}
use Rattle.wfsx.specs.Program.{Rule}
use Rattle.scan.specs.declared.Alphabet.TheVariants.{EitherCase}
use Rattle.book.specs.Book.{book_of, names_of, rules_of, no_book}
use Rattle.book.specs.declared.Book.{Book}
use Rattle.book.proofs.Back.{book_names, book_rules}
use Rattle.reader.specs.File.{Outcome, accepted, read_file}
use Rattle.reader.specs.File as reader
use Rattle.reader.proofs.Conditions.{refused_exactly}
use Rattle.reader.proofs.Outcomes.{names_loaded, rules_loaded, loaded_exists}
use Rattle.reader.proofs.Within.{accepted_within}
use Rattle.std.specs.Prelude.{Result, Ok, Err, is_ok}
use Rattle.lesson.specs.State.{loaded_with, emptied, State}
use Rattle.lesson.specs.Calls.{shelf_of}
use Rattle.lesson.proofs.Meaning.{shelf_empty, shelf_loaded}
use Rattle.lesson.proofs.Sound.{sound_nothing, sound_book}
use Rattle.lesson.proofs.Standing.{own_begins, begin_empty, begin_loaded}
use Rattle.lesson.proofs.Exists.{begin_exists}
use Rattle.desk.specs.Calls.{state_of, Begun, Fresh, LoadsAs, LoadRefused}
use Rattle.desk.specs.Runs.{load, nothing, after_load, spec_of}
use Rattle.desk.specs.declared.Desk.{Desk}
use Rattle.reader.specs.declared.Refusal.{Refusal}
use Rattle.reader.specs.Loading.{number_of, LoadedAs}
use Rattle.desk.proofs.Laws.{Good, DeskLaws}

-- ---- a desk whose lesson begins

begun_means : (loaded : ℕ) (b : Book) (k : Desk) → Begun loaded b k → ◌≡◌ {A = State} (state_of k) (record { book = shelf_of (record { loaded = loaded; book = b }); own = emptied })
begun_means loaded b k h = rw (h.shelf_is, own_begins b k.lesson h.lesson_begins) refl

some : ◌≡◌ {A = ℕ} 1 0 → ⊥
some e = omega arith

pub fresh_means : (k : Desk) → Fresh k → state_of k ≡ nothing
fresh_means k h = begun_means 0 no_book k h ∙ rw (shelf_empty (record { loaded = 0; book = no_book }) refl) refl

no_names : names_of no_book ≡ []
no_names = book_names [] [] (λ n i. absurd (Memᴰ.not-nil i)) (omega arith)

no_rules : rules_of no_book ≡ []
no_rules = book_rules [] [] (record { heads_fit = λ r i. absurd (Memᴰ.not-nil i); entries_fit = λ r i. absurd (Memᴰ.not-nil i) }) (omega arith)

pub fresh_good : (k : Desk) → Fresh k → Good k
fresh_good k h =
    record {
      sound = rw (fresh_means k h) sound_nothing;
      stands = rw h.shelf_is (begin_empty (record { loaded = 0; book = no_book }) k.lesson h.lesson_begins refl no_names no_rules);
    }

module _ (file : List ℕ) (names : List (List ℕ)) (rules : List Rule) (e : read_file EitherCase file ≡ accepted names rules) (k : Desk) (h : Begun 1 (book_of names rules) k) where
  accepted_means : ◌≡◌ {A = State} (state_of k) (record { book = loaded_with names rules; own = emptied })
  accepted_means =
      begun_means 1 (book_of names rules) k h
      ∙ rw (shelf_loaded (record { loaded = 1; book = book_of names rules }) some, names_loaded file names rules e, rules_loaded file names rules e) refl

  accepted_good : Good k
  accepted_good =
      let w = accepted_within file names rules e in
      record {
        sound = rw accepted_means (sound_book names rules w.few_names w.heads_known w.entries_known);
        stands = rw h.shelf_is (begin_loaded (record { loaded = 1; book = book_of names rules }) k.lesson h.lesson_begins some);
      }

-- ---- a load, by its outcome

ok_or_err : {T E : Type 0} (x : T) (e : E) → ◌≡◌ {A = Result T E} (Ok x) (Err e) → ⊥
ok_or_err x e h = true≢false (ap is_ok h)

refused_outcome : (names : List (List ℕ)) (rules : List Rule) (number line : ℕ) → ◌≡◌ {A = Outcome} (accepted names rules) (reader.refused number line) → ⊥
refused_outcome names rules number line e = true≢false (ap is_accepted e)
  where
    is_accepted : Outcome → Bool
    is_accepted (accepted names rules) = true
    is_accepted (reader.refused number line) = false

module _ (k : Desk) (file : List ℕ) (m : Desk) where
  load_means : (r : Result (Unit {0}) Refusal) → LoadsAs k (read_file EitherCase file) r m → state_of m ≡ after_load (state_of k) (read_file EitherCase file)
  load_means (Ok done) (b, w, begun) = accepted_means file w.names w.rules w.outcome m (rw w.book_is at begun) ∙ sym (ap (after_load (state_of k)) w.outcome)
  load_means (Err f) h = ap state_of h.1 ∙ sym (ap (after_load (state_of k)) h.0)

  load_good : Good k → (r : Result (Unit {0}) Refusal) → LoadsAs k (read_file EitherCase file) r m → Good m
  load_good g (Ok done) (b, w, begun) = accepted_good file w.names w.rules w.outcome m (rw w.book_is at begun)
  load_good g (Err f) h = rw h.1 g

module _ (k : Desk) (o : Outcome) (m : Desk) (number line : ℕ) where
  load_by : (r : Result (Unit {0}) Refusal) → LoadsAs k o r m → LoadRefused number line r ↔ (o ≡ reader.refused number line)
  load_by (Ok done) (b, w, begun) =
      (λ e. absurd (ok_or_err done e.0 e.1), λ e. absurd (refused_outcome w.names w.rules number line (sym w.outcome ∙ e)))
  load_by (Err f) h = (λ e. turned e.0 e.1 e.2 e.3, λ e. (f, refl, numbers (sym h.0 ∙ e), lines (sym h.0 ∙ e)))
    where
      numbers : ◌≡◌ {A = Outcome} (reader.refused (number_of f.fault) f.line) (reader.refused number line) → number_of f.fault ≡ number
      numbers e = cc

      lines : ◌≡◌ {A = Outcome} (reader.refused (number_of f.fault) f.line) (reader.refused number line) → f.line ≡ line
      lines e = cc

      turned : (g : Refusal) → ◌≡◌ {A = Result (Unit {0}) Refusal} (Err f) (Err g) → number_of g.fault ≡ number → g.line ≡ line → o ≡ reader.refused number line
      turned g e n l =
          let same : f ≡ g = cc in
          h.0 ∙ rw (same, n, l) refl

  load_kept : (r : Result (Unit {0}) Refusal) → LoadsAs k o r m → LoadRefused number line r → m ≡ k
  load_kept (Ok done) h e = absurd (ok_or_err done e.0 e.1)
  load_kept (Err f) h e = h.1

load_exists : (k : Desk) (file : List ℕ) → (r : Result (Unit {0}) Refusal × Desk) × LoadsAs k (read_file EitherCase file) r.0 r.1
load_exists k file = let w = loaded_exists file in go w.0 w.1
  where
    go : (q : Result Book Refusal) → LoadedAs (read_file EitherCase file) q → (r : Result (Unit {0}) Refusal × Desk) × LoadsAs k (read_file EitherCase file) r.0 r.1
    go (Ok b) w =
        let l = begin_exists b in
        ((Ok tt, record { shelf = record { loaded = 1; book = b }; lesson = l.0 }), (b, w, record { shelf_is = refl; lesson_begins = l.1 }))
    go (Err f) h = ((Err f, k), (h, refl))

pub load_laws : (file : List ℕ) → DeskLaws (spec_of (load file))
load_laws file =
    record {
      means = λ k r g h. load_means k file r.1 r.0 h;
      good = λ k r g h. load_good k file r.1 g r.0 h;
      exactly = λ k r g h number line.
          let a = load_by k (read_file EitherCase file) r.1 number line r.0 h in
          let b = refused_exactly file number line in
          (λ q. b.0 (a.0 q), λ q. a.1 (b.1 q));
      kept = λ k r h number line e. (load_kept k (read_file EitherCase file) r.1 number line r.0 h e, record {});
      replies = λ k g. load_exists k file;
    }

-- ---- the code's load, by what was read

module _ (k : Desk) (o : Outcome) where
  pub load_accepted : (b : Book) → LoadedAs o (Ok b) → (m : Desk) → Begun 1 b m → LoadsAs k o (Ok tt) m
  load_accepted b h m begun = (b, h, begun)

  pub load_refused : (f : Refusal) → LoadedAs o (Err f) → LoadsAs k o (Err f) k
  load_refused f h = (h, refl)
