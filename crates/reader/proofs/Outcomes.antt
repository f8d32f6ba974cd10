-- What the reader leaves in memory. The answer says which outcome the file has, and the tables of an accepted file give back its names and rules, since they
-- are within the limits.
use mathlib.Core.Path.{◌≡◌, refl, sym, ap, ◌∙◌}
use mathlib.Core.Bool.{Bool, true, false, cond, true≢false}
use mathlib.Core.List.{List}
use Prim.Native.Nat.{ℕ, zero, suc, ◌≤◌}
use lib.Dec.{eqb}
use native.Mathlib.Omega.{arith}
use Rattle.wfsx.specs.Program.{Rule}
use Rattle.scan.proofs.Names.{name_fits}
use Rattle.scan.specs.declared.Alphabet.TheVariants.{EitherCase}
use Rattle.book.specs.Book.{names_of, rules_of, book_of}
use Rattle.book.specs.declared.Book.{Book}
use Rattle.book.proofs.Back.{Storable, book_names, book_rules}
use Rattle.reader.specs.File.{Outcome, accepted, refused, read_file}
use Rattle.reader.specs.Loading.{number_of, RefusedAs, WasAccepted, LoadedAs}
use Rattle.reader.specs.declared.Fault.{Fault}
use Rattle.reader.specs.declared.Fault.TheVariants.{TooLong, StrangeByte, LastLineOpen, FieldsWrong, FormWrong, NameTaken, NameMissing, TableFull, EndNotLast}
use Rattle.reader.specs.declared.Refusal.{Refusal}
use Rattle.reader.proofs.Conditions.{refused_numbers}
use Rattle.std.proofs.Common.{Result, Ok, Err}
use Rattle.reader.proofs.Within.{Within, accepted_within}

-- ---- the names and rules of an accepted file

module _ (file : List ℕ) (names : List (List ℕ)) (rules : List Rule) (e : read_file EitherCase file ≡ accepted names rules) where
  within : Within (record { names = names; rules = rules; ended = true })
  within = accepted_within file names rules e

  storable : Storable rules
  storable =
      record {
        heads_fit = λ r i. let h = within.heads_known r i in let few = within.few_names in omega arith;
        entries_fit = λ r i x j. let h = within.entries_known r i x j in let few = within.few_names in omega arith;
      }

  pub names_loaded : names_of (book_of names rules) ≡ names
  names_loaded = book_names names rules (λ n i. (name_fits EitherCase n (within.names_fit n i)).1) within.few_names

  pub rules_loaded : rules_of (book_of names rules) ≡ rules
  rules_loaded = book_rules names rules storable within.few_rules

-- ---- the outcome by the answer

-- the fault that has a number
numbered : ℕ → Fault
numbered n =
    cond (eqb n 1) TooLong (
    cond (eqb n 2) StrangeByte (
    cond (eqb n 3) LastLineOpen (
    cond (eqb n 4) FieldsWrong (
    cond (eqb n 5) FormWrong (
    cond (eqb n 6) NameTaken (
    cond (eqb n 7) NameMissing (
    cond (eqb n 8) TableFull (EndNotLast))))))))

numbered_back : (f : Fault) → numbered (number_of f) ≡ f
unfolding numbered
numbered_back TooLong = refl
numbered_back StrangeByte = refl
numbered_back LastLineOpen = refl
numbered_back FieldsWrong = refl
numbered_back FormWrong = refl
numbered_back NameTaken = refl
numbered_back NameMissing = refl
numbered_back TableFull = refl
numbered_back EndNotLast = refl

-- faults with the same number are the same
pub number_same : (f g : Fault) → number_of f ≡ number_of g → f ≡ g
number_same f g e = sym (numbered_back f) ∙ ap numbered e ∙ numbered_back g

is_accepted : Outcome → Bool
is_accepted (accepted names rules) = true
is_accepted (refused k line) = false

pub refused_accepted : (k line : ℕ) (names : List (List ℕ)) (rules : List Rule) → ◌≡◌ {A = Outcome} (refused k line) (accepted names rules) → ⊥
unfolding is_accepted
refused_accepted k line names rules e = true≢false (sym (ap is_accepted e))

pub refused_same : (a b : Refusal) (o : Outcome) → RefusedAs o a → RefusedAs o b → a ≡ b
refused_same a b o p q =
    let e : ◌≡◌ {A = Outcome} (refused (number_of a.fault) a.line) (refused (number_of b.fault) b.line) = sym p ∙ q in
    let numbers : number_of a.fault ≡ number_of b.fault = cc in
    let lines : a.line ≡ b.line = cc in
    rw (number_same a.fault b.fault numbers, lines) refl

accepted_same : (o : Outcome) (a b : Book) → WasAccepted o a → WasAccepted o b → a ≡ b
accepted_same o a b p q =
    let e : ◌≡◌ {A = Outcome} (accepted p.names p.rules) (accepted q.names q.rules) = sym p.outcome ∙ q.outcome in
    let names : p.names ≡ q.names = cc in
    let rules : p.rules ≡ q.rules = cc in
    p.book_is ∙ rw (names, rules) refl ∙ sym q.book_is

-- a file's outcome settles what a load answers
pub loaded_same : (o : Outcome) (a b : Result Book Refusal) → LoadedAs o a → LoadedAs o b → a ≡ b
loaded_same o (Ok a) (Ok b) p q = ap Ok (accepted_same o a b p q)
loaded_same o (Ok a) (Err b) p q = absurd (refused_accepted (number_of b.fault) b.line p.names p.rules (sym q ∙ p.outcome))
loaded_same o (Err a) (Ok b) p q = absurd (refused_accepted (number_of a.fault) a.line q.names q.rules (sym p ∙ q.outcome))
loaded_same o (Err a) (Err b) p q = ap Err (refused_same a b o p q)

-- there is a fault with each number that a file is refused by, and so an answer for each file
pub fault_numbered : (k : ℕ) → 1 ≤ k → k ≤ 9 → (f : Fault) × (number_of f ≡ k)
fault_numbered zero h l = absurd (omega arith)
fault_numbered (suc zero) h l = (TooLong, refl)
fault_numbered (suc (suc zero)) h l = (StrangeByte, refl)
fault_numbered (suc (suc (suc zero))) h l = (LastLineOpen, refl)
fault_numbered (suc (suc (suc (suc zero)))) h l = (FieldsWrong, refl)
fault_numbered (suc (suc (suc (suc (suc zero))))) h l = (FormWrong, refl)
fault_numbered (suc (suc (suc (suc (suc (suc zero)))))) h l = (NameTaken, refl)
fault_numbered (suc (suc (suc (suc (suc (suc (suc zero))))))) h l = (NameMissing, refl)
fault_numbered (suc (suc (suc (suc (suc (suc (suc (suc zero)))))))) h l = (TableFull, refl)
fault_numbered (suc (suc (suc (suc (suc (suc (suc (suc (suc zero))))))))) h l = (EndNotLast, refl)
fault_numbered (suc (suc (suc (suc (suc (suc (suc (suc (suc (suc k)))))))))) h l = absurd (omega arith)

pub loaded_exists : (file : List ℕ) → (r : Result Book Refusal) × LoadedAs (read_file EitherCase file) r
loaded_exists file = go (read_file EitherCase file) refl
  where
    go : (o : Outcome) → read_file EitherCase file ≡ o → (r : Result Book Refusal) × LoadedAs o r
    go (accepted names rules) e = (Ok (book_of names rules), record { names = names; rules = rules; outcome = refl; book_is = refl })
    go (refused k at) e =
        let within = refused_numbers file k at e in
        let fault = fault_numbered k within.0 within.1 in
        (Err (record { fault = fault.0; line = at }), rw fault.1 refl)
