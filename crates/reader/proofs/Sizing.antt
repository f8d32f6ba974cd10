-- Sizing answers what loading answers, with the figures of the book that loading leaves: an accepted file is within the tables, so the tables of its book give
-- back its names and rules.
use mathlib.Core.Path.{◌≡◌, refl, sym, ap, ◌∙◌, subst}
use mathlib.Core.Logic.{◌↔◌}
use mathlib.Core.List.{List, []}
use Prim.Native.Nat.{ℕ}
use lib.ListN.{length}
use Rattle.std.proofs.Common.{Result, Ok, Err}
use Rattle.wfsx.specs.Program.{Rule}
use Rattle.scan.specs.declared.Alphabet.TheVariants.{EitherCase}
use Rattle.book.specs.Book.{book_of}
use Rattle.book.specs.declared.Book.{Book}
use Rattle.reader.specs.File.{Outcome, accepted, body_literals, read_file}
use Rattle.reader.specs.Loading.{number_of, LoadedAs}
use Rattle.reader.specs.Sizing.{figures_of, WasSized, SizedAs, loaded_size}
use Rattle.reader.specs.declared.Refusal.{Refusal}
use Rattle.reader.specs.declared.Sizes.{Sizes}
use Rattle.reader.proofs.NoBytes.{no_bytes}
use Rattle.reader.proofs.Outcomes.{names_loaded, rules_loaded, refused_accepted, refused_same}

sizes_same : (o : Outcome) (a b : Sizes) → WasSized o a → WasSized o b → a ≡ b
sizes_same o a b p q =
    let e : ◌≡◌ {A = Outcome} (accepted p.names p.rules) (accepted q.names q.rules) = sym p.outcome ∙ q.outcome in
    let names : p.names ≡ q.names = cc in
    let rules : p.rules ≡ q.rules = cc in
    p.sizes_are ∙ rw (names, rules) refl ∙ sym q.sizes_are

-- a file's outcome settles what sizing answers
pub sized_same : (o : Outcome) (a b : Result Sizes Refusal) → SizedAs o a → SizedAs o b → a ≡ b
sized_same o (Ok a) (Ok b) p q = ap Ok (sizes_same o a b p q)
sized_same o (Ok a) (Err b) p q = absurd (refused_accepted (number_of b.fault) b.line p.names p.rules (sym q ∙ p.outcome))
sized_same o (Err a) (Ok b) p q = absurd (refused_accepted (number_of a.fault) a.line q.names q.rules (sym p ∙ q.outcome))
sized_same o (Err a) (Err b) p q = ap Err (refused_same a b o p q)

-- ---- the figures of an accepted file

pub accepted_size : (file : List ℕ) (names : List (List ℕ)) (rules : List Rule) → read_file EitherCase file ≡ accepted names rules
    → (r : Result Sizes Refusal) → SizedAs (read_file EitherCase file) r ↔ (r ≡ Ok (figures_of (book_of names rules)))
accepted_size file names rules e r = (λ s. sized_same (read_file EitherCase file) r _ s figures, λ q. subst (SizedAs (read_file EitherCase file)) (sym q) figures)
  where
    figures : WasSized (read_file EitherCase file) (figures_of (book_of names rules))
    figures = record { names = names; rules = rules; outcome = e; sizes_are = rw (names_loaded file names rules e, rules_loaded file names rules e) refl }

pub size_no_bytes : (file : List ℕ) → length file ≡ 0 → (r : Result Sizes Refusal)
    → SizedAs (read_file EitherCase file) r ↔ (r ≡ Ok (record { names = 0; rules = 0; body_literals = 0 }))
unfolding body_literals
size_no_bytes file e r = (λ s. sized_same (read_file EitherCase file) r _ s zeros, λ q. subst (SizedAs (read_file EitherCase file)) (sym q) zeros)
  where
    zeros : WasSized (read_file EitherCase file) (record { names = 0; rules = 0; body_literals = 0 })
    zeros = record { names = []; rules = []; outcome = no_bytes EitherCase file e; sizes_are = refl }

-- whatever loading answers, sizing answers the same with the figures of its book
pub size_as_loaded : (file : List ℕ) (a : Result Book Refusal) (r : Result Sizes Refusal) → LoadedAs (read_file EitherCase file) a → SizedAs (read_file EitherCase file) r → r ≡ loaded_size a
size_as_loaded file (Ok book) r p s = (accepted_size file p.names p.rules p.outcome r).0 s ∙ ap (λ (b : Book). Ok (figures_of b)) (sym p.book_is)
size_as_loaded file (Err a) r p s = sized_same (read_file EitherCase file) r (Err a) s p
