-- `known_of`: the name is what is left behind the marks, and the look-up of its key settles the rest.
use mathlib.Core.Path.{◌≡◌, sym, ap, ap₂, ◌∙◌}
use mathlib.Core.List.{List}
use Prim.Native.Nat.{ℕ}
use lib.ListN.{length}
use Rattle.scan.specs.Text.{name_of}
use Rattle.scan.specs.declared.Alphabet.TheVariants.{EitherCase}
use Rattle.scan.proofs.Forms.{name_from}
use Rattle.book.specs.Book.{find}
use Rattle.keys.specs.Keyed.{Keyed}
use borrow.Author.Rules.{rules}
use Rattle.std.specs.Prelude.{None, Some}
use Rattle.reader.specs.Steps.{known_by}
use Rattle.reader.proofs.Fields.{known_none, known_some, known_small, none_some}
use Rattle.reader.proofs.known_of.Goals as goal
use Rattle.reader.proofs.known_of.Goals.{After-find}

-- the name looked up is the field's
found : (c : After-find) (names : List (List ℕ)) → Keyed names c.args.names.now.keys → c.args.count ≡ length names → find EitherCase names (name_of c.args.f.now) ≡ c.find.result
found c names t e =
    let m = c.marks_of-m in
    let key = c.key_of-key.ensures in
    ap (find EitherCase names) (name_from c.args.f.now m.result m.ensures.0 m.ensures.1)
    ∙ sym (c.find.ensures.found names _ t e (record { key_is = key.0; bytes = key.1 }))

pub returns-in_err-i : goal.returns-in_err-i
returns-in_err-i c =
    let none : c.from_residual.result ≡ None = search rules in
    record {
      small = λ k e. absurd (none_some (sym none ∙ e));
      known = λ names t e. none ∙ sym (known_none names _ (found (goal.at.returns-in_err-i c).After-find names t e ∙ c.in_err-i.was));
    }

pub returns : goal.returns
returns c =
    let m = c.marks_of-m in
    let i = c.in_ok-i.i in
    let marks = ap₂ (λ (x y : ℕ). known_by (Some i) y x) m.ensures.1 m.ensures.0 in
    record {
      small = λ k e. known_small c.args.f.now i _ k (c.find.ensures.below i c.in_ok-i.was) (sym marks ∙ e);
      known = λ names t e. marks ∙ sym (known_some names _ i (found (goal.at.returns c).After-find names t e ∙ c.in_ok-i.was));
    }
