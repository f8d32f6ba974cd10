-- `name_line`: each test that fails settles the fault, in the definition's order; a name that passes them joins the others, its key behind their keys.
use mathlib.Core.Path.{◌≡◌, sym, ap, ◌∙◌, subst}
use Prim.Native.Nat.{◌<◌}
use native.Mathlib.Omega.{arith}
use mathlib.Core.List.{[], ◌∷◌, ◌++◌}
use Rattle.scan.specs.declared.Alphabet.TheVariants.{EitherCase}
use Rattle.scan.specs.declared.Word.TheVariants.{Name}
use Rattle.scan.proofs.Names.{name_fits}
use Rattle.book.specs.Limits.{max_names}
use Rattle.keys.specs.declared.Names.{Names}
use Rattle.keys.specs.Keyed.{KeyFor, Keyed}
use Rattle.keys.proofs.Declared.{keyed_more}
use Rattle.reader.specs.File.{Content, is_found}
use Rattle.reader.specs.Steps.{Holds, word_step}
use Rattle.reader.proofs.Numbers.{name_malformed, name_declared, name_beyond, name_fine}
use Rattle.reader.proofs.Held.{names_held, name_held, name_stored}
use Rattle.reader.proofs.Answers.{line_fault_lem}
use Rattle.reader.specs.declared.Fault.TheVariants.{FormWrong, NameTaken, TableFull}
use Rattle.reader.proofs.name_line.Given.{Over}
use Rattle.reader.proofs.name_line.Goals as goal
use Rattle.reader.proofs.name_line.Goals.{Else-not-is_name, After-find}
use mathlib.Core.Bool.{true}
use Rattle.scan.specs.Text.{is_name}
use Rattle.book.specs.Book.{find}

-- the name is well formed
named : (g : Over) (c : Else-not-is_name g) → is_name EitherCase c.args.name.now ≡ true
named g c = sym c.is_name.ensures ∙ c.if-not-is_name.false

key_for : (g : Over) (c : After-find g) → KeyFor c.key_of-key.result c.args.name.now
key_for g c = record { key_is = c.key_of-key.ensures.0; bytes = c.key_of-key.ensures.1 }

-- the look-up by its key is the look-up among the names
looked_up : (g : Over) (c : After-find g) (d : Content) → Holds d c.args.t c.args.names.now → find EitherCase d.names c.args.name.now ≡ c.find.result
looked_up g c d h = sym (c.find.ensures.found d.names _ h.keyed (names_held h) (key_for g c))

pub returns-then-not-is_name : goal.returns-then-not-is_name
returns-then-not-is_name g c =
    λ d h. line_fault_lem (word_step d Name _) FormWrong (name_malformed h.counted c.requires.1 _ (sym c.is_name.ensures ∙ c.if-not-is_name.true))

pub returns-in_default : goal.returns-in_default
returns-in_default g c =
    let at = goal.at.returns-in_default g c in
    λ d h. line_fault_lem (word_step d Name _) NameTaken
    (name_declared h.counted c.requires.1 _ (named g at.Else-not-is_name) (ap is_found (looked_up g at.After-find d h ∙ c.in_default.is)))

pub returns-then-full : goal.returns-then-full
returns-then-full g c =
    let at = goal.at.returns-then-full g c in
    λ d h. line_fault_lem (word_step d Name _) TableFull
    (name_beyond h.counted c.requires.1 _ (named g at.Else-not-is_name) (ap is_found (looked_up g at.After-find d h ∙ c.in-None.is)) (omega (arith, c.if-full.true)))

pub put_name-requires : goal.put_name-requires
put_name-requires g c = (omega (arith, c.if-full.false), (name_fits EitherCase _ (named g (goal.at.put_name-requires g c).Else-not-is_name)).1)

pub returns : goal.returns
returns g c =
    let at = goal.at.returns g c in
    let fine = named g at.Else-not-is_name in
    let room : c.args.t.names < max_names = omega (arith, c.if-full.false) in
    let short = (name_fits EitherCase _ fine).1 in
    λ d h. let new = looked_up g at.After-find d h ∙ c.in-None.is in
    record {
      answer = (
        name_fine h.counted c.requires.1 _ fine (ap is_found new) room,
        name_held h c.args.name.now room (subst (λ (t : Names). Keyed (d.names ++ (c.args.name.now ∷ [])) t.keys) (sym c.put.ensures) (keyed_more h.keyed (key_for g at.After-find) _ (names_held h) room short new)),
      );
      stored = λ z. name_stored h c.args.name.now room short c.put_name.ensures;
    }
