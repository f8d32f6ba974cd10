use Rattle.std.proofs.Common.{◌∙◌, sym}
use Rattle.scan.specs.declared.Alphabet.TheVariants.{EitherCase}
use Rattle.scan.proofs.Forms.{form_literal, form_malformed}
use Rattle.scan.proofs.form_of.Goals as goal

pub returns-then-is_name : goal.returns-then-is_name
returns-then-is_name c =
    let m = c.marks_of-m in
    sym (form_literal c.args.f.now m.result m.ensures.0 m.ensures.1 EitherCase (sym c.is_name.ensures ∙ c.if-is_name.true))

pub returns-else-is_name : goal.returns-else-is_name
returns-else-is_name c =
    let m = c.marks_of-m in
    sym (form_malformed c.args.f.now m.result m.ensures.0 m.ensures.1 EitherCase (sym c.is_name.ensures ∙ c.if-is_name.false))
