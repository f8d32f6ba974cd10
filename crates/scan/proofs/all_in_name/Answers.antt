use Rattle.std.proofs.Common.{rules, ◌∙◌}
use Rattle.std.proofs.lemmas.Iterator.{YieldsList-from_slice}
use Rattle.std.proofs.lemmas.Iterator.Search.{all_from_yields_List}
use Rattle.scan.specs.Text.{in_name, class_of}
use Rattle.scan.specs.declared.Alphabet.TheVariants.{EitherCase}
use Rattle.scan.proofs.Bytes.{bytes_are}
use Rattle.scan.proofs.all_in_name.Goals as goal

pub returns : goal.returns
returns c =
    let s = c.args.s.now in
    all_from_yields_List (λ b. in_name EitherCase (class_of b)) _ _ _ c.all.ensures.ran (YieldsList-from_slice s cc) (λ x b q k. search rules)
    ∙ bytes_are (λ b. in_name EitherCase (class_of b)) s
