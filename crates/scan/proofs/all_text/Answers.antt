use Rattle.std.proofs.Common.{rules, ◌∙◌}
use Rattle.std.proofs.lemmas.Iterator.{YieldsList-from_slice}
use Rattle.std.proofs.lemmas.Iterator.Search.{all_from_yields_List}
use Rattle.scan.specs.Text.{is_text}
use Rattle.scan.proofs.Bytes.{bytes_are}
use Rattle.scan.proofs.all_text.Goals as goal

pub returns : goal.returns
returns c =
    let s = c.args.s.now in
    all_from_yields_List is_text _ _ _ c.all.ensures.ran (YieldsList-from_slice s cc) (λ x b q k. search rules) ∙ bytes_are is_text s
