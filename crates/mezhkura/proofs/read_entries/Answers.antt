-- `read_entries`: the first entries of the table are those of the run.
use Rattle.std.proofs.Common.{◌≡◌, ◌++◌, length, drop, ◌∙◌, arith}
use Rattle.std.proofs.lemmas.List.{length-take-le}
use lib.ListN.{length-append}
use lib.Seq.{take_all, take_at}
use Rattle.sheet.proofs.Stored.{entries_first}
use Rattle.mezhkura.proofs.read_entries.Goals as goal

pub returns : goal.returns
returns c = λ few.
    let run = c.args.run.now in
    let n = length run in
    let read = c.copy_from_slice.new.self in
    let rest = drop c.min-n.result c.args.table.now in
    let all : c.min-n.result ≡ n = omega (arith, c.min-n.ensures) in
    let size : length read ≡ n = c.copy_from_slice.ensures.len ∙ length-take-le _ _ (omega (arith, c.min-n.ensures)) ∙ all in
    let whole : read ≡ run = c.copy_from_slice.ensures.after ∙ take_all c.min-n.result run (omega arith) in
    entries_first (read ++ rest) n (omega (arith, length-append read rest, size)) ∙ take_at read rest n size ∙ whole
