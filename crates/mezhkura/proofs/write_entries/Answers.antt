-- `write_entries`: the beginning of the table is its first n entries.
use Rattle.std.proofs.Common.{List, ◌++◌, drop, sym, ap, ◌∙◌, arith}
use Rattle.sheet.specs.declared.SheetEntry.{SheetEntry}
use Rattle.sheet.proofs.Stored.{entries_first}
use Rattle.mezhkura.proofs.write_entries.Goals as goal

pub returns : goal.returns
returns c = ap (λ (l : List SheetEntry). l ++ drop c.args.n c.args.run.now) (c.copy_from_slice.ensures.after ∙ sym (entries_first c.args.table.now c.args.n (omega (arith, c.requires.1, c.told-table))))
