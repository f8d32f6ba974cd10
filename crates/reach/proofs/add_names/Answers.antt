use native.Mathlib.Omega.{arith}
use mathlib.Core.Path.{◌≡◌, ◌∙◌, ap}
use Rattle.wfsx.specs.Reach.{name_in}
use Rattle.book.specs.Book.{entry_at}
use Rattle.reach.proofs.Bodies.{name_below, adding_none, adding_more, adding_all}
use Prim.Native.Nat.{◌<◌}
use lib.ListN.{length}
use Rattle.reach.specs.Table.{with_name}
use Rattle.reach.proofs.Rows.{row_is, row_changed}
use Rattle.reach.proofs.add_names.Goals as goal

pub loop-j-init : goal.loop-j-init
loop-j-init c = adding_none _ _ _ _ _ c.body_start-start.ensures

pub add_name-requires : goal.add_name-requires
add_name-requires c =
    let entries = c.args.book.now.entries in
    let name : c.name_in-name.result ≡ name_in (entry_at entries c.loop-j.j) = c.name_in-name.ensures ∙ ap name_in c.entry_at.ensures in
    omega (arith, name, name_below entries c.loop-j.j)

pub loop-j-preserved : goal.loop-j-preserved
loop-j-preserved c =
    let end = c.body_end-end.ensures in
    let inside : c.args.k < length c.loop-j.table = omega (arith, c.loop-j.invariant.size, c.told-table, c.requires) in
    adding_more _ _ _ _ _ c.loop-j.invariant _ _ (omega arith) (c.name_in-name.ensures ∙ ap name_in c.entry_at.ensures)
    (row_changed _ _ _ _ inside (c.add_name.ensures ∙ ap (with_name c.name_in-name.result) (row_is _ _ _ inside)))

pub returns : goal.returns
returns c =
    let end = c.body_end-end.ensures in
    adding_all _ _ _ _ _ c.loop-j.invariant (omega arith)
