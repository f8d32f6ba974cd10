-- `model_by_groups`: the tables of the index and of the working order are those of the book, and every name with a rule or a fact is listed.
use mathlib.Core.Path.{sym}
use lib.Seq.{length-take-le}
use Rattle.reach.proofs.Places.{names_inside, groups_inside}
use Rattle.groups.proofs.Tables.{book_laid, book_whole}
use borrow.Author.Rules.{rules}
use Rattle.std.proofs.Common.{arith, ◌≡◌, length}
use Rattle.book.specs.Limits.{max_names}
use Rattle.groups.proofs.model_by_groups.Goals as goal

pub shared_ref_as_front-name : goal.shared_ref_as_front-name
shared_ref_as_front-name c =
    let size : length c.order_below-order.result.name ≡ max_names = search rules in
    omega (arith, names_inside _ c.order_below-order.ensures)

pub slice_bounds-name-end : goal.slice_bounds-name-end
slice_bounds-name-end c = sym (length-take-le _ _ (names_inside _ c.order_below-order.ensures))

pub slice_bounds-group-end : goal.slice_bounds-group-end
slice_bounds-group-end c = sym (length-take-le _ _ (groups_inside _ c.order_below-order.ensures))

pub settle_groups-requires : goal.settle_groups-requires
settle_groups-requires c =
    book_laid c.args.book.now c.index_of-index.ensures c.names_used-used.ensures c.order_below-order.ensures

pub returns : goal.returns
returns c =
    book_whole c.args.book.now c.index_of-index.ensures c.names_used-used.ensures c.order_below-order.ensures _ c.settle_groups.ensures
