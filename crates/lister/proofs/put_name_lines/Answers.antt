use native.Mathlib.Nat.{sub-zero}
use Rattle.book.specs.Book.{name_at}
use Rattle.lister.specs.Listing.{words_by}
use Rattle.lister.proofs.Stored.{left_all, put_length}
use Rattle.lister.proofs.Lines.{line_room, line_stored, lines_stored}
use native.Mathlib.Omega.{arith}
use Rattle.lister.proofs.put_name_lines.Goals as goal

pub loop-k-init : goal.loop-k-init
loop-k-init c = rw (sub-zero c.args.count) (left_all c.requires.0)

pub put_name_line-p-requires : goal.put_name_line-p-requires
put_name_line-p-requires c =
    let a = c.args in
    let was = c.loop-k in
    (line_room (words_by a.marks) (name_at a.book.now.text a.book.now.lengths) a.count was.k was.invariant c.loop-k-test.true, omega arith)

pub loop-k-preserved : goal.loop-k-preserved
loop-k-preserved c =
    let a = c.args in
    let was = c.loop-k in
    line_stored (words_by a.marks) (name_at a.book.now.text a.book.now.lengths) a.count was.k was.invariant c.loop-k-test.true c.put_name_line-p.ensures

pub shape_of-t : goal.shape_of-t
shape_of-t c =
    let a = c.args in
    put_length (lines_stored (words_by a.marks) (name_at a.book.now.text a.book.now.lengths) a.count c.loop-k.k c.loop-k.invariant c.loop-k-test.false)

pub returns : goal.returns
returns c =
    let a = c.args in
    lines_stored (words_by a.marks) (name_at a.book.now.text a.book.now.lengths) a.count c.loop-k.k c.loop-k.invariant c.loop-k-test.false
