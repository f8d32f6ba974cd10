-- `put_name_line`: the number, the name and the verdicts, one behind the other.
use mathlib.Core.List.{◌++◌}
use Rattle.book.specs.Book.{name_at}
use Rattle.scan.specs.Text.{comma}
use Rattle.lister.specs.Listing.{digits, field, words_by}
use Rattle.lister.specs.Steps.{verdicts_end}
use Rattle.lister.proofs.Stored.{put_then, room_first, room_second, room_third}
use Rattle.lister.proofs.Lines.{name_line_is}
use Rattle.lister.proofs.put_name_line.Goals as goal

pub put_number-p-requires : goal.put_number-p-requires
put_number-p-requires c = room_first (field (digits c.args.k) comma) ((field (name_at c.args.book.now.text c.args.book.now.lengths c.args.k) comma) ++ (verdicts_end (words_by c.args.marks) c.args.k)) (let a = c.args in rw (name_line_is (words_by a.marks) a.k (name_at a.book.now.text a.book.now.lengths a.k)) at c.requires.0)

pub put_word-q-requires : goal.put_word-q-requires
put_word-q-requires c =
    rw c.name_at.ensures (room_second (field (digits c.args.k) comma) (field (name_at c.args.book.now.text c.args.book.now.lengths c.args.k) comma) (verdicts_end (words_by c.args.marks) c.args.k) (let a = c.args in rw (name_line_is (words_by a.marks) a.k (name_at a.book.now.text a.book.now.lengths a.k)) at c.requires.0) c.put_number-p.ensures)

pub put_verdicts-requires : goal.put_verdicts-requires
put_verdicts-requires c =
    (room_third (field (digits c.args.k) comma) (field (name_at c.args.book.now.text c.args.book.now.lengths c.args.k) comma) (verdicts_end (words_by c.args.marks) c.args.k) (let a = c.args in rw (name_line_is (words_by a.marks) a.k (name_at a.book.now.text a.book.now.lengths a.k)) at c.requires.0) c.put_number-p.ensures (rw c.name_at.ensures at c.put_word-q.ensures), c.requires.1)

pub returns : goal.returns
returns c =
    let a = c.args in
    rw (name_line_is (words_by a.marks) a.k (name_at a.book.now.text a.book.now.lengths a.k))
    (put_then c.put_number-p.ensures (put_then (rw c.name_at.ensures at c.put_word-q.ensures) c.put_verdicts.ensures))
