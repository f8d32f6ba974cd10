-- `put_name_end`: a name of the table, or none.
use Rattle.book.proofs.Names.{name_in_lem, name_out}
use Rattle.lister.proofs.put_name_end.Goals as goal

pub put_word-requires : goal.put_word-requires
put_word-requires c =
    let a = c.args in
    rw c.name_at.ensures (rw (name_in_lem a.book.now.text a.book.now.lengths a.count a.k c.if-k-count.true) at c.requires)

pub returns-then-k-count : goal.returns-then-k-count
returns-then-k-count c =
    let a = c.args in
    rw (name_in_lem a.book.now.text a.book.now.lengths a.count a.k c.if-k-count.true) (rw c.name_at.ensures at c.put_word.ensures)

pub put_word-requires-2 : goal.put_word-requires-2
put_word-requires-2 c =
    let a = c.args in
    rw (name_out a.book.now.text a.book.now.lengths a.count a.k c.if-k-count.false) at c.requires

pub returns : goal.returns
returns c =
    let a = c.args in
    rw (name_out a.book.now.text a.book.now.lengths a.count a.k c.if-k-count.false) c.put_word-2.ensures
