-- `put_header`: the word and the counts, and with a clash the name, one behind the other.
use mathlib.Core.Path.{ap, ◌∙◌}
use mathlib.Core.List.{[]}
use lib.ListN.{get_or}
use Rattle.book.specs.Book.{names_in}
use Rattle.scan.specs.Text.{comma, newline}
use Rattle.lister.specs.Listing.{model_word, contradiction_word, field}
use Rattle.lister.specs.Steps.{counts_to, header_of}
use Rattle.lister.proofs.Stored.{put_then, room_rest, room_second, room_third}
use Rattle.lister.proofs.Lines.{clear_is, clash_is}
use Rattle.lister.proofs.put_header.Goals as goal

pub put_counts-requires : goal.put_counts-requires
put_counts-requires c =
    let a = c.args in
    room_rest (field model_word comma) (counts_to newline c.args.counts) (rw (ap (header_of a.book.now.text a.book.now.lengths a.counts) c.in-None.is ∙ clear_is a.book.now.text a.book.now.lengths a.counts) at c.requires) c.put_word-p.ensures

pub returns-in-None : goal.returns-in-None
returns-in-None c =
    let a = c.args in
    rw (ap (header_of a.book.now.text a.book.now.lengths a.counts) c.in-None.is ∙ clear_is a.book.now.text a.book.now.lengths a.counts) (put_then c.put_word-p.ensures c.put_counts.ensures)

pub put_counts-q-requires : goal.put_counts-q-requires
put_counts-q-requires c =
    let a = c.args in
    room_second (field contradiction_word comma) (counts_to comma c.args.counts) (field (get_or (names_in a.book.now.text a.book.now.lengths a.counts.names) c.in-Some.k []) newline) (rw (ap (header_of a.book.now.text a.book.now.lengths a.counts) c.in-Some.is ∙ clash_is a.book.now.text a.book.now.lengths a.counts c.in-Some.k) at c.requires) c.put_word-p-in-Some.ensures

pub put_name_end-requires : goal.put_name_end-requires
put_name_end-requires c =
    let a = c.args in
    room_third (field contradiction_word comma) (counts_to comma c.args.counts) (field (get_or (names_in a.book.now.text a.book.now.lengths a.counts.names) c.in-Some.k []) newline) (rw (ap (header_of a.book.now.text a.book.now.lengths a.counts) c.in-Some.is ∙ clash_is a.book.now.text a.book.now.lengths a.counts c.in-Some.k) at c.requires) c.put_word-p-in-Some.ensures c.put_counts-q.ensures

pub returns-in-Some : goal.returns-in-Some
returns-in-Some c =
    let a = c.args in
    rw (ap (header_of a.book.now.text a.book.now.lengths a.counts) c.in-Some.is ∙ clash_is a.book.now.text a.book.now.lengths a.counts c.in-Some.k) (put_then c.put_word-p-in-Some.ensures (put_then c.put_counts-q.ensures c.put_name_end.ensures))
