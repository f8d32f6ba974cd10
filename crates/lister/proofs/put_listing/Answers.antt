-- `put_listing`: the header and the names' lines, one behind the other.
use mathlib.Core.Path.{refl}
use mathlib.Core.List.{List}
use Prim.Native.Nat.{ℕ}
use native.Mathlib.Omega.{arith}
use Rattle.book.specs.Book.{names_in}
use Rattle.book.specs.Limits.{max_names}
use Rattle.book.specs.declared.Book.{Book}
use Rattle.book.proofs.Counts.{clamp_most}
use Rattle.std.specs.Prelude.{Option}
use Rattle.lister.specs.Listing.{name_lines, words_by}
use Rattle.lister.specs.Steps.{header_of}
use Rattle.lister.specs.declared.Counts.{Counts}
use Rattle.lister.specs.declared.Marks.{Marks}
use Rattle.lister.proofs.Stored.{put_then, room_first, room_rest}
use Rattle.lister.proofs.Lines.{listing_parts, listing_room}
use Rattle.lister.proofs.put_listing.Goals as goal

abbrev header : Book → Counts → Option ℕ → List ℕ
header b counts clash = header_of b.text b.lengths counts clash

abbrev lines : Book → Marks → ℕ → List ℕ
lines b marks names = name_lines (words_by marks) 0 (names_in b.text b.lengths names)

pub put_header-p-requires : goal.put_header-p-requires
put_header-p-requires c =
    let a = c.args in
    let counts : Counts = record { names = c.name_count-names.result; rules = c.rule_count.result; facts = c.count.result; rounds = a.marks.model.rounds } in
    let clash = c.lowest_both-clash.result in
    let parts = listing_parts a.book.now a.facts a.marks counts c.name_count-names.ensures c.rule_count.ensures c.count.ensures refl clash c.lowest_both-clash.ensures in
    room_first (header a.book.now counts clash) (lines a.book.now a.marks counts.names) (rw parts at (listing_room a.book.now a.facts a.marks (omega arith)))

pub put_name_lines-requires : goal.put_name_lines-requires
put_name_lines-requires c =
    let a = c.args in
    let counts : Counts = record { names = c.name_count-names.result; rules = c.rule_count.result; facts = c.count.result; rounds = a.marks.model.rounds } in
    let clash = c.lowest_both-clash.result in
    let parts = listing_parts a.book.now a.facts a.marks counts c.name_count-names.ensures c.rule_count.ensures c.count.ensures refl clash c.lowest_both-clash.ensures in
    let most = clamp_most max_names a.book.now.names in
    let count = c.name_count-names.ensures in (
      room_rest (header a.book.now counts clash) (lines a.book.now a.marks counts.names) (rw parts at (listing_room a.book.now a.facts a.marks (omega arith))) c.put_header-p.ensures,
      omega arith,
    )

pub returns : goal.returns
returns c =
    let a = c.args in
    let counts : Counts = record { names = c.name_count-names.result; rules = c.rule_count.result; facts = c.count.result; rounds = a.marks.model.rounds } in
    let clash = c.lowest_both-clash.result in
    rw (listing_parts a.book.now a.facts a.marks counts c.name_count-names.ensures c.rule_count.ensures c.count.ensures refl clash c.lowest_both-clash.ensures)
    (put_then c.put_header-p.ensures c.put_name_lines.ensures)
