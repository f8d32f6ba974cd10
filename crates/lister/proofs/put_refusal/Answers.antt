-- `put_refusal`: the word and two numbers, one behind the other.
use Rattle.scan.specs.Text.{comma, newline}
use Rattle.lister.specs.Listing.{refused_word, digits, field}
use Rattle.lister.proofs.Stored.{put_then, room_second, room_third}
use Rattle.lister.proofs.Lines.{refusal_is, refusal_room}
use native.Mathlib.Omega.{arith}
use Rattle.lister.proofs.put_refusal.Goals as goal

pub put_number-q-requires : goal.put_number-q-requires
put_number-q-requires c =
    let a = c.args in
    room_second (field refused_word comma) (field (digits c.from.result) comma) (field (digits a.line) newline) (rw (refusal_is c.from.result c.args.line) at (refusal_room c.from.result c.args.line (omega (arith, c.from.ensures)) (omega arith))) c.put_word-p.ensures

pub put_number-requires : goal.put_number-requires
put_number-requires c =
    let a = c.args in
    room_third (field refused_word comma) (field (digits c.from.result) comma) (field (digits a.line) newline) (rw (refusal_is c.from.result c.args.line) at (refusal_room c.from.result c.args.line (omega (arith, c.from.ensures)) (omega arith))) c.put_word-p.ensures c.put_number-q.ensures

pub returns : goal.returns
returns c =
    rw (refusal_is c.args.number c.args.line) (put_then c.put_word-p.ensures (put_then (rw c.from.ensures at c.put_number-q.ensures) c.put_number.ensures))
