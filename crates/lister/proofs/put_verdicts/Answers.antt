-- `put_verdicts`: two verdict fields, one behind the other.
use Prim.Native.Nat.{◌+◌, ◌*◌}
use Rattle.scan.specs.Text.{comma, newline}
use Rattle.lister.specs.Listing.{words_by, field}
use Rattle.lister.proofs.Stored.{put_then, room_first, room_rest}
use Rattle.lister.proofs.put_verdicts.Goals as goal

pub put_mark-p-requires : goal.put_mark-p-requires
put_mark-p-requires c =
    let a = c.args in
    let w = words_by a.marks in
    room_first (field (w (2 * a.k)) comma) (field (w (2 * a.k + 1)) newline) c.requires.0

pub put_mark-requires : goal.put_mark-requires
put_mark-requires c =
    let a = c.args in
    let w = words_by a.marks in
    room_rest (field (w (2 * a.k)) comma) (field (w (2 * a.k + 1)) newline) c.requires.0 c.put_mark-p.ensures

pub returns : goal.returns
returns c = put_then c.put_mark-p.ensures c.put_mark.ensures
