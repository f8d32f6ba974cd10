-- `put_counts`: four numbers, one behind the other.
use mathlib.Core.List.{◌++◌}
use Rattle.scan.specs.Text.{comma}
use Rattle.lister.specs.Listing.{digits, field}
use Rattle.lister.proofs.Stored.{put_then, room_first, room_rest, room_second, room_third}
use Rattle.lister.proofs.put_counts.Goals as goal

pub put_number-p-requires : goal.put_number-p-requires
put_number-p-requires c = room_first (field (digits c.args.counts.names) comma) ((field (digits c.args.counts.rules) comma) ++ ((field (digits c.args.counts.facts) comma) ++ (field (digits c.args.counts.rounds) c.args.stop))) c.requires

pub put_number-q-requires : goal.put_number-q-requires
put_number-q-requires c =
    room_first (field (digits c.args.counts.rules) comma) ((field (digits c.args.counts.facts) comma) ++ (field (digits c.args.counts.rounds) c.args.stop)) ((room_rest (field (digits c.args.counts.names) comma) ((field (digits c.args.counts.rules) comma) ++ ((field (digits c.args.counts.facts) comma) ++ (field (digits c.args.counts.rounds) c.args.stop))) c.requires c.put_number-p.ensures))

pub put_number-r-requires : goal.put_number-r-requires
put_number-r-requires c =
    room_second (field (digits c.args.counts.rules) comma) (field (digits c.args.counts.facts) comma) (field (digits c.args.counts.rounds) c.args.stop) ((room_rest (field (digits c.args.counts.names) comma) ((field (digits c.args.counts.rules) comma) ++ ((field (digits c.args.counts.facts) comma) ++ (field (digits c.args.counts.rounds) c.args.stop))) c.requires c.put_number-p.ensures)) c.put_number-q.ensures

pub put_number-requires : goal.put_number-requires
put_number-requires c =
    room_third (field (digits c.args.counts.rules) comma) (field (digits c.args.counts.facts) comma) (field (digits c.args.counts.rounds) c.args.stop) ((room_rest (field (digits c.args.counts.names) comma) ((field (digits c.args.counts.rules) comma) ++ ((field (digits c.args.counts.facts) comma) ++ (field (digits c.args.counts.rounds) c.args.stop))) c.requires c.put_number-p.ensures)) c.put_number-q.ensures c.put_number-r.ensures

pub returns : goal.returns
returns c =
    put_then c.put_number-p.ensures
    (put_then c.put_number-q.ensures (put_then c.put_number-r.ensures c.put_number.ensures))
