-- `put_number`: the digits, and the byte behind them.
use mathlib.Core.List.{◌∷◌, []}
use lib.ListN.{length-append}
use Rattle.lister.specs.Listing.{digits}
use Rattle.lister.proofs.Stored.{put_byte, put_then, room_first}
use native.Mathlib.Omega.{arith}
use Rattle.lister.proofs.put_number.Goals as goal

pub put_digits-p-requires : goal.put_digits-p-requires
put_digits-p-requires c = let a = c.args in room_first (digits a.n) (a.stop ∷ []) c.requires

pub overflow_add-result : goal.overflow_add-result
overflow_add-result c = let a = c.args in omega (arith, length-append (digits a.n) (a.stop ∷ []), c.requires, c.put_digits-p.ensures.place)

pub returns : goal.returns
returns c = put_then c.put_digits-p.ensures (put_byte c.put8.ensures)
