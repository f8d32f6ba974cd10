-- `no_order`: the table of no names.
use Rattle.std.proofs.Common.{sym}
use Rattle.reach.proofs.Listing.{order_none}
use Rattle.mezhkura.proofs.no_order.Goals as goal

pub returns : goal.returns
returns c = sym order_none
