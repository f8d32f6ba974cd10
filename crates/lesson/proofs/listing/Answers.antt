-- `listing`: what is written from memory is the listing by the sets that stand.
use Rattle.lesson.proofs.Replies.{listing_length, listing_25}
use Rattle.lesson.proofs.listing.Goals as goal

pub returns-in-Some : goal.returns-in-Some
returns-in-Some c = listing_length _ _ _ c.in_ok-check_loaded.ensures c.in_force.result c.in_force.ensures _ c.write.result c.write.ensures _ c.in-Some.is

pub returns-in-None : goal.returns-in-None
returns-in-None c = listing_25 _ _ _ c.in_ok-check_loaded.ensures c.in_force.result c.in_force.ensures _ c.write.result c.write.ensures c.in-None.is
