-- What the listing program prints (document 01, "The listing, whole").
use Rattle.std.specs.Prelude.{List, ℕ}
use Rattle.wfsx.specs.Sets.{∅}
use Rattle.reader.specs.File.{Outcome, accepted, refused}
use Rattle.lister.specs.Listing.{listing_of, refusal_of}

-- `refused,NUMBER,LINE`, or the listing with no fact put in
unfoldable pub printed : Outcome → List ℕ
printed (accepted names rules) = listing_of names rules ∅
printed (refused number at) = refusal_of number at
