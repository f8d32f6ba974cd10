-- What the result of the check says.
use Rattle.std.specs.Prelude.{ℕ, Result, Ok, Err}
use Rattle.sheet.specs.Sheet.{Judgement, accepted, refused}
use Rattle.sheet.specs.declared.Rejection.{Rejection}
use Rattle.sheet.specs.declared.Rejection.TheVariants.{WrongCount, NotFollowing, ClaimMissing}

-- the number of a rejection
abbrev pub number_of : Rejection → ℕ
number_of WrongCount = 26
number_of (NotFollowing i) = 27
number_of ClaimMissing = 28

-- the index that is said with it: that of 27
abbrev pub index_of : Rejection → ℕ
index_of WrongCount = 0
index_of (NotFollowing i) = i
index_of ClaimMissing = 0

abbrev pub judgement_of : Result Unit Rejection → Judgement
judgement_of (Ok u) = accepted
judgement_of (Err r) = refused (number_of r) (index_of r)
