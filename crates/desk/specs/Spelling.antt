-- What document 02, A.2, says of the spelling in a listing: NAME is the field that declares the name, byte for byte.
use Rattle.std.specs.Prelude.{◌≡◌, List, [], ℕ, ◌+◌, ◌<◌, length, get_or}
use Rattle.wfsx.specs.Sets.{◌is_in◌}
use Rattle.wfsx.specs.Program.{Rule}
use Rattle.wfsx.specs.Model.{M}
use Rattle.litset.specs.Words.{clash_in}
use Rattle.std.specs.Prelude.{Some}
use Rattle.scan.specs.Text.{fields}
use Rattle.scan.specs.declared.Alphabet.TheVariants.{EitherCase}
use Rattle.reader.specs.File.{accepted, lines_of, read_file}
use Rattle.reader.specs.Capitals.{declared_by}
use Rattle.lesson.specs.State.{program_in, listing_in}
use Rattle.desk.specs.Runs.{Call, load, left}

-- a field by the number of its line and its number there, both counted from 0
abbrev pub field_at : List ℕ → ℕ → ℕ → List ℕ
field_at bytes at place = get_or (fields (get_or (lines_of bytes) at [])) place []

-- the field of a file that declares name k
abbrev pub declaring_field : List ℕ → ℕ → List ℕ
declaring_field file k = get_or (declared_by (lines_of file)) k []

-- The book that the list leaves has these names and rules.
pub record Spelled (cs : List Call) (names : List (List ℕ)) (rules : List Rule) : Type 0 where
  -- the file that they are read from, which one of the calls loads
  pub file : List ℕ
  pub is_loaded : load file is_in cs
  pub read_as : read_file EitherCase file ≡ accepted names rules
  -- Line 0 of the listing is the header, and field 1 of line k + 1 is name k as the file declares it.
  pub in_its_line : (k : ℕ) → k < length names → field_at (listing_in (left cs)) (k + 1) 1 ≡ declaring_field file k
  -- Where name n is the lowest-numbered with both literals in M, field 5 of the header is name n as the file declares it.
  pub in_the_header : (n : ℕ) → clash_in (M (program_in (left cs))) ≡ Some n → (n < length names) × (field_at (listing_in (left cs)) 0 5 ≡ declaring_field file n)
