-- What document 02, A.4, changes: a file of no bytes is accepted, and was refused by 3; every file that has bytes keeps its outcome, since with bytes
-- the tests of both definitions are the same.
use mathlib.Core.Path.{◌≡◌}
use mathlib.Core.List.{List, [], ◌∷◌}
use Prim.Native.Nat.{ℕ, suc}
use native.Mathlib.Omega.{arith}
use lib.ListN.{length}
use borrow.Author.Tests.{ne_eqb}
use Rattle.scan.specs.Text.{is_text}
use Rattle.scan.proofs.Bytes.{bytes_none}
use Rattle.scan.specs.declared.Alphabet.{Alphabet}
use Rattle.reader.specs.File.{accepted, refused, read_file}
use Rattle.reader.specs.Conditions.{HasBytes}
use Rattle.reader.specs.NoBytes.{read_file01}

pub no_bytes : (α : Alphabet) (file : List ℕ) → length file ≡ 0 → read_file α file ≡ accepted [] []
unfolding read_file
no_bytes α [] e = rw (bytes_none is_text)
no_bytes α (b ∷ bs) e = absurd (omega arith)

pub no_bytes_before : (α : Alphabet) → read_file01 α [] ≡ refused 3 0
unfolding read_file01
no_bytes_before α = rw (bytes_none is_text)

pub bytes_as_before : (α : Alphabet) (file : List ℕ) → HasBytes file → read_file α file ≡ read_file01 α file
unfolding read_file read_file01
bytes_as_before α [] some = absurd (omega arith)
bytes_as_before α (b ∷ bs) some = rw (ne_eqb (suc (length bs)) 0 (λ z. omega arith))
