-- The outcome of a whole file by the tests of numbers 1 to 3 in their order, or else by its lines, where it has bytes.
use mathlib.Core.Path.{◌≡◌}
use mathlib.Core.Bool.{true, false}
use mathlib.Core.List.{List}
use Prim.Native.Nat.{ℕ, ◌-◌, ◌≤◌, ◌<◌}
use native.Mathlib.Omega.{arith}
use lib.ListN.{length, get_or, take}
use borrow.Author.Tests.{eq-eqb, ne_eqb, lt-ltb, le-ltb}
use Rattle.scan.specs.Text.{newline, is_text, all_bytes, split}
use Rattle.scan.specs.declared.Alphabet.TheVariants.{EitherCase}
use Rattle.reader.specs.File.{nothing_yet, refused, read_lines, max_bytes, has_bytes, read_file}
use Rattle.reader.proofs.Tests.{has_bytes_lem}

module _ (file : List ℕ) where
  pub file_long : max_bytes < length file → read_file EitherCase file ≡ refused 1 0
  unfolding read_file
  file_long h = rw (lt-ltb max_bytes (length file) h)

  module _ (short : length file ≤ max_bytes) where
    pub file_bytes : all_bytes is_text file ≡ false → read_file EitherCase file ≡ refused 2 0
    unfolding read_file
    file_bytes e = rw (le-ltb max_bytes (length file) short, e)

    module _ (text : all_bytes is_text file ≡ true) where
      module _ (some : length file ≡ 0 → ⊥) where
        some_bytes : has_bytes file ≡ true
        some_bytes = (has_bytes_lem file).1 (omega arith)

        pub file_unended : (get_or file (length file - 1) 0 ≡ newline → ⊥) → read_file EitherCase file ≡ refused 3 0
        unfolding read_file
        file_unended n = rw (le-ltb max_bytes (length file) short, text, some_bytes, ne_eqb (get_or file (length file - 1) 0) newline n)

        pub file_lines : get_or file (length file - 1) 0 ≡ newline → read_file EitherCase file ≡ read_lines EitherCase nothing_yet 1 (split newline (take (length file - 1) file))
        unfolding read_file
        file_lines e = rw (le-ltb max_bytes (length file) short, text, some_bytes, eq-eqb (get_or file (length file - 1) 0) newline e)
