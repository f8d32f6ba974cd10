-- The outcome of a file as document 01 has it, where a file of no bytes is refused by 3; by itself it has the alphabet `SmallOnly`. Document 02, A.4, accepts
-- that file, and `proofs/NoBytes.antt` shows that with either alphabet every other has the outcome that it has here.
use Rattle.std.specs.Prelude.{not, cond, ◌||◌, List, ℕ, ◌-◌, eqb, ltb, length, get_or, take}
use Rattle.scan.specs.Text.{is_text, all_bytes, split, newline}
use Rattle.scan.specs.declared.Alphabet.{Alphabet}
use Rattle.reader.specs.File.{nothing_yet, Outcome, refused, read_lines, max_bytes}

unfoldable pub read_file01 : Alphabet → List ℕ → Outcome
read_file01 α file =
    let last = get_or file (length file - 1) 0 in
    let lines = split newline (take (length file - 1) file) in
    cond (ltb max_bytes (length file)) (refused 1 0)
    (cond (not (all_bytes is_text file)) (refused 2 0)
    (cond (eqb (length file) 0 || not (eqb last newline)) (refused 3 0)
    (read_lines α nothing_yet 1 lines)))
