-- What document 02, A.2, says of a file's spelling: a file without capitals, and the fields that declare the names.
use Rattle.std.specs.Prelude.{cond, List, [], ◌∷◌, ◌++◌, ℕ, ◌≤◌}
use Rattle.wfsx.specs.Sets.{◌is_in◌}
use Rattle.scan.specs.Text.{same_bytes, name_word, fields}

-- none of the bytes is 65 to 90
abbrev pub NoCapitals : List ℕ → Type 0
NoCapitals s = (b : ℕ) → b is_in s → (65 ≤ b) × (b ≤ 90) → ⊥

-- the fields behind `name` in a line that has it
abbrev pub declaring : List (List ℕ) → List (List ℕ)
declaring [] = []
declaring (first ∷ others) = cond (same_bytes first name_word) others []

-- the fields behind `name`, line by line
unfoldable pub declared_by : List (List ℕ) → List (List ℕ)
declared_by [] = []
declared_by (line ∷ lines) = declaring (fields line) ++ declared_by lines
