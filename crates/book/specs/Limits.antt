-- What the tables of a book hold (document 01, "The marking file"). `src/lib.rt` has the same numbers. How long a name is stands in scan's
-- specs/Text.antt.
use Rattle.std.specs.Prelude.{ℕ}

abbrev pub max_names : ℕ
max_names = 128

abbrev pub max_rules : ℕ
max_rules = 512

abbrev pub max_entries : ℕ
max_entries = 2048

-- the literals of one body
abbrev pub max_body : ℕ
max_body = 16
