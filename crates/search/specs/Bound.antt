-- How many nodes a search may ask for their rules.
use Rattle.std.specs.Prelude.{ℕ, ◌+◌, ◌*◌}

-- a walk over n heads asks no more nodes
abbrev pub most_visits : ℕ → ℕ
most_visits n = 2 * (n * ((n + 1) * (n + 1)))
