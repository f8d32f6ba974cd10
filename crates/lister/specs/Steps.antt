-- What the private functions of `lister` leave in a buffer (no public contract cites it).
use Rattle.std.specs.Prelude.{◌≡◌, List, ◌++◌, ℕ, ◌+◌, ◌*◌, ◌≤◌, length}
use Rattle.std.proofs.lemmas.List.Edits.{sets}
use Rattle.std.specs.Prelude.{Option}
use Rattle.book.specs.Book.{names_in}
use Rattle.scan.specs.Text.{comma, newline}
use Rattle.lister.specs.Listing.{digits, field, header_by}
use Rattle.lister.specs.declared.Counts.{Counts}

-- Bytes that stand from `at` on end early enough for every place to be a number of the machine; no listing is longer.
pub record Room (bytes : List ℕ) (at : ℕ) : Type 0 where
  pub fits : at + length bytes ≤ 65536

-- The bytes are stored from `at` on, those past the buffer's end left out, and `next` is the place behind them.
pub record Put (bytes : List ℕ) (at : ℕ) (before after : List ℕ) (next : ℕ) : Type 0 where
  pub place : next ≡ at + length bytes
  pub stored : after ≡ sets before at bytes

-- the counts of a header, with `stop` behind the last
abbrev pub counts_to : ℕ → Counts → List ℕ
counts_to stop c =
    field (digits c.names) comma ++ (field (digits c.rules) comma ++ (field (digits c.facts) comma ++ field (digits c.rounds) stop))

-- the header by the counts that it has
abbrev pub header_of : (text lengths : List ℕ) → Counts → Option ℕ → List ℕ
header_of text lengths c clash = header_by (names_in text lengths c.names) c.rules c.facts c.rounds clash

-- the verdict fields of name k as the end of its line
abbrev pub verdicts_end : (ℕ → List ℕ) → ℕ → List ℕ
verdicts_end w k = field (w (2 * k)) comma ++ field (w (2 * k + 1)) newline
