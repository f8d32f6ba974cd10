-- `all_known`: every name passed is declared, and the entries of what is left, stored into what there is, are those of the whole.
use mathlib.Core.Path.{◌≡◌}
use mathlib.Core.List.{List, map}
use Prim.Native.Nat.{ℕ, ◌+◌, ◌-◌, ◌≤◌}
use lib.ListN.{length}
use Rattle.scan.specs.Text.{rest, comma}
use Rattle.scan.specs.declared.Alphabet.TheVariants.{EitherCase}
use Rattle.keys.specs.Keyed.{Keyed}
use Rattle.reader.specs.File.{all_fields, is_known}
use Rattle.reader.specs.Tables.{with_entries}
use Rattle.reader.specs.Steps.{field_code}
use Rattle.reader.proofs.all_known.Given as goal

abbrev pub invariant-loop-p : goal.invariant-loop-p
invariant-loop-p g l =
    (l.p ≤ length l.line + 1) × (l.k ≤ l.at + l.p)
    × ((names : List (List ℕ)) → Keyed names l.names.keys → l.count ≡ length names
    → (all_fields (is_known EitherCase names) (rest comma l.line l.p) ≡ all_fields (is_known EitherCase names) (rest comma l.line l.from))
    × (with_entries (g.T.Tables.lists l.tables) l.k (map (field_code names) (rest comma l.line l.p))
    ≡ with_entries (g.T.Tables.lists l.initial.tables) l.at (map (field_code names) (rest comma l.line l.from))))

abbrev pub decreases-loop-p : goal.decreases-loop-p
decreases-loop-p g l = length l.line + 1 - l.p
