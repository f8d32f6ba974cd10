-- The names and rules of a book's tables: how many there are, which name stands at a place, and that a name is no longer than the limit, since its length
-- is clamped.
use mathlib.Core.Path.{◌≡◌, ap, ◌∙◌}
use mathlib.Core.List.{List, []}
use Prim.Native.Nat.{ℕ, ◌*◌, ◌≤◌, ◌<◌}
use native.Mathlib.Nat.{zero-add}
use native.Mathlib.Decide.{dec_lt}
use native.Mathlib.Omega.{arith}
use lib.ListN.{length, get_or, drop, length-take, get_or-eq_default}
use Rattle.scan.specs.Text.{max_length}
use Rattle.book.specs.Limits.{max_names, max_rules}
use Rattle.book.specs.Book.{clamp, name_at, names_in, names_of, rule_at, rules_of}
use Rattle.book.specs.declared.Book.{Book}
use Rattle.book.proofs.Rows.{rows_length, row_at}
use Rattle.book.proofs.Counts.{clamp_most}

module _ (text lengths : List ℕ) where
  pub names_count : (n : ℕ) → length (names_in text lengths n) ≡ n
  names_count n = rows_length (name_at text lengths) 0 n

  pub name_most : (k : ℕ) → length (name_at text lengths k) ≤ max_length
  name_most k =
      let n = clamp max_length (get_or lengths k 0) in
      rw (length-take n (drop (max_length * k) text)) (omega (arith, clamp_most max_length (get_or lengths k 0)))

  -- past the names stands the empty name
  module _ (n k : ℕ) where
    pub name_in_lem : k < n → get_or (names_in text lengths n) k [] ≡ name_at text lengths k
    name_in_lem h = row_at (name_at text lengths) [] 0 n k h ∙ ap (name_at text lengths) (zero-add k)

    pub name_out : n ≤ k → get_or (names_in text lengths n) k [] ≡ []
    name_out h = get_or-eq_default (names_in text lengths n) [] (rw (names_count n) h)

    pub name_short : length (get_or (names_in text lengths n) k []) ≤ max_length
    name_short = go (dec_lt k n)
      where
        go : Dec (k < n) → length (get_or (names_in text lengths n) k []) ≤ max_length
        go (yes h) = rw (name_in_lem h) (name_most k)
        go (no h) = rw (name_out (omega arith)) (omega arith)

module _ (b : Book) where
  pub names_counted : length (names_of b) ≡ clamp max_names b.names
  names_counted = names_count b.text b.lengths (clamp max_names b.names)

  pub rules_counted : length (rules_of b) ≡ clamp max_rules b.rules
  rules_counted = rows_length (rule_at b.heads b.starts b.entries) 0 (clamp max_rules b.rules)
