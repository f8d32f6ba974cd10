-- The same table as plain numbers, three for a key, for callers that hold it so.
use Rattle.std.specs.Prelude.{◌≡◌, cond, List, [], ℕ, ◌+◌, ◌*◌, ◌≤◌, ◌<◌, ltb, length, get_or, set, Option, Some}
use Rattle.scan.specs.Text.{max_length}
use Rattle.scan.specs.declared.Alphabet.TheVariants.{EitherCase}
use Rattle.scan.specs.declared.Key.{Key}
use Rattle.book.specs.Limits.{max_names}
use Rattle.book.specs.Book.{rows, find}
use Rattle.keys.specs.Keyed.{KeyFor}

-- key k has three numbers of the table
abbrev pub key_in_numbers : List ℕ → ℕ → Key
key_in_numbers keys k = record { length = get_or keys (3 * k) 0; first = get_or keys (3 * k + 1) 0; second = get_or keys (3 * k + 2) 0 }

-- the table with a key in place k
abbrev pub with_key : List ℕ → ℕ → Key → List ℕ
with_key keys k key = set (set (set keys (3 * k) key.length) (3 * k + 1) key.first) (3 * k + 2) key.second

-- name k is declared, where the table has room for it
abbrev pub put_numbers : List ℕ → ℕ → Key → List ℕ
put_numbers keys k key = cond (ltb k max_names) (with_key keys k key) keys

-- the keys that the numbers hold, one for each place
abbrev pub keys_of : List ℕ → List Key
keys_of keys = rows (key_in_numbers keys) 0 max_names

-- the numbers have the key of each name; a name is found at its own place, so no two are the same
pub record KeyedNumbers (names : List (List ℕ)) (keys : List ℕ) : Type 0 where
  pub room : length keys ≡ 3 * max_names
  pub few : length names ≤ max_names
  pub has_key : (k : ℕ) → k < length names → KeyFor (key_in_numbers keys k) (get_or names k [])
  pub short : (k : ℕ) → k < length names → length (get_or names k []) ≤ max_length
  pub own_place : (k : ℕ) → k < length names → find EitherCase names (get_or names k []) ≡ Some k

-- `LookedUp` over numbers: whatever they are, a number that is found lies below the count; where they have the keys of the names, it is the number of the name
pub record LookedUpNumbers (keys : List ℕ) (count : ℕ) (key : Key) (r : Option ℕ) : Type 0 where
  pub below : (i : ℕ) → r ≡ Some i → i < count
  pub found : (names : List (List ℕ)) (n : List ℕ) → KeyedNumbers names keys → count ≡ length names → KeyFor key n → r ≡ find EitherCase names n
