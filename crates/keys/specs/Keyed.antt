-- The names of a file while it is read, held as a table of their keys.
use Rattle.std.specs.Prelude.{◌≡◌, cond, List, [], ℕ, ◌%◌, ◌≤◌, ◌<◌, ltb, length, get_or, set, replicate}
use Rattle.std.specs.Int.Bits.{bit_xor}
use Rattle.scan.specs.Text.{max_length}
use Rattle.scan.specs.Keys.{Bytes, key_of}
use Rattle.scan.specs.declared.Alphabet.TheVariants.{EitherCase}
use Rattle.scan.specs.declared.Key.{Key}
use Rattle.book.specs.Limits.{max_names}
use Rattle.book.specs.Book.{find}
use Rattle.std.specs.Prelude.{Option, Some}
use Rattle.keys.specs.declared.Names.{Names}

-- the key of no name, which stands where none is declared
abbrev pub no_key : Key
no_key = record { length = 0; first = 0; second = 0 }

-- the key in place k
abbrev pub key_at : List Key → ℕ → Key
key_at keys k = get_or keys k no_key

-- how many places the hints have; `src/lib.rt` has the same number
abbrev pub max_hints : ℕ
max_hints = 1021

-- where the hint for a key stands: which place it is matters to speed alone
abbrev pub hint_place : Key → ℕ
hint_place key = bit_xor key.first key.second % max_hints

-- name k has the key, where the most names leave room for it
abbrev pub put_key : List Key → ℕ → Key → List Key
put_key keys k key = cond (ltb k max_names) (set keys k key) keys

-- and is the name to look at first for the key
abbrev pub put_hint : List ℕ → ℕ → Key → List ℕ
put_hint hints k key = cond (ltb k max_names) (set hints (hint_place key) k) hints

-- the table in which no name is declared
abbrev pub no_names : Names
no_names = record { keys = replicate max_names no_key; hints = replicate max_hints 0 }

-- name k is declared
abbrev pub with_name : Names → ℕ → Key → Names
with_name t k key = record { keys = put_key t.keys k key; hints = put_hint t.hints k key }

-- the key is that of the name
pub record KeyFor (key : Key) (name : List ℕ) : Type 0 where
  pub key_is : key ≡ key_of EitherCase name
  pub bytes : Bytes name

-- the keys are those of the names, one for each place of the table; a name is found at its own place, so no two are the same
pub record Keyed (names : List (List ℕ)) (keys : List Key) : Type 0 where
  pub room : length keys ≡ max_names
  pub few : length names ≤ max_names
  pub has_key : (k : ℕ) → k < length names → KeyFor (key_at keys k) (get_or names k [])
  pub short : (k : ℕ) → k < length names → length (get_or names k []) ≤ max_length
  pub own_place : (k : ℕ) → k < length names → find EitherCase names (get_or names k []) ≡ Some k

-- A look-up of a key among `count` names. Whatever the keys are, a number that is found lies below the count; where they are those of the names,
-- it is the number of the name among them.
pub record LookedUp (keys : List Key) (count : ℕ) (key : Key) (r : Option ℕ) : Type 0 where
  pub below : (i : ℕ) → r ≡ Some i → i < count
  pub found : (names : List (List ℕ)) (n : List ℕ) → Keyed names keys → count ≡ length names → KeyFor key n → r ≡ find EitherCase names n
