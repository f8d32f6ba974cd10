-- The key of a name, by which names are compared: how many bytes it has, and its bytes as they count, in two words. No paper speaks of keys; that two names
-- are the same exactly where their keys are is shown in `proofs/Keys.antt`.
use Rattle.std.specs.Prelude.{Bool, ◌&&◌, List, [], ◌∷◌, ℕ, ◌+◌, ◌*◌, ◌<◌, eqb, length, take, drop, get_or}
use Rattle.scan.specs.Text.{folded}
use Rattle.scan.specs.declared.Alphabet.{Alphabet}
use Rattle.scan.specs.declared.Key.{Key}

-- bytes as the digits of a number in base 256, behind the digits of w
unfoldable pub packed : ℕ → List ℕ → ℕ
packed w [] = w
packed w (b ∷ bs) = packed (256 * w + b) bs

-- how many bytes a word of a key has
abbrev pub in_word : ℕ
in_word = 8

-- every element is a byte, so that digits in base 256 tell two such lists apart
abbrev pub Bytes : List ℕ → Type 0
Bytes s = (i : ℕ) → get_or s i 0 < 256

-- the bytes of one word, from place `from` on
abbrev pub word_from : Alphabet → ℕ → List ℕ → ℕ
word_from α from s = packed 0 (folded α (take in_word (drop from s)))

-- a name has at most 16 bytes, so the two words have them all
abbrev pub key_of : Alphabet → List ℕ → Key
key_of α s = record { length = length s; first = word_from α 0 s; second = word_from α in_word s }

abbrev pub same_key : Key → Key → Bool
same_key a b = eqb a.length b.length && (eqb a.first b.first && eqb a.second b.second)
