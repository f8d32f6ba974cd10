-- A list of words of 64 bits as a set of names; that of its members is the set of literals' (`set_of`).
use Rattle.std.specs.Prelude.{Option, None, Some, cond, ◌&&◌, ℕ, ◌*◌, ◌/◌, ◌%◌, ◌^◌, ◌<◌, eqb, ltb}
use Rattle.std.specs.Int.Bits.{bit_or}
use Rattle.wfsx.specs.Sets.{Set, ◌∈◌, ◌∉◌}
use Rattle.litset.specs.Words.{n_words}

-- How many words a `NameSet` has: a name has two literals.
abbrev pub name_words : ℕ
name_words = n_words / 2

-- The names below this number can be members.
abbrev pub n_names : ℕ
n_names = 64 * name_words

-- the names below n for which there is room
abbrev pub below : ℕ → Set
below n k = ltb k n && ltb k n_names

-- word i of a set, with the bit of name k where it is of that word
abbrev pub word_with : (w i k : ℕ) → ℕ
word_with w i k = cond (eqb i (k / 64)) (bit_or w (2 ^ (k % 64))) w

-- the lowest name of S, if S has any
abbrev pub LowestOf : Set → Option ℕ → Type 0
LowestOf S None = (k : ℕ) → k ∉ S
LowestOf S (Some k) = (k ∈ S) × ((j : ℕ) → j < k → j ∉ S)
