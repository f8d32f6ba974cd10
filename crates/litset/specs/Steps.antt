-- What the set's own functions tell each other of one word; no public contract cites it.
use Rattle.std.specs.Prelude.{◌≡◌, ℕ, ◌+◌, ◌*◌, ◌/◌, ◌%◌, ◌^◌, ◌<◌, leb}
use Rattle.std.specs.Int.Bits.{bit_and, bit_or}
use Rattle.litset.specs.Words.{bit}

-- w is word i of the literals from k on
abbrev pub WordFrom : (k i w : ℕ) → Type 0
WordFrom k i w = (j : ℕ) → j < 64 → bit w j ≡ leb k (64 * i + j)

-- The bits at the even places, those of the literals that are names: `PLAIN` in src/lib.rt is the same number.
abbrev pub plain : ℕ
plain = 6148914691236517205

-- a word with the two bits of each name exchanged
abbrev pub exchange : ℕ → ℕ
exchange w = bit_or (bit_and (w / 2 ^ 1) plain) (bit_and w plain * 2 ^ 1 % 2 ^ 64)

-- the plain bits of the names that have both literals in a word
abbrev pub pairs : ℕ → ℕ
pairs w = bit_and (bit_and w (w / 2 ^ 1)) plain
