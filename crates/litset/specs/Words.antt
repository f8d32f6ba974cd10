-- A list of words of 64 bits, of any length, as a set of literals.
use Rattle.std.specs.Prelude.{Option, None, Some, Bool, not, cond, ◌&&◌, List, ℕ, zero, suc, ◌+◌, ◌*◌, ◌/◌, ◌%◌, ◌^◌, ◌<◌, eqb, ltb, leb, get_or}
use Rattle.wfsx.specs.Sets.{Set, add}
use Rattle.wfsx.specs.Model.{Both}

-- How many words a `LitSet` has: `WORDS` in src/lib.rt is the same number.
abbrev pub n_words : ℕ
n_words = 4

-- The literals below this number can be members of a `LitSet`.
abbrev pub capacity : ℕ
capacity = 64 * n_words

-- those literals as a set
abbrev pub room : Set
room A = ltb A capacity

-- bit k of w
abbrev pub bit : ℕ → ℕ → Bool
bit w k = eqb (w / 2 ^ k % 2) 1

-- The literal l is a member where bit l % 64 of word l / 64 is set. Past the last word every word counts as 0.
unfoldable pub set_of : List ℕ → Set
set_of ws l = bit (get_or ws (l / 64) 0) (l % 64)

-- the literals from k on for which a `LitSet` has room
abbrev pub from_on : ℕ → Set
from_on k A = leb k A && room A

-- S with l added, where l is below n
unfoldable pub add_below : ℕ → ℕ → Set → Set
add_below n l S = cond (ltb l n) (add l S) S

-- S with l added, where a `LitSet` has room for l
unfoldable pub with : ℕ → Set → Set
with l S = cond (ltb l capacity) (add l S) S

-- S with l taken away
unfoldable pub without : ℕ → Set → Set
without l S A = S A && not (eqb A l)

-- n is the lowest-numbered name with both literals in S
abbrev pub LowestBoth : Set → ℕ → Type 0
LowestBoth S n = Both S n × ((k : ℕ) → k < n → Both S k → ⊥)

abbrev pub ClashOf : Set → Option ℕ → Type 0
ClashOf S None = (n : ℕ) → Both S n → ⊥
ClashOf S (Some n) = LowestBoth S n

-- the lowest-numbered of the n names from k on that has both literals in S
unfoldable pub clash_from : Set → ℕ → ℕ → Option ℕ
clash_from S k zero = None
clash_from S k (suc n) =
    let later = clash_from S (suc k) n in
    cond (S (2 * k) && S (2 * k + 1)) (Some k) later

-- the lowest-numbered name with both literals in S, among all whose literals a set has room for
abbrev pub clash_in : Set → Option ℕ
clash_in S = clash_from S 0 (capacity / 2)
