-- What a call that writes into a lent buffer answers and leaves there (document 01, "The listing, whole": the call answers the length, the bytes
-- after it stay; number 25: the lent buffer is shorter than the listing, and no byte of it changes).
use Rattle.std.specs.Prelude.{◌≡◌, cond, List, ◌++◌, ℕ, leb, length, drop}
use Rattle.std.specs.Prelude.{Option, None, Some}

unfoldable pub written_of : List ℕ → List ℕ → Option ℕ
written_of bytes buffer = cond (leb (length bytes) (length buffer)) (Some (length bytes)) None

unfoldable pub buffer_of : List ℕ → List ℕ → List ℕ
buffer_of bytes buffer = cond (leb (length bytes) (length buffer)) (bytes ++ drop (length bytes) buffer) buffer

-- the answer r and the buffer afterwards of a call that is to write `bytes`
pub record Writes (bytes before : List ℕ) (r : Option ℕ) (after : List ℕ) : Type 0 where
  pub answer : r ≡ written_of bytes before
  pub buffer : after ≡ buffer_of bytes before
