-- A first run of stores tells how long the bytes are, whatever it stores into. Where the buffer is shorter nothing is stored in it, and where it
-- is not, a second run puts the bytes at its start.
use mathlib.Core.Path.{◌≡◌, refl, ap, ◌∙◌, sym}
use mathlib.Core.Bool.{Bool, true, false, cond}
use mathlib.Core.List.{List, ◌++◌}
use Prim.Native.Nat.{ℕ, ◌≤◌, ◌<◌}
use native.Mathlib.Nat.{zero-add}
use native.Mathlib.Omega.{arith}
use lib.Dec.{leb}
use lib.ListN.{length, drop}
use borrow.Author.Tests.{le-leb, lt-leb}
use Rattle.std.specs.Prelude.{Option, None, Some}
use Rattle.lister.specs.Buffer.{written_of, buffer_of, Writes}
use Rattle.lister.specs.Steps.{Put}
use Rattle.lister.proofs.Stored.{put_whole}

size : {bytes t u : List ℕ} {n : ℕ} → Put bytes 0 t u n → n ≡ length bytes
size {bytes} tried = tried.place ∙ zero-add (length bytes)

module _ {bytes t u before : List ℕ} {n : ℕ} (tried : Put bytes 0 t u n) where
  pub writes_short : length before < n → Writes bytes before None before
  unfolding written_of buffer_of
  writes_short h =
      let no = lt-leb (length bytes) (length before) (omega (arith, size tried)) in
      record { answer = rw no refl; buffer = rw no refl }

  pub writes_whole : n ≤ length before → {after : List ℕ} {q : ℕ} → Put bytes 0 before after q → Writes bytes before (Some n) after
  unfolding written_of buffer_of
  writes_whole h x =
      let fits : length bytes ≤ length before = omega (arith, size tried) in
      let yes = le-leb (length bytes) (length before) fits in
      record { answer = rw yes (ap Some (size tried)); buffer = rw yes (put_whole x fits) }

-- ---- for a caller

-- by what was answered
module _ {bytes before after : List ℕ} {r : Option ℕ} (w : Writes bytes before r after) where
  pub was_written : (n : ℕ) → r ≡ Some n → (leb (length bytes) (length before) ≡ true) × (length bytes ≡ n) × (after ≡ bytes ++ drop n before)
  unfolding written_of buffer_of
  was_written n e = go (leb (length bytes) (length before)) (sym w.answer ∙ e) w.buffer
    where
      go : (t : Bool) → cond t (Some (length bytes)) None ≡ Some n → after ≡ cond t (bytes ++ drop (length bytes) before) before
          → (t ≡ true) × (length bytes ≡ n) × (after ≡ bytes ++ drop n before)
      go true q b = let same : length bytes ≡ n = cc in (refl, same, b ∙ ap (λ (k : ℕ). bytes ++ drop k before) same)
      go false q b = let z : ◌≡◌ {A = ℕ} 0 1 = cc in absurd (omega arith)

  pub was_short : r ≡ None → (leb (length bytes) (length before) ≡ false) × (after ≡ before)
  unfolding written_of buffer_of
  was_short e = go (leb (length bytes) (length before)) (sym w.answer ∙ e) w.buffer
    where
      go : (t : Bool) → cond t (Some (length bytes)) None ≡ None → after ≡ cond t (bytes ++ drop (length bytes) before) before → (t ≡ false) × (after ≡ before)
      go true q b = let z : ◌≡◌ {A = ℕ} 0 1 = cc in absurd (omega arith)
      go false q b = (refl, b)

-- in a buffer that is long enough
pub length_answered : {bytes before after : List ℕ} {r : Option ℕ} → Writes bytes before r after → length bytes ≤ length before → r ≡ Some (length bytes)
unfolding written_of
length_answered {bytes} {before} w fits = w.answer ∙ rw (le-leb (length bytes) (length before) fits) refl
