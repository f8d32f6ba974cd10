-- Bytes stored from a place on: two runs, one behind the other, are one run, and a run that fits from the start on is what the buffer then begins
-- with.
use mathlib.Core.Path.{◌≡◌, refl, sym, ap, ◌∙◌}
use mathlib.Core.List.{List, [], ◌∷◌, ◌++◌}
use Prim.Native.Nat.{ℕ, ◌+◌, ◌≤◌}
use native.Mathlib.Nat.{add-zero, zero-add}
use native.Mathlib.Omega.{arith}
use lib.ListN.{length, drop, set, length-append}
use lib.Seq.{sets, sets-eq, length-sets}
use Rattle.store.proofs.Stored.{sets_append}
use Rattle.lister.specs.Steps.{Room, Put}

put_none : (at : ℕ) (t : List ℕ) → Put [] at t t at
put_none at t = record { place = sym (add-zero at); stored = refl }

pub put_then : {a b t u w : List ℕ} {at p q : ℕ} → Put a at t u p → Put b p u w q → Put (a ++ b) at t w q
put_then {a} {b} {t} {u} {w} {at} {p} {q} x y =
    record {
      place = y.place ∙ rw x.place (omega (arith, length-append a b));
      stored = y.stored ∙ rw (x.stored, x.place) (sets_append t at a b);
    }

pub put_length : {a t u : List ℕ} {at p : ℕ} → Put a at t u p → length u ≡ length t
put_length {a} {t} {u} {at} {p} x = ap length x.stored ∙ length-sets t at a

-- bytes that fit, stored from the start on
pub put_whole : {a t u : List ℕ} {p : ℕ} → Put a 0 t u p → length a ≤ length t → u ≡ a ++ drop (length a) t
put_whole {a} {t} {u} {p} x h = x.stored ∙ sets-eq a t 0 (omega arith) ∙ ap (λ (k : ℕ). a ++ drop k t) (zero-add (length a))

pub put_run : (a : List ℕ) {t u : List ℕ} {at : ℕ} → u ≡ sets t at a → Put a at t u (at + length a)
put_run a e = record { place = refl; stored = e }

pub put_byte : {t u : List ℕ} {at v : ℕ} → u ≡ set t at v → Put (v ∷ []) at t u (at + 1)
put_byte {v = v} e = put_run (v ∷ []) e

-- ---- room for a run is room for its first part, and for the rest behind that

pub room_first : (a b : List ℕ) {at : ℕ} → Room (a ++ b) at → Room a at
room_first a b h = record { fits = omega (arith, length-append a b) }

pub room_rest : (a b : List ℕ) {at p : ℕ} {t u : List ℕ} → Room (a ++ b) at → Put a at t u p → Room b p
room_rest a b h x = record { fits = omega (arith, length-append a b, x.place) }

-- of three runs, one behind the other
module _ (a b c : List ℕ) {at p : ℕ} {t u : List ℕ} (h : Room (a ++ (b ++ c)) at) (x : Put a at t u p) where
  pub room_second : Room b p
  room_second = room_first b c (room_rest a (b ++ c) h x)

  pub room_third : {q : ℕ} {w : List ℕ} → Put b p u w q → Room c q
  room_third y = room_rest b c (room_rest a (b ++ c) h x) y

-- ---- a loop that has stored a part of `all`: there is room for the rest, and who stores the rest has stored all

pub record Left (all : List ℕ) (at : ℕ) (before rest : List ℕ) (p : ℕ) (reached : List ℕ) : Type 0 where
  pub room : Room rest p
  pub finish : (w : List ℕ) (q : ℕ) → Put rest p reached w q → Put all at before w q

pub left_all : {all t : List ℕ} {at : ℕ} → Room all at → Left all at t all at t
left_all h = record { room = h; finish = λ w q x. x }

pub left_step : {all t u w : List ℕ} {at p q : ℕ} (a b : List ℕ) → Left all at t (a ++ b) p u → Put a p u w q → Left all at t b q w
left_step a b l x = record { room = room_rest a b l.room x; finish = λ w q y. l.finish w q (put_then x y) }

pub left_none : {all t u : List ℕ} {at p : ℕ} → Left all at t [] p u → Put all at t u p
left_none {all} {t} {u} {at} {p} l = l.finish u p (put_none p u)
