-- A run of stores goes element by element, so it can be cut anywhere: a first store and the rest, or two runs, one behind the other. What lies past the
-- end is left out.
use mathlib.Core.Path.{◌≡◌, refl, sym, ap, ◌∙◌}
use mathlib.Core.List.{List, [], ◌∷◌, ◌++◌}
use Prim.Native.Nat.{ℕ, suc, ◌+◌, ◌≤◌, ◌<◌}
use native.Mathlib.Nat.{add-zero}
use native.Mathlib.Numerals.{add-one}
use native.Mathlib.Omega.{arith}
use lib.ListN.{length, get_or, drop, set, drop_of_length-le}
use lib.Seq.{sets, set_out, drop-cons}

pub sets_first : (t : List ℕ) (at v : ℕ) (vs : List ℕ) → sets t at (v ∷ vs) ≡ sets (set t at v) (at + 1) vs
sets_first t at v vs = ap (λ (k : ℕ). sets (set t at v) k vs) (sym (add-one at))

pub sets_append : (t : List ℕ) (at : ℕ) (a b : List ℕ) → sets (sets t at a) (at + length a) b ≡ sets t at (a ++ b)
sets_append t at [] b = ap (λ (k : ℕ). sets t k b) (add-zero at)
sets_append t at (x ∷ a) b =
    let next : at + suc (length a) ≡ suc at + length a = omega arith in
    ap (λ (k : ℕ). sets (sets (set t at x) (suc at) a) k b) next ∙ sets_append (set t at x) (suc at) a b

-- ---- for a loop that has come to element i, which belongs at p

module _ (t : List ℕ) (p : ℕ) (s : List ℕ) (i : ℕ) where
  pub sets_next : i < length s → sets t p (drop i s) ≡ sets (set t p (get_or s i 0)) (p + 1) (drop (i + 1) s)
  sets_next h = rw (add-one i, drop-cons s i 0 h) (sets_first t p (get_or s i 0) (drop (suc i) s))

  pub sets_end : length s ≤ i → sets t p (drop i s) ≡ t
  sets_end h = ap (sets t p) (drop_of_length-le s h)

pub sets_out : (t : List ℕ) (p : ℕ) (vs : List ℕ) → length t ≤ p → sets t p vs ≡ t
sets_out t p [] h = refl
sets_out t p (v ∷ vs) h = rw (set_out t p v h) (sets_out t (suc p) vs (omega arith))
