-- The look-up by keys is the look-up among the names: two names are the same exactly where their keys are, and since each name is found at its own place, a
-- name whose key matches is the one that is found, wherever the hint came from.
use mathlib.Core.Path.{◌≡◌, sym, ap, ◌∙◌}
use mathlib.Core.Bool.{true, false}
use mathlib.Core.List.{List, [], ◌∷◌}
use Prim.Native.Nat.{ℕ, suc, min, ◌≤◌, ◌<◌}
use native.Mathlib.Omega.{arith}
use lib.ListN.{length, get_or, take}
use Rattle.std.proofs.Common.{get_or-take, length-take}
use Rattle.scan.specs.Text.{same_name}
use Rattle.scan.specs.Keys.{same_key}
use Rattle.scan.specs.declared.Alphabet.TheVariants.{EitherCase}
use Rattle.scan.specs.declared.Key.{Key}
use Rattle.scan.proofs.Names.{same_decides}
use Rattle.scan.proofs.Keys.{keys_tell}
use Rattle.book.specs.Book.{find_from, find}
use Rattle.std.specs.Prelude.{None, Some}
use Rattle.book.proofs.Lookup.{find_none, find_later, find_same}
use Rattle.keys.specs.Keyed.{no_key, key_at, KeyFor, Keyed, LookedUp}

-- the two answers of a look-up
pub nothing_at : {i : ℕ} → None ≡ Some i → ⊥
nothing_at e = let z : ◌≡◌ {A = ℕ} 0 1 = cc in omega arith

pub at_same : {i j : ℕ} → Some i ≡ Some j → i ≡ j
at_same e = cc

-- a name that none of the names is is not found
not_among : (n : List ℕ) (k : ℕ) (names : List (List ℕ)) → ((j : ℕ) → j < length names → same_name EitherCase (get_or names j []) n ≡ false)
    → find_from EitherCase k n names ≡ None
not_among n k [] none = find_none EitherCase k n
not_among n k (m ∷ ms) none =
    find_later EitherCase k n m ms (none 0 (omega arith)) ∙ not_among n (suc k) ms (λ j h. none (suc j) (omega arith))

module _ {names : List (List ℕ)} {keys : List Key} {key : Key} {n : List ℕ} (held : Keyed names keys) (p : KeyFor key n) where
  -- name k has the key exactly where it is the same name
  key_tells : (k : ℕ) → k < length names → same_key (key_at keys k) key ≡ same_name EitherCase (get_or names k []) n
  key_tells k h =
      let own = held.has_key k h in
      keys_tell EitherCase (get_or names k []) n (key_at keys k) key (own.key_is, own.bytes) (p.key_is, p.bytes) (λ e. held.short k h)

  pub found_here : (k : ℕ) → k < length names → same_key (key_at keys k) key ≡ true → find EitherCase names n ≡ Some k
  found_here k h e =
      let same = (same_decides EitherCase (get_or names k []) n).0 (sym (key_tells k h) ∙ e) in
      sym (find_same EitherCase (get_or names k []) n 0 names same) ∙ held.own_place k h

  pub found_none : ((k : ℕ) → k < length names → same_key (key_at keys k) key ≡ false) → find EitherCase names n ≡ None
  found_none none = not_among n 0 names (λ k h. sym (key_tells k h) ∙ none k h)

-- ---- the answer of a look-up

module _ (keys : List Key) (count : ℕ) (key : Key) where
  pub looked_at : (k : ℕ) → k < count → same_key (key_at keys k) key ≡ true → LookedUp keys count key (Some k)
  looked_at k h e =
      record {
        below = λ i q. omega (arith, h, at_same q);
        found = λ names n held size p. sym (found_here held p k (omega (arith, size, h)) e);
      }

  -- the first of a part of the keys
  pub looked_first : (few k : ℕ) → few ≤ count → k < length (take few keys) → same_key (get_or (take few keys) k no_key) key ≡ true → LookedUp keys count key (Some k)
  looked_first few k h l e =
      let inside : k < few = omega (arith, l, length-take few keys) in
      looked_at k (omega (arith, h, inside)) (ap (λ (x : Key). same_key x key) (sym (get_or-take few keys k no_key inside)) ∙ e)

  -- none of those that there are
  pub looked_none : (few : ℕ) → few ≡ min count (length keys) → ((k : ℕ) → k < length (take few keys) → same_key (get_or (take few keys) k no_key) key ≡ false)
      → LookedUp keys count key None
  looked_none few m none =
      record {
        below = λ i q. absurd (nothing_at q);
        found = λ names n held size p.
            let each : (k : ℕ) → k < length names → same_key (key_at keys k) key ≡ false =
            λ k h. let inside : k < few = omega (arith, m, size, held.few, held.room, h) in
            ap (λ (x : Key). same_key x key) (sym (get_or-take few keys k no_key inside)) ∙ none k (omega (arith, inside, m, length-take few keys)) in
            sym (found_none held p each);
      }
