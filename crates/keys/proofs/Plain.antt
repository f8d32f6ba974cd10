-- The table as plain numbers: where it has the keys of the names, so has the list of the keys that it holds. The laws of the look-up by keys hold for it too.
use mathlib.Core.Path.{◌≡◌, sym, ◌∙◌}
use mathlib.Core.Bool.{true, false}
use mathlib.Core.List.{List}
use Prim.Native.Nat.{ℕ, ◌+◌, ◌≤◌, ◌<◌}
use native.Mathlib.Omega.{arith}
use lib.ListN.{length}
use Rattle.scan.specs.Keys.{same_key}
use Rattle.scan.specs.declared.Key.{Key}
use Rattle.book.specs.Limits.{max_names}
use Rattle.book.proofs.Rows.{rows_length, row_at}
use Rattle.std.specs.Prelude.{Option, None, Some}
use Rattle.keys.specs.Keyed.{no_key, key_at, Keyed, LookedUp}
use Rattle.keys.specs.Numbers.{key_in_numbers, keys_of, KeyedNumbers, LookedUpNumbers}
use Rattle.keys.proofs.Found.{nothing_at, at_same, found_here, found_none}

-- a key of the list is the key that three numbers hold
pub key_held : (keys : List ℕ) (k : ℕ) → k < max_names → key_at (keys_of keys) k ≡ key_in_numbers keys k
key_held keys k h = let z : 0 + k ≡ k = omega arith in row_at (key_in_numbers keys) no_key 0 max_names k h ∙ rw z

-- numbers that have the keys of the names hold a list of keys that has them
pub keyed_numbers : {names : List (List ℕ)} {keys : List ℕ} → KeyedNumbers names keys → Keyed names (keys_of keys)
keyed_numbers {names} {keys} t =
    record {
      room = rows_length (key_in_numbers keys) 0 max_names;
      few = t.few;
      has_key = λ k h. rw (key_held keys k (omega (arith, t.few, h))) (t.has_key k h);
      short = t.short;
      own_place = t.own_place;
    }

-- so what is said of a look-up among those keys says it of the numbers
pub looked_numbers : {keys : List ℕ} {count : ℕ} {key : Key} {r : Option ℕ} → LookedUp (keys_of keys) count key r → LookedUpNumbers keys count key r
looked_numbers l = record { below = l.below; found = λ names n t size p. l.found names n (keyed_numbers t) size p }

module _ (keys : List ℕ) (count : ℕ) (key : Key) where
  pub looked_number : (k : ℕ) → k < count → same_key (key_in_numbers keys k) key ≡ true → LookedUpNumbers keys count key (Some k)
  looked_number k h e =
      record {
        below = λ i q. omega (arith, h, at_same q);
        found =
            λ names n t size p.
            let inside : k < max_names = omega (arith, h, size, t.few) in
            sym (found_here (keyed_numbers t) p k (omega (arith, size, h)) (rw (key_held keys k inside) e));
      }

  pub no_number : count ≤ max_names → ((k : ℕ) → k < count → same_key (key_in_numbers keys k) key ≡ false) → LookedUpNumbers keys count key None
  no_number room none =
      record {
        below = λ i q. absurd (nothing_at q);
        found =
            λ names n t size p.
            let each : (k : ℕ) → k < length names → same_key (key_at (keys_of keys) k) key ≡ false =
            λ k h. let inside : k < max_names = omega (arith, h, t.few) in rw (key_held keys k inside) (none k (omega (arith, size, h))) in
            sym (found_none (keyed_numbers t) p each);
      }

  -- no file has so many
  pub many_names : max_names < count → LookedUpNumbers keys count key None
  many_names h = record { below = λ i q. absurd (nothing_at q); found = λ names n t size p. absurd (omega (arith, t.few, size, h)) }
