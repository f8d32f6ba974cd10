-- A name that is not found joins the others: its key stands behind those of the names before it, which stay as they are.
use mathlib.Core.Path.{◌≡◌, refl, sym, ap, ◌∙◌}
use mathlib.Core.List.{List, [], ◌∷◌, ◌++◌}
use Prim.Native.Nat.{ℕ, ◌≤◌, ◌<◌, zero-le}
use native.Mathlib.Nat.{zero-add}
use native.Mathlib.Decide.{dec_lt}
use native.Mathlib.Omega.{arith}
use lib.ListN.{length, get_or, set, length-append, length-set, get_or-append}
use lib.Seq.{get_or-set_same, get_or-set_other, get_or-append_seam}
use borrow.Author.Tests.{lt-ltb}
use Rattle.scan.specs.Text.{max_length}
use Rattle.scan.specs.declared.Alphabet.TheVariants.{EitherCase}
use Rattle.scan.specs.declared.Key.{Key}
use Rattle.book.specs.Limits.{max_names}
use Rattle.book.specs.Book.{find}
use Rattle.std.specs.Prelude.{None, Some}
use Rattle.book.proofs.Lookup.{find_kept, find_joined}
use Rattle.keys.specs.Keyed.{no_key, key_at, no_names, put_key, KeyFor, Keyed}

-- a table in which no name is declared has the keys of no names
pub keyed_none : Keyed [] no_names.keys
keyed_none = record { room = refl; few = zero-le; has_key = λ k h. absurd (omega (arith, h)); short = λ k h. absurd (omega (arith, h)); own_place = λ k h. absurd (omega (arith, h)) }

module _ {names : List (List ℕ)} {keys : List Key} {key : Key} {n : List ℕ} (held : Keyed names keys) (p : KeyFor key n) (k : ℕ) (last : k ≡ length names)
    (room : k < max_names) (brief : length n ≤ max_length) (new : find EitherCase names n ≡ None) where
  -- what holds of the names before and of the new one holds of all
  each : (P : ℕ → List ℕ → Type 0) → ((j : ℕ) → j < length names → P j (get_or names j [])) → P k n
      → (j : ℕ) → j < length (names ++ (n ∷ [])) → P j (get_or (names ++ (n ∷ [])) j [])
  each P old here j h = go (dec_lt j (length names))
    where
      go : Dec (j < length names) → P j (get_or (names ++ (n ∷ [])) j [])
      go (yes l) = rw (get_or-append names (n ∷ []) [] j l) (old j l)
      go (no l) =
          let e : j ≡ k = omega (arith, length-append names (n ∷ [])) in
          let seam : get_or (names ++ (n ∷ [])) k [] ≡ n = rw last (get_or-append_seam names n [] []) in
          rw (e, seam) here

  joined : Keyed (names ++ (n ∷ [])) (set keys k key)
  joined =
      record {
        room = length-set keys k key ∙ held.room;
        few = omega (arith, length-append names (n ∷ []));
        has_key =
            each (λ j m. KeyFor (key_at (set keys k key) j) m) (λ j l. rw (get_or-set_other keys k j key no_key (λ e. omega arith)) (held.has_key j l))
            (rw (get_or-set_same keys k key no_key (omega (arith, held.room))) p);
        short = each (λ j m. length m ≤ max_length) held.short brief;
        own_place =
            each (λ j m. find EitherCase (names ++ (n ∷ [])) m ≡ Some j) (λ j l. find_kept EitherCase (get_or names j []) 0 j names (n ∷ []) (held.own_place j l))
            (find_joined EitherCase n 0 names new ∙ ap Some (zero-add (length names) ∙ sym last));
      }

  pub keyed_more : Keyed (names ++ (n ∷ [])) (put_key keys k key)
  keyed_more = rw (lt-ltb k max_names room) joined
