-- A name that is not found joins the others in the table of plain numbers: those of its key stand behind those of the names before it, which stay as they are.
use mathlib.Core.Path.{◌≡◌, sym, ap, ◌∙◌}
use mathlib.Core.List.{List, [], ◌∷◌, ◌++◌}
use Prim.Native.Nat.{ℕ, ◌+◌, ◌*◌, ◌≤◌, ◌<◌}
use native.Mathlib.Nat.{zero-add}
use native.Mathlib.Decide.{dec_lt}
use native.Mathlib.Omega.{arith}
use lib.ListN.{length, get_or, set, length-append, length-set, get_or-append}
use lib.Seq.{get_or-set_same, get_or-set_other, get_or-append_seam}
use borrow.Author.Tests.{lt-ltb}
use Rattle.scan.specs.Text.{max_length}
use Rattle.scan.specs.declared.Alphabet.TheVariants.{EitherCase}
use Rattle.scan.specs.declared.Key.{Key}
use Rattle.book.specs.Limits.{max_names}
use Rattle.book.specs.Book.{find}
use Rattle.std.specs.Prelude.{None, Some}
use Rattle.book.proofs.Lookup.{find_kept, find_joined}
use Rattle.keys.specs.Keyed.{KeyFor}
use Rattle.keys.specs.Numbers.{key_in_numbers, with_key, put_numbers, KeyedNumbers}

module _ (keys : List ℕ) (k : ℕ) (key : Key) where
  abbrev one : List ℕ
  one = set keys (3 * k) key.length

  abbrev two : List ℕ
  two = set one (3 * k + 1) key.first

  size_two : length two ≡ length keys
  size_two = length-set one (3 * k + 1) key.first ∙ length-set keys (3 * k) key.length

  pub key_room : length (with_key keys k key) ≡ length keys
  key_room = length-set two (3 * k + 2) key.second ∙ size_two

  other : (i : ℕ) → (i ≡ 3 * k → ⊥) → (i ≡ 3 * k + 1 → ⊥) → (i ≡ 3 * k + 2 → ⊥) → get_or (with_key keys k key) i 0 ≡ get_or keys i 0
  other i a b c =
      get_or-set_other two (3 * k + 2) i key.second 0 c ∙ get_or-set_other one (3 * k + 1) i key.first 0 b ∙ get_or-set_other keys (3 * k) i key.length 0 a

  pub key_kept : (j : ℕ) → j < k → key_in_numbers (with_key keys k key) j ≡ key_in_numbers keys j
  key_kept j h =
      rw (
        other (3 * j) (λ e. omega arith) (λ e. omega arith) (λ e. omega arith),
        other (3 * j + 1) (λ e. omega arith) (λ e. omega arith) (λ e. omega arith),
        other (3 * j + 2) (λ e. omega arith) (λ e. omega arith) (λ e. omega arith),
      )

  pub key_put : 3 * k + 2 < length keys → key_in_numbers (with_key keys k key) k ≡ key
  key_put h =
      rw (first, second, third)
    where
      first : get_or (with_key keys k key) (3 * k) 0 ≡ key.length
      first =
          get_or-set_other two (3 * k + 2) (3 * k) key.second 0 (λ e. omega arith) ∙ get_or-set_other one (3 * k + 1) (3 * k) key.first 0 (λ e. omega arith)
          ∙ get_or-set_same keys (3 * k) key.length 0 (omega arith)

      second : get_or (with_key keys k key) (3 * k + 1) 0 ≡ key.first
      second =
          get_or-set_other two (3 * k + 2) (3 * k + 1) key.second 0 (λ e. omega arith)
          ∙ get_or-set_same one (3 * k + 1) key.first 0 (omega (arith, length-set keys (3 * k) key.length))

      third : get_or (with_key keys k key) (3 * k + 2) 0 ≡ key.second
      third = get_or-set_same two (3 * k + 2) key.second 0 (omega (arith, size_two))

module _ {names : List (List ℕ)} {keys : List ℕ} {key : Key} {n : List ℕ} (t : KeyedNumbers names keys) (p : KeyFor key n) (k : ℕ) (last : k ≡ length names)
    (room : k < max_names) (brief : length n ≤ max_length) (new : find EitherCase names n ≡ None) where
  -- what holds of the names before and of the new one holds of all
  each : (P : ℕ → List ℕ → Type 0) → ((j : ℕ) → j < length names → P j (get_or names j [])) → P k n
      → (j : ℕ) → j < length (names ++ (n ∷ [])) → P j (get_or (names ++ (n ∷ [])) j [])
  each P old here j h = go (dec_lt j (length names))
    where
      go : Dec (j < length names) → P j (get_or (names ++ (n ∷ [])) j [])
      go (yes l) = rw (get_or-append names (n ∷ []) [] j l) (old j l)
      go (no l) =
          let e : j ≡ k = omega (arith, length-append names (n ∷ [])) in
          let seam : get_or (names ++ (n ∷ [])) k [] ≡ n = rw last (get_or-append_seam names n [] []) in
          rw (e, seam) here

  joined : KeyedNumbers (names ++ (n ∷ [])) (with_key keys k key)
  joined =
      record {
        room = key_room keys k key ∙ t.room;
        few = omega (arith, length-append names (n ∷ []));
        has_key =
            each (λ j m. KeyFor (key_in_numbers (with_key keys k key) j) m) (λ j l. rw (key_kept keys k key j (omega arith)) (t.has_key j l))
            (rw (key_put keys k key (omega (arith, t.room))) p);
        short = each (λ j m. length m ≤ max_length) t.short brief;
        own_place =
            each (λ j m. find EitherCase (names ++ (n ∷ [])) m ≡ Some j) (λ j l. find_kept EitherCase (get_or names j []) 0 j names (n ∷ []) (t.own_place j l))
            (find_joined EitherCase n 0 names new ∙ ap Some (zero-add (length names) ∙ sym last));
      }

  pub numbers_more : KeyedNumbers (names ++ (n ∷ [])) (put_numbers keys k key)
  numbers_more = rw (lt-ltb k max_names room) joined
