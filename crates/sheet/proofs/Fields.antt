-- Entries stored one behind the other in plain numbers are the first entries of a table: a store at entry i changes none before it, and what is read there is
-- what was stored.
use mathlib.Core.Path.{◌≡◌, refl, sym, ◌∙◌, ap}
use mathlib.Core.List.{List, [], ◌∷◌, ◌++◌}
use Prim.Native.Nat.{ℕ, zero, suc, ◌+◌, ◌*◌, ◌/◌, ◌≤◌, ◌<◌}
use native.Mathlib.Omega.{arith}
use lib.ListN.{length, get_or, set, length-set, get_or-eq_default}
use lib.Seq.{sets, length-sets, get_or-set_same, get_or-set_other}
use Rattle.store.proofs.Stored.{sets_out}
use Rattle.book.proofs.Rows.{rows_same, rows_last}
use Rattle.sheet.specs.Numbers.{entry_in_numbers, entries_in_numbers, with_entry}
use Rattle.sheet.specs.declared.SheetEntry.{SheetEntry}

-- ---- a run of stores, read

sets_before : (t : List ℕ) (p : ℕ) (vs : List ℕ) (j : ℕ) → j < p → get_or (sets t p vs) j 0 ≡ get_or t j 0
sets_before t p [] j h = refl
sets_before t p (v ∷ vs) j h = sets_before (set t p v) (suc p) vs j (omega arith) ∙ get_or-set_other t p j v 0 (λ e. omega arith)

sets_at : (t : List ℕ) (p : ℕ) (vs : List ℕ) (k : ℕ) → k < length vs → p + length vs ≤ length t → get_or (sets t p vs) (p + k) 0 ≡ get_or vs k 0
sets_at t p [] k h w = absurd (omega arith)
sets_at t p (v ∷ vs) zero h w =
    let e : p + 0 ≡ p = omega arith in
    rw e (sets_before (set t p v) (suc p) vs p (omega arith) ∙ get_or-set_same t p v 0 (omega arith))
sets_at t p (v ∷ vs) (suc k) h w =
    let e : p + suc k ≡ suc p + k = omega arith in
    let l = length-set t p v in
    rw e (sets_at (set t p v) (suc p) vs k (omega arith) (omega arith))

-- ---- one entry

-- the four numbers of an entry
abbrev pub numbers_of : SheetEntry → List ℕ
numbers_of e = e.kind ∷ e.literal ∷ e.rule ∷ e.group ∷ []

module _ (fields : List ℕ) (i : ℕ) where
  past_end : length fields / 4 < i → length fields ≤ 4 * i
  past_end h = omega arith

  pub read_past : length fields / 4 < i → record { kind = 0; literal = 0; rule = 0; group = 0 } ≡ entry_in_numbers fields i
  unfolding entry_in_numbers
  read_past h =
      let p = past_end h in
      let zero-at : (k : ℕ) → length fields ≤ k → get_or fields k 0 ≡ 0 = λ k n. get_or-eq_default fields 0 n in
      rw (zero-at (4 * i) p, zero-at (4 * i + 1) (omega arith), zero-at (4 * i + 2) (omega arith), zero-at (4 * i + 3) (omega arith)) refl

  pub read_at : {k l r g : ℕ} → k ≡ get_or fields (4 * i) 0 → l ≡ get_or fields (4 * i + 1) 0 → r ≡ get_or fields (4 * i + 2) 0 → g ≡ get_or fields (4 * i + 3) 0
      → record { kind = k; literal = l; rule = r; group = g } ≡ entry_in_numbers fields i
  unfolding entry_in_numbers
  read_at k l r g = rw (k, l, r, g) refl

  module _ (e : SheetEntry) where
    pub stored_past : length fields / 4 < i → fields ≡ with_entry fields i e
    unfolding with_entry
    stored_past h = sym (sets_out fields (4 * i) (numbers_of e) (past_end h))

    pub stored_at : {t u v w : List ℕ} → t ≡ set fields (4 * i) e.kind → u ≡ set t (4 * i + 1) e.literal → v ≡ set u (4 * i + 2) e.rule
        → w ≡ set v (4 * i + 3) e.group → w ≡ with_entry fields i e
    unfolding with_entry
    stored_at a b c d =
        let x : 4 * i + 1 ≡ suc (4 * i) = omega arith in
        let y : 4 * i + 2 ≡ suc (suc (4 * i)) = omega arith in
        let z : 4 * i + 3 ≡ suc (suc (suc (4 * i))) = omega arith in
        rw (d, c, b, a, x, y, z) refl

    pub stored_length : length (with_entry fields i e) ≡ length fields
    unfolding with_entry
    stored_length = length-sets fields (4 * i) (numbers_of e)

    -- ---- the first entries

    other_stays : (k : ℕ) → k < i → entry_in_numbers (with_entry fields i e) k ≡ entry_in_numbers fields k
    unfolding entry_in_numbers with_entry
    other_stays k h =
        let same : (j : ℕ) → j < 4 * i → get_or (sets fields (4 * i) (numbers_of e)) j 0 ≡ get_or fields j 0 = sets_before fields (4 * i) (numbers_of e) in
        rw (same (4 * k) (omega arith), same (4 * k + 1) (omega arith), same (4 * k + 2) (omega arith), same (4 * k + 3) (omega arith)) refl

    stored_is : 4 * i + 4 ≤ length fields → entry_in_numbers (with_entry fields i e) i ≡ e
    unfolding entry_in_numbers with_entry
    stored_is h =
        let same : (k : ℕ) → k < 4 → get_or (sets fields (4 * i) (numbers_of e)) (4 * i + k) 0 ≡ get_or (numbers_of e) k 0 = λ k l. sets_at fields (4 * i) (numbers_of e) k l h in
        let zeroth : 4 * i ≡ 4 * i + 0 = omega arith in
        rw (ap (λ (k : ℕ). get_or (sets fields (4 * i) (numbers_of e)) k 0) zeroth ∙ same 0 (omega arith), same 1 (omega arith), same 2 (omega arith), same 3 (omega arith)) refl

-- an entry stored behind the first i
pub fields_more : (fields : List ℕ) (i : ℕ) (e : SheetEntry) → 4 * i + 4 ≤ length fields → entries_in_numbers (with_entry fields i e) (i + 1) ≡ entries_in_numbers fields i ++ (e ∷ [])
fields_more fields i e h =
    let here : 0 + i ≡ i = omega arith in
    rows_last (entry_in_numbers (with_entry fields i e)) 0 i
    ∙ rw (here, stored_is fields i e h, rows_same (entry_in_numbers (with_entry fields i e)) (entry_in_numbers fields) 0 i (λ k l. other_stays fields i e k (omega arith))) refl
