-- The check's answer from the count of the entries, the place of the first that does not follow and whether the claim is among them.
use mathlib.Core.Path.{◌≡◌, refl, sym, ◌∙◌}
use mathlib.Core.Bool.{Bool, true, false, cond, ◌&&◌}
use mathlib.Core.List.{List}
use Prim.Native.Nat.{ℕ, ◌≤◌, ◌<◌}
use native.Mathlib.Omega.{arith}
use mir.Val.{bool_byte}
use lib.Dec.{ltb, leb}
use lib.ListN.{length}
use borrow.Author.Tests.{lt-ltb, le-ltb, le-leb, lt-leb}
use Rattle.wfsx.specs.Sets.{Set}
use Rattle.wfsx.specs.Program.{Rule}
use Rattle.book.specs.Limits.{max_names}
use Rattle.book.specs.Book.{rows, clamp, name_at, names_of}
use Rattle.book.specs.declared.Book.{Book}
use lib.ListN.{take, length-take}
use Rattle.std.proofs.lemmas.List.{get_or-take}
use Rattle.book.proofs.Rows.{rows_length, rows_same}
use Rattle.sheet.specs.Flat.{zeros, entry_in}
use Rattle.sheet.specs.declared.SheetEntry.{SheetEntry}
use Rattle.sheet.specs.Sheet.{max_sheet, fault, kind_of, among, Judgement, accepted, refused, judged_by, none, judgement}
use Rattle.sheet.specs.Turns.{fault_or, FaultAt}
use Rattle.std.specs.Prelude.{Result, Ok, Err}

-- ---- what is known of a book, and the kind of a claim

pub known_names : (b : Book) {m : ℕ} → m ≡ clamp max_names b.names → m ≡ length (names_of b)
known_names b e = e ∙ sym (rows_length (name_at b.text b.lengths) 0 (clamp max_names b.names))

pub kind_byte : (truth : Bool) → bool_byte truth ≡ kind_of truth
kind_byte true = refl
kind_byte false = refl

-- ---- the first entries of a table, by themselves

module _ (table : List SheetEntry) (n : ℕ) (room : n ≤ length table) where
  cut_length : length (take n table) ≡ n
  cut_length = simp length-take (omega arith)

  cut_rows : rows (entry_in (take n table)) 0 (length (take n table)) ≡ rows (entry_in table) 0 n
  cut_rows = rw cut_length (rows_same (entry_in (take n table)) (entry_in table) 0 n (λ j l. get_or-take n table j zeros (omega arith)))

  pub cut_fault : {rules : List Rule} {facts : Set} {known : ℕ} {r : Result Unit ℕ} → FaultAt rules facts known (entry_in (take n table)) (length (take n table)) r
      → FaultAt rules facts known (entry_in table) n r
  cut_fault f = record { within = rw cut_length at f.within; found = rw cut_rows at f.found }

  pub cut_among : (kind A : ℕ) {b : Bool} → b ≡ among kind A (rows (entry_in (take n table)) 0 (length (take n table))) → b ≡ among kind A (rows (entry_in table) 0 n)
  cut_among kind A e = rw cut_rows at e

-- ---- the answer

module _ (rules : List Rule) (facts : Set) (known : ℕ) (truth : Bool) (A : ℕ) (e : ℕ → SheetEntry) (n : ℕ) where
  abbrev answer : Judgement
  answer = judgement rules facts known truth A (rows e 0 n)

  answer_is : answer ≡ cond (ltb 0 n && leb n max_sheet) (judged_by (fault rules facts known (rows e 0 n)) (among (kind_of truth) A (rows e 0 n))) (refused 26 0)
  unfolding judgement
  answer_is = rw (rows_length e 0 n) refl

  pub no_entries : n ≡ 0 → refused 26 0 ≡ answer
  no_entries z = sym (answer_is ∙ rw (le-ltb 0 n (omega arith)) refl)

  pub too_many : max_sheet < n → refused 26 0 ≡ answer
  too_many h = sym (answer_is ∙ rw (lt-ltb 0 n (omega arith), lt-leb n max_sheet h) refl)

  module _ (any : n ≡ 0 → ⊥) (most : n ≤ max_sheet) where
    judged : answer ≡ judged_by (fault rules facts known (rows e 0 n)) (among (kind_of truth) A (rows e 0 n))
    judged = answer_is ∙ rw (lt-ltb 0 n (omega arith), le-leb n max_sheet most) refl

    pub not_following : {k : ℕ} → FaultAt rules facts known e n (Err k) → refused 27 k ≡ answer
    unfolding judged_by
    not_following f = sym (judged ∙ rw f.found refl)

    module _ {r : Result Unit ℕ} (no_fault : (k : ℕ) → r ≡ Err k → ⊥) (f : FaultAt rules facts known e n r) {b : Bool} (claimed : b ≡ among (kind_of truth) A (rows e 0 n)) where
      none_found : fault rules facts known (rows e 0 n) ≡ none
      none_found = go r no_fault f.found
        where
          go : (r : Result Unit ℕ) → ((k : ℕ) → r ≡ Err k → ⊥) → fault rules facts known (rows e 0 n) ≡ fault_or r none → fault rules facts known (rows e 0 n) ≡ none
          go (Ok u) n f = f
          go (Err k) n f = absurd (n k refl)

      pub claim_there : b ≡ true → accepted ≡ answer
      unfolding judged_by
      claim_there y = sym (judged ∙ rw (none_found, ← claimed, y) refl)

      pub claim_missing : b ≡ false → refused 28 0 ≡ answer
      unfolding judged_by
      claim_missing y = sym (judged ∙ rw (none_found, ← claimed, y) refl)
