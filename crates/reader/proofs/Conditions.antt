-- Each number is given under its condition in document 01, "When a call is turned down by its input", and under no other, and a file is accepted
-- exactly where no condition is met. Each test decides its condition, so the first test that is true is the first condition that is met; and the lines
-- before the first faulty one are read one by one.
use mathlib.Core.Path.{◌≡◌, refl, sym, ap, ◌∙◌, subst}
use mathlib.Core.Logic.{◌⊎◌, inl, inr, ⊎_elim, ◌↔◌}
use mathlib.Core.Bool.{Bool, true, false, not, cond, true≢false}
use mathlib.Core.List.{List, [], ◌∷◌, ◌++◌, append-nil}
use Prim.Native.Nat.{ℕ, suc, ◌+◌, ◌≤◌, ◌<◌}
use native.Mathlib.Omega.{arith}
use lib.Dec.{eqb, ltb}
use lib.ListN.{length, take, drop, length-append}
use borrow.Author.Tests.{eqb-true, eqb-false, eq-eqb, ne_eqb}
use Rattle.wfsx.specs.Program.{Rule}
use Rattle.scan.specs.Text.{is_text, all_bytes, fields, word_of, comma}
use Rattle.scan.proofs.Places.{split_some}
use Rattle.scan.specs.declared.Alphabet.TheVariants.{EitherCase}
use Rattle.reader.specs.File.{Content, nothing_yet, wrong_fields, malformed, declared_before, uses_undeclared, beyond_table, ◌when◌else◌, fault_of, line_fault, with_line, Outcome, accepted, refused, read_lines, max_bytes, has_bytes, unended, lines_of, read_file}
use Rattle.reader.specs.Conditions.{TooLong, StrangeByte, HasBytes, LastLineOpen, AfterEnd, FieldsWrong, FormWrong, NameTaken, NameMissing, TableFull, file_rows, field_rows, None, First, ◌unless◌, said_by, NoFaults, Judged, OnLine, Through, NoEnd, IsRefused, IsAccepted}
use Rattle.reader.proofs.Lines.{Faultless, lines_read}
use Rattle.reader.proofs.Order.{Gives, no_row, some_row, gives_row, gives_none, gives_first, gives_some, first_between, absent, first_absent, first_row}
use Rattle.reader.proofs.NoBytes.{no_bytes}
use Rattle.reader.proofs.Tests.{too_long, strange_byte, has_bytes_lem, last_open, fields_wrong, form_wrong, name_taken, name_missing, table_full}

-- ---- the number of a line

fields_give : (d : Content) (fs : List (List ℕ)) → 0 < length fs → Gives (line_fault EitherCase d fs) (field_rows d fs)
unfolding line_fault fault_of
fields_give d [] h = absurd (omega arith)
fields_give d (first ∷ others) h =
    let w = word_of first in
    gives_row 9 _ d.ended (λ e. e, λ e. e) (λ _.
    gives_row 4 _ (wrong_fields w others) (fields_wrong first others) (λ _.
    gives_row 5 _ (malformed EitherCase w others) (form_wrong first others) (λ formed.
    gives_row 6 _ (declared_before EitherCase d w others) (name_taken first others d) (λ _.
    gives_row 7 _ (uses_undeclared EitherCase d w others) (name_missing first others d formed) (λ _.
    gives_row 8 _ (beyond_table d w others) (table_full first others d) (λ _. no_row refl tt))))))

line_gives : (d : Content) (line : List ℕ) → Gives (line_fault EitherCase d (fields line)) (field_rows d (fields line))
line_gives d line = fields_give d (fields line) (split_some comma line)

line_none : (d : Content) (line : List ℕ) → (line_fault EitherCase d (fields line) ≡ 0) ↔ None (field_rows d (fields line))
line_none d line = gives_none (line_fault EitherCase d (fields line)) (field_rows d (fields line)) refl (line_gives d line)

faultless_is : (d : Content) (lines : List (List ℕ)) → Faultless d lines ↔ NoFaults d lines
faultless_is d [] = (λ f. f, λ s. s)
faultless_is d (line ∷ lines) =
    let rest = faultless_is (with_line EitherCase d (fields line)) lines in
    (λ f. ((line_none d line).0 f.0, rest.0 f.1), λ s. ((line_none d line).1 s.0, rest.1 s.1))

-- ---- the lines one by one

lines_skip : (d : Content) (at : ℕ) (before rest : List (List ℕ)) → Faultless d before
    → read_lines EitherCase d at (before ++ rest) ≡ read_lines EitherCase (said_by d before) (at + length before) rest
unfolding read_lines
lines_skip d at [] rest f = let e : at ≡ at + 0 = omega arith in ap (λ (n : ℕ). read_lines EitherCase d n rest) e
lines_skip d at (line ∷ before) rest f =
    let e : at + 1 + length before ≡ at + suc (length before) = omega arith in
    let now = said_by (with_line EitherCase d (fields line)) before in
    rw (eq-eqb (line_fault EitherCase d (fields line)) 0 f.0) (lines_skip (with_line EitherCase d (fields line)) (at + 1) before rest f.1 ∙ ap (λ (n : ℕ). read_lines EitherCase now n rest) e)

lines_through : (d : Content) (at : ℕ) (lines : List (List ℕ)) → Faultless d lines → read_lines EitherCase d at lines ≡ read_lines EitherCase (said_by d lines) (at + length lines) []
lines_through d at lines f = ap (read_lines EitherCase d at) (sym (append-nil lines)) ∙ lines_skip d at lines [] f

lines_stop : (d : Content) (at k : ℕ) (line : List ℕ) (lines : List (List ℕ)) → First k (field_rows d (fields line)) → read_lines EitherCase d at (line ∷ lines) ≡ refused k at
unfolding read_lines
lines_stop d at k line lines f =
    let rows = field_rows d (fields line) in
    let e = gives_first (line_fault EitherCase d (fields line)) rows refl (line_gives d line) k f in
    let some_number = (first_between 1 9 k rows refl f).0 in
    rw (e, ne_eqb k 0 (λ z. omega arith))

-- where lines after d, from line `at` on, are refused with k at line p
abbrev Stops : Content → ℕ → List (List ℕ) → ℕ → ℕ → Type 0
Stops d at lines k p =
    ((before : List (List ℕ)) × (line : List ℕ) × (after : List (List ℕ)) × (lines ≡ before ++ line ∷ after) × (p ≡ at + length before) × Faultless d before
    × First k (field_rows (said_by d before) (fields line)))
    ⊎ ((k ≡ 9) × (p ≡ at + length lines) × Faultless d lines × ((said_by d lines).ended ≡ false))

lines_refused : (d : Content) (at : ℕ) (lines : List (List ℕ)) (k p : ℕ) → read_lines EitherCase d at lines ≡ refused k p → Stops d at lines k p
unfolding read_lines
lines_refused d at [] k p e = go d.ended refl e
  where
    go : (t : Bool) → d.ended ≡ t → cond t (accepted d.names d.rules) (refused 9 at) ≡ refused k p → Stops d at [] k p
    go true q r = let z : ◌≡◌ {A = ℕ} 0 1 = cc in absurd (omega arith)
    go false q r = let there : p ≡ at = cc in inr (cc, omega arith, tt, q)
lines_refused d at (line ∷ lines) k p e =
    go (lines_refused (with_line EitherCase d (fields line)) (at + 1) lines k p) (eqb (line_fault EitherCase d (fields line)) 0) refl e
  where
    next : Outcome
    next = read_lines EitherCase (with_line EitherCase d (fields line)) (at + 1) lines

    more : line_fault EitherCase d (fields line) ≡ 0 → Stops (with_line EitherCase d (fields line)) (at + 1) lines k p → Stops d at (line ∷ lines) k p
    more z (inl s) =
        let before = s.0 in
        let place = s.4 in
        inl (line ∷ before, s.1, s.2, ap (λ (l : List (List ℕ)). line ∷ l) s.3, omega arith, (z, s.5), s.6)
    more z (inr s) = let place = s.1 in inr (s.0, omega arith, (z, s.2), s.3)

    go : (next ≡ refused k p → Stops (with_line EitherCase d (fields line)) (at + 1) lines k p) → (t : Bool) → eqb (line_fault EitherCase d (fields line)) 0 ≡ t
        → cond t next (refused (line_fault EitherCase d (fields line)) at) ≡ refused k p → Stops d at (line ∷ lines) k p
    go rest true q r = more (eqb-true (line_fault EitherCase d (fields line)) 0 q) (rest r)
    go rest false q r =
        let number : line_fault EitherCase d (fields line) ≡ k = cc in
        let there : p ≡ at = cc in
        let rows = field_rows d (fields line) in
        let found = gives_some (line_fault EitherCase d (fields line)) rows refl (line_gives d line) (eqb-false (line_fault EitherCase d (fields line)) 0 q) in
        inl ([], line, lines, refl, omega arith, tt, subst (λ (n : ℕ). First n rows) number found)

-- ---- the file

file_fault : List ℕ → ℕ
file_fault file = 1 when ltb max_bytes (length file) else 2 when not (all_bytes is_text file) else 3 when unended file else 0

-- a file that has a line, or says `end`, has bytes
has_line : (file : List ℕ) (before : List (List ℕ)) (line : List ℕ) (after : List (List ℕ)) → lines_of file ≡ before ++ line ∷ after → HasBytes file
has_line [] before line after e = absurd (omega (arith, ap length e, length-append before (line ∷ after)))
has_line (b ∷ bs) before line after e = omega arith

has_end : (file : List ℕ) → (said_by nothing_yet (lines_of file)).ended ≡ true → HasBytes file
has_end [] e = absurd (true≢false (sym e))
has_end (b ∷ bs) e = omega arith

bytes_or_none : (file : List ℕ) → HasBytes file ⊎ (file ≡ [])
bytes_or_none [] = inr refl
bytes_or_none (b ∷ bs) = inl (omega arith)

module _ (file : List ℕ) where
  -- where none of 1 to 3 is met
  abbrev passed : Outcome
  passed = cond (has_bytes file) (read_lines EitherCase nothing_yet 1 (lines_of file)) (accepted [] [])

  file_gives : Gives (file_fault file) (file_rows file)
  unfolding file_fault
  file_gives =
      gives_row 1 _ (ltb max_bytes (length file)) (too_long file) (λ _.
      gives_row 2 _ (not (all_bytes is_text file)) (strange_byte file) (λ _. gives_row 3 _ (unended file) (last_open file) (λ _. no_row refl tt)))

  read_file_is : read_file EitherCase file ≡ cond (eqb (file_fault file) 0) passed (refused (file_fault file) 0)
  unfolding read_file file_fault
  read_file_is = go (ltb max_bytes (length file)) (not (all_bytes is_text file)) (unended file) passed
    where
      go : (a b c : Bool) (o : Outcome)
          → cond a (refused 1 0) (cond b (refused 2 0) (cond c (refused 3 0) o))
          ≡ cond (eqb (1 when a else 2 when b else 3 when c else 0) 0) o (refused (1 when a else 2 when b else 3 when c else 0) 0)
      go true b c o = refl
      go false true c o = refl
      go false false true o = refl
      go false false false o = refl

  file_passes : HasBytes file → None (file_rows file) → read_file EitherCase file ≡ read_lines EitherCase nothing_yet 1 (lines_of file)
  file_passes some n = read_file_is ∙ rw ((gives_none (file_fault file) (file_rows file) refl file_gives).1 n, (has_bytes_lem file).1 some)

  file_stops : (k : ℕ) → First k (file_rows file) → read_file EitherCase file ≡ refused k 0
  file_stops k f =
      let some_number = (first_between 1 9 k (file_rows file) refl f).0 in
      read_file_is ∙ rw (gives_first (file_fault file) (file_rows file) refl file_gives k f, ne_eqb k 0 (λ z. omega arith))

  abbrev ByFile : Type 0
  ByFile = (k : ℕ) × First k (file_rows file) × (read_file EitherCase file ≡ refused k 0)

  abbrev ByLines : Type 0
  ByLines = HasBytes file × None (file_rows file) × (read_file EitherCase file ≡ read_lines EitherCase nothing_yet 1 (lines_of file))

  abbrev ByNothing : Type 0
  ByNothing = (file ≡ []) × (read_file EitherCase file ≡ accepted [] [])

  -- a file is judged by 1 to 3, or else by its lines, or it has no bytes
  file_judged : ByFile ⊎ ByLines ⊎ ByNothing
  file_judged = go file_gives
    where
      go : Gives (file_fault file) (file_rows file) → ByFile ⊎ ByLines ⊎ ByNothing
      go (no_row z n) =
          ⊎_elim (λ some. inr (inl (some, n, file_passes some n))) (λ none. inr (inr (none, no_bytes EitherCase file (ap length none)))) (bytes_or_none file)
      go (some_row f) = inl (file_fault file, f, file_stops (file_fault file) f)

  -- ---- refusal and acceptance

  refused_is : (k at : ℕ) → read_file EitherCase file ≡ refused k at → IsRefused file k at
  refused_is k at e = ⊎_elim by_file (⊎_elim by_lines by_nothing) file_judged
    where
      by_file : ByFile → IsRefused file k at
      by_file s =
          let same : refused s.0 0 ≡ refused k at = sym s.2 ∙ e in
          let number : s.0 ≡ k = cc in
          let there : at ≡ 0 = cc in
          inl (there, subst (λ (n : ℕ). First n (file_rows file)) number s.1)

      by_nothing : ByNothing → IsRefused file k at
      by_nothing s = let q = s.1 in let z : ◌≡◌ {A = ℕ} 0 1 = cc in absurd (omega arith)

      by_lines : ByLines → IsRefused file k at
      by_lines s = go (lines_refused nothing_yet 1 (lines_of file) k at (sym s.2 ∙ e))
        where
          go : Stops nothing_yet 1 (lines_of file) k at → IsRefused file k at
          go (inl r) =
              let place = r.4 in
              let judged : Judged file at (said_by nothing_yet r.0) (fields r.1) =
              record {
                file_passed = s.1;
                before = r.0;
                line = r.1;
                after = r.2;
                parts = r.3;
                place = omega arith;
                sound = (faultless_is nothing_yet r.0).0 r.5;
                said = refl;
                its_fields = refl;
              } in
              inr (inl (said_by nothing_yet r.0, fields r.1, judged, r.6))
          go (inr r) =
              let place = r.1 in
              let through : Through file at (said_by nothing_yet (lines_of file)) = record { file_passed = s.1; place = omega arith; sound = (faultless_is nothing_yet (lines_of file)).0 r.2; said = refl } in
              inr (inr (r.0, (s.0, said_by nothing_yet (lines_of file), through, r.3)))

  is_refused : (k at : ℕ) → IsRefused file k at → read_file EitherCase file ≡ refused k at
  unfolding read_lines
  is_refused k at (inl s) = rw s.0 (file_stops k s.1)
  is_refused k at (inr (inl s)) =
      let j = s.2 in
      let start = (faultless_is nothing_yet j.before).1 j.sound in
      let now = said_by nothing_yet j.before in
      let found : First k (field_rows now (fields j.line)) = rw (j.said, j.its_fields) s.3 in
      let place : 1 + length j.before ≡ at = omega arith in
      file_passes (has_line file j.before j.line j.after j.parts) j.file_passed ∙ ap (read_lines EitherCase nothing_yet 1) j.parts ∙ lines_skip nothing_yet 1 j.before (j.line ∷ j.after) start
      ∙ lines_stop now (1 + length j.before) k j.line j.after found ∙ ap (refused k) place
  is_refused k at (inr (inr s)) =
      let t = s.1.2 in
      let start = (faultless_is nothing_yet (lines_of file)).1 t.sound in
      let place : 1 + length (lines_of file) ≡ at = omega arith in
      let last : (said_by nothing_yet (lines_of file)).ended ≡ false = rw t.said s.1.3 in
      file_passes s.1.0 t.file_passed ∙ lines_through nothing_yet 1 (lines_of file) start ∙ rw (last, place, s.0)

  pub refused_exactly : (k at : ℕ) → (read_file EitherCase file ≡ refused k at) ↔ IsRefused file k at
  refused_exactly k at = (refused_is k at, is_refused k at)

  pub accepted_exactly : (names : List (List ℕ)) (rules : List Rule) → (read_file EitherCase file ≡ accepted names rules) ↔ IsAccepted file names rules
  unfolding read_lines
  accepted_exactly names rules = (λ e. ⊎_elim (by_file e) (⊎_elim (by_lines e) (by_nothing e)) file_judged, back)
    where
      by_file : read_file EitherCase file ≡ accepted names rules → ByFile → IsAccepted file names rules
      by_file e s = let q = s.2 in let z : ◌≡◌ {A = ℕ} 0 1 = cc in absurd (omega arith)

      by_lines : read_file EitherCase file ≡ accepted names rules → ByLines → IsAccepted file names rules
      by_lines e s =
          let r = lines_read nothing_yet 1 (lines_of file) names rules (sym s.2 ∙ e) in
          let at = length (lines_of file) + 1 in
          let now = said_by nothing_yet (lines_of file) in
          let through : Through file at now = record { file_passed = s.1; place = refl; sound = (faultless_is nothing_yet (lines_of file)).0 r.lines_pass; said = refl } in
          inl (at, now, through, r.ends, r.its_names, r.its_rules)

      by_nothing : read_file EitherCase file ≡ accepted names rules → ByNothing → IsAccepted file names rules
      by_nothing e s = let q : accepted names rules ≡ accepted [] [] = sym e ∙ s.1 in inr (s.0, cc, cc)

      back : IsAccepted file names rules → read_file EitherCase file ≡ accepted names rules
      back (inl s) =
          let t = s.2 in
          let start = (faultless_is nothing_yet (lines_of file)).1 t.sound in
          let last : (said_by nothing_yet (lines_of file)).ended ≡ true = rw t.said s.3 in
          file_passes (has_end file last) t.file_passed ∙ lines_through nothing_yet 1 (lines_of file) start ∙ rw (t.said, s.3, s.4, s.5)
      back (inr s) = rw (s.1, s.2) (no_bytes EitherCase file (ap length s.0))

-- no other numbers are given
pub refused_numbers : (file : List ℕ) (k at : ℕ) → read_file EitherCase file ≡ refused k at → (1 ≤ k) × (k ≤ 9)
refused_numbers file k at e = go (refused_is file k at e)
  where
    go : IsRefused file k at → (1 ≤ k) × (k ≤ 9)
    go (inl s) = first_between 1 9 k (file_rows file) refl s.1
    go (inr (inl s)) = first_between 1 9 k (field_rows s.0 s.1) refl s.3
    go (inr (inr s)) = let nine = s.0 in (omega arith, omega arith)

-- ---- the numbers one by one

module _ (file : List ℕ) (at : ℕ) where
  by_file : (k : ℕ) {C : Type 0} → ((d : Content) (fs : List (List ℕ)) → absent k (field_rows d fs) ≡ true) → eqb k 9 ≡ false → (First k (file_rows file) ↔ C)
      → (read_file EitherCase file ≡ refused k at) ↔ ((at ≡ 0) × C)
  by_file k {C} others nine d = (λ e. go (refused_is file k at e), λ s. is_refused file k at (inl (s.0, d.1 s.1)))
    where
      go : IsRefused file k at → (at ≡ 0) × C
      go (inl s) = (s.0, d.0 s.1)
      go (inr (inl s)) = absurd (first_absent k (field_rows s.0 s.1) (others s.0 s.1) s.3)
      go (inr (inr s)) = absurd (eqb-false k 9 nine s.0)

  by_line : (k : ℕ) (C : Content → List (List ℕ) → Type 0) → absent k (file_rows file) ≡ true → eqb k 9 ≡ false
      → ((d : Content) (fs : List (List ℕ)) → First k (field_rows d fs) ↔ C d fs) → (read_file EitherCase file ≡ refused k at) ↔ OnLine file at C
  by_line k C others nine c =
      (λ e. go (refused_is file k at e), λ s. is_refused file k at (inr (inl (s.0, s.1, s.2, (c s.0 s.1).1 s.3))))
    where
      go : IsRefused file k at → OnLine file at C
      go (inl s) = absurd (first_absent k (file_rows file) others s.1)
      go (inr (inl s)) = (s.0, s.1, s.2, (c s.0 s.1).0 s.3)
      go (inr (inr s)) = absurd (eqb-false k 9 nine s.0)

  pub refused_1 : (read_file EitherCase file ≡ refused 1 at) ↔ ((at ≡ 0) × TooLong file)
  refused_1 = by_file 1 (λ d fs. refl) refl (first_row 1 (TooLong file) (drop 1 (file_rows file)) refl [] refl)

  pub refused_2 : (read_file EitherCase file ≡ refused 2 at) ↔ ((at ≡ 0) × (StrangeByte file unless TooLong file))
  refused_2 = by_file 2 (λ d fs. refl) refl (first_row 2 (StrangeByte file) (drop 2 (file_rows file)) refl (take 1 (file_rows file)) refl)

  pub refused_3 : (read_file EitherCase file ≡ refused 3 at) ↔ ((at ≡ 0) × (LastLineOpen file unless StrangeByte file unless TooLong file))
  refused_3 = by_file 3 (λ d fs. refl) refl (first_row 3 (LastLineOpen file) [] refl (take 2 (file_rows file)) refl)

  pub refused_4 : (read_file EitherCase file ≡ refused 4 at) ↔ OnLine file at (λ d fs. FieldsWrong fs unless AfterEnd d)
  refused_4 = by_line 4 _ refl refl (λ d fs. first_row 4 (FieldsWrong fs) (drop 2 (field_rows d fs)) refl (take 1 (field_rows d fs)) refl)

  pub refused_5 : (read_file EitherCase file ≡ refused 5 at) ↔ OnLine file at (λ d fs. FormWrong fs unless FieldsWrong fs unless AfterEnd d)
  refused_5 = by_line 5 _ refl refl (λ d fs. first_row 5 (FormWrong fs) (drop 3 (field_rows d fs)) refl (take 2 (field_rows d fs)) refl)

  pub refused_6 : (read_file EitherCase file ≡ refused 6 at) ↔ OnLine file at (λ d fs. NameTaken d fs unless FormWrong fs unless FieldsWrong fs unless AfterEnd d)
  refused_6 = by_line 6 _ refl refl (λ d fs. first_row 6 (NameTaken d fs) (drop 4 (field_rows d fs)) refl (take 3 (field_rows d fs)) refl)

  pub refused_7 : (read_file EitherCase file ≡ refused 7 at)
      ↔ OnLine file at (λ d fs. NameMissing d fs unless NameTaken d fs unless FormWrong fs unless FieldsWrong fs unless AfterEnd d)
  refused_7 = by_line 7 _ refl refl (λ d fs. first_row 7 (NameMissing d fs) (drop 5 (field_rows d fs)) refl (take 4 (field_rows d fs)) refl)

  pub refused_8 : (read_file EitherCase file ≡ refused 8 at)
      ↔ OnLine file at (λ d fs. TableFull d fs unless NameMissing d fs unless NameTaken d fs unless FormWrong fs unless FieldsWrong fs unless AfterEnd d)
  refused_8 = by_line 8 _ refl refl (λ d fs. first_row 8 (TableFull d fs) [] refl (take 5 (field_rows d fs)) refl)

  pub refused_9 : (read_file EitherCase file ≡ refused 9 at) ↔ (OnLine file at (λ d fs. AfterEnd d) ⊎ NoEnd file at)
  refused_9 = (λ e. there (refused_is file 9 at e), λ s. is_refused file 9 at (back s))
    where
      row : (d : Content) (fs : List (List ℕ)) → First 9 (field_rows d fs) ↔ AfterEnd d
      row d fs = first_row 9 (AfterEnd d) (drop 1 (field_rows d fs)) refl [] refl

      there : IsRefused file 9 at → OnLine file at (λ d fs. AfterEnd d) ⊎ NoEnd file at
      there (inl s) = absurd (first_absent 9 (file_rows file) refl s.1)
      there (inr (inl s)) = inl (s.0, s.1, s.2, (row s.0 s.1).0 s.3)
      there (inr (inr s)) = inr s.1

      back : OnLine file at (λ d fs. AfterEnd d) ⊎ NoEnd file at → IsRefused file 9 at
      back (inl s) = inr (inl (s.0, s.1, s.2, (row s.0 s.1).1 s.3))
      back (inr s) = inr (inr (refl, s))
