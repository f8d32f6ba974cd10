-- What the lines before have said, in terms of those lines: `end` has come where one of them begins with `end`, a name is declared where one of them
-- declares it, spelled as there, and in an accepted file that has bytes `end` is the last line and no earlier one. Each line adds what its word says and takes nothing away.
use mathlib.Core.Path.{◌≡◌, refl, sym, ap, ◌∙◌}
use mathlib.Core.Logic.{◌⊎◌, inl, inr, ⊎_elim, ◌↔◌}
use mathlib.Core.Bool.{Bool, true, false, cond, true≢false}
use mathlib.Core.List.Memᴰ
use mathlib.Core.List.{List, [], ◌∷◌, ◌++◌, append_assoc, append-nil}
use Prim.Native.Nat.{ℕ}
use native.Mathlib.Omega.{arith}
use lib.ListN.{length, take, drop, length-append}
use lib.Seq.{take-append_seam}
use Rattle.wfsx.specs.Sets.{◌is_in◌}
use Rattle.wfsx.specs.Program.{Rule}
use Rattle.truth.proofs.Truth.{clash}
use Rattle.scan.specs.Text.{fields, word_of, same_bytes, name_word, rule_word, end_word, comma}
use Rattle.scan.specs.declared.Word.{Word}
use Rattle.scan.specs.declared.Word.TheVariants.{Name, Rule as RuleWord, End, Unknown}
use Rattle.scan.proofs.Words.{IsWord, first_is, word_is}
use Rattle.scan.specs.declared.Alphabet.TheVariants.{EitherCase}
use Rattle.reader.proofs.FieldCounts.{end_fields}
use Rattle.reader.specs.File.{Content, nothing_yet, wrong_fields, line_fault, extended, with_line, accepted, lines_of, read_file}
use Rattle.reader.specs.Conditions.{HasBytes, ◌starts_with◌, said_by, closed}
use Rattle.reader.specs.Capitals.{declaring, declared_by}
use Rattle.reader.proofs.Faults.{line_passes}
use Rattle.reader.proofs.Lines.{Faultless, file_read}
use Rattle.reader.proofs.Pieces.{fields_are}

-- a line that has it
abbrev pub SomeLine : List (List ℕ) → (List (List ℕ) → Type 0) → Type 0
SomeLine lines Q = (line : List ℕ) × (line is_in lines) × Q (fields line)

-- what a line adds where it has Q, the lines have where one of them has Q
lines_add : (P : Content → Type 0) (Q : List (List ℕ) → Type 0) → ((d : Content) (fs : List (List ℕ)) → P (with_line EitherCase d fs) ↔ (P d ⊎ Q fs)) → (d : Content)
    (lines : List (List ℕ)) → P (said_by d lines) ↔ (P d ⊎ SomeLine lines Q)
lines_add P Q step d [] = (λ p. inl p, ⊎_elim (λ p. p) (λ s. absurd (Memᴰ.not-nil s.1)))
lines_add P Q step d (line ∷ lines) =
    let rest = lines_add P Q step (with_line EitherCase d (fields line)) lines in
    (λ p. there (rest.0 p), λ s. rest.1 (back s))
  where
    now : Content
    now = with_line EitherCase d (fields line)

    there : P now ⊎ SomeLine lines Q → P d ⊎ SomeLine (line ∷ lines) Q
    there (inl p) = ⊎_elim (λ q. inl q) (λ q. inr (line, Memᴰ.head refl, q)) ((step d (fields line)).0 p)
    there (inr s) = inr (s.0, Memᴰ.tail s.1, s.2)

    back : P d ⊎ SomeLine (line ∷ lines) Q → P now ⊎ SomeLine lines Q
    back (inl p) = inl ((step d (fields line)).1 (inl p))
    back (inr s) = ⊎_elim (λ e. inl ((step d (fields line)).1 (inr (rw e at s.2)))) (λ i. inr (s.0, i, s.2)) (Memᴰ.cases_cons s.1)

-- ---- `end`

ended_line : (d : Content) (fs : List (List ℕ)) → ((with_line EitherCase d fs).ended ≡ true) ↔ ((d.ended ≡ true) ⊎ (fs starts_with end_word))
unfolding with_line extended
ended_line d [] = (λ e. inl e, ⊎_elim (λ e. e) (λ s. absurd s))
ended_line d (first ∷ others) = (there (word_of first) (first_is first), back)
  where
    there : (w : Word) → IsWord w first → (extended EitherCase d w others).ended ≡ true → (d.ended ≡ true) ⊎ (first ≡ end_word)
    there Name s e = inl e
    there RuleWord s e = inl e
    there End s e = inr s
    there Unknown s e = inl e

    kept : (w : Word) → d.ended ≡ true → (extended EitherCase d w others).ended ≡ true
    kept Name e = e
    kept RuleWord e = e
    kept End e = refl
    kept Unknown e = e

    back : (d.ended ≡ true) ⊎ (first ≡ end_word) → (extended EitherCase d (word_of first) others).ended ≡ true
    back (inl e) = kept (word_of first) e
    back (inr s) = rw (word_is End first s)

pub ended_is : (lines : List (List ℕ)) → ((said_by nothing_yet lines).ended ≡ true) ↔ SomeLine lines (λ fs. fs starts_with end_word)
ended_is lines =
    let added = lines_add (λ d. d.ended ≡ true) (λ fs. fs starts_with end_word) ended_line nothing_yet lines in
    (λ e. ⊎_elim (λ z. absurd (true≢false (sym z))) (λ s. s) (added.0 e), λ s. added.1 (inr s))

-- ---- names

named_line : (n : List ℕ) (d : Content) (fs : List (List ℕ)) → (n is_in (with_line EitherCase d fs).names) ↔ ((n is_in d.names) ⊎ ((fs starts_with name_word) × (n is_in drop 1 fs)))
unfolding with_line extended
named_line n d [] = (λ m. inl m, ⊎_elim (λ m. m) (λ s. absurd s.0))
named_line n d (first ∷ others) = (there (word_of first) (first_is first), back)
  where
    there : (w : Word) → IsWord w first → n is_in (extended EitherCase d w others).names → (n is_in d.names) ⊎ ((first ≡ name_word) × (n is_in others))
    there Name s m = ⊎_elim (λ i. inl i) (λ i. inr (s, i)) (Memᴰ.append_cases d.names m)
    there RuleWord s m = inl m
    there End s m = inl m
    there Unknown s m = inl m

    kept : (w : Word) → n is_in d.names → n is_in (extended EitherCase d w others).names
    kept Name m = Memᴰ.append_left others m
    kept RuleWord m = m
    kept End m = m
    kept Unknown m = m

    back : (n is_in d.names) ⊎ ((first ≡ name_word) × (n is_in others)) → n is_in (extended EitherCase d (word_of first) others).names
    back (inl m) = kept (word_of first) m
    back (inr s) = rw (word_is Name first s.0) (Memᴰ.append_right d.names s.1)

pub declared_in : (n : List ℕ) (lines : List (List ℕ)) → (n is_in (said_by nothing_yet lines).names) ↔ SomeLine lines (λ fs. (fs starts_with name_word) × (n is_in drop 1 fs))
declared_in n lines =
    let added = lines_add (λ d. n is_in d.names) (λ fs. (fs starts_with name_word) × (n is_in drop 1 fs)) (named_line n) nothing_yet lines in
    (λ m. ⊎_elim (λ z. absurd (Memᴰ.not-nil z)) (λ s. s) (added.0 m), λ s. added.1 (inr s))

-- the names are the fields behind `name`, line by line
line_names : (d : Content) (fs : List (List ℕ)) → (with_line EitherCase d fs).names ≡ d.names ++ declaring fs
unfolding with_line extended word_of
line_names d [] = sym (append-nil d.names)
line_names d (first ∷ others) = go (same_bytes first name_word) (same_bytes first rule_word) (same_bytes first end_word)
  where
    go : (a b c : Bool) → (extended EitherCase d (cond a Name (cond b RuleWord (cond c End Unknown))) others).names ≡ d.names ++ cond a others []
    go true b c = refl
    go false true c = sym (append-nil d.names)
    go false false true = sym (append-nil d.names)
    go false false false = sym (append-nil d.names)

names_said : (d : Content) (lines : List (List ℕ)) → (said_by d lines).names ≡ d.names ++ declared_by lines
unfolding declared_by
names_said d [] = sym (append-nil d.names)
names_said d (line ∷ lines) =
    names_said (with_line EitherCase d (fields line)) lines ∙ ap (λ (l : List (List ℕ)). l ++ declared_by lines) (line_names d (fields line))
    ∙ append_assoc d.names (declaring (fields line)) (declared_by lines)

-- a name of an accepted file is the field that declares it, byte for byte
pub names_as_declared : (file : List ℕ) (names : List (List ℕ)) (rules : List Rule) → read_file EitherCase file ≡ accepted names rules → names ≡ declared_by (lines_of file)
unfolding declared_by
names_as_declared file names rules e =
    ⊎_elim (λ r. sym r.its_names ∙ names_said nothing_yet (lines_of file)) (λ none. none.1 ∙ ap (λ (f : List ℕ). declared_by (lines_of f)) (sym none.0)) (file_read file names rules e)

-- ---- the last line

open_line : (d : Content) (fs : List (List ℕ)) → line_fault EitherCase d fs ≡ 0 → d.ended ≡ false
unfolding line_fault
open_line d [] e = absurd (omega arith)
open_line d (first ∷ others) e = (line_passes d (word_of first) others e).not_ended

end_only : (d : Content) (fs : List (List ℕ)) → line_fault EitherCase d fs ≡ 0 → fs starts_with end_word → fs ≡ end_word ∷ []
unfolding line_fault
end_only d [] e s = absurd s
end_only d (first ∷ others) e s =
    let right : wrong_fields End others ≡ false = rw (word_is End first s) at (line_passes d (word_of first) others e).right_fields in
    rw (s, end_fields others right)

end_alone : (line : List ℕ) → fields line ≡ end_word ∷ [] → line ≡ end_word
unfolding closed
end_alone line e =
    let whole : end_word ++ comma ∷ [] ≡ line ++ comma ∷ [] = ((fields_are line (end_word ∷ [])).0 e).0 in
    let size : length line ≡ 3 = omega (arith, ap length whole, length-append line (comma ∷ [])) in
    sym (take-append_seam line (comma ∷ [])) ∙ ap (take (length line)) (sym whole) ∙ ap (λ (n : ℕ). take n (end_word ++ comma ∷ [])) size

-- `end` has not come in the lines before, and is the last line
abbrev EndLast : Content → List (List ℕ) → Type 0
EndLast d lines = (before : List (List ℕ)) × (lines ≡ before ++ end_word ∷ []) × ((said_by d before).ended ≡ false)

lines_end : (d : Content) (lines : List (List ℕ)) → d.ended ≡ false → Faultless d lines → (said_by d lines).ended ≡ true → EndLast d lines
lines_end d [] u f e = absurd (clash e u)
lines_end d (line ∷ []) u f e =
    let word = ⊎_elim (λ z. absurd (clash z u)) (λ s. s) ((ended_line d (fields line)).0 e) in
    ([], ap (λ (l : List ℕ). l ∷ []) (end_alone line (end_only d (fields line) f.0 word)), u)
lines_end d (line ∷ next ∷ lines) u f e =
    let now = with_line EitherCase d (fields line) in
    let r = lines_end now (next ∷ lines) (open_line now (fields next) f.1.0) f.1 e in
    (line ∷ r.0, ap (λ (l : List (List ℕ)). line ∷ l) r.1, r.2)

pub end_last : (file : List ℕ) (names : List (List ℕ)) (rules : List Rule) → HasBytes file → read_file EitherCase file ≡ accepted names rules
    → (before : List (List ℕ)) × (lines_of file ≡ before ++ end_word ∷ []) × (SomeLine before (λ fs. fs starts_with end_word) → ⊥)
end_last file names rules some e =
    let r = ⊎_elim (λ r. r) (λ none. absurd (omega (arith, ap length none.0))) (file_read file names rules e) in
    let s = lines_end nothing_yet (lines_of file) refl r.lines_pass r.ends in
    (s.0, s.1, λ l. clash ((ended_is s.0).1 l) s.2)
