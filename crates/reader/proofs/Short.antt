-- An accepted file is shorter than 60,000 bytes. A list is as long as its pieces and the stops between them, so a line with its last byte 10 has at
-- most 6 bytes besides its name where it is a name's, 7 besides its head's name and 3 besides the name of each body literal where it is a rule's, and 4
-- where it is `end`; and the tables bound how many there are of each.
use mathlib.Core.Path.{◌≡◌, refl, ap, ◌∙◌}
use mathlib.Core.Logic.{⊎_elim}
use mathlib.Core.Bool.{Bool, true, false, not, cond}
use mathlib.Core.List.{List, [], ◌∷◌}
use Prim.Native.Nat.{ℕ, zero, suc, ◌+◌, ◌-◌, ◌*◌, ◌≤◌, ◌<◌, suc-le-suc}
use native.Mathlib.Omega.{arith}
use native.Mathlib.Nat.{mul-suc}
use lib.Dec.{eqb}
use lib.ListN.{length, take, drop, length-append, length-map, length-drop, length-take}
use borrow.Author.Tests.{eqb-false, not-false}
use Rattle.wfsx.specs.Program.{Rule}
use Rattle.truth.proofs.Truth.{and_l, and_r, neither, clash}
use Rattle.scan.specs.Text.{onto, split, fields, is_name, word_of, tildes, minuses, name_of, name_word, rule_word, end_word, comma, newline, max_length}
use Rattle.scan.specs.declared.Word.{Word}
use Rattle.scan.specs.declared.Word.TheVariants.{Name, Rule as RuleWord, End, Unknown}
use Rattle.scan.proofs.Places.{split_none, split_stop, split_byte, split_some}
use Rattle.scan.proofs.Names.{name_fits}
use Rattle.scan.proofs.Words.{IsWord, first_is}
use Rattle.scan.proofs.Forms.{lead_most}
use Rattle.scan.specs.declared.Alphabet.TheVariants.{EitherCase}
use Rattle.reader.proofs.FieldCounts.{name_fields, rule_fields, end_fields, unknown_wrong}
use Rattle.reader.specs.File.{Content, nothing_yet, body_literals, all_fields, is_literal, has_tilde, malformed, line_fault, entry_from, rule_from, extended, with_line, accepted, max_bytes, lines_of, read_file}
use Rattle.reader.specs.Conditions.{said_by}
use Rattle.reader.proofs.Faults.{Passes, line_passes}
use Rattle.reader.proofs.Lines.{Faultless, Read, file_read}
use Rattle.reader.proofs.Within.{Within, within_nothing, within_lines, literals_append}

-- ---- pieces, each with the stop behind it

unfoldable pub byte_count : List (List ℕ) → ℕ
byte_count [] = 0
byte_count (p ∷ ps) = suc (length p) + byte_count ps

total_onto : (x : ℕ) (l : List (List ℕ)) → 0 < length l → byte_count (onto x l) ≡ suc (byte_count l)
unfolding byte_count
total_onto x [] h = absurd (omega arith)
total_onto x (p ∷ ps) h = omega arith

-- the last piece has no stop behind it
pub split_total : (stop : ℕ) (s : List ℕ) → byte_count (split stop s) ≡ suc (length s)
unfolding byte_count
split_total stop [] = ap byte_count (split_none stop)
split_total stop (x ∷ xs) = go (split_total stop xs) (eqb x stop) refl
  where
    go : byte_count (split stop xs) ≡ suc (length xs) → (t : Bool) → eqb x stop ≡ t → byte_count (split stop (x ∷ xs)) ≡ suc (suc (length xs))
    go ih true e = rw (split_stop stop x xs e) (omega arith)
    go ih false e = rw (split_byte stop x xs e) (total_onto x (split stop xs) (split_some stop xs) ∙ ap suc ih)

-- ---- literals

literal_length : (f : List ℕ) → is_literal EitherCase f ≡ true → length f ≤ tildes f + (max_length + 1)
literal_length f e =
    let a = length-drop (minuses f) (drop (tildes f) f) in
    let b = length-drop (tildes f) f in
    let n = (name_fits EitherCase (name_of f) e).1 in
    omega (arith, lead_most 45 (drop (tildes f) f))

literal_short : (f : List ℕ) → is_literal EitherCase f ≡ true → length f < max_length + 3
literal_short f e = omega (arith, literal_length f e, lead_most 126 f)

head_length : (f : List ℕ) → is_literal EitherCase f ≡ true → has_tilde f ≡ false → length f ≤ max_length + 1
head_length f e h = let z : tildes f ≡ 0 = none (tildes f) (lead_most 126 f) (eqb-false (tildes f) 1 h) in omega (arith, literal_length f e)
  where
    none : (n : ℕ) → n ≤ 1 → (n ≡ 1 → ⊥) → n ≡ 0
    none zero h f = refl
    none (suc n) h f = absurd (f (omega arith))

-- fields that pass a test, each of which has less than k bytes
fields_total : (f : List ℕ → Bool) (k : ℕ) → ((x : List ℕ) → f x ≡ true → length x < k) → (xs : List (List ℕ)) → all_fields f xs ≡ true → byte_count xs ≤ k * length xs
unfolding byte_count all_fields
fields_total f k h [] e = omega arith
fields_total f k h (x ∷ xs) e =
    let here = h x (and_l (f x) (all_fields f xs) e) in
    omega (arith, mul-suc k (length xs), fields_total f k h xs (and_r (f x) (all_fields f xs) e))

-- ---- lines

-- so many bytes at most have said d
unfoldable pub weight : Content → ℕ
weight d = (max_length + 6) * length d.names + (max_length + 7) * length d.rules + (max_length + 3) * body_literals d.rules + cond d.ended 4 0

module _ (d : Content) (first : List ℕ) where
  weight_name : (others : List (List ℕ)) → first ≡ name_word → Passes d Name others → weight d + byte_count (first ∷ others) ≤ weight (extended EitherCase d Name others)
  unfolding extended malformed byte_count weight
  weight_name others e c =
      let one = name_fields others c.right_fields in
      let short = fields_total (is_name EitherCase) (max_length + 1) (λ x h. suc-le-suc (name_fits EitherCase x h).1) others (not-false (all_fields (is_name EitherCase) others) c.well_formed) in
      omega (arith, ap length e, length-append d.names others)

  weight_rule : (others : List (List ℕ)) → first ≡ rule_word → Passes d RuleWord others → weight d + byte_count (first ∷ others) ≤ weight (extended EitherCase d RuleWord others)
  unfolding extended malformed byte_count weight all_fields body_literals
  weight_rule [] e c = let some = (rule_fields [] c.right_fields).0 in absurd (omega arith)
  weight_rule (h ∷ body) e c =
      let forms = neither (has_tilde h) (not (all_fields (is_literal EitherCase) (h ∷ body))) c.well_formed in
      let all = not-false (all_fields (is_literal EitherCase) (h ∷ body)) forms.1 in
      let head-short = head_length h (and_l (is_literal EitherCase h) (all_fields (is_literal EitherCase) body) all) forms.0 in
      let body-short = fields_total (is_literal EitherCase) (max_length + 3) literal_short body (and_r (is_literal EitherCase h) (all_fields (is_literal EitherCase) body) all) in
      let new = rule_from EitherCase d.names (h ∷ body) in
      omega (arith, ap length e, length-append d.rules new, literals_append d.rules new, length-map body (entry_from EitherCase d.names))

  weight_end : (others : List (List ℕ)) → first ≡ end_word → Passes d End others → weight d + byte_count (first ∷ others) ≤ weight (extended EitherCase d End others)
  unfolding extended byte_count weight
  weight_end others e c = rw (end_fields others c.right_fields, c.not_ended) (omega (arith, ap length e))

  weight_word : (w : Word) (others : List (List ℕ)) → IsWord w first → Passes d w others → weight d + byte_count (first ∷ others) ≤ weight (extended EitherCase d w others)
  weight_word Name others e c = weight_name others e c
  weight_word RuleWord others e c = weight_rule others e c
  weight_word End others e c = weight_end others e c
  weight_word Unknown others e c = absurd (clash (unknown_wrong others) c.right_fields)

weight_fields : (d : Content) (fs : List (List ℕ)) → line_fault EitherCase d fs ≡ 0 → weight d + byte_count fs ≤ weight (with_line EitherCase d fs)
unfolding line_fault with_line
weight_fields d [] e = absurd (omega arith)
weight_fields d (first ∷ others) e = weight_word d first (word_of first) others (first_is first) (line_passes d (word_of first) others e)

pub weight_lines : (d : Content) (lines : List (List ℕ)) → Faultless d lines → weight d + byte_count lines ≤ weight (said_by d lines)
unfolding byte_count
weight_lines d [] f = omega arith
weight_lines d (line ∷ lines) f =
    let here = weight_fields d (fields line) f.0 in
    omega (arith, split_total comma line, weight_lines (with_line EitherCase d (fields line)) lines f.1)

-- ---- the file

within_weight : (d : Content) → Within d → weight d < max_bytes
unfolding weight
within_weight d w = go d.ended
  where
    go : (t : Bool) → (max_length + 6) * length d.names + (max_length + 7) * length d.rules + (max_length + 3) * body_literals d.rules + cond t 4 0 < max_bytes
    go true = omega arith
    go false = omega arith

-- a file is as long as its lines with the byte 10 behind each
lines_total : (file : List ℕ) → byte_count (lines_of file) ≡ length file
unfolding byte_count
lines_total [] = refl
lines_total (b ∷ bs) =
    let file = b ∷ bs in
    omega (arith, split_total newline (take (length file - 1) file), length-take (length file - 1) file)

pub accepted_short : (file : List ℕ) (names : List (List ℕ)) (rules : List Rule) → read_file EitherCase file ≡ accepted names rules → length file < max_bytes
unfolding weight body_literals
accepted_short file names rules e = ⊎_elim by_lines (λ s. omega (arith, ap length s.0)) (file_read file names rules e)
  where
    by_lines : Read nothing_yet (lines_of file) names rules → length file < max_bytes
    by_lines r =
        let most = within_weight (said_by nothing_yet (lines_of file)) (within_lines nothing_yet (lines_of file) within_nothing r.lines_pass) in
        let bytes = weight_lines nothing_yet (lines_of file) r.lines_pass in
        omega (arith, lines_total file)
