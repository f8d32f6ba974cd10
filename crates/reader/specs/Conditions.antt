-- The conditions of the table in document 01, "When a call is turned down by its input", said of a file and its lines as propositions, and the order
-- in which they decide; document 02, A.4, accepts a file of no bytes. They don't use the tests of `read_file`; `proofs/Conditions.antt` shows that it
-- gives each number under its condition and under no other.
use Rattle.std.specs.Prelude.{◌≡◌, ◌⊎◌, true, false, List, [], ◌∷◌, ◌++◌, ℕ, ◌+◌, ◌-◌, ◌≤◌, ◌<◌, length, get_or, drop}
use Rattle.wfsx.specs.Sets.{◌is_in◌}
use Rattle.wfsx.specs.Program.{Rule}
use Rattle.scan.specs.Text.{fields, name_word, rule_word, end_word, newline, max_length, SameName}
use Rattle.scan.specs.declared.Alphabet.TheVariants.{EitherCase}
use Rattle.book.specs.Limits.{max_names, max_rules, max_entries, max_body}
use Rattle.reader.specs.File.{Content, nothing_yet, body_literals, with_line, max_bytes, lines_of}

-- ---- names and literals

-- a small letter or a capital
abbrev pub LetterByte : ℕ → Type 0
LetterByte b = ((97 ≤ b) × (b ≤ 122)) ⊎ ((65 ≤ b) × (b ≤ 90))

abbrev pub NameByte : ℕ → Type 0
NameByte b = LetterByte b ⊎ ((48 ≤ b) × (b ≤ 57)) ⊎ (b ≡ 95)

-- a NAME
pub record NameText (n : List ℕ) : Type 0 where
  pub nonempty : 1 ≤ length n
  pub short : length n ≤ max_length
  pub bytes : (b : ℕ) → b is_in n → NameByte b
  pub begins : LetterByte (get_or n 0 0)

-- s is r, or b and then r
abbrev pub Optional : ℕ → List ℕ → List ℕ → Type 0
Optional b s r = (s ≡ r) ⊎ (s ≡ b ∷ r)

-- a literal with the name n: an optional `~` (126), then an optional `-` (45), then a NAME
abbrev pub LiteralText : List ℕ → List ℕ → Type 0
LiteralText f n = (r : List ℕ) × Optional 126 f r × Optional 45 r n × NameText n

-- ---- numbers 1 to 3, of a file

-- 1: more than 60,000 bytes
abbrev pub TooLong : List ℕ → Type 0
TooLong file = max_bytes < length file

-- 2: a byte that is neither 10 nor 32 to 126
abbrev pub StrangeByte : List ℕ → Type 0
StrangeByte file = (b : ℕ) × (b is_in file) × ((b ≡ newline) ⊎ ((32 ≤ b) × (b ≤ 126)) → ⊥)

abbrev pub HasBytes : List ℕ → Type 0
HasBytes file = 1 ≤ length file

-- 3: the last byte isn't 10
abbrev pub LastLineOpen : List ℕ → Type 0
LastLineOpen file = HasBytes file × (get_or file (length file - 1) 0 ≡ newline → ⊥)

-- ---- numbers 4 to 9, of the fields of a line, where the lines before it have said d

infix 4 ◌starts_with◌
abbrev pub ◌starts_with◌ : List (List ℕ) → List ℕ → Type 0
[] starts_with word = ⊥
(first ∷ others) starts_with word = first ≡ word

-- a field after the first
abbrev pub SomeField : List (List ℕ) → (List ℕ → Type 0) → Type 0
SomeField fs P = (f : List ℕ) × (f is_in drop 1 fs) × P f

-- 9: a line after `end`
abbrev pub AfterEnd : Content → Type 0
AfterEnd d = d.ended ≡ true

-- 4: an unknown first field, or a wrong count of fields (name 2, rule 2 to 18, end 1)
abbrev pub FieldsWrong : List (List ℕ) → Type 0
FieldsWrong fs =
    ((fs starts_with name_word → ⊥) × (fs starts_with rule_word → ⊥) × (fs starts_with end_word → ⊥)) ⊎ ((fs starts_with name_word) × (length fs ≡ 2 → ⊥))
    ⊎ ((fs starts_with rule_word) × ((2 ≤ length fs) × (length fs ≤ max_body + 2) → ⊥)) ⊎ ((fs starts_with end_word) × (length fs ≡ 1 → ⊥))

-- 5: a malformed name or literal, or a head with `~`
abbrev pub FormWrong : List (List ℕ) → Type 0
FormWrong fs =
    ((fs starts_with name_word) × SomeField fs (λ n. NameText n → ⊥))
    ⊎ ((fs starts_with rule_word) × (((rest : List ℕ) × (get_or fs 1 [] ≡ 126 ∷ rest)) ⊎ SomeField fs (λ f. (n : List ℕ) → LiteralText f n → ⊥)))

-- one of the names declared before is the same name as n
abbrev pub Declared : List (List ℕ) → List ℕ → Type 0
Declared names n = (m : List ℕ) × (m is_in names) × SameName EitherCase m n

-- 6: a name declared before
abbrev pub NameTaken : Content → List (List ℕ) → Type 0
NameTaken d fs = (fs starts_with name_word) × SomeField fs (Declared d.names)

-- 7: a rule uses an undeclared name
abbrev pub NameMissing : Content → List (List ℕ) → Type 0
NameMissing d fs = (fs starts_with rule_word) × SomeField fs (λ f. (n : List ℕ) × LiteralText f n × (Declared d.names n → ⊥))

-- 8: one name, rule or body literal beyond the table
abbrev pub TableFull : Content → List (List ℕ) → Type 0
TableFull d fs =
    ((fs starts_with name_word) × (max_names < length d.names + 1))
    ⊎ ((fs starts_with rule_word) × ((max_rules < length d.rules + 1) ⊎ (max_entries < body_literals d.rules + (length fs - 2))))

-- ---- the order

-- a number and its condition
abbrev pub Row : Type 1
Row = ℕ × Type 0

-- numbers 1 to 3 look at the whole file in this order
abbrev pub file_rows : List ℕ → List Row
file_rows file = (1, TooLong file) ∷ (2, StrangeByte file) ∷ (3, LastLineOpen file) ∷ []

-- a line is judged by the order 9, 4, 5, 6, 7, 8
abbrev pub field_rows : Content → List (List ℕ) → List Row
field_rows d fs = (9, AfterEnd d) ∷ (4, FieldsWrong fs) ∷ (5, FormWrong fs) ∷ (6, NameTaken d fs) ∷ (7, NameMissing d fs) ∷ (8, TableFull d fs) ∷ []

-- none of the conditions is met
abbrev pub None : List Row → Type 0
None [] = Unit
None (r ∷ rs) = (r.1 → ⊥) × None rs

-- k is the number of the first condition that is met
abbrev pub First : ℕ → List Row → Type 0
First k [] = ⊥
First k (r ∷ rs) = ((k ≡ r.0) × r.1) ⊎ ((r.1 → ⊥) × First k rs)

-- P is met and Q, which comes earlier in the order, is not
infixl 3 ◌unless◌
abbrev pub ◌unless◌ : Type 0 → Type 0 → Type 0
P unless Q = (Q → ⊥) × P

-- ---- the lines of a file

-- `proofs/Pieces.antt` shows that `lines_of` and `fields` give the one way to part the bytes, and `proofs/Said.antt` says of the lines before what their
-- names and their `end` are.

-- pieces, each with the byte `stop` behind it: a file is its lines with byte 10 behind each
unfoldable pub closed : ℕ → List (List ℕ) → List ℕ
closed stop [] = []
closed stop (p ∷ ps) = p ++ stop ∷ closed stop ps

-- no piece has the byte
abbrev pub FreeOf : ℕ → List (List ℕ) → Type 0
FreeOf stop ps = (p : List ℕ) → p is_in ps → stop is_in p → ⊥

-- what the lines say after d
abbrev pub said_by : Content → List (List ℕ) → Content
said_by d [] = d
said_by d (line ∷ lines) = said_by (with_line EitherCase d (fields line)) lines

-- none of the lines is faulty after d and the lines before it
abbrev pub NoFaults : Content → List (List ℕ) → Type 0
NoFaults d [] = Unit
NoFaults d (line ∷ lines) = None (field_rows d (fields line)) × NoFaults (with_line EitherCase d (fields line)) lines

-- Lines are judged up to line `at`: none of 1 to 3 is met, the lines before it are not faulty and say d, and it has the fields fs.
pub record Judged (file : List ℕ) (at : ℕ) (d : Content) (fs : List (List ℕ)) : Type 0 where
  pub file_passed : None (file_rows file)
  pub before : List (List ℕ)
  pub line : List ℕ
  pub after : List (List ℕ)
  pub parts : lines_of file ≡ before ++ line ∷ after
  pub place : at ≡ length before + 1
  pub sound : NoFaults nothing_yet before
  pub said : said_by nothing_yet before ≡ d
  pub its_fields : fields line ≡ fs

-- a condition that line `at` meets
abbrev pub OnLine : List ℕ → ℕ → (Content → List (List ℕ) → Type 0) → Type 0
OnLine file at C = (d : Content) × (fs : List (List ℕ)) × Judged file at d fs × C d fs

-- All lines are judged, and `at` is the line after the last.
pub record Through (file : List ℕ) (at : ℕ) (d : Content) : Type 0 where
  pub file_passed : None (file_rows file)
  pub place : at ≡ length (lines_of file) + 1
  pub sound : NoFaults nothing_yet (lines_of file)
  pub said : said_by nothing_yet (lines_of file) ≡ d

-- 9: no `end`, with the line after the last; a file of no bytes needs none
abbrev pub NoEnd : List ℕ → ℕ → Type 0
NoEnd file at = HasBytes file × (d : Content) × Through file at d × (d.ended ≡ false)

-- ---- the outcome

abbrev pub IsRefused : List ℕ → ℕ → ℕ → Type 0
IsRefused file k at = ((at ≡ 0) × First k (file_rows file)) ⊎ OnLine file at (λ d fs. First k (field_rows d fs)) ⊎ ((k ≡ 9) × NoEnd file at)

-- no bytes, and so no names and no rules
abbrev pub SaysNothing : List ℕ → List (List ℕ) → List Rule → Type 0
SaysNothing file names rules = (file ≡ []) × (names ≡ []) × (rules ≡ [])

abbrev pub IsAccepted : List ℕ → List (List ℕ) → List Rule → Type 0
IsAccepted file names rules =
    ((at : ℕ) × (d : Content) × Through file at d × (d.ended ≡ true) × (d.names ≡ names) × (d.rules ≡ rules)) ⊎ SaysNothing file names rules
