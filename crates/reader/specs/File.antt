-- What a marking file says, for every list of bytes: a book, or a refusal with its number and line (document 01, "The marking file" and "When a call
-- is turned down by its input"; document 02, A.4, for a file of no bytes).
use Rattle.std.specs.Prelude.{Bool, true, false, not, cond, ◌&&◌, ◌||◌, List, [], ◌∷◌, ◌++◌, map, ℕ, ◌+◌, ◌-◌, ◌*◌, eqb, leb, ltb, length, get_or, take}
use Rattle.wfsx.specs.Program.{Entry, positive, default, Rule}
use Rattle.scan.specs.Text.{is_text, all_bytes, split, fields, is_name, word_of, tildes, minuses, name_of, newline}
use Rattle.scan.specs.declared.Alphabet.{Alphabet}
use Rattle.scan.specs.declared.Word.{Word}
use Rattle.scan.specs.declared.Word.TheVariants.{Name, Rule as RuleWord, End, Unknown}
use Rattle.book.specs.Limits.{max_names, max_rules, max_entries, max_body}
use Rattle.book.specs.Book.{find}
use Rattle.std.specs.Prelude.{Option, None, Some}

-- ---- what the lines before have said

pub record Content : Type 0 where
  pub names : List (List ℕ)
  pub rules : List Rule
  pub ended : Bool

abbrev pub nothing_yet : Content
nothing_yet = record { names = []; rules = []; ended = false }

-- how many body literals there are in all
unfoldable pub body_literals : List Rule → ℕ
body_literals [] = 0
body_literals (r ∷ rs) = length r.body + body_literals rs

-- ---- tests over the fields of a line

unfoldable pub all_fields : (List ℕ → Bool) → List (List ℕ) → Bool
all_fields f [] = true
all_fields f (x ∷ xs) = f x && all_fields f xs

abbrev pub is_literal : Alphabet → List ℕ → Bool
is_literal α f = is_name α (name_of f)

abbrev pub has_tilde : List ℕ → Bool
has_tilde f = eqb (tildes f) 1

abbrev pub is_found : Option ℕ → Bool
is_found None = false
is_found (Some i) = true

-- a name that an earlier line declares
abbrev pub declared : Alphabet → List (List ℕ) → List ℕ → Bool
declared α names n = is_found (find α names n)

-- a field whose name an earlier line declares
abbrev pub is_known : Alphabet → List (List ℕ) → List ℕ → Bool
is_known α names f = declared α names (name_of f)

-- ---- the conditions of the table, over the first field and the others

-- 4: an unknown first field, or a wrong count of fields (name 2, rule 2 to 18, end 1)
unfoldable pub wrong_fields : Word → List (List ℕ) → Bool
wrong_fields Name others = not (eqb (length others) 1)
wrong_fields RuleWord others = not (leb 1 (length others) && leb (length others) (max_body + 1))
wrong_fields End others = not (eqb (length others) 0)
wrong_fields Unknown others = true

-- a head is the first of a rule's fields after `rule`
abbrev pub head_tilde : List (List ℕ) → Bool
head_tilde [] = false
head_tilde (h ∷ body) = has_tilde h

-- 5: a malformed name or literal, or a head with `~`
unfoldable pub malformed : Alphabet → Word → List (List ℕ) → Bool
malformed α Name others = not (all_fields (is_name α) others)
malformed α RuleWord others = head_tilde others || not (all_fields (is_literal α) others)
malformed α End others = false
malformed α Unknown others = false

-- 6: a name declared before
unfoldable pub declared_before : Alphabet → Content → Word → List (List ℕ) → Bool
declared_before α d Name others = not (all_fields (λ n. not (declared α d.names n)) others)
declared_before α d RuleWord others = false
declared_before α d End others = false
declared_before α d Unknown others = false

-- 7: a rule uses an undeclared name
unfoldable pub uses_undeclared : Alphabet → Content → Word → List (List ℕ) → Bool
uses_undeclared α d Name others = false
uses_undeclared α d RuleWord others = not (all_fields (is_known α d.names) others)
uses_undeclared α d End others = false
uses_undeclared α d Unknown others = false

-- 8: one name, rule or body literal beyond the table
unfoldable pub beyond_table : Content → Word → List (List ℕ) → Bool
beyond_table d Name others = leb max_names (length d.names)
beyond_table d RuleWord others = leb max_rules (length d.rules) || ltb max_entries (body_literals d.rules + (length others - 1))
beyond_table d End others = false
beyond_table d Unknown others = false

-- ---- the judgement of a line

infixr 2 ◌when◌else◌
abbrev pub ◌when◌else◌ : ℕ → Bool → ℕ → ℕ
n when b else m = cond b n m

-- the number under which a line is faulty, by the order 9, 4, 5, 6, 7, 8, or 0
unfoldable pub fault_of : Alphabet → Content → Word → List (List ℕ) → ℕ
fault_of α d w others =
    9 when d.ended
    else 4 when wrong_fields w others
    else 5 when malformed α w others
    else 6 when declared_before α d w others
    else 7 when uses_undeclared α d w others
    else 8 when beyond_table d w others
    else 0

unfoldable pub line_fault : Alphabet → Content → List (List ℕ) → ℕ
line_fault α d [] = 4
line_fault α d (first ∷ others) = fault_of α d (word_of first) others

-- ---- what a line that is not faulty adds

abbrev pub number_in : Option ℕ → ℕ
number_in None = 0
number_in (Some i) = i

-- name n gives the objective literal 2n, and `-` gives 2n + 1
unfoldable pub literal_number : Alphabet → List (List ℕ) → List ℕ → ℕ
literal_number α names f = 2 * number_in (find α names (name_of f)) + minuses f

unfoldable pub entry_from : Alphabet → List (List ℕ) → List ℕ → Entry
entry_from α names f = cond (has_tilde f) (default (literal_number α names f)) (positive (literal_number α names f))

abbrev pub rule_from : Alphabet → List (List ℕ) → List (List ℕ) → List Rule
rule_from α names [] = []
rule_from α names (h ∷ body) = record { head = literal_number α names h; body = map (entry_from α names) body } ∷ []

unfoldable pub extended : Alphabet → Content → Word → List (List ℕ) → Content
extended α d Name others = record { names = d.names ++ others; rules = d.rules; ended = d.ended }
extended α d RuleWord others = record { names = d.names; rules = d.rules ++ rule_from α d.names others; ended = d.ended }
extended α d End others = record { names = d.names; rules = d.rules; ended = true }
extended α d Unknown others = d

unfoldable pub with_line : Alphabet → Content → List (List ℕ) → Content
with_line α d [] = d
with_line α d (first ∷ others) = extended α d (word_of first) others

-- ---- the file

-- A file is accepted with its names in order and its rules in order, or refused with a number and a line.
pub data Outcome : Type 0 where
  accepted : List (List ℕ) → List Rule → Outcome
  refused : ℕ → ℕ → Outcome

-- the lines from line `at` on: the first faulty one decides, and where there is none `end` must have come
unfoldable pub read_lines : Alphabet → Content → ℕ → List (List ℕ) → Outcome
read_lines α d at [] = cond d.ended (accepted d.names d.rules) (refused 9 at)
read_lines α d at (line ∷ lines) =
    let fault = line_fault α d (fields line) in
    let next = read_lines α (with_line α d (fields line)) (at + 1) lines in
    cond (eqb fault 0) next (refused fault at)

abbrev pub max_bytes : ℕ
max_bytes = 60000

abbrev pub has_bytes : List ℕ → Bool
has_bytes [] = false
has_bytes (b ∷ bs) = true

-- 3: the last byte isn't 10
abbrev pub unended : List ℕ → Bool
unended file = has_bytes file && not (eqb (get_or file (length file - 1) 0) newline)

-- each line ends in byte 10, so the last one's is left out; a file of no bytes has no lines
abbrev pub lines_of : List ℕ → List (List ℕ)
lines_of file = cond (has_bytes file) (split newline (take (length file - 1) file)) []

-- numbers 1 to 3 look at the whole file in this order, with line 0; a file of no bytes is accepted, without `end`
unfoldable pub read_file : Alphabet → List ℕ → Outcome
read_file α file =
    let lines = read_lines α nothing_yet 1 (lines_of file) in
    cond (ltb max_bytes (length file)) (refused 1 0)
    (cond (not (all_bytes is_text file)) (refused 2 0)
    (cond (unended file) (refused 3 0)
    (cond (has_bytes file) lines
    (accepted [] []))))
