-- The meaning of a `Book`, whatever its bits: names and rules, and with the facts put in a program (document 01, "The marking file", "From
-- rules to a model").
use Rattle.std.specs.Prelude.{Option, None, Some, cond, List, [], ◌∷◌, ◌++◌, map, ℕ, zero, suc, ◌+◌, ◌-◌, ◌*◌, ◌/◌, ◌%◌, min, eqb, length, get_or, take, drop, replicate}
use Rattle.wfsx.specs.Sets.{Set, members}
use Rattle.wfsx.specs.Program.{Entry, positive, default, Rule, Program, with_facts}
use Rattle.litset.specs.Words.{capacity}
use Rattle.scan.specs.Text.{same_name, max_length}
use Rattle.scan.specs.declared.Alphabet.{Alphabet}
use Rattle.book.specs.Limits.{max_names, max_rules, max_entries}
use Rattle.book.specs.declared.Book.{Book}
use Rattle.book.specs.declared.Entry as declared
use Rattle.book.specs.declared.Entry.TheVariants.{Positive, Default}

-- the n values f k, f (k + 1), ..
unfoldable pub rows : {X : Type 0} → (ℕ → X) → ℕ → ℕ → List X
rows f k zero = []
rows f k (suc n) = f k ∷ rows f (suc k) n

-- a count past the table stands for a full table
abbrev pub clamp : ℕ → ℕ → ℕ
clamp most n = min n most

-- ---- names

-- name k: its bytes stand from max_length k on
abbrev pub name_at : List ℕ → List ℕ → ℕ → List ℕ
name_at text lengths k = take (clamp max_length (get_or lengths k 0)) (drop (max_length * k) text)

-- the names of a table
abbrev pub names_in : List ℕ → List ℕ → ℕ → List (List ℕ)
names_in text lengths count = rows (name_at text lengths) 0 count

abbrev pub names_of : Book → List (List ℕ)
names_of b = names_in b.text b.lengths (clamp max_names b.names)

-- the number of the first of the names, counted from k, that is the same as n
unfoldable pub find_from : Alphabet → ℕ → List ℕ → List (List ℕ) → Option ℕ
find_from α k n [] = None
find_from α k n (m ∷ ms) = cond (same_name α m n) (Some k) (find_from α (suc k) n ms)

abbrev pub find : Alphabet → List (List ℕ) → List ℕ → Option ℕ
find α names n = find_from α 0 n names

-- ---- rules

-- a stored literal, as a number that a set of literals has room for
abbrev pub literal_of : ℕ → ℕ
literal_of n = n % capacity

-- a stored entry: twice the literal, and one more where `not` stands before it
abbrev pub entry_of : ℕ → Entry
entry_of e = cond (eqb (e % 2) 0) (positive (literal_of (e / 2))) (default (literal_of (e / 2)))

-- the literal that an entry asks for, with or without `not`
abbrev pub literal_in : Entry → ℕ
literal_in (positive B) = B
literal_in (default C) = C

-- what an `Entry` of the code says
abbrev pub entry_is : declared.Entry → Entry
entry_is (Positive B) = positive B
entry_is (Default C) = default C

-- the head of rule r
abbrev pub head_at : List ℕ → ℕ → ℕ
head_at heads r = literal_of (get_or heads r 0)

-- where the body of rule r begins, and where it ends: at the place where the next rule's begins, or with the table
abbrev pub body_start : List ℕ → ℕ → ℕ
body_start starts r = get_or starts r 0

abbrev pub body_end : List ℕ → List ℕ → ℕ → ℕ
body_end starts entries r = min (get_or starts (r + 1) 0) (length entries)

-- the entry at place j
abbrev pub entry_at : List ℕ → ℕ → Entry
entry_at entries j = entry_of (get_or entries j 0)

-- the stored entries of rule r, and its body
abbrev pub body_at : List ℕ → List ℕ → ℕ → List ℕ
body_at starts entries r = take (get_or starts (r + 1) 0 - get_or starts r 0) (drop (get_or starts r 0) entries)

abbrev pub body_of : List ℕ → List ℕ → ℕ → List Entry
body_of starts entries r = map entry_of (body_at starts entries r)

abbrev pub rule_at : List ℕ → List ℕ → List ℕ → ℕ → Rule
rule_at heads starts entries r = record { head = head_at heads r; body = body_of starts entries r }

-- the rules of a table
abbrev pub rules_in : List ℕ → List ℕ → List ℕ → ℕ → List Rule
rules_in heads starts entries count = rows (rule_at heads starts entries) 0 count

-- the rules of a table with these numbers
abbrev pub rules_numbered : (heads starts entries numbers : List ℕ) → List Rule
rules_numbered heads starts entries numbers = map (rule_at heads starts entries) numbers

abbrev pub rules_of : Book → List Rule
rules_of b = rules_in b.heads b.starts b.entries (clamp max_rules b.rules)

-- the program of some rules and the facts in a set
abbrev pub program : List Rule → Set → Program
program rules facts = with_facts rules (members capacity facts)

-- the program of a book and the facts put in
unfoldable pub program_of : Book → Set → Program
program_of b facts = program (rules_of b) facts

-- ---- the tables that hold given names and rules, with zeros behind them

abbrev pub padded : ℕ → List ℕ → List ℕ
padded n xs = xs ++ replicate (n - length xs) 0

unfoldable pub joined : List (List ℕ) → List ℕ
joined [] = []
joined (x ∷ xs) = x ++ joined xs

abbrev pub code_of : Entry → ℕ
code_of (positive B) = 2 * B
code_of (default C) = 2 * C + 1

abbrev pub body_codes : Rule → List ℕ
body_codes r = map code_of r.body

-- where each body begins, counted from n, and where the last one ends
unfoldable pub starts_from : ℕ → List Rule → List ℕ
starts_from n [] = n ∷ []
starts_from n (r ∷ rs) = n ∷ starts_from (n + length r.body) rs

abbrev pub text_table : List (List ℕ) → List ℕ
text_table names = padded (max_length * max_names) (joined (map (padded max_length) names))

abbrev pub length_table : List (List ℕ) → List ℕ
length_table names = padded max_names (map length names)

abbrev pub head_table : List Rule → List ℕ
head_table rules = padded max_rules (map (λ (r : Rule). r.head) rules)

abbrev pub start_table : List Rule → List ℕ
start_table rules = padded (max_rules + 1) (starts_from 0 rules)

abbrev pub entry_table : List Rule → List ℕ
entry_table rules = padded max_entries (joined (map body_codes rules))

unfoldable pub book_of : List (List ℕ) → List Rule → Book
book_of names rules =
    record {
      names = length names;
      rules = length rules;
      text = text_table names;
      lengths = length_table names;
      heads = head_table rules;
      starts = start_table rules;
      entries = entry_table rules;
    }

-- the book with no names and no rules
abbrev pub no_book : Book
no_book = book_of [] []
