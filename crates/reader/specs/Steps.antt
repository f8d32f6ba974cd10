-- What the reader's own functions tell each other: the counts and the tables of what has been read, and what a line does to them. The contracts of `read`
-- and `size` cite none of this.
use Rattle.std.specs.Prelude.{◌≡◌, Bool, true, false, List, map, ℕ, ◌+◌, ◌*◌, ◌≤◌, ◌<◌, length, Option, Some, None, Result, Ok, Err}
use Rattle.wfsx.specs.Sets.{◌is_in◌}
use Rattle.wfsx.specs.Program.{Rule}
use Rattle.scan.specs.Text.{max_length, tildes, minuses, name_of}
use Rattle.scan.specs.declared.Word.{Word}
use Rattle.scan.specs.declared.Alphabet.TheVariants.{EitherCase}
use Rattle.book.specs.Limits.{max_names, max_rules, max_entries}
use Rattle.book.specs.Book.{find, code_of, text_table, length_table, head_table, start_table, entry_table}
use Rattle.std.specs.Prelude.{Option, None, Some}
use Rattle.keys.specs.Keyed.{Keyed}
use Rattle.keys.specs.declared.Names.{Names}
use Rattle.reader.specs.File.{Content, nothing_yet, body_literals, all_fields, is_known, fault_of, line_fault, entry_from, extended, with_line, Outcome, accepted}
use Rattle.reader.specs.Loading.{number_of, RefusedAs}
use Rattle.reader.specs.Tables.{Lists, with_entries}
use Rattle.reader.specs.declared.Counts.{Counts}
use Rattle.reader.specs.declared.Fault.{Fault}
use Rattle.reader.specs.declared.Refusal.{Refusal}
use Rattle.reader.specs.declared.Known.{Known}

-- ---- what has been read

abbrev pub no_counts : Counts
no_counts = record { names = 0; rules = 0; used = 0; ended = false }

-- counts that the tables have room for
pub record Fits (t : Counts) : Type 0 where
  pub few_names : t.names ≤ max_names
  pub few_rules : t.rules ≤ max_rules
  pub few_literals : t.used ≤ max_entries

-- the counts are those of d
pub record Counted (d : Content) (t : Counts) : Type 0 where
  pub names_are : t.names ≡ length d.names
  pub rules_are : t.rules ≡ length d.rules
  pub used_are : t.used ≡ body_literals d.rules
  pub ended_is : t.ended ≡ d.ended
  pub fits : Fits t

-- what a line is judged by: the counts and the names' keys
pub record Holds (d : Content) (t : Counts) (names : Names) : Type 0 where
  pub counted : Counted d t
  pub keyed : Keyed d.names names.keys

-- the tables hold the names
pub record NamesStored (names : List (List ℕ)) (text lengths : List ℕ) : Type 0 where
  pub text_is : text ≡ text_table names
  pub lengths_are : lengths ≡ length_table names
  pub short : (n : List ℕ) → n is_in names → length n ≤ max_length

-- the tables hold the rules
pub record RulesStored (rules : List Rule) (heads starts entries : List ℕ) : Type 0 where
  pub heads_are : heads ≡ head_table rules
  pub starts_are : starts ≡ start_table rules
  pub entries_are : entries ≡ entry_table rules

-- the tables hold the book
pub record Stored (d : Content) (l : Lists) : Type 0 where
  pub names_stored : NamesStored d.names l.text l.lengths
  pub rules_stored : RulesStored d.rules l.heads l.starts l.entries

-- ---- the fields of a rule

-- a field's name looked up: its literal, and how many `~` stand before it
abbrev pub known_by : Option ℕ → ℕ → ℕ → Option Known
known_by None tilde minus = None
known_by (Some i) tilde minus = Some (record { literal = 2 * i + minus; tildes = tilde })

unfoldable pub known_of : List (List ℕ) → List ℕ → Option Known
known_of names f = known_by (find EitherCase names (name_of f)) (tildes f) (minuses f)

-- A field's name looked up among `count` names. Whatever is in the table of keys, the literal and the mark are small; where it has the keys of the names,
-- they are the field's.
pub record KnownAmong (table : Names) (count : ℕ) (f : List ℕ) (r : Option Known) : Type 0 where
  pub small : (k : Known) → r ≡ Some k → (k.literal < 2 * count) × (k.tildes ≤ 1)
  pub known : (names : List (List ℕ)) → Keyed names table.keys → count ≡ length names → r ≡ known_of names f

-- the number that is stored for a field
abbrev pub field_code : List (List ℕ) → List ℕ → ℕ
field_code names f = code_of (entry_from EitherCase names f)

-- whether all names of the fields are declared, and where they are, the fields' numbers from `at` on
pub record FieldsKnown (names fs : List (List ℕ)) (at : ℕ) (r : Bool) (l l' : Lists) : Type 0 where
  pub answer_is : r ≡ all_fields (is_known EitherCase names) fs
  pub entries_are : r ≡ true → l' ≡ with_entries l at (map (field_code names) fs)

-- ---- a line

-- what the lines before it say, what they say with it, and its fault
pub record Step : Type 0 where
  pub old : Content
  pub new : Content
  pub fault : ℕ

abbrev pub line_step : Content → List (List ℕ) → Step
line_step d fs = record { old = d; new = with_line EitherCase d fs; fault = line_fault EitherCase d fs }

-- by its first word and its other fields
abbrev pub word_step : Content → Word → List (List ℕ) → Step
word_step d w others = record { old = d; new = extended EitherCase d w others; fault = fault_of EitherCase d w others }

-- the answer: the line's fault, or where that is 0 the counts of what the lines say with it
abbrev pub Answered : Step → Result Counts Fault → Names → Type 0
Answered s (Ok t) names = (s.fault ≡ 0) × Holds s.new t names
Answered s (Err fault) names = s.fault ≡ number_of fault

-- Tables that held the book hold it after a line without a fault. The answer is the same over tables of every length: over empty ones a line is judged and
-- counted, and nothing is stored.
pub record LineRead (s : Step) (r : Result Counts Fault) (names : Names) (l l' : Lists) : Type 0 where
  pub answer : Answered s r names
  pub stored : s.fault ≡ 0 → Stored s.old l → Stored s.new l'

-- ---- a file

-- what an accepted file says, counted; tables that held nothing hold its book
pub record FineFile (o : Outcome) (t : Counts) (l l' : Lists) : Type 0 where
  pub content : Content
  pub outcome : o ≡ accepted content.names content.rules
  pub counted : Counted content t
  pub stored : Stored nothing_yet l → Stored content l'

-- As for a line, the answer is the same over tables of every length.
abbrev pub FileRead : Outcome → Result Counts Refusal → Lists → Lists → Type 0
FileRead o (Ok t) l l' = FineFile o t l l'
FileRead o (Err r) l l' = RefusedAs o r
