-- The bytes of the listing and of a refusal, whole (document 01, "The listing, whole"; document 02, A.7 and A.10).
use Rattle.std.specs.Prelude.{cond, List, [], ◌∷◌, ◌++◌, ℕ, zero, suc, ◌+◌, ◌*◌, ◌/◌, ◌%◌, ltb, length, get_or}
use Rattle.wfsx.specs.Sets.{Set, members}
use Rattle.wfsx.specs.Program.{Rule, Program, with_facts}
use Rattle.wfsx.specs.Model.{M, Verdict, is_true, is_false, is-undefined, verdict}
use Rattle.wfsx.specs.Rounds.{rounds}
use Rattle.wfsx.specs.Reach.{literals_of}
use Rattle.wfsx.specs.ContradictoryNames.{contradictory_names}
use Rattle.litset.specs.Words.{capacity, set_of, clash_in}
use Rattle.litset.specs.declared.LitSet.{LitSet}
use Rattle.book.specs.declared.Book.{Book}
use Rattle.book.specs.Book.{names_of, rules_of}
use Rattle.fixpoint.specs.Result.{verdict_in}
use Rattle.fixpoint.specs.declared.Model.{Model}
use Rattle.std.specs.Prelude.{Option, None, Some}
use Rattle.scan.specs.Text.{comma, newline}
use Rattle.lister.specs.declared.Marks.{Marks}

-- ---- words and numbers

-- the bytes of `model`, `contradiction`, `refused`, `true`, `false`, `undefined` and `contradictory`
abbrev pub model_word : List ℕ
model_word = 109 ∷ 111 ∷ 100 ∷ 101 ∷ 108 ∷ []

abbrev pub contradiction_word : List ℕ
contradiction_word = 99 ∷ 111 ∷ 110 ∷ 116 ∷ 114 ∷ 97 ∷ 100 ∷ 105 ∷ 99 ∷ 116 ∷ 105 ∷ 111 ∷ 110 ∷ []

abbrev pub refused_word : List ℕ
refused_word = 114 ∷ 101 ∷ 102 ∷ 117 ∷ 115 ∷ 101 ∷ 100 ∷ []

abbrev pub true_word : List ℕ
true_word = 116 ∷ 114 ∷ 117 ∷ 101 ∷ []

abbrev pub false_word : List ℕ
false_word = 102 ∷ 97 ∷ 108 ∷ 115 ∷ 101 ∷ []

abbrev pub undefined_word : List ℕ
undefined_word = 117 ∷ 110 ∷ 100 ∷ 101 ∷ 102 ∷ 105 ∷ 110 ∷ 101 ∷ 100 ∷ []

abbrev pub contradictory_word : List ℕ
contradictory_word = 99 ∷ 111 ∷ 110 ∷ 116 ∷ 114 ∷ 97 ∷ 100 ∷ 105 ∷ 99 ∷ 116 ∷ 111 ∷ 114 ∷ 121 ∷ []

abbrev pub verdict_word : Verdict → List ℕ
verdict_word is_true = true_word
verdict_word is_false = false_word
verdict_word is-undefined = undefined_word

-- the last k decimal digits (48 to 57) of n, or fewer where the others would be needless zeros in front
unfoldable pub last_digits : ℕ → ℕ → List ℕ
last_digits zero n = []
last_digits (suc k) n =
    let more = last_digits k (n / 10) ++ ((48 + n % 10) ∷ []) in
    cond (ltb n 10) ((48 + n) ∷ []) more

-- n in decimal digits without needless zeros in front: there are no more than n + 1 of them
unfoldable pub digits : ℕ → List ℕ
digits n = last_digits (suc n) n

-- ---- lines

-- a field and the byte behind it
abbrev pub field : List ℕ → ℕ → List ℕ
field f stop = f ++ (stop ∷ [])

-- a line: its fields parted by commas, and byte 10 at its end
unfoldable pub line : List ℕ → List (List ℕ) → List ℕ
line f [] = field f newline
line f (g ∷ fs) = field f comma ++ line g fs

-- NAMES, RULES, FACTS and ROUNDS, the fields that both headers have behind their word
abbrev pub counts : ℕ → ℕ → ℕ → ℕ → List (List ℕ)
counts names rules facts k = digits names ∷ digits rules ∷ digits facts ∷ digits k ∷ []

-- the word in the verdict field of a literal: its verdict, or `contradictory` where it is in C, the literals whose verdicts 24 would refuse
abbrev pub mark_word : (ℕ → Verdict) → Set → ℕ → List ℕ
mark_word v C A = cond (C A) contradictory_word (verdict_word (v A))

-- the words of the literals of P
abbrev pub words_of : Program → ℕ → List ℕ
words_of P = mark_word (verdict P) (literals_of (contradictory_names P))

-- The fields behind name k: the verdict of the name, and the verdict of its explicit negation. Here and below w gives the word of each literal.
abbrev pub verdict_fields : (ℕ → List ℕ) → ℕ → List (List ℕ)
verdict_fields w k = w (2 * k) ∷ w (2 * k + 1) ∷ []

-- the line of name k: its number, the name, the verdicts
abbrev pub name_line : (ℕ → List ℕ) → ℕ → List ℕ → List ℕ
name_line w k name = line (digits k) (name ∷ verdict_fields w k)

-- the lines of the names, of which the first has number k
unfoldable pub name_lines : (ℕ → List ℕ) → ℕ → List (List ℕ) → List ℕ
name_lines w k [] = []
name_lines w k (name ∷ names) = name_line w k name ++ name_lines w (suc k) names

-- ---- the listing

-- By the names, the counts of rules, of facts put in and of rounds, and the name that makes the lesson contradictory, if any. A number past the names
-- stands for the empty name.
unfoldable pub header_by : List (List ℕ) → ℕ → ℕ → ℕ → Option ℕ → List ℕ
header_by names rules facts k None = line model_word (counts (length names) rules facts k)
header_by names rules facts k (Some n) = line contradiction_word (counts (length names) rules facts k ++ (get_or names n [] ∷ []))

-- the header, and behind it the line of every name
abbrev pub listing_by : List (List ℕ) → ℕ → ℕ → ℕ → (ℕ → List ℕ) → Option ℕ → List ℕ
listing_by names rules facts k w clash = header_by names rules facts k clash ++ name_lines w 0 names

-- the listing of a lesson: a book's names and rules, and the facts put in
unfoldable pub listing_of : List (List ℕ) → List Rule → Set → List ℕ
listing_of names rules facts =
    let put_in = members capacity facts in
    let P = with_facts rules put_in in
    listing_by names (length rules) (length put_in) (rounds P) (words_of P) (clash_in (M P))

-- the same by sets and a number in the place of M, N, the literals whose verdicts 24 would refuse, and the rounds (`proofs/Standing.antt`: with these it
-- is `listing_of`)
unfoldable pub listing_by_sets : List (List ℕ) → List Rule → Set → Set → Set → Set → ℕ → List ℕ
listing_by_sets names rules facts T U C k =
    listing_by names (length rules) (length (members capacity facts)) k (mark_word (verdict_in T U) C) (clash_in T)

-- the verdicts that the sets of a model give
abbrev pub verdicts_by : Model → ℕ → Verdict
verdicts_by m A = verdict_in (set_of m.truths.words) (set_of m.nonfalse.words) A

-- the words that marks give
abbrev pub words_by : Marks → ℕ → List ℕ
words_by m A = mark_word (verdicts_by m.model) (set_of m.contradictory.words) A

-- the listing by what is held in memory, whatever its bits
abbrev pub listing_held : Book → LitSet → Marks → List ℕ
listing_held b facts m =
    listing_by_sets (names_of b) (rules_of b) (set_of facts.words) (set_of m.model.truths.words) (set_of m.model.nonfalse.words) (set_of m.contradictory.words) m.model.rounds

-- ---- a refusal

-- `refused,NUMBER,LINE`
unfoldable pub refusal_of : ℕ → ℕ → List ℕ
refusal_of number at = line refused_word (digits number ∷ digits at ∷ [])
