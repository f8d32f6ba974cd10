-- The text of a marking file: lines and fields, names, the first word of a line, and the form of a literal (document 01, "The marking file";
-- document 02, A.2, for capitals in names).
use Rattle.std.specs.Prelude.{◌≡◌, Option, None, Some, Bool, true, false, cond, ◌&&◌, ◌||◌, List, [], ◌∷◌, map, ℕ, suc, ◌+◌, eqb, leb, length, drop}
use Rattle.scan.specs.declared.Class.{Class}
use Rattle.scan.specs.declared.Class.TheVariants.{Letter, Capital, Digit, Underscore, Other}
use Rattle.scan.specs.declared.Alphabet.{Alphabet}
use Rattle.scan.specs.declared.Alphabet.TheVariants.{SmallOnly, EitherCase}
use Rattle.scan.specs.declared.Word.{Word}
use Rattle.scan.specs.declared.Word.TheVariants.{Name, Rule, End, Unknown}
use Rattle.scan.specs.declared.Marks.{Marks}

-- ---- bytes

-- a line ends in byte 10
abbrev pub newline : ℕ
newline = 10

-- a comma parts two fields
abbrev pub comma : ℕ
comma = 44

-- a byte of a file: 10, or 32 to 126
abbrev pub is_text : ℕ → Bool
is_text b = eqb b newline || (leb 32 b && leb b 126)

abbrev pub is_capital : ℕ → Bool
is_capital b = leb 65 b && leb b 90

-- the class of a byte: a small letter (97 to 122), a capital (65 to 90), a digit (48 to 57), an underscore (95), or another
abbrev pub class_of : ℕ → Class
class_of b =
    cond (leb 97 b && leb b 122) Letter
    (cond (is_capital b) Capital
    (cond (leb 48 b && leb b 57) Digit
    (cond (eqb b 95) Underscore
    Other)))

-- every byte passes the test
unfoldable pub all_bytes : (ℕ → Bool) → List ℕ → Bool
all_bytes f [] = true
all_bytes f (x ∷ xs) = f x && all_bytes f xs

-- ---- lines and fields

abbrev pub onto : ℕ → List (List ℕ) → List (List ℕ)
onto x [] = (x ∷ []) ∷ []
onto x (p ∷ ps) = (x ∷ p) ∷ ps

-- the pieces between the bytes `stop`: one more than there are such bytes
unfoldable pub split : ℕ → List ℕ → List (List ℕ)
split stop [] = [] ∷ []
split stop (x ∷ xs) = cond (eqb x stop) ([] ∷ split stop xs) (onto x (split stop xs))

-- how many bytes stand before the first `stop`
unfoldable pub len_to : ℕ → List ℕ → ℕ
len_to stop [] = 0
len_to stop (x ∷ xs) = cond (eqb x stop) 0 (suc (len_to stop xs))

-- the pieces from place p on, where a piece begins at p: none past the end
abbrev pub rest : ℕ → List ℕ → ℕ → List (List ℕ)
rest stop l p = cond (leb p (length l)) (split stop (drop p l)) []

-- the fields of a line are parted by commas
abbrev pub fields : List ℕ → List (List ℕ)
fields line = split comma line

-- ---- the same bytes

unfoldable pub same_bytes : List ℕ → List ℕ → Bool
same_bytes [] [] = true
same_bytes [] (y ∷ ys) = false
same_bytes (x ∷ xs) [] = false
same_bytes (x ∷ xs) (y ∷ ys) = eqb x y && same_bytes xs ys

-- ---- names

-- the most bytes of a NAME; `src/lib.rt` has the same number
abbrev pub max_length : ℕ
max_length = 16

-- The alphabet says which bytes a name may have, and when two names are the same. `SmallOnly` is document 01's: the letters are the small ones, and each
-- byte counts as itself. `EitherCase` is document 02's, A.2: capitals are letters too, and count as small ones.

abbrev pub is_letter : Alphabet → Class → Bool
is_letter α Letter = true
is_letter SmallOnly Capital = false
is_letter EitherCase Capital = true
is_letter α Digit = false
is_letter α Underscore = false
is_letter α Other = false

-- a capital made small
abbrev pub small : ℕ → ℕ
small b = cond (is_capital b) (b + 32) b

abbrev pub counts_as : Alphabet → ℕ → ℕ
counts_as SmallOnly b = b
counts_as EitherCase b = small b

-- whether a name may have the byte
abbrev pub in_name : Alphabet → Class → Bool
in_name α Letter = is_letter α Letter
in_name α Capital = is_letter α Capital
in_name α Digit = true
in_name α Underscore = true
in_name α Other = false

-- a NAME has 1 to 16 bytes, of which the first is a letter
unfoldable pub is_name : Alphabet → List ℕ → Bool
is_name α [] = false
is_name α (x ∷ xs) = leb (suc (length xs)) max_length && (is_letter α (class_of x) && all_bytes (λ b. in_name α (class_of b)) xs)

-- the bytes that a name counts as
abbrev pub folded : Alphabet → List ℕ → List ℕ
folded α n = map (counts_as α) n

-- two names are the same: refusals 6 and 7 go by this, and every look-up by its test
unfoldable pub SameName : Alphabet → List ℕ → List ℕ → Type 0
SameName α a b = folded α a ≡ folded α b

-- `proofs/Names.antt` shows that the test decides it
unfoldable pub same_name : Alphabet → List ℕ → List ℕ → Bool
same_name α a b = same_bytes (folded α a) (folded α b)

-- ---- the first field

-- the bytes of `name`, `rule` and `end`
abbrev pub name_word : List ℕ
name_word = 110 ∷ 97 ∷ 109 ∷ 101 ∷ []

abbrev pub rule_word : List ℕ
rule_word = 114 ∷ 117 ∷ 108 ∷ 101 ∷ []

abbrev pub end_word : List ℕ
end_word = 101 ∷ 110 ∷ 100 ∷ []

unfoldable pub word_of : List ℕ → Word
word_of f = cond (same_bytes f name_word) Name (cond (same_bytes f rule_word) Rule (cond (same_bytes f end_word) End Unknown))

-- ---- literals

-- 1 where the byte b stands first, else 0
abbrev pub lead : ℕ → List ℕ → ℕ
lead b [] = 0
lead b (x ∷ xs) = cond (eqb x b) 1 0

-- a literal has an optional `~` (126)
abbrev pub tildes : List ℕ → ℕ
tildes f = lead 126 f

-- then an optional `-` (45)
abbrev pub minuses : List ℕ → ℕ
minuses f = lead 45 (drop (tildes f) f)

-- then a NAME
abbrev pub name_of : List ℕ → List ℕ
name_of f = drop (minuses f) (drop (tildes f) f)

-- the marks of a field that reads as a literal; none where it is malformed
unfoldable pub form_of : Alphabet → List ℕ → Option Marks
form_of α f = cond (is_name α (name_of f)) (Some (record { tildes = tildes f; minuses = minuses f })) None
