-- Document 02, A.2: a file without capitals has the outcome that it had before, refusals included. Without capitals both alphabets have the same names and
-- count two names as the same or not alike, so each test of the definition answers alike, and each line adds the same.
use mathlib.Core.Path.{◌≡◌, refl, ap, ap₂, ◌∙◌, subst}
use mathlib.Core.Logic.{⊎_elim}
use mathlib.Core.Bool.{Bool, true, false, not, cond, ◌&&◌, ◌||◌}
use mathlib.Core.List.Memᴰ
use mathlib.Core.List.{List, [], ◌∷◌, ◌++◌, map}
use Prim.Native.Nat.{ℕ, zero, suc, ◌+◌, ◌*◌, ◌-◌, ◌≤◌}
use lib.Dec.{eqb, leb}
use lib.ListN.{length, drop, take}
use borrow.Author.Tests.{leb-true}
use Rattle.truth.proofs.Truth.{refuted, and_l, and_r}
use Rattle.wfsx.specs.Sets.{◌is_in◌}
use Rattle.wfsx.specs.Program.{Entry, positive, default}
use Rattle.scan.specs.Text.{is_capital, class_of, is_letter, in_name, all_bytes, is_name, folded, same_bytes, same_name, max_length, onto, split, fields, comma, newline, word_of, tildes, minuses, name_of}
use Rattle.scan.specs.declared.Alphabet.TheVariants.{SmallOnly, EitherCase}
use Rattle.scan.specs.declared.Class.{Class}
use Rattle.scan.specs.declared.Class.TheVariants.{Letter, Digit, Underscore, Other}
use Rattle.scan.specs.declared.Word.{Word}
use Rattle.scan.specs.declared.Word.TheVariants.{Name, Rule as RuleWord, End, Unknown}
use Rattle.book.specs.Book.{find_from}
use Rattle.std.specs.Prelude.{Option}
use Rattle.reader.specs.File.{Content, nothing_yet, all_fields, has_tilde, is_found, number_in, head_tilde, is_literal, declared, is_known, malformed, declared_before, uses_undeclared, fault_of, line_fault, literal_number, entry_from, rule_from, extended, with_line, read_lines, lines_of, Outcome, read_file}
use Rattle.reader.specs.Conditions.{HasBytes}
use Rattle.reader.specs.NoBytes.{read_file01}
use Rattle.reader.specs.Loading.{LoadedAs}
use Rattle.reader.specs.declared.Refusal.{Refusal}
use Rattle.reader.proofs.Outcomes.{loaded_same}
use Rattle.book.specs.declared.Book.{Book}
use Rattle.std.proofs.Common.{Result}
use Rattle.reader.specs.Capitals.{NoCapitals}
use Rattle.reader.proofs.NoBytes.{bytes_as_before}

-- ---- bytes

-- a byte that is no capital
abbrev Plain : ℕ → Type 0
Plain b = (65 ≤ b) × (b ≤ 90) → ⊥

plain_test : (b : ℕ) → Plain b → is_capital b ≡ false
plain_test b p = refuted (λ e. p (leb-true 65 b (and_l (leb 65 b) (leb b 90) e), leb-true b 90 (and_r (leb 65 b) (leb b 90) e)))

-- what holds of every class but capitals holds of the class of such a byte
by_class : (P : Class → Type 0) → P Letter → P Digit → P Underscore → P Other → (b : ℕ) → Plain b → P (class_of b)
by_class P letter digit underscore other b p = rw (plain_test b p) (go (leb 97 b && leb b 122) (leb 48 b && leb b 57) (eqb b 95))
  where
    go : (s t u : Bool) → P (cond s Letter (cond t Digit (cond u Underscore Other)))
    go true t u = letter
    go false true u = digit
    go false false true = underscore
    go false false false = other

letter_alike : (b : ℕ) → Plain b → is_letter EitherCase (class_of b) ≡ is_letter SmallOnly (class_of b)
letter_alike = by_class (λ c. is_letter EitherCase c ≡ is_letter SmallOnly c) refl refl refl refl

byte_alike : (b : ℕ) → Plain b → in_name EitherCase (class_of b) ≡ in_name SmallOnly (class_of b)
byte_alike = by_class (λ c. in_name EitherCase c ≡ in_name SmallOnly c) refl refl refl refl

-- ---- names

none_first : {x : ℕ} {xs : List ℕ} → NoCapitals (x ∷ xs) → Plain x
none_first n = n _ (Memᴰ.head refl)

none_rest : {x : ℕ} {xs : List ℕ} → NoCapitals (x ∷ xs) → NoCapitals xs
none_rest n b m = n b (Memᴰ.tail m)

none_drop : (k : ℕ) (s : List ℕ) → NoCapitals s → NoCapitals (drop k s)
none_drop zero s n = n
none_drop (suc k) [] n = n
none_drop (suc k) (x ∷ xs) n = none_drop k xs (none_rest n)

bytes_alike : (s : List ℕ) → NoCapitals s → all_bytes (λ b. in_name EitherCase (class_of b)) s ≡ all_bytes (λ b. in_name SmallOnly (class_of b)) s
unfolding all_bytes
bytes_alike [] n = refl
bytes_alike (x ∷ xs) n = ap₂ (λ (a b : Bool). a && b) (byte_alike x (none_first n)) (bytes_alike xs (none_rest n))

name_alike : (s : List ℕ) → NoCapitals s → is_name EitherCase s ≡ is_name SmallOnly s
unfolding is_name
name_alike [] n = refl
name_alike (x ∷ xs) n = ap₂ (λ (a b : Bool). leb (suc (length xs)) max_length && (a && b)) (letter_alike x (none_first n)) (bytes_alike xs (none_rest n))

folded_alike : (s : List ℕ) → NoCapitals s → folded EitherCase s ≡ folded SmallOnly s
folded_alike [] n = refl
folded_alike (x ∷ xs) n = ap₂ (λ (y : ℕ) (ys : List ℕ). y ∷ ys) (rw (plain_test x (none_first n))) (folded_alike xs (none_rest n))

same_alike : (a b : List ℕ) → NoCapitals a → NoCapitals b → same_name EitherCase a b ≡ same_name SmallOnly a b
unfolding same_name
same_alike a b n m = ap₂ same_bytes (folded_alike a n) (folded_alike b m)

-- ---- fields

-- none of the fields has a capital
abbrev Plains : List (List ℕ) → Type 0
Plains fs = (f : List ℕ) → f is_in fs → NoCapitals f

plains_both : (fs gs : List (List ℕ)) → Plains fs → Plains gs → Plains (fs ++ gs)
plains_both fs gs n m f i = ⊎_elim (n f) (m f) (Memᴰ.append_cases fs i)

plains_cons : {f : List ℕ} {fs : List (List ℕ)} → NoCapitals f → Plains fs → Plains (f ∷ fs)
plains_cons n m g i = ⊎_elim (λ e. rw e n) (m g) (Memᴰ.cases_cons i)

plains_first : {f : List ℕ} {fs : List (List ℕ)} → Plains (f ∷ fs) → NoCapitals f
plains_first n = n _ (Memᴰ.head refl)

plains_rest : {f : List ℕ} {fs : List (List ℕ)} → Plains (f ∷ fs) → Plains fs
plains_rest n g i = n g (Memᴰ.tail i)

-- the pieces of bytes without capitals
none_cons : {x : ℕ} {xs : List ℕ} → Plain x → NoCapitals xs → NoCapitals (x ∷ xs)
none_cons p n b i = ⊎_elim (λ e. rw e p) (n b) (Memᴰ.cases_cons i)

none_nil : NoCapitals []
none_nil b i = absurd (Memᴰ.not-nil i)

plains_nil : Plains []
plains_nil f i = absurd (Memᴰ.not-nil i)

onto_plain : (x : ℕ) (ps : List (List ℕ)) → Plain x → Plains ps → Plains (onto x ps)
onto_plain x [] p n = plains_cons (none_cons p none_nil) n
onto_plain x (q ∷ qs) p n = plains_cons (none_cons p (plains_first n)) (plains_rest n)

split_plain : (stop : ℕ) (s : List ℕ) → NoCapitals s → Plains (split stop s)
unfolding split
split_plain stop [] n = plains_cons n plains_nil
split_plain stop (x ∷ xs) n = go (split_plain stop xs (none_rest n)) (eqb x stop)
  where
    go : Plains (split stop xs) → (t : Bool) → Plains (cond t ([] ∷ split stop xs) (onto x (split stop xs)))
    go rest true = plains_cons none_nil rest
    go rest false = onto_plain x (split stop xs) (none_first n) rest

-- tests that answer alike for each field
fields_alike : (g h : List ℕ → Bool) (fs : List (List ℕ)) → ((f : List ℕ) → f is_in fs → g f ≡ h f) → all_fields g fs ≡ all_fields h fs
unfolding all_fields
fields_alike g h [] e = refl
fields_alike g h (f ∷ fs) e = ap₂ (λ (a b : Bool). a && b) (e f (Memᴰ.head refl)) (fields_alike g h fs (λ x i. e x (Memᴰ.tail i)))

-- ---- names looked up

name_plain : (f : List ℕ) → NoCapitals f → NoCapitals (name_of f)
name_plain f n = none_drop (minuses f) (drop (tildes f) f) (none_drop (tildes f) f n)

find_alike : (k : ℕ) (n : List ℕ) (names : List (List ℕ)) → NoCapitals n → Plains names → find_from EitherCase k n names ≡ find_from SmallOnly k n names
unfolding find_from
find_alike k n [] p q = refl
find_alike k n (m ∷ ms) p q = rw (same_alike m n (plains_first q) p, find_alike (suc k) n ms p (plains_rest q))

module _ (names : List (List ℕ)) (known : Plains names) where
  declared_alike : (n : List ℕ) → NoCapitals n → declared EitherCase names n ≡ declared SmallOnly names n
  declared_alike n p = ap is_found (find_alike 0 n names p known)

  number_alike : (f : List ℕ) → NoCapitals f → literal_number EitherCase names f ≡ literal_number SmallOnly names f
  unfolding literal_number
  number_alike f p = ap (λ (x : Option ℕ). 2 * number_in x + minuses f) (find_alike 0 (name_of f) names (name_plain f p) known)

  entry_alike : (f : List ℕ) → NoCapitals f → entry_from EitherCase names f ≡ entry_from SmallOnly names f
  unfolding entry_from
  entry_alike f p = ap (λ (l : ℕ). cond (has_tilde f) (default l) (positive l)) (number_alike f p)

  entries_alike : (fs : List (List ℕ)) → Plains fs → map (entry_from EitherCase names) fs ≡ map (entry_from SmallOnly names) fs
  entries_alike [] p = refl
  entries_alike (f ∷ fs) p = ap₂ (λ (e : Entry) (es : List Entry). e ∷ es) (entry_alike f (plains_first p)) (entries_alike fs (plains_rest p))

  rule_alike : (fs : List (List ℕ)) → Plains fs → rule_from EitherCase names fs ≡ rule_from SmallOnly names fs
  rule_alike [] p = refl
  rule_alike (h ∷ body) p = rw (number_alike h (plains_first p), entries_alike body (plains_rest p))

-- ---- lines

module _ (d : Content) (known : Plains d.names) where
  module _ (others : List (List ℕ)) (plain : Plains others) where
    malformed_alike : (w : Word) → malformed EitherCase w others ≡ malformed SmallOnly w others
    unfolding malformed
    malformed_alike Name = ap not (fields_alike (is_name EitherCase) (is_name SmallOnly) others (λ f i. name_alike f (plain f i)))
    malformed_alike RuleWord =
        ap (λ (b : Bool). head_tilde others || not b)
        (fields_alike (is_literal EitherCase) (is_literal SmallOnly) others (λ f i. name_alike (name_of f) (name_plain f (plain f i))))
    malformed_alike End = refl
    malformed_alike Unknown = refl

    before_alike : (w : Word) → declared_before EitherCase d w others ≡ declared_before SmallOnly d w others
    unfolding declared_before
    before_alike Name =
        ap not
        (fields_alike (λ n. not (declared EitherCase d.names n)) (λ n. not (declared SmallOnly d.names n)) others
        (λ f i. ap not (declared_alike d.names known f (plain f i))))
    before_alike RuleWord = refl
    before_alike End = refl
    before_alike Unknown = refl

    undeclared_alike : (w : Word) → uses_undeclared EitherCase d w others ≡ uses_undeclared SmallOnly d w others
    unfolding uses_undeclared
    undeclared_alike Name = refl
    undeclared_alike RuleWord =
        ap not
        (fields_alike (is_known EitherCase d.names) (is_known SmallOnly d.names) others (λ f i. declared_alike d.names known (name_of f) (name_plain f (plain f i))))
    undeclared_alike End = refl
    undeclared_alike Unknown = refl

    fault_alike : (w : Word) → fault_of EitherCase d w others ≡ fault_of SmallOnly d w others
    unfolding fault_of
    fault_alike w = rw (malformed_alike w, before_alike w, undeclared_alike w)

    extended_alike : (w : Word) → extended EitherCase d w others ≡ extended SmallOnly d w others
    unfolding extended
    extended_alike Name = refl
    extended_alike RuleWord = rw (rule_alike d.names known others plain)
    extended_alike End = refl
    extended_alike Unknown = refl

    names_plain : (w : Word) → Plains (extended EitherCase d w others).names
    unfolding extended
    names_plain Name = plains_both d.names others known plain
    names_plain RuleWord = known
    names_plain End = known
    names_plain Unknown = known

  line_alike : (fs : List (List ℕ)) → Plains fs → (line_fault EitherCase d fs ≡ line_fault SmallOnly d fs) × (with_line EitherCase d fs ≡ with_line SmallOnly d fs) × Plains (with_line EitherCase d fs).names
  unfolding line_fault with_line
  line_alike [] p = (refl, refl, known)
  line_alike (first ∷ others) p =
      let plain = plains_rest p in
      (fault_alike others plain (word_of first), extended_alike others plain (word_of first), names_plain others plain (word_of first))

lines_alike : (d : Content) (at : ℕ) (lines : List (List ℕ)) → Plains d.names → Plains lines → read_lines EitherCase d at lines ≡ read_lines SmallOnly d at lines
unfolding read_lines
lines_alike d at [] known p = refl
lines_alike d at (line ∷ lines) known p =
    let l = line_alike d known (fields line) (split_plain comma line (plains_first p)) in
    let rest = lines_alike (with_line EitherCase d (fields line)) (at + 1) lines l.2 (plains_rest p) ∙ ap (λ (e : Content). read_lines SmallOnly e (at + 1) lines) l.1 in
    rw (l.0, rest)

-- ---- the file

none_take : (k : ℕ) (s : List ℕ) → NoCapitals s → NoCapitals (take k s)
none_take zero s n = none_nil
none_take (suc k) [] n = n
none_take (suc k) (x ∷ xs) n = none_cons (none_first n) (none_take k xs (none_rest n))

lines_plain : (file : List ℕ) → NoCapitals file → Plains (lines_of file)
lines_plain [] n = plains_nil
lines_plain (b ∷ bs) n = split_plain newline (take (length (b ∷ bs) - 1) (b ∷ bs)) (none_take (length (b ∷ bs) - 1) (b ∷ bs) n)

pub small_as_before : (file : List ℕ) → NoCapitals file → read_file EitherCase file ≡ read_file SmallOnly file
unfolding read_file
small_as_before file n = rw (lines_alike nothing_yet 1 (lines_of file) plains_nil (lines_plain file n))

-- and so it has the outcome of document 01 by itself, where it has bytes
pub small_as_01 : (file : List ℕ) → HasBytes file → NoCapitals file → read_file EitherCase file ≡ read_file01 SmallOnly file
small_as_01 file some n = small_as_before file n ∙ bytes_as_before SmallOnly file some

-- it loads to the same book
pub small_loads_as_before : (file : List ℕ) → NoCapitals file → (a b : Result Book Refusal) → LoadedAs (read_file EitherCase file) a → LoadedAs (read_file SmallOnly file) b → a ≡ b
small_loads_as_before file n a b p q = loaded_same (read_file SmallOnly file) a b (subst (λ (o : Outcome). LoadedAs o a) (small_as_before file n) p) q
