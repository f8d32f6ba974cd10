-- Each test of the definition of a marking file is true exactly where its condition is met. Number 7 speaks of the name of a literal, so its test and
-- its condition agree on a line that isn't faulty by 5.
use mathlib.Core.Path.{◌≡◌, refl, sym, ap, subst}
use mathlib.Core.Logic.{◌⊎◌, inl, inr, ⊎_elim, ◌↔◌}
use mathlib.Core.Bool.{Bool, true, false, not, cond, ◌&&◌, ◌||◌, true≢false}
use mathlib.Core.List.Memᴰ
use mathlib.Core.List.{List, [], ◌∷◌}
use Prim.Native.Nat.{ℕ, suc, ◌+◌, ◌-◌, ◌≤◌, ◌<◌, suc-le-suc}
use native.Mathlib.Omega.{arith}
use lib.Dec.{eqb, leb, ltb}
use lib.ListN.{length, get_or, drop}
use borrow.Author.Tests.{ltb-true, lt-ltb, leb-true, le-leb, eqb-true, eq-eqb, ne_eqb, not-false}
use Rattle.wfsx.specs.Sets.{◌is_in◌}
use Rattle.truth.proofs.Truth.{clash, refuted, fails, or_is, and_is, not_is, leb_is, eqb_is, neither}
use Rattle.scan.specs.Text.{is_text, is_capital, class_of, is_letter, in_name, all_bytes, is_name, lead, tildes, name_of, name_word, rule_word, word_of, newline, same_name}
use Rattle.scan.specs.declared.Class.TheVariants.{Letter, Capital, Digit, Underscore, Other}
use Rattle.scan.specs.declared.Word.{Word}
use Rattle.scan.specs.declared.Word.TheVariants.{Name, Rule as RuleWord, End, Unknown}
use Rattle.scan.proofs.Bytes.{bytes_none, bytes_first}
use Rattle.scan.proofs.Names.{name_parts, parts_name, same_decides}
use Rattle.scan.proofs.Words.{IsWord, first_is, word_is}
use Rattle.scan.specs.declared.Alphabet.TheVariants.{EitherCase}
use Rattle.book.specs.Limits.{max_names, max_rules, max_entries, max_body}
use Rattle.book.specs.Book.{find_from}
use Rattle.book.proofs.Lookup.{find_none, find_first, find_later}
use Rattle.reader.specs.File.{Content, body_literals, all_fields, is_literal, has_tilde, is_found, declared, wrong_fields, head_tilde, malformed, declared_before, uses_undeclared, beyond_table, max_bytes, has_bytes, unended, is_known}
use Rattle.reader.specs.Conditions.{LetterByte, NameByte, NameText, Optional, LiteralText, TooLong, StrangeByte, HasBytes, LastLineOpen, SomeField, FieldsWrong, FormWrong, Declared, NameTaken, NameMissing, TableFull}
use Rattle.reader.proofs.Faults.{each_field, each_passes, all_pass, fails_where}

-- ---- numbers 1 to 3

pub too_long : (file : List ℕ) → (ltb max_bytes (length file) ≡ true) ↔ TooLong file
too_long file = (ltb-true max_bytes (length file), lt-ltb max_bytes (length file))

pub strange_byte : (file : List ℕ) → (not (all_bytes is_text file) ≡ true) ↔ StrangeByte file
strange_byte file =
    fails_where is_text (all_bytes is_text) (bytes_none is_text) (bytes_first is_text) file (λ b. (b ≡ newline) ⊎ ((32 ≤ b) × (b ≤ 126)) → ⊥) (λ b m. fails (is_text b) (text b))
  where
    text : (b : ℕ) → (is_text b ≡ true) ↔ ((b ≡ newline) ⊎ ((32 ≤ b) × (b ≤ 126)))
    text b = or_is (eqb b newline) (leb 32 b && leb b 126) (eqb_is b newline) (and_is (leb 32 b) (leb b 126) (leb_is 32 b) (leb_is b 126))

pub has_bytes_lem : (file : List ℕ) → (has_bytes file ≡ true) ↔ HasBytes file
has_bytes_lem [] = (λ e. absurd (true≢false (sym e)), λ h. absurd (omega arith))
has_bytes_lem (b ∷ bs) = (λ e. omega arith, λ h. refl)

pub last_open : (file : List ℕ) → (unended file ≡ true) ↔ LastLineOpen file
last_open file =
    let last = get_or file (length file - 1) 0 in
    and_is (has_bytes file) (not (eqb last newline)) (has_bytes_lem file) (not_is (eqb last newline) (eqb_is last newline))

-- ---- names and literals

letter_is : (b : ℕ) → (is_letter EitherCase (class_of b) ≡ true) ↔ LetterByte b
letter_is b =
    go (leb 97 b && leb b 122) (is_capital b) (leb 48 b && leb b 57) (eqb b 95)
    (or_is (leb 97 b && leb b 122) (is_capital b) (and_is (leb 97 b) (leb b 122) (leb_is 97 b) (leb_is b 122)) (and_is (leb 65 b) (leb b 90) (leb_is 65 b) (leb_is b 90)))
  where
    go : (s c t u : Bool) → ((s || c ≡ true) ↔ LetterByte b)
        → (is_letter EitherCase (cond s Letter (cond c Capital (cond t Digit (cond u Underscore Other)))) ≡ true) ↔ LetterByte b
    go true c t u d = d
    go false true t u d = d
    go false false true u d = d
    go false false false true d = d
    go false false false false d = d

byte_is : (b : ℕ) → (in_name EitherCase (class_of b) ≡ true) ↔ NameByte b
byte_is b =
    go (leb 97 b && leb b 122) (is_capital b) (leb 48 b && leb b 57) (eqb b 95)
    (or_is ((leb 97 b && leb b 122) || is_capital b) ((leb 48 b && leb b 57) || eqb b 95)
    (or_is (leb 97 b && leb b 122) (is_capital b) (and_is (leb 97 b) (leb b 122) (leb_is 97 b) (leb_is b 122)) (and_is (leb 65 b) (leb b 90) (leb_is 65 b) (leb_is b 90)))
    (or_is (leb 48 b && leb b 57) (eqb b 95) (and_is (leb 48 b) (leb b 57) (leb_is 48 b) (leb_is b 57)) (eqb_is b 95)))
  where
    go : (s c t u : Bool) → (((s || c) || (t || u) ≡ true) ↔ NameByte b)
        → (in_name EitherCase (cond s Letter (cond c Capital (cond t Digit (cond u Underscore Other)))) ≡ true) ↔ NameByte b
    go true c t u d = d
    go false true t u d = d
    go false false true u d = d
    go false false false true d = d
    go false false false false d = d

letter_named : (b : ℕ) → LetterByte b → NameByte b
letter_named b l = inl l

pub name_is : (n : List ℕ) → (is_name EitherCase n ≡ true) ↔ NameText n
name_is [] = (λ e. let h = (name_parts EitherCase [] e).some in absurd (omega arith), λ t. let h = t.nonempty in absurd (omega arith))
name_is (x ∷ xs) = (there, back)
  where
    named : ℕ → Bool
    named b = in_name EitherCase (class_of b)

    there : is_name EitherCase (x ∷ xs) ≡ true → NameText (x ∷ xs)
    there e =
        let p = name_parts EitherCase (x ∷ xs) e in
        let first : LetterByte x = (letter_is x).0 p.letter in
        record {
          nonempty = p.some;
          short = p.few;
          bytes = λ b m.
              ⊎_elim (λ q. rw q (letter_named x first)) (λ i. (byte_is b).0 (each_passes named (all_bytes named) (bytes_none named) (bytes_first named) i p.others)) (Memᴰ.cases_cons m);
          begins = first;
        }

    back : NameText (x ∷ xs) → is_name EitherCase (x ∷ xs) ≡ true
    back t =
        parts_name EitherCase (x ∷ xs) (record {
          some = t.nonempty;
          few = t.short;
          letter = (letter_is x).1 t.begins;
          others = all_pass named (all_bytes named) (bytes_none named) (bytes_first named) xs (λ b m. (byte_is b).1 (t.bytes b (Memᴰ.tail m)));
        })

lead_taken : (b : ℕ) (s : List ℕ) → Optional b s (drop (lead b s) s)
lead_taken b [] = inl refl
lead_taken b (x ∷ xs) = go (eqb x b) refl
  where
    go : (t : Bool) → eqb x b ≡ t → Optional b (x ∷ xs) (drop (cond t 1 0) (x ∷ xs))
    go true e = inr (ap (λ (y : ℕ). y ∷ xs) (eqb-true x b e))
    go false e = inl refl

taken_lead : (b : ℕ) (s r : List ℕ) → Optional b s r → lead b r ≡ 0 → drop (lead b s) s ≡ r
taken_lead b s r (inl e) h = rw (e, h)
taken_lead b s r (inr e) h = rw (e, eq-eqb b b refl)

name_first : (b : ℕ) (n : List ℕ) → NameText n → (LetterByte b → ⊥) → lead b n ≡ 0
name_first b [] t h = refl
name_first b (x ∷ xs) t h = rw (ne_eqb x b (λ e. h (rw e at t.begins)))

-- a field that reads as a literal reads so in one way
pub literal_name : (f n : List ℕ) → LiteralText f n → name_of f ≡ n
literal_name f n t =
    let r = t.0 in
    let plain : lead 126 r ≡ 0 = ⊎_elim (λ e. rw e (name_first 126 n t.3 (⊎_elim (λ l. let h = l.1 in omega arith) (λ l. let h = l.1 in omega arith)))) (λ e. rw e) t.2 in
    let rest : drop (tildes f) f ≡ r = taken_lead 126 f r t.1 plain in
    rw rest (taken_lead 45 r n t.2 (name_first 45 n t.3 (⊎_elim (λ l. let h = l.0 in omega arith) (λ l. let h = l.0 in omega arith))))

pub literal_is : (f : List ℕ) → (is_literal EitherCase f ≡ true) ↔ LiteralText f (name_of f)
literal_is f =
    (λ e. (drop (tildes f) f, lead_taken 126 f, lead_taken 45 (drop (tildes f) f), (name_is (name_of f)).0 e), λ t. (name_is (name_of f)).1 t.3)

not_literal : (f : List ℕ) → (is_literal EitherCase f ≡ false) ↔ ((n : List ℕ) → LiteralText f n → ⊥)
not_literal f =
    (λ e n t. clash ((literal_is f).1 (subst (LiteralText f) (sym (literal_name f n t)) t)) e, λ h. refuted (λ e. h (name_of f) ((literal_is f).0 e)))

-- ---- declared names

found_is : (k : ℕ) (n : List ℕ) (names : List (List ℕ)) → (is_found (find_from EitherCase k n names) ≡ true) ↔ Declared names n
found_is k n [] = rw (find_none EitherCase k n) (λ e. absurd (true≢false (sym e)), λ s. absurd (Memᴰ.not-nil s.1))
found_is k n (m ∷ ms) = go (found_is (suc k) n ms) (same_name EitherCase m n) refl
  where
    go : ((is_found (find_from EitherCase (suc k) n ms) ≡ true) ↔ Declared ms n) → (t : Bool) → same_name EitherCase m n ≡ t → (is_found (find_from EitherCase k n (m ∷ ms)) ≡ true) ↔ Declared (m ∷ ms) n
    go rest true p = rw (find_first EitherCase k n m ms p) (λ e. (m, Memᴰ.head refl, (same_decides EitherCase m n).0 p), λ s. refl)
    go rest false p = rw (find_later EitherCase k n m ms p) (
      λ e. let s = rest.0 e in (s.0, Memᴰ.tail s.1, s.2),
      λ s. ⊎_elim (λ e. absurd (clash ((same_decides EitherCase m n).1 (rw e at s.2)) p)) (λ i. rest.1 (s.0, i, s.2)) (Memᴰ.cases_cons s.1),
    )

pub declared_is : (names : List (List ℕ)) (n : List ℕ) → (declared EitherCase names n ≡ true) ↔ Declared names n
declared_is names n = found_is 0 n names

-- ---- numbers 4 to 8, by the first field

module _ (first : List ℕ) (others : List (List ℕ)) where
  pub fields_wrong : (wrong_fields (word_of first) others ≡ true) ↔ FieldsWrong (first ∷ others)
  unfolding wrong_fields
  fields_wrong = (there (word_of first) (first_is first), back)
    where
      n : ℕ
      n = length others

      by_name : (not (eqb n 1) ≡ true) ↔ (suc n ≡ 2 → ⊥)
      by_name = not_is (eqb n 1) (λ e. ap suc (eqb-true n 1 e), λ e. eq-eqb n 1 (omega arith))

      by_rule : (not (leb 1 n && leb n (max_body + 1)) ≡ true) ↔ ((2 ≤ suc n) × (suc n ≤ max_body + 2) → ⊥)
      by_rule =
          not_is (leb 1 n && leb n (max_body + 1))
          (and_is (leb 1 n) (leb n (max_body + 1)) (λ e. suc-le-suc (leb-true 1 n e), λ h. le-leb 1 n (omega arith)) (λ e. suc-le-suc (leb-true n (max_body + 1) e), λ h. le-leb n (max_body + 1) (omega arith)))

      by_end : (not (eqb n 0) ≡ true) ↔ (suc n ≡ 1 → ⊥)
      by_end = not_is (eqb n 0) (λ e. ap suc (eqb-true n 0 e), λ e. eq-eqb n 0 (omega arith))

      there : (w : Word) → IsWord w first → wrong_fields w others ≡ true → FieldsWrong (first ∷ others)
      there Name s e = inr (inl (s, by_name.0 e))
      there RuleWord s e = inr (inr (inl (s, by_rule.0 e)))
      there End s e = inr (inr (inr (s, by_end.0 e)))
      there Unknown s e = inl s

      back : FieldsWrong (first ∷ others) → wrong_fields (word_of first) others ≡ true
      back (inl s) = rw (word_is Unknown first s)
      back (inr (inl p)) = rw (word_is Name first p.0) (by_name.1 p.1)
      back (inr (inr (inl p))) = rw (word_is RuleWord first p.0) (by_rule.1 p.1)
      back (inr (inr (inr p))) = rw (word_is End first p.0) (by_end.1 p.1)

  -- a test that only lines of names and rules can meet
  named_or_ruled : (test : Word → Bool) {A B : Type 0} → test End ≡ false → test Unknown ≡ false → ((test Name ≡ true) ↔ A)
      → (first ≡ rule_word → (test RuleWord ≡ true) ↔ B) → (test (word_of first) ≡ true) ↔ (((first ≡ name_word) × A) ⊎ ((first ≡ rule_word) × B))
  named_or_ruled test {A} {B} end unknown name rule = (there (word_of first) (first_is first), back)
    where
      there : (w : Word) → IsWord w first → test w ≡ true → ((first ≡ name_word) × A) ⊎ ((first ≡ rule_word) × B)
      there Name s e = inl (s, name.0 e)
      there RuleWord s e = inr (s, (rule s).0 e)
      there End s e = absurd (clash e end)
      there Unknown s e = absurd (clash e unknown)

      back : ((first ≡ name_word) × A) ⊎ ((first ≡ rule_word) × B) → test (word_of first) ≡ true
      back (inl p) = rw (word_is Name first p.0) (name.1 p.1)
      back (inr p) = rw (word_is RuleWord first p.0) ((rule p.0).1 p.1)

  some_field : (f : List ℕ → Bool) (P : List ℕ → Type 0) → ((x : List ℕ) → x is_in others → (f x ≡ false) ↔ P x)
      → (not (all_fields f others) ≡ true) ↔ SomeField (first ∷ others) P
  unfolding all_fields
  some_field f P d = fails_where f (all_fields f) refl (λ x xs. refl) others P d

  pub form_wrong : (malformed EitherCase (word_of first) others ≡ true) ↔ FormWrong (first ∷ others)
  unfolding malformed
  form_wrong =
      named_or_ruled (λ w. malformed EitherCase w others) refl refl (some_field (is_name EitherCase) (λ n. NameText n → ⊥) (λ n m. fails (is_name EitherCase n) (name_is n)))
      (λ s. or_is (head_tilde others) (not (all_fields (is_literal EitherCase) others)) (tilde others)
      (some_field (is_literal EitherCase) (λ f. (n : List ℕ) → LiteralText f n → ⊥) (λ f m. not_literal f)))
    where
      tilde_is : (h : List ℕ) → (has_tilde h ≡ true) ↔ ((rest : List ℕ) × (h ≡ 126 ∷ rest))
      tilde_is [] = (λ e. absurd (true≢false (sym e)), λ r. let bad = ap length r.1 in absurd (omega arith))
      tilde_is (x ∷ xs) = go (eqb x 126) (eqb_is x 126)
        where
          go : (t : Bool) → ((t ≡ true) ↔ (x ≡ 126)) → (eqb (cond t 1 0) 1 ≡ true) ↔ ((rest : List ℕ) × (x ∷ xs ≡ 126 ∷ rest))
          go true d = (λ e. (xs, ap (λ (y : ℕ). y ∷ xs) (d.0 refl)), λ r. refl)
          go false d = (λ e. absurd (true≢false (sym e)), λ r. absurd (true≢false (sym (d.1 (ap (λ (l : List ℕ). get_or l 0 0) r.1)))))

      tilde : (fs : List (List ℕ)) → (head_tilde fs ≡ true) ↔ ((rest : List ℕ) × (get_or (first ∷ fs) 1 [] ≡ 126 ∷ rest))
      tilde [] = (λ e. absurd (true≢false (sym e)), λ r. let bad = ap length r.1 in absurd (omega arith))
      tilde (h ∷ body) = tilde_is h

  pub name_taken : (d : Content) → (declared_before EitherCase d (word_of first) others ≡ true) ↔ NameTaken d (first ∷ others)
  unfolding declared_before
  name_taken d = (λ e. ⊎_elim (λ p. p) (λ p. absurd p.1) (one.0 e), λ p. one.1 (inl p))
    where
      one : (declared_before EitherCase d (word_of first) others ≡ true) ↔ (NameTaken d (first ∷ others) ⊎ ((first ≡ rule_word) × ⊥))
      one =
          named_or_ruled (λ w. declared_before EitherCase d w others) refl refl (some_field (λ n. not (declared EitherCase d.names n)) (Declared d.names) (λ n m. before n))
          (λ s. (λ e. true≢false (sym e), λ z. absurd z))
        where
          before : (n : List ℕ) → (not (declared EitherCase d.names n) ≡ false) ↔ Declared d.names n
          before n = (λ e. (declared_is d.names n).0 (not-false (declared EitherCase d.names n) e), λ m. ap not ((declared_is d.names n).1 m))

  pub name_missing : (d : Content) → malformed EitherCase (word_of first) others ≡ false → (uses_undeclared EitherCase d (word_of first) others ≡ true) ↔ NameMissing d (first ∷ others)
  unfolding uses_undeclared malformed
  name_missing d formed = (λ e. ⊎_elim (λ p. absurd p.1) (λ p. p) (one.0 e), λ p. one.1 (inr p))
    where
      literals : first ≡ rule_word → all_fields (is_literal EitherCase) others ≡ true
      literals s = not-false (all_fields (is_literal EitherCase) others) (neither (head_tilde others) (not (all_fields (is_literal EitherCase) others)) (rw (word_is RuleWord first s) at formed)).1

      missing : (f : List ℕ) → is_literal EitherCase f ≡ true → (declared EitherCase d.names (name_of f) ≡ false) ↔ ((n : List ℕ) × LiteralText f n × (Declared d.names n → ⊥))
      missing f l =
          let failed = fails (declared EitherCase d.names (name_of f)) (declared_is d.names (name_of f)) in
          (λ e. (name_of f, (literal_is f).0 l, failed.0 e), λ r. failed.1 (rw (literal_name f r.0 r.1) r.2))

      one : (uses_undeclared EitherCase d (word_of first) others ≡ true) ↔ (((first ≡ name_word) × ⊥) ⊎ NameMissing d (first ∷ others))
      one =
          named_or_ruled (λ w. uses_undeclared EitherCase d w others) refl refl (λ e. true≢false (sym e), λ z. absurd z)
          (λ s. some_field (is_known EitherCase d.names) (λ f. (n : List ℕ) × LiteralText f n × (Declared d.names n → ⊥))
          (λ f m. missing f (each_field (is_literal EitherCase) m (literals s))))

  pub table_full : (d : Content) → (beyond_table d (word_of first) others ≡ true) ↔ TableFull d (first ∷ others)
  unfolding beyond_table
  table_full d =
      let used = body_literals d.rules in
      named_or_ruled (λ w. beyond_table d w others) refl refl (full max_names (length d.names))
      (λ s. or_is (leb max_rules (length d.rules)) (ltb max_entries (used + (length others - 1))) (full max_rules (length d.rules))
      (λ e. let h = ltb-true max_entries (used + (length others - 1)) e in omega arith, λ h. lt-ltb max_entries (used + (length others - 1)) (omega arith)))
    where
      full : (most n : ℕ) → (leb most n ≡ true) ↔ (most < n + 1)
      full most n = (λ e. let h = leb-true most n e in omega arith, λ h. le-leb most n (omega arith))
