-- What has been read without a fault is within the tables: each line that is not faulty passed the tests of numbers 4 to 8, and these bound what it
-- adds. So an accepted file is within them too.
use mathlib.Core.Path.{◌≡◌, refl, sym, ap, ◌∙◌, subst}
use mathlib.Core.Logic.{⊎_elim}
use mathlib.Core.Bool.{Bool, true, false, cond, true≢false}
use mathlib.Core.List.Memᴰ
use mathlib.Core.List.{List, [], ◌∷◌, ◌++◌, map}
use Prim.Native.Nat.{ℕ, suc, ◌+◌, ◌-◌, ◌*◌, ◌≤◌, ◌<◌}
use native.Mathlib.Omega.{arith}
use lib.Dec.{leb, ltb}
use lib.ListN.{length, drop, length-append, length-map}
use borrow.Author.Tests.{leb-false, ltb-false, not-false}
use Rattle.wfsx.specs.Sets.{◌is_in◌}
use Rattle.wfsx.specs.Program.{Entry, positive, default, Rule}
use Rattle.truth.proofs.Truth.{neither}
use Rattle.scan.specs.Text.{fields, is_name, word_of, tildes, name_of, minuses}
use Rattle.scan.specs.declared.Word.{Word}
use Rattle.scan.specs.declared.Word.TheVariants.{Name, Rule as RuleWord, End, Unknown}
use Rattle.scan.proofs.Forms.{lead_most}
use Rattle.scan.specs.declared.Alphabet.TheVariants.{EitherCase}
use Rattle.book.specs.Limits.{max_names, max_rules, max_entries, max_body}
use Rattle.book.specs.Book.{find, literal_in}
use Rattle.book.proofs.Lookup.{found_below}
use Rattle.std.specs.Prelude.{Option, None, Some}
use Rattle.reader.proofs.FieldCounts.{name_fields, rule_fields}
use Rattle.reader.specs.File.{Content, nothing_yet, body_literals, all_fields, is_found, declared, malformed, uses_undeclared, beyond_table, line_fault, number_in, literal_number, entry_from, has_tilde, rule_from, extended, with_line, accepted, lines_of, read_file}
use Rattle.reader.specs.Conditions.{said_by, SaysNothing}
use Rattle.reader.proofs.Faults.{Passes, line_passes, each_field}
use Rattle.reader.proofs.Lines.{Faultless, Read, file_read}

pub record Within (d : Content) : Type 0 where
  pub few_names : length d.names ≤ max_names
  pub names_fit : (n : List ℕ) → n is_in d.names → is_name EitherCase n ≡ true
  pub few_rules : length d.rules ≤ max_rules
  pub few_literals : body_literals d.rules ≤ max_entries
  pub bodies_fit : (r : Rule) → r is_in d.rules → length r.body ≤ max_body
  pub heads_known : (r : Rule) → r is_in d.rules → r.head < 2 * length d.names
  pub entries_known : (r : Rule) → r is_in d.rules → (e : Entry) → e is_in r.body → literal_in e < 2 * length d.names

-- ---- names, literals and rules one by one

pub literal_below : (names : List (List ℕ)) (f : List ℕ) → declared EitherCase names (name_of f) ≡ true → literal_number EitherCase names f < 2 * length names
unfolding literal_number
literal_below names f e = go (find EitherCase names (name_of f)) refl e
  where
    go : (x : Option ℕ) → find EitherCase names (name_of f) ≡ x → is_found x ≡ true → 2 * number_in (find EitherCase names (name_of f)) + minuses f < 2 * length names
    go None q t = absurd (true≢false (sym t))
    go (Some i) q t = omega (arith, ap number_in q, found_below EitherCase 0 (name_of f) names i q, lead_most 45 (drop (tildes f) f))

entry_literal : (names : List (List ℕ)) (f : List ℕ) → literal_in (entry_from EitherCase names f) ≡ literal_number EitherCase names f
unfolding entry_from
entry_literal names f = go (has_tilde f)
  where
    go : (t : Bool) → literal_in (cond t (default (literal_number EitherCase names f)) (positive (literal_number EitherCase names f))) ≡ literal_number EitherCase names f
    go true = refl
    go false = refl

pub literals_append : (rs qs : List Rule) → body_literals (rs ++ qs) ≡ body_literals rs + body_literals qs
unfolding body_literals
literals_append [] qs = omega arith
literals_append (r ∷ rs) qs = omega (arith, literals_append rs qs)

-- ---- one line

pub within_nothing : Within nothing_yet
unfolding body_literals
within_nothing =
    record {
      few_names = omega arith;
      names_fit = λ n m. absurd (Memᴰ.not-nil m);
      few_rules = omega arith;
      few_literals = omega arith;
      bodies_fit = λ r m. absurd (Memᴰ.not-nil m);
      heads_known = λ r m. absurd (Memᴰ.not-nil m);
      entries_known = λ r m. absurd (Memᴰ.not-nil m);
    }

one_more : {X : Type 0} (P : X → Type 0) {l : List X} {x : X} → ((y : X) → y is_in l → P y) → P x → (y : X) → y is_in l ++ (x ∷ []) → P y
one_more P {l} {x} f p y m = ⊎_elim (f y) (λ i. subst P (sym (Memᴰ.eq_of_singleton i)) p) (Memᴰ.append_cases l m)

module _ (d : Content) (w : Within d) where
  within_name : (others : List (List ℕ)) → Passes d Name others → Within (extended EitherCase d Name others)
  unfolding extended malformed beyond_table
  within_name others c =
      let one = name_fields others c.right_fields in
      let room : length d.names < max_names = leb-false max_names (length d.names) c.in_table in
      let named : all_fields (is_name EitherCase) others ≡ true = not-false (all_fields (is_name EitherCase) others) c.well_formed in
      let grown : length (d.names ++ others) ≡ length d.names + 1 = length-append d.names others ∙ ap (λ (k : ℕ). length d.names + k) one in
      record {
        few_names = omega arith;
        names_fit = λ n m. ⊎_elim (λ i. w.names_fit n i) (λ i. each_field (is_name EitherCase) i named) (Memᴰ.append_cases d.names m);
        few_rules = w.few_rules;
        few_literals = w.few_literals;
        bodies_fit = w.bodies_fit;
        heads_known = λ r m. omega (arith, w.heads_known r m);
        entries_known = λ r m e i. omega (arith, w.entries_known r m e i);
      }

  within_rule : (others : List (List ℕ)) → Passes d RuleWord others → Within (extended EitherCase d RuleWord others)
  unfolding extended beyond_table uses_undeclared body_literals
  within_rule [] c = let some = (rule_fields [] c.right_fields).0 in absurd (omega arith)
  within_rule (h ∷ body) c =
      let few = (rule_fields (h ∷ body) c.right_fields).1 in
      let full = leb max_rules (length d.rules) in
      let long = ltb max_entries (body_literals d.rules + (suc (length body) - 1)) in
      let room : length d.rules < max_rules = leb-false max_rules (length d.rules) (neither full long c.in_table).0 in
      let space = ltb-false max_entries (body_literals d.rules + (suc (length body) - 1)) (neither full long c.in_table).1 in
      let known : List ℕ → Bool = λ f. declared EitherCase d.names (name_of f) in
      let all_Known = not-false (all_fields known (h ∷ body)) c.all_declared in
      let entries = map (entry_from EitherCase d.names) body in
      let size : length entries ≡ length body = length-map body (entry_from EitherCase d.names) in
      let new = rule_from EitherCase d.names (h ∷ body) in
      let grown : length (d.rules ++ new) ≡ length d.rules + 1 = length-append d.rules new in
      let longer = literals_append d.rules new in
      let head-known : literal_number EitherCase d.names h < 2 * length d.names = literal_below d.names h (each_field known (Memᴰ.head refl) all_Known) in
      let entry_known : (e : Entry) → e is_in entries → literal_in e < 2 * length d.names = λ e i.
      let s = Memᴰ.of_map (entry_from EitherCase d.names) body i in
      let below = literal_below d.names s.0 (each_field known (Memᴰ.tail s.1) all_Known) in
      omega (arith, ap literal_in s.2, entry_literal d.names s.0) in
      record {
        few_names = w.few_names;
        names_fit = w.names_fit;
        few_rules = omega arith;
        few_literals = omega arith;
        bodies_fit = one_more (λ r. length r.body ≤ max_body) w.bodies_fit (omega arith);
        heads_known = one_more (λ r. r.head < 2 * length d.names) w.heads_known head-known;
        entries_known = one_more (λ r. (e : Entry) → e is_in r.body → literal_in e < 2 * length d.names) w.entries_known entry_known;
      }

  within_end : (others : List (List ℕ)) → Within (extended EitherCase d End others)
  unfolding extended
  within_end others =
      record {
        few_names = w.few_names;
        names_fit = w.names_fit;
        few_rules = w.few_rules;
        few_literals = w.few_literals;
        bodies_fit = w.bodies_fit;
        heads_known = w.heads_known;
        entries_known = w.entries_known;
      }

  within_word : (v : Word) (others : List (List ℕ)) → Passes d v others → Within (extended EitherCase d v others)
  unfolding extended
  within_word Name others c = within_name others c
  within_word RuleWord others c = within_rule others c
  within_word End others c = within_end others
  within_word Unknown others c = w

pub within_line : (d : Content) (fs : List (List ℕ)) → Within d → line_fault EitherCase d fs ≡ 0 → Within (with_line EitherCase d fs)
unfolding line_fault with_line
within_line d [] w e = w
within_line d (first ∷ others) w e = within_word d w (word_of first) others (line_passes d (word_of first) others e)

-- ---- a whole file

pub within_lines : (d : Content) (lines : List (List ℕ)) → Within d → Faultless d lines → Within (said_by d lines)
within_lines d [] w f = w
within_lines d (line ∷ lines) w f = within_lines (with_line EitherCase d (fields line)) lines (within_line d (fields line) w f.0) f.1

pub accepted_within : (file : List ℕ) (names : List (List ℕ)) (rules : List Rule) → read_file EitherCase file ≡ accepted names rules
    → Within (record { names = names; rules = rules; ended = true })
unfolding extended
accepted_within file names rules e = ⊎_elim by_lines none (file_read file names rules e)
  where
    by_lines : Read nothing_yet (lines_of file) names rules → Within (record { names = names; rules = rules; ended = true })
    by_lines r = rw (← r.its_names, ← r.its_rules, ← r.ends) (within_lines nothing_yet (lines_of file) within_nothing r.lines_pass)

    none : SaysNothing file names rules → Within (record { names = names; rules = rules; ended = true })
    none s = rw (s.1, s.2) (within_end nothing_yet within_nothing [])
