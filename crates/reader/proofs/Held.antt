-- What is held of the lines read so far grows with a line that has no fault: by a name, whose bytes and length are stored behind the others; by a rule,
-- which is counted, and stored where the slices hold the rules before it; or by the `end`. At first nothing is held, and what is held and stored at last is
-- the book.
use mathlib.Core.Path.{◌≡◌, refl, sym, ap, ap₂, ◌∙◌, subst}
use mathlib.Core.Logic.{⊎_elim}
use mathlib.Core.Bool.{true}
use mathlib.Core.List.Memᴰ
use mathlib.Core.List.{List, [], ◌∷◌, ◌++◌, map, map-map}
use Prim.Native.Nat.{ℕ, ◌+◌, ◌*◌, ◌≤◌, ◌<◌}
use native.Mathlib.Omega.{arith}
use lib.ListN.{length, set, length-append, length-map}
use lib.Seq.{sets}
use Rattle.wfsx.specs.Program.{Rule}
use Rattle.scan.specs.Text.{max_length}
use Rattle.scan.specs.declared.Word.TheVariants.{Name, Rule as RuleWord, End}
use Rattle.scan.specs.declared.Alphabet.TheVariants.{EitherCase}
use Rattle.book.specs.Limits.{max_names, max_rules, max_entries}
use Rattle.book.specs.Book.{code_of, body_codes, start_table, book_of, no_book}
use Rattle.book.specs.declared.Book.{Book}
use Rattle.book.proofs.Tables.{all_codes, codes_none, codes_first, text_more, length_more, head_more, start_more, entry_more, book_is}
use Rattle.keys.specs.Keyed.{Keyed}
use Rattle.reader.specs.File.{Content, nothing_yet, body_literals, literal_number, entry_from, extended}
use Rattle.keys.specs.Keyed.{no_names}
use Rattle.keys.specs.declared.Names.{Names}
use Rattle.keys.proofs.Declared.{keyed_none}
use Rattle.reader.specs.File.{Outcome}
use Rattle.reader.specs.Loading.{WasAccepted}
use Rattle.reader.specs.Tables.{Lists, lists_of, with_name, with_entries, with_rule}
use Rattle.reader.specs.Steps.{no_counts, Counted, Holds, Stored, field_code, FineFile}
use Rattle.reader.proofs.Answers.{nothing_counted}
use Rattle.reader.specs.declared.Counts.{Counts}
use Rattle.reader.proofs.Within.{literals_append}

-- ---- body literals

bodies_more : (rules : List Rule) (r : Rule) → body_literals (rules ++ (r ∷ [])) ≡ body_literals rules + length r.body
unfolding body_literals
bodies_more rules r = omega (arith, literals_append rules (r ∷ []))

codes_length : (rules : List Rule) → length (all_codes rules) ≡ body_literals rules
unfolding body_literals
codes_length [] = ap length codes_none
codes_length (r ∷ rules) = rw codes_first (omega (arith, length-append (body_codes r) (all_codes rules), length-map r.body code_of, codes_length rules))

-- ---- nothing

pub nothing_held : {t : Counts} {names : Names} → t ≡ no_counts → names ≡ no_names → Holds nothing_yet t names
nothing_held e q = rw (e, q) (record { counted = nothing_counted; keyed = keyed_none })

pub nothing_stored : Stored nothing_yet (lists_of no_book)
unfolding book_of
nothing_stored =
    record {
      names_stored = record { text_is = refl; lengths_are = refl; short = λ n i. absurd (Memᴰ.not-nil i) };
      rules_stored = record { heads_are = refl; starts_are = refl; entries_are = refl };
    }

module _ {d : Content} {t : Counts} {table : Names} (h : Holds d t table) where
  -- the count of the names among which a line looks names up
  pub names_held : t.names ≡ length d.names
  names_held = h.counted.names_are

  -- ---- a name

  pub name_held : (n : List ℕ) {table' : Names} → t.names < max_names → Keyed (d.names ++ (n ∷ [])) table'.keys
      → Holds (extended EitherCase d Name (n ∷ [])) (record { names = t.names + 1; rules = t.rules; used = t.used; ended = t.ended }) table'
  unfolding extended
  name_held n room joined =
      let c = h.counted in
      record {
        counted = record {
          names_are = omega (arith, c.names_are, length-append d.names (n ∷ []));
          rules_are = c.rules_are;
          used_are = c.used_are;
          ended_is = c.ended_is;
          fits = record { few_names = omega arith; few_rules = c.fits.few_rules; few_literals = c.fits.few_literals };
        };
        keyed = joined;
      }

  pub name_stored : (n : List ℕ) {l l' : Lists} → t.names < max_names → length n ≤ max_length → l' ≡ with_name l t.names n → Stored d l
      → Stored (extended EitherCase d Name (n ∷ [])) l'
  unfolding extended
  name_stored n {l} room short e s =
      let c = h.counted in
      let names = d.names in
      let few : length names < max_names = omega (arith, c.names_are) in
      let held = s.names_stored in
      rw e (record {
        names_stored = record {
          text_is = ap₂ (λ (x : List ℕ) (k : ℕ). sets x (max_length * k) n) held.text_is c.names_are ∙ text_more names n few held.short short;
          lengths_are = ap₂ (λ (x : List ℕ) (k : ℕ). set x k (length n)) held.lengths_are c.names_are ∙ length_more names n few;
          short = λ m i. ⊎_elim (held.short m) (λ j. subst (λ (x : List ℕ). length x ≤ max_length) (sym (Memᴰ.eq_of_singleton j)) short) (Memᴰ.append_cases names i);
        };
        rules_stored = record { heads_are = s.rules_stored.heads_are; starts_are = s.rules_stored.starts_are; entries_are = s.rules_stored.entries_are };
      })

  -- ---- a rule

  module _ {fs : List (List ℕ)} (f : List ℕ) (body : List (List ℕ)) (part : fs ≡ f ∷ body) (n : ℕ) (size : n + 1 ≡ length fs) (room : t.rules < max_rules)
      (fit : t.used + n ≤ max_entries) where
    rule : Rule
    rule = record { head = literal_number EitherCase d.names f; body = map (entry_from EitherCase d.names) body }

    entry_count_lem : length rule.body ≡ n
    unfolding rule
    entry_count_lem = omega (arith, ap length part, length-map body (entry_from EitherCase d.names))

    pub rule_held : Holds (extended EitherCase d RuleWord fs) (record { names = t.names; rules = t.rules + 1; used = t.used + n; ended = t.ended }) table
    unfolding extended rule
    rule_held =
        let c = h.counted in
        rw part (record {
          counted = record {
            names_are = c.names_are;
            rules_are = omega (arith, c.rules_are, length-append d.rules (rule ∷ []));
            used_are = omega (arith, c.used_are, bodies_more d.rules rule, entry_count_lem);
            ended_is = c.ended_is;
            fits = record { few_names = c.fits.few_names; few_rules = omega arith; few_literals = fit };
          };
          keyed = h.keyed;
        })

    pub rule_stored : {l l' : Lists} {head : ℕ} → head ≡ literal_number EitherCase d.names f
        → l' ≡ with_rule (with_entries l t.used (map (field_code d.names) body)) t.rules head (t.used + n) → Stored d l → Stored (extended EitherCase d RuleWord fs) l'
    unfolding extended rule
    rule_stored {l} eh e s =
        let c = h.counted in
        let rules = d.rules in
        let few : length rules < max_rules = omega (arith, c.rules_are) in
        let used : t.used ≡ length (all_codes rules) = c.used_are ∙ sym (codes_length rules) in
        let end : t.used + n ≡ length (all_codes rules) + length rule.body = omega (arith, used, entry_count_lem) in
        let held = s.rules_stored in
        rw (e, eh, part) (record {
          names_stored = record { text_is = s.names_stored.text_is; lengths_are = s.names_stored.lengths_are; short = s.names_stored.short };
          rules_stored = record {
            heads_are = ap₂ (λ (x : List ℕ) (k : ℕ). set x k rule.head) held.heads_are c.rules_are ∙ head_more rules rule few;
            starts_are =
                ap₂ (λ (x : List ℕ) (k : ℕ). set x (k + 1) (t.used + n)) held.starts_are c.rules_are
                ∙ ap (set (start_table rules) (length rules + 1)) end ∙ start_more rules rule few;
            entries_are =
                ap (sets l.entries t.used) (sym (map-map code_of (entry_from EitherCase d.names) body))
                ∙ ap₂ (λ (x : List ℕ) (k : ℕ). sets x k (body_codes rule)) held.entries_are used ∙ entry_more rules rule (omega arith);
          };
        })

  -- ---- `end`

  pub end_held : (others : List (List ℕ)) → Holds (extended EitherCase d End others) (record { names = t.names; rules = t.rules; used = t.used; ended = true }) table
  unfolding extended
  end_held others =
      let c = h.counted in
      record {
        counted = record { names_are = c.names_are; rules_are = c.rules_are; used_are = c.used_are; ended_is = refl; fits = record { few_names = c.fits.few_names; few_rules = c.fits.few_rules; few_literals = c.fits.few_literals } };
        keyed = h.keyed;
      }

-- ---- the book

pub book_held : {d : Content} {t : Counts} → Counted d t → (b : Book) → Stored d (lists_of b) → record b { names = t.names; rules = t.rules } ≡ book_of d.names d.rules
book_held {d = d} c b s =
    let n = s.names_stored in
    let r = s.rules_stored in
    rw (c.names_are, n.text_is, n.lengths_are, c.rules_are, r.heads_are, r.starts_are, r.entries_are) (book_is d.names d.rules)

-- what the tables of an accepted file give is its book
pub loaded_book : {o : Outcome} {t : Counts} (b : Book) → FineFile o t (lists_of no_book) (lists_of b) → WasAccepted o (record b { names = t.names; rules = t.rules })
loaded_book b fine = record { names = fine.content.names; rules = fine.content.rules; outcome = fine.outcome; book_is = book_held fine.counted b (fine.stored nothing_stored) }
