-- The names in the bodies of rules. A row grows by the names of one entry and of one rule after another, and with those of the entries and rules that
-- are left it is the whole row.
use mathlib.Core.Path.{◌≡◌, refl, sym, ◌∙◌, ap, fun_ext}
use mathlib.Core.Bool.{Bool, true, false, ◌&&◌, ◌||◌, or-false, or_assoc}
use mathlib.Core.List.{List, ◌∷◌, map}
use Prim.Native.Nat.{ℕ, ◌+◌, ◌-◌, ◌≤◌, ◌<◌}
use native.Mathlib.Nat.{sub-zero}
use native.Mathlib.Decide.{ℕ_discrete}
use native.Mathlib.Omega.{arith}
use lib.Dec.{eqb}
use lib.ListN.{length, take, drop, get_or, replicate, length-replicate}
use borrow.Author.Tests.{eq-eqb, ne_eqb}
use Rattle.truth.proofs.Truth.{clash}
use Rattle.wfsx.specs.Sets.{Set, ∅, ◌∪◌}
use Rattle.wfsx.specs.Program.{Entry, positive, default, Program}
use Rattle.wfsx.specs.Reach.{name_of, name_in, name_for, mentioned, body_names, literals_of}
use Rattle.wfsx.proofs.Reach.{mentioned_none, mentioned_first}
use Rattle.litset.specs.declared.LitSet.{LitSet}
use Rattle.litset.specs.Words.{capacity, set_of}
use Rattle.book.specs.Book.{rows, entry_of, literal_in, body_start, body_end, entry_at, body_of, rule_at, rules_in}
use Rattle.book.proofs.Parts.{part_step, part_end}
use Rattle.book.proofs.Rows.{rows_step, rows_end}
use Rattle.book.proofs.Heads.{entry_below}
use Rattle.reach.specs.Table.{n_names, row_set, only, with_name, Put, Rows}
use Rattle.reach.proofs.Rows.{rows_alike}

-- ---- the names of one body

pub name_below : (entries : List ℕ) (j : ℕ) → name_in (entry_at entries j) < n_names
name_below entries j = half (entry_at entries j) (entry_below entries j)
  where
    half : (e : Entry) → literal_in e < capacity → name_in e < n_names
    half (positive B) h = omega arith
    half (default C) h = omega arith

-- the entries of rule r from place j on
abbrev entries_from : List ℕ → List ℕ → ℕ → ℕ → List Entry
entries_from starts entries r j = map entry_of (take (get_or starts (r + 1) 0 - j) (drop j entries))

-- X has R and the names of the entries before place j
pub record Named (starts entries : List ℕ) (R : Set) (r j : ℕ) (X : Set) : Type 0 where
  pub same : R ∪ literals_of (mentioned (body_of starts entries r)) ≡ X ∪ literals_of (mentioned (entries_from starts entries r j))

pub named_none : {starts entries : List ℕ} {R : Set} {r j : ℕ} → j ≡ body_start starts r → Named starts entries R r j R
named_none e = record { same = rw e refl }

module _ {starts entries : List ℕ} {R : Set} {r j : ℕ} {X : Set} (g : Named starts entries R r j X) where
  pub named_more : (Y : Set) → j < body_end starts entries r → Y ≡ with_name (name_in (entry_at entries j)) X → Named starts entries R r (j + 1) Y
  named_more Y h y =
      record {
        same =
            g.same ∙ ap (λ (l : List ℕ). X ∪ literals_of (mentioned (map entry_of l))) (part_step entries j (get_or starts (r + 1) 0) (omega arith) (omega arith))
            ∙ ap (λ (S : Set). X ∪ literals_of S) (mentioned_first (entry_at entries j) (entries_from starts entries r (j + 1)))
            ∙ fun_ext (λ A. turn (X A) (eqb (name_of A) (name_in (entry_at entries j))) (mentioned (entries_from starts entries r (j + 1)) (name_of A)))
            ∙ ap (λ (S : Set). S ∪ literals_of (mentioned (entries_from starts entries r (j + 1)))) (sym y);
      }
    where
      turn : (x e u : Bool) → (x || (e || u)) ≡ ((e || x) || u)
      turn true true u = refl
      turn true false u = refl
      turn false true u = refl
      turn false false u = refl

  pub named_all : body_end starts entries r ≤ j → X ≡ R ∪ literals_of (mentioned (body_of starts entries r))
  named_all h =
      sym (g.same ∙ ap (λ (l : List ℕ). X ∪ literals_of (mentioned (map entry_of l))) (part_end entries j (get_or starts (r + 1) 0) h)
      ∙ ap (λ (S : Set). X ∪ literals_of S) mentioned_none ∙ fun_ext (λ A. or-false (X A)))

-- row k has the names of the entries before place j as well, and no other row is changed
pub record Adding (before : List LitSet) (k : ℕ) (starts entries : List ℕ) (r j : ℕ) (table : List LitSet) : Type 0 where
  pub size : length table ≡ length before
  pub others : (i : ℕ) → (i ≡ k → ⊥) → row_set table i ≡ row_set before i
  pub named : Named starts entries (row_set before k) r j (row_set table k)

module _ (before : List LitSet) (k : ℕ) (starts entries : List ℕ) (r : ℕ) where
  pub adding_none : {j : ℕ} → j ≡ body_start starts r → Adding before k starts entries r j before
  adding_none e = record { size = refl; others = λ i ne. refl; named = named_none e }

  module _ {j : ℕ} {table : List LitSet} (g : Adding before k starts entries r j table) where
    pub adding_more : (name : ℕ) (after : List LitSet) → j < body_end starts entries r → name ≡ name_in (entry_at entries j) → Put table k (with_name name (row_set table k)) after
        → Adding before k starts entries r (j + 1) after
    adding_more name after h is put =
        record {
          size = put.size ∙ g.size;
          others = λ i ne. put.others i ne ∙ g.others i ne;
          named = named_more g.named (row_set after k) h (put.here ∙ ap (λ (n : ℕ). with_name n (row_set table k)) is);
        }

    pub adding_all : body_end starts entries r ≤ j → Put before k (row_set before k ∪ literals_of (mentioned (body_of starts entries r))) table
    adding_all h = record { size = g.size; here = named_all g.named h; others = g.others }

-- ---- the names of all bodies, rule by rule

module _ (heads starts entries : List ℕ) (rules : ℕ) where
  -- the rules from r on
  abbrev rules_from : ℕ → Program
  rules_from r = rows (rule_at heads starts entries) r (rules - r)

  -- the rows have the names of the rules before r
  pub record Drawn (table : List LitSet) (r : ℕ) : Type 0 where
    pub size : length table ≡ n_names
    pub left : (k : ℕ) → k < n_names
        → literals_of (body_names (rules_in heads starts entries rules) (only k)) ≡ row_set table k ∪ literals_of (body_names (rules_from r) (only k))

  pub drawn_none : (row : LitSet) → set_of row.words ≡ ∅ → Drawn (replicate n_names row) 0
  drawn_none row e =
      record {
        size = length-replicate {A = LitSet} n_names row;
        left = λ k h.
            ap (λ (n : ℕ). literals_of (body_names (rows (rule_at heads starts entries) 0 n) (only k))) (sym (sub-zero rules))
            ∙ ap (λ (S : Set). S ∪ literals_of (body_names (rules_from 0) (only k))) (sym (rows_alike row e k h));
      }

  module _ (table : List LitSet) (r : ℕ) (d : Drawn table r) where
    pub drawn_more : (n : ℕ) (row : Set) (after : List LitSet) → r < rules → n ≡ name_for (rule_at heads starts entries r)
        → row ≡ row_set table n ∪ literals_of (mentioned (body_of starts entries r)) → Put table n row after → Drawn after (r + 1)
    unfolding body_names
    drawn_more n row after h for joined put =
        record {
          size = put.size ∙ d.size;
          left = λ k l. d.left k l ∙ ap (λ (Q : Program). row_set table k ∪ literals_of (body_names Q (only k))) (rows_step (rule_at heads starts entries) r rules h) ∙ at k (ℕ_discrete n k);
        }
      where
        at : (k : ℕ) → Dec (n ≡ k)
            → row_set table k ∪ literals_of (body_names (rule_at heads starts entries r ∷ rules_from (r + 1)) (only k)) ≡ row_set after k ∪ literals_of (body_names (rules_from (r + 1)) (only k))
        at k (yes e) =
            rw (← e) (fun_ext (λ A. ap (λ (t : Bool). row_set table n A || (t && mentioned (body_of starts entries r) (name_of A) || body_names (rules_from (r + 1)) (only n) (name_of A))) (eq-eqb (name_for (rule_at heads starts entries r)) n (sym for))
            ∙ sym (or_assoc (row_set table n A) _ _))
            ∙ ap (λ (S : Set). S ∪ literals_of (body_names (rules_from (r + 1)) (only n))) (sym (put.here ∙ joined)))
        at k (no ne) =
            fun_ext (λ A. ap (λ (t : Bool). row_set table k A || (t && mentioned (body_of starts entries r) (name_of A) || body_names (rules_from (r + 1)) (only k) (name_of A))) (ne_eqb (name_for (rule_at heads starts entries r)) k (λ e. ne (for ∙ e))))
            ∙ ap (λ (S : Set). S ∪ literals_of (body_names (rules_from (r + 1)) (only k))) (sym (put.others k (λ e. ne (sym e))))

    pub drawn_end : rules ≤ r → Rows (rules_in heads starts entries rules) ∅ table
    unfolding body_names
    drawn_end h =
        record {
          size = d.size;
          whole = λ i h. absurd (clash h refl);
          direct = λ i out l.
              sym (d.left i l ∙ ap (λ (Q : Program). row_set table i ∪ literals_of (body_names Q (only i))) (rows_end (rule_at heads starts entries) r rules h) ∙ fun_ext (λ A. or-false (row_set table i A)));
        }
