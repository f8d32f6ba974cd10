-- Rules in the tables of a book. A pass over them finds the literals that have a rule left open, since a rule whose head is there already adds nothing; and
-- what lies past the room of a set of literals decides nothing, since no body has it.
use mathlib.Core.Path.{◌≡◌, refl, sym, ◌∙◌, ap, fun_ext}
use mathlib.Core.Logic.{◌⊎◌, inl, inr}
use mathlib.Core.Bool.{Bool, true, false, not, cond, ◌&&◌, ◌||◌, beq}
use mathlib.Core.List.{List, [], ◌∷◌, map}
use Prim.Native.Nat.{ℕ, zero, suc, ◌+◌, ◌-◌, ◌/◌, ◌%◌, ◌≤◌, ◌<◌}
use native.Mathlib.Nat.{mod-lt, zero-lt-suc}
use native.Mathlib.Omega.{arith}
use lib.Dec.{eqb}
use borrow.Author.Tests.{eqb-true, eq-eqb, ne_eqb, lt-ltb, le-ltb}
use Rattle.truth.proofs.Truth.{decided, same_test}
use Rattle.wfsx.specs.Sets.{Set, ◌∈◌, ◌∪◌, ◌∖◌}
use Rattle.wfsx.specs.Program.{compl, complements, Entry, positive, default, Rule}
use Rattle.wfsx.specs.Model.{holds, every, supported}
use Rattle.wfsx.proofs.Supported.{supported_none, supported_first, supported_seminormal}
use Rattle.wfsx.proofs.Facts.{supported_facts}
use Rattle.litset.specs.Words.{capacity, with}
use Rattle.litset.proofs.Words.{with_room}
use Rattle.book.specs.Limits.{max_rules}
use Rattle.book.specs.Book.{rows, clamp, entry_of, head_at, body_of, rule_at, rules_of, program}
use Rattle.book.specs.declared.Book.{Book}
use Rattle.book.proofs.Rows.{rows_step, rows_end}
use Rattle.book.proofs.Heads.{head_below}
use Rattle.sheet.specs.Sheet.{shown, rule_numbered, fact_number, names_rule, true_follows}
use Rattle.sheet.specs.Turns.{shows_for, beyond, open_in}
use Rattle.sheet.specs.declared.SheetEntry.{SheetEntry}

-- ---- a pass over the rules

-- X has the heads of the rules before r that pass the test, besides what it had at first
pub record Passed (b : Book) (f : Entry → Bool) (X₀ X : Set) (r : ℕ) : Type 0 where
  pub same : (A : ℕ) → (supported (rules_of b) f A || X₀ A) ≡ (supported (rows (rule_at b.heads b.starts b.entries) r (clamp max_rules b.rules - r)) f A || X A)

module _ {b : Book} {f : Entry → Bool} {X₀ : Set} where
  module _ {X : Set} {r : ℕ} (p : Passed b f X₀ X r) where
    pub passed_all : clamp max_rules b.rules ≤ r → (A : ℕ) → X A ≡ (supported (rules_of b) f A || X₀ A)
    passed_all h A = sym (p.same A ∙ rw (rows_end (rule_at b.heads b.starts b.entries) r (clamp max_rules b.rules) h, supported_none f A) refl)

    module _ (h : r < clamp max_rules b.rules) where
      -- what rule r makes of X
      stepped : {Y : Set} → ((A : ℕ) (s : Bool) → ((eqb (head_at b.heads r) A && every f (body_of b.starts b.entries r) || s) || X A) ≡ (s || Y A))
          → Passed b f X₀ Y (r + 1)
      stepped e = record {
        same = λ A. p.same A ∙ rw (rows_step (rule_at b.heads b.starts b.entries) r (clamp max_rules b.rules) h, supported_first (rule_at b.heads b.starts b.entries r) _ f A) (e A _);
      }

      pub passed_fails : every f (body_of b.starts b.entries r) ≡ false → Passed b f X₀ X (r + 1)
      passed_fails e = stepped (λ A s. rw e (go (eqb (head_at b.heads r) A) s (X A)))
        where
          go : (a s x : Bool) → ((a && false || s) || x) ≡ (s || x)
          go true s x = refl
          go false s x = refl

      -- n is the head of rule r
      module _ {n : ℕ} (is : n ≡ head_at b.heads r) where
        pub passed_there : n ∈ X → Passed b f X₀ X (r + 1)
        passed_there m = stepped (λ A s. go A s (decided (eqb (head_at b.heads r) A)))
          where
            twice : (y s : Bool) → ((y || s) || true) ≡ (s || true)
            twice true true = refl
            twice true false = refl
            twice false s = refl

            go : (A : ℕ) (s : Bool) → (eqb (head_at b.heads r) A ≡ true) ⊎ (eqb (head_at b.heads r) A ≡ false)
                → ((eqb (head_at b.heads r) A && every f (body_of b.starts b.entries r) || s) || X A) ≡ (s || X A)
            go A s (inl e) = rw (e, ap X (sym (is ∙ eqb-true (head_at b.heads r) A e)) ∙ m) (twice (every f (body_of b.starts b.entries r)) s)
            go A s (inr e) = rw e refl

        pub passed_adds : {Y : Set} → every f (body_of b.starts b.entries r) ≡ true → Y ≡ with n X → Passed b f X₀ Y (r + 1)
        passed_adds {Y} e y = stepped (λ A s. rw (e, added A) (go (eqb (head_at b.heads r) A) (eqb A (head_at b.heads r)) s (X A) (either_way A)))
          where
            added : (A : ℕ) → Y A ≡ (eqb A (head_at b.heads r) || X A)
            added A = ap (λ (S : Set). S A) (y ∙ ap (λ (k : ℕ). with k X) is ∙ with_room (head_at b.heads r) X (head_below b.heads r))

            either_way : (A : ℕ) → eqb (head_at b.heads r) A ≡ eqb A (head_at b.heads r)
            either_way A = same_test (λ q. eq-eqb A (head_at b.heads r) (sym (eqb-true (head_at b.heads r) A q))) (λ q. eq-eqb (head_at b.heads r) A (sym (eqb-true A (head_at b.heads r) q)))

            go : (a b s x : Bool) → a ≡ b → ((a && true || s) || x) ≡ (s || (b || x))
            go true b true x e = refl
            go true b false x e = rw (← e) refl
            go false b s x e = rw (← e) refl

-- ---- the rules left open

-- an entry as it is shown
pub is_shown : (T F : Set) → (λ (e : Entry). beq (shown T F e) true) ≡ shown T F
is_shown T F = fun_ext (λ e. same (shown T F e))
  where
    same : (b : Bool) → beq b true ≡ b
    same true = refl
    same false = refl

-- an entry that is not shown over D and T holds over what is outside D, and over T
pub not_shown : (T D : Set) → (λ (e : Entry). beq (shown D T e) false) ≡ holds (beyond D) T
not_shown T D = fun_ext go
  where
    is_not : (b : Bool) → beq b false ≡ not b
    is_not true = refl
    is_not false = refl

    go : (e : Entry) → beq (shown D T e) false ≡ holds (beyond D) T e
    go (positive B) = is_not (D B)
    go (default C) = is_not (T C)

module _ (rules : List Rule) (facts : Set) (below : (A : ℕ) → A ∈ facts → A < capacity) (T : Set) where
  open_table : (D : Set) (A : ℕ) → open_in (program rules facts) T D A ≡ (not (T (compl A)) && (supported rules (holds (beyond D) T) A || facts A))
  open_table D A =
      supported_seminormal (program rules facts) (holds (beyond D) T) A
      ∙ ap (λ (b : Bool). not (T (compl A)) && b) (supported_facts rules capacity facts below (holds (beyond D) T) A)

-- what a pass leaves, from the facts and the literals whose complements are in T, without the latter
module _ {b : Book} {facts T : Set} (D : Set) (below : (A : ℕ) → A ∈ facts → A < capacity) {shut X₀ X R : Set} {r : ℕ} where
  pub passed_open : shut ≡ complements T → X₀ ≡ facts ∪ shut → Passed b (λ e. beq (shown D T e) false) X₀ X r → clamp max_rules b.rules ≤ r
      → R ≡ X ∖ shut → R ≡ open_in (program (rules_of b) facts) T D
  passed_open c u p h d = d ∙ fun_ext (λ A. rw (passed_all p h A, u, c, not_shown T D) (go (supported (rules_of b) (holds (beyond D) T) A) (facts A) (T (compl A)) ∙ sym (open_table (rules_of b) facts below T D A)))
    where
      go : (s f t : Bool) → ((s || (f || t)) && not t) ≡ (not t && (s || f))
      go true true true = refl
      go true true false = refl
      go true false true = refl
      go true false false = refl
      go false true true = refl
      go false true false = refl
      go false false true = refl
      go false false false = refl

-- ---- literals past the room of a set

module _ {D E : Set} (T : Set) (agree : (A : ℕ) → A < capacity → D A ≡ E A) where
  entry_agree : (x : ℕ) → holds (beyond D) T (entry_of x) ≡ holds (beyond E) T (entry_of x)
  entry_agree x = go (eqb (x % 2) 0)
    where
      go : (b : Bool) → holds (beyond D) T (cond b (positive (x / 2 % capacity)) (default (x / 2 % capacity))) ≡ holds (beyond E) T (cond b (positive (x / 2 % capacity)) (default (x / 2 % capacity)))
      go true = ap not (agree (x / 2 % capacity) (mod-lt (x / 2) (zero-lt-suc _)))
      go false = refl

  body_agree : (xs : List ℕ) → every (holds (beyond D) T) (map entry_of xs) ≡ every (holds (beyond E) T) (map entry_of xs)
  unfolding every
  body_agree [] = refl
  body_agree (x ∷ xs) = rw (entry_agree x, body_agree xs) refl

  module _ (b : Book) where
    rules_agree : (A k n : ℕ) → supported (rows (rule_at b.heads b.starts b.entries) k n) (holds (beyond D) T) A ≡ supported (rows (rule_at b.heads b.starts b.entries) k n) (holds (beyond E) T) A
    unfolding supported rows
    rules_agree A k zero = refl
    rules_agree A k (suc n) = rw (body_agree _, rules_agree A (suc k) n) refl

    pub open_agree : (facts : Set) → ((A : ℕ) → A ∈ facts → A < capacity) → (A : ℕ)
        → open_in (program (rules_of b) facts) T D A ≡ open_in (program (rules_of b) facts) T E A
    open_agree facts below A =
        open_table (rules_of b) facts below T D A ∙ ap (λ (s : Bool). not (T (compl A)) && (s || facts A)) (rules_agree A 0 (clamp max_rules b.rules))
        ∙ sym (open_table (rules_of b) facts below T E A)

-- ---- what a number names

row_named : (f : Rule → Bool) (g : ℕ → Rule) (k n i : ℕ) → i < n → rule_numbered f (rows g k n) i ≡ f (g (k + i))
unfolding rule_numbered rows
row_named f g k zero i h = absurd (omega arith)
row_named f g k (suc n) zero h = let e : k ≡ k + 0 = omega arith in ap (λ (j : ℕ). f (g j)) e
row_named f g k (suc n) (suc i) h = let e : suc k + i ≡ k + suc i = omega arith in row_named f g (suc k) n i (omega arith) ∙ ap (λ (j : ℕ). f (g j)) e

row_past : (f : Rule → Bool) (g : ℕ → Rule) (k n i : ℕ) → n ≤ i → rule_numbered f (rows g k n) i ≡ false
unfolding rule_numbered rows
row_past f g k zero i h = refl
row_past f g k (suc n) zero h = absurd (omega arith)
row_past f g k (suc n) (suc i) h = row_past f g (suc k) n i (omega arith)

module _ (b : Book) (T F : Set) (A k : ℕ) where
  pub names_past : clamp max_rules b.rules ≤ k → false ≡ rule_numbered (shows_for T F A) (rules_of b) k
  names_past h = sym (row_past (shows_for T F A) (rule_at b.heads b.starts b.entries) 0 (clamp max_rules b.rules) k h)

  module _ (h : k < clamp max_rules b.rules) {n : ℕ} (is : n ≡ head_at b.heads k) where
    named : rule_numbered (shows_for T F A) (rules_of b) k ≡ (eqb n A && every (shown T F) (body_of b.starts b.entries k))
    named = row_named (shows_for T F A) (rule_at b.heads b.starts b.entries) 0 (clamp max_rules b.rules) k h ∙ rw (is, zero_add k) refl
      where
        zero_add : (k : ℕ) → 0 + k ≡ k
        zero_add k = omega arith

    pub names_other : (n ≡ A → ⊥) → false ≡ rule_numbered (shows_for T F A) (rules_of b) k
    names_other ne = sym (named ∙ rw (ne_eqb n A ne) refl)

    pub names_body : n ≡ A → every (λ (e : Entry). beq (shown T F e) true) (body_of b.starts b.entries k) ≡ rule_numbered (shows_for T F A) (rules_of b) k
    names_body e = ap (λ (f : Entry → Bool). every f (body_of b.starts b.entries k)) (is_shown T F) ∙ sym (named ∙ rw (eq-eqb n A e) refl)

-- ---- a "true" entry

module _ (rules : List Rule) (facts : Set) (known : ℕ) (T F : Set) (e : SheetEntry) where
  pub other_kind : (e.kind ≡ 1 → ⊥) → false ≡ true_follows rules facts known T F e
  unfolding true_follows
  other_kind ne = sym (rw (ne_eqb e.kind 1 ne) refl)

  module _ (k : e.kind ≡ 1) {l : ℕ} (is : l ≡ e.literal) where
    pub unknown : known ≤ l → false ≡ true_follows rules facts known T F e
    unfolding true_follows
    unknown h = sym (rw (eq-eqb e.kind 1 k, ← is, le-ltb l known h) refl)

    module _ (h : l < known) {m : ℕ} (number : m ≡ e.rule) {b : Bool} (by_rule : b ≡ rule_numbered (shows_for T F l) rules m) where
      follows : true_follows rules facts known T F e ≡ (b || (eqb m (fact_number l) && facts l))
      unfolding true_follows names_rule
      follows = rw (eq-eqb e.kind 1 k, ← is, ← number, lt-ltb l known h, by_rule) refl

      pub follows_rule : b ≡ true → true ≡ true_follows rules facts known T F e
      follows_rule y = sym (follows ∙ rw y refl)

      pub names_nothing : b ≡ false → (m ≡ fact_number l → ⊥) → false ≡ true_follows rules facts known T F e
      names_nothing y ne = sym (follows ∙ rw (y, ne_eqb m (fact_number l) ne) refl)

      pub follows_fact : b ≡ false → m ≡ fact_number l → facts l ≡ true_follows rules facts known T F e
      follows_fact y q = sym (follows ∙ rw (y, eq-eqb m (fact_number l) q) refl)
