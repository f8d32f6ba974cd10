-- The question: nothing stands above it, so what a walk is sure of and what may be are the same. The tables begin without a mark, and the
-- index gives the rules of the book.
use mathlib.Core.Path.{◌≡◌, refl, sym, ◌∙◌, ap, fun_ext, subst}
use mathlib.Core.Bool.{Bool, true, false, not, cond, ◌||◌}
use mathlib.Core.List.{List}
use Prim.Native.Nat.{ℕ, zero, suc, ◌≤◌, ◌<◌}
use native.Mathlib.Decide.{dec_lt}
use native.Mathlib.Omega.{arith}
use lib.Dec.{ltb}
use lib.ListN.{length, get_or, replicate, length-replicate}
use borrow.Author.Tests.{lt-ltb, le-ltb}
use Rattle.truth.proofs.Truth.{clash, refuted, or_none}
use Rattle.wfsx.specs.Sets.{Set, ◌∉◌, ∅, members}
use Rattle.wfsx.specs.Program.{Entry, positive, default, Program}
use Rattle.wfsx.specs.Model.{supported, headed, head_count}
use Rattle.wfsx.specs.Trees.{Tree, T, TU, child, tree, answer}
use Rattle.wfsx.proofs.Sets.{⊆_antisym}
use Rattle.wfsx.proofs.Facts.{supported_facts}
use Rattle.wfsx.proofs.Trees.{first_way, answer_is, answer_same}
use Rattle.wfsx.proofs.Ancestors.{t_headless, u_headless}
use Rattle.litset.specs.Words.{n_words, capacity, set_of}
use Rattle.litset.proofs.Words.{member_room}
use Rattle.book.specs.Book.{program_of, rules_of}
use Rattle.book.specs.declared.Book.{Book}
use Rattle.book.proofs.Heads.{program_of_lem, past_unsupported}
use Rattle.index.specs.Index.{rules_start, rules_end, supported_by, rules_by, index_of}
use Rattle.index.specs.declared.Index.{Index}
use Rattle.index.proofs.Walks.{rules_some, rules_none, supported_below, indexed_same}
use Rattle.search.specs.declared.Tree as declared
use Rattle.search.specs.Questions.{tree_of, question_of, decided_by}
use Rattle.search.specs.Bound.{most_visits}
use Rattle.search.specs.Marks.{marked, above_in}
use Rattle.search.specs.Walk.{State, state, program_by, rule_by, head_by, Resting, Paid, Ready, TVisit, TuSearch}
use Rattle.search.proofs.Marks.{marked_not}
use Rattle.search.proofs.Answers.{Joined}
use Rattle.search.proofs.Stock.{left_most}

-- ---- the program of an index

module _ (first rules starts entries facts : List ℕ) (long : length facts ≡ n_words) where
  abbrev P : Program
  P = program_by first rules starts entries facts

  supported_is : (f : Entry → Bool) (A : ℕ) → supported P f A ≡ (supported (rules_by first rules starts entries capacity) f A || set_of facts A)
  unfolding program_by
  supported_is f A = supported_facts (rules_by first rules starts entries capacity) capacity (set_of facts) (member_room facts long) f A

  pub joined_by : Joined P (supported_by first rules starts entries) (set_of facts)
  joined_by = record { joined = λ f A small. supported_is f A ∙ ap (λ (b : Bool). b || set_of facts A) (below f A small) }
    where
      below : (f : Entry → Bool) (A : ℕ) → A < capacity → supported (rules_by first rules starts entries capacity) f A ≡ supported_by first rules starts entries f A
      below f A small = supported_below first rules starts entries f A capacity ∙ rw (lt-ltb A capacity small) refl

  -- its heads are the facts and the literals that have rules
  pub headed_is : (A : ℕ) → A < capacity → headed P A ≡ head_by first rules facts A
  headed_is A small = joined_by.joined (λ e. true) A small ∙ go (dec_lt (rules_start first A) (rules_end first rules A)) (set_of facts A)
    where
      or_swap : (b c : Bool) → (b || c) ≡ (c || b)
      or_swap true true = refl
      or_swap true false = refl
      or_swap false true = refl
      or_swap false false = refl

      go : Dec (rules_start first A < rules_end first rules A) → (b : Bool)
          → (supported_by first rules starts entries (λ e. true) A || b) ≡ (b || ltb (rules_start first A) (rules_end first rules A))
      go (yes h) b = rw (rules_some first rules starts entries A h, lt-ltb (rules_start first A) (rules_end first rules A) h) (or_swap true b)
      go (no h) b = rw (rules_none first rules starts entries A (λ e. true) (omega arith), le-ltb (rules_start first A) (rules_end first rules A) (omega arith)) (or_swap false b)

  -- as the walk finds it
  pub headed_by : (A : ℕ) → A < capacity → (fact r : Bool) → fact ≡ set_of facts A → r ≡ (fact || rule_by first rules A) → headed P A ≡ r
  headed_by A small fact r e q = headed_is A small ∙ ap (λ (b : Bool). b || rule_by first rules A) (sym e) ∙ sym q

-- ---- tables in which nothing stands

blank : (n A : ℕ) → get_or {A = ℕ} (replicate n 0) A 0 ≡ 0
blank zero A = refl
blank (suc n) zero = refl
blank (suc n) (suc A) = blank n A

unmarked : (v : ℕ) → 0 < v → (A : ℕ) → A ∉ marked v (replicate capacity 0)
unmarked v h A = marked_not v (replicate capacity 0) A (λ e. let z : get_or {A = ℕ} (replicate capacity 0) A 0 ≡ 0 = blank capacity A in omega arith)

pub first_ready : (P : Program) → Ready P T (state (replicate capacity 0) (replicate capacity 0) 0) 0 × (above_in (replicate capacity 0) ≡ ∅)
unfolding Resting
first_ready P =
    let long : length {A = ℕ} (replicate capacity 0) ≡ capacity = length-replicate {A = ℕ} capacity 0 in (
      record {
        tables = record {
          t_room = long;
          u_room = long;
          t_marks = λ A. let z : get_or {A = ℕ} (replicate capacity 0) A 0 ≡ 0 = blank capacity A in omega arith;
          u_marks = λ A. let z : get_or {A = ℕ} (replicate capacity 0) A 0 ≡ 0 = blank capacity A in omega arith;
          right = record {
            proved_right = λ A m. absurd (clash m (unmarked 1 (omega arith) A));
            failed_right = λ A m. absurd (clash m (unmarked 2 (omega arith) A));
            false_right = λ A m. absurd (clash m (unmarked 1 (omega arith) A));
            held_right = λ A m. absurd (clash m (unmarked 2 (omega arith) A));
          };
        };
        resting = λ A. let z : get_or {A = ℕ} (replicate capacity 0) A 0 ≡ 0 = blank capacity A in omega arith;
        room = omega (arith, left_most P (replicate capacity 0) (replicate capacity 0) long long);
      },
      ⊆_antisym (λ A m. absurd (clash m (unmarked 3 (omega arith) A))) (λ A m. absurd (clash m refl)),
    )

-- ---- the root of a tree

between : (r x : Bool) → (r ≡ true → x ≡ true) → (r ≡ false → x ≡ false) → r ≡ x
between true x f g = sym (f refl)
between false x f g = sym (g refl)

module _ {P : Program} {s s' : State} (a : ℕ) (r : Bool) (above : above_in s.t ≡ ∅) (k : declared.Tree) where
  pub root_T : k ≡ declared.Tree.T → TVisit P s s' a r → r ≡ tree P (tree_of k) ∅ ∅ a
  root_T e v = rw e (between r (tree P T ∅ ∅ a) v.settled.said_yes (λ q. ap (λ (X : Set). tree P T ∅ X a) (sym above) ∙ v.settled.said_no q))

  pub root_TU : k ≡ declared.Tree.Tu → TuSearch P s s' a r → r ≡ tree P (tree_of k) ∅ ∅ a
  root_TU e v = rw e (between r (tree P TU ∅ ∅ a) (λ q. ap (λ (X : Set). tree P TU ∅ X a) (sym above) ∙ v.said_yes q) v.said_no)

pub root_visits : {P : Program} {s s' : State} → Ready P T s 0 → Paid P s s' 0 → s'.visits ≤ most_visits (head_count capacity P)
root_visits r p = omega (arith, r.room, p.paid)

-- ---- the book's program

module _ (b : Book) (facts : List ℕ) (long : length facts ≡ n_words) where
  abbrev Q : Program
  Q = program_of b (set_of facts)

  book_supports : (f : Entry → Bool) (A : ℕ) → supported Q f A ≡ (supported (rules_of b) f A || set_of facts A)
  book_supports f A =
      ap (λ (X : Program). supported X f A) (program_of_lem b (set_of facts)) ∙ supported_facts (rules_of b) capacity (set_of facts) (member_room facts long) f A

  -- the index of the book supports what the book does
  module _ (x : Index) (e : x ≡ index_of b) where
    abbrev by_index : Program
    by_index = program_by x.starts x.rules b.starts b.entries facts

    same : (f : Entry → Bool) (A : ℕ) → supported by_index f A ≡ supported Q f A
    same f A =
        supported_is x.starts x.rules b.starts b.entries facts long f A
        ∙ ap (λ (c : Bool). c || set_of facts A) (ap (λ (y : Index). supported (rules_by y.starts y.rules b.starts b.entries capacity) f A) e ∙ indexed_same b.heads b.starts b.entries _ f A)
        ∙ sym (book_supports f A)

    pub as_few_visits : (n : ℕ) → n ≤ most_visits (head_count capacity by_index) → n ≤ most_visits (head_count capacity Q)
    unfolding head_count
    as_few_visits n l =
        let many : headed by_index ≡ headed Q = fun_ext (same (λ e. true)) in
        subst (λ (S : Set). n ≤ most_visits (length (members capacity S))) many l

    -- a question is decided by the tree of its kind, or for `not` by the other kind
    decides : (k : Tree) (A : ℕ) (r d : Bool) → r ≡ tree by_index (decided_by k d) ∅ ∅ A → cond d (not r) r ≡ answer Q k (question_of A d)
    decides k A r false q = q ∙ sym (answer_is by_index k (positive A) ∙ plain k) ∙ answer_same Q by_index same k (positive A)
      where
        plain : (k : Tree) → child (tree by_index) k ∅ ∅ (positive A) ≡ tree by_index k ∅ ∅ A
        plain T = refl
        plain TU = refl
    decides T A r true q = ap not q ∙ sym (answer_is by_index T (default A) ∙ first_way by_index ∅ ∅ A) ∙ answer_same Q by_index same T (default A)
    decides TU A r true q = ap not q ∙ sym (answer_is by_index TU (default A)) ∙ answer_same Q by_index same TU (default A)

    module _ (k j : Tree) (A : ℕ) (r d : Bool) (q : r ≡ tree by_index j ∅ ∅ A) (kind : j ≡ decided_by k d) where
      decided : cond d (not r) r ≡ answer Q k (question_of A d)
      decided = decides k A r d (q ∙ ap (λ (i : Tree). tree by_index i ∅ ∅ A) kind)

      pub decided_not : d ≡ true → not r ≡ answer Q k (question_of A d)
      decided_not e = sym (ap (λ (c : Bool). cond c (not r) r) e) ∙ decided

      pub decided_plain : d ≡ false → r ≡ answer Q k (question_of A d)
      decided_plain e = sym (ap (λ (c : Bool). cond c (not r) r) e) ∙ decided

  -- a literal past the capacity fails, and `not` of it holds
  pub past_capacity : (A : ℕ) → capacity ≤ A → (k : Tree) (d : Bool) → d ≡ answer Q k (question_of A d)
  past_capacity A h = go
    where
      none : A ∉ headed Q
      none =
          book_supports (λ e. true) A
          ∙ or_none _ _ (past_unsupported b.heads b.starts b.entries _ (λ e. true) A h) (refuted (λ m. let l : A < capacity = member_room facts long A m in omega arith))

      go : (k : Tree) (d : Bool) → d ≡ answer Q k (question_of A d)
      go T false = sym (answer_is Q T (positive A) ∙ t_headless Q ∅ A none)
      go T true = sym (answer_is Q T (default A) ∙ first_way Q ∅ ∅ A ∙ ap not (u_headless Q ∅ ∅ A none))
      go TU false = sym (answer_is Q TU (positive A) ∙ u_headless Q ∅ ∅ A none)
      go TU true = sym (answer_is Q TU (default A) ∙ ap not (t_headless Q ∅ A none))
