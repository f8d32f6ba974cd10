-- The meaning of a shelf by its bits: whether it has a book, and which literals are in it. And the program of a book with its facts: its rules, and what its
-- names reach.
use mathlib.Core.Path.{◌≡◌, refl, sym, ◌∙◌, ap}
use mathlib.Core.Bool.{Bool, true, false, cond, true≢false}
use mathlib.Core.Logic.{⊎_elim}
use mathlib.Core.List.Memᴰ
use mathlib.Core.List.{map}
use Prim.Native.Nat.{ℕ, ◌*◌, ◌≤◌, ◌<◌}
use native.Mathlib.Omega.{arith}
use lib.Dec.{eqb, ltb}
use lib.ListN.{length}
use borrow.Author.Tests.{eq-eqb, ne_eqb, ltb-true, lt-ltb, le-ltb}
use Rattle.wfsx.specs.Sets.{◌∈◌, ◌is_in◌, members}
use Rattle.wfsx.specs.Program.{Rule, fact}
use Rattle.wfsx.specs.Reach.{reach}
use Rattle.wfsx.specs.Groups.{working_order}
use Rattle.wfsx.proofs.Members.{members_are}
use Rattle.wfsx.proofs.Reach.{reach_facts}
use Rattle.wfsx.proofs.Order.{order_facts}
use Rattle.litset.specs.Words.{capacity}
use Rattle.book.specs.Limits.{max_names}
use Rattle.book.specs.Book.{clamp, names_of, rules_of, program, program_of}
use Rattle.book.proofs.Counts.{clamp_most}
use Rattle.book.proofs.Heads.{program_of_lem}
use Rattle.book.proofs.Names.{names_counted}
use Rattle.lesson.specs.State.{BookState, unloaded, loaded_with, Own, State, in_force, none_loaded, in_book, its_names, its_rules, program_in, order_in}
use Rattle.lesson.specs.Calls.{shelf_of}
use Rattle.lesson.specs.declared.Shelf.{Shelf}

module _ (s : Shelf) where
  pub shelf_empty : s.loaded ≡ 0 → shelf_of s ≡ unloaded
  unfolding shelf_of
  shelf_empty e = rw (eq-eqb s.loaded 0 e) refl

  pub shelf_loaded : (s.loaded ≡ 0 → ⊥) → shelf_of s ≡ loaded_with (names_of s.book) (rules_of s.book)
  unfolding shelf_of
  shelf_loaded e = rw (ne_eqb s.loaded 0 e) refl

  pub none_loaded_is : s.loaded ≡ 0 → none_loaded (shelf_of s) ≡ true
  none_loaded_is e = rw (shelf_empty e) refl

  pub loaded_is : (s.loaded ≡ 0 → ⊥) → none_loaded (shelf_of s) ≡ false
  loaded_is e = rw (shelf_loaded e) refl

  -- a shelf that means a book has it
  pub shelf_is : none_loaded (shelf_of s) ≡ false → shelf_of s ≡ loaded_with (names_of s.book) (rules_of s.book)
  shelf_is e = shelf_loaded (λ z. true≢false (sym (none_loaded_is z) ∙ e))

  module _ (e : none_loaded (shelf_of s) ≡ false) (A n : ℕ) (count : n ≡ clamp max_names s.book.names) where
    twice_names : 2 * length (its_names (shelf_of s)) ≡ 2 * n
    twice_names = ap (λ (b : BookState). 2 * length (its_names b)) (shelf_is e) ∙ ap (2 *◌) (names_counted s.book ∙ sym count)

    pub literal_outside : 2 * n ≤ A → in_book (shelf_of s) A ≡ false
    unfolding in_book
    literal_outside h = ap (ltb A) twice_names ∙ le-ltb A (2 * n) h

    pub literal_inside : A < 2 * n → in_book (shelf_of s) A ≡ true
    unfolding in_book
    literal_inside h = ap (ltb A) twice_names ∙ lt-ltb A (2 * n) h

  -- the program of a lesson beside it
  pub program_is : none_loaded (shelf_of s) ≡ false → (o : Own) → program_of s.book (in_force o) ≡ program_in (record { book = shelf_of s; own = o })
  unfolding program_in
  program_is e o = program_of_lem s.book (in_force o) ∙ sym (ap (λ (b : BookState). program (its_rules b) (in_force o)) (shelf_is e))

  -- a literal of its book has room in a set
  pub inside_room : (A : ℕ) → A ∈ in_book (shelf_of s) → A < capacity
  unfolding in_book shelf_of
  inside_room A e = go (eqb s.loaded 0) e
    where
      go : (t : Bool) → ltb A (2 * length (its_names (cond t unloaded (loaded_with (names_of s.book) (rules_of s.book))))) ≡ true → A < capacity
      go true h = let i = ltb-true A 0 h in omega arith
      go false h =
          let i = ltb-true A (2 * length (names_of s.book)) h in
          omega (arith, names_counted s.book, clamp_most max_names s.book.names)

-- facts alter nothing of the working order
pub order_of_program : (d : State) → order_in d.book ≡ working_order (program_in d) (length (its_names d.book))
unfolding order_in program_in
order_of_program d = sym (order_facts (its_rules d.book) (members capacity (in_force d.own)) (length (its_names d.book)))

-- nor of what a name reaches
pub reach_of_program : (d : State) (n : ℕ) → reach (program_in d) n ≡ reach (its_rules d.book) n
unfolding program_in
reach_of_program d n = reach_facts (its_rules d.book) (members capacity (in_force d.own)) n

-- a rule of the program is one of the book's, or a fact in force
pub rule_carried : (d e : State) (r : Rule) → (r is_in its_rules d.book → r is_in its_rules e.book) → (r.head ∈ in_force d.own → r.head ∈ in_force e.own)
    → r is_in program_in d → r is_in program_in e
unfolding program_in
rule_carried d e r rules facts m = ⊎_elim (λ i. Memᴰ.append_left _ (rules i)) of_fact (Memᴰ.append_cases (its_rules d.book) m)
  where
    of_fact : r is_in map fact (members capacity (in_force d.own)) → r is_in program_in e
    of_fact i =
        let w = Memᴰ.of_map fact (members capacity (in_force d.own)) i in
        let was = (members_are capacity (in_force d.own) w.0).0 w.1 in
        let now : w.0 ∈ in_force e.own = rw (ap (λ (q : Rule). q.head) w.2) (facts (rw (← w.2) was.0)) in
        rw (← w.2) (Memᴰ.append_right (its_rules e.book) (Memᴰ.map fact ((members_are capacity (in_force e.own) w.0).1 (now, was.1))))
