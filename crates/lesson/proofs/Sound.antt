-- What a list of calls leaves is sound: heads, bodies and facts are of literals of its book, which has no more names than a table. So its program is one over the
-- literals of the book, and has room in a set.
use mathlib.Core.Path.{◌≡◌, refl, sym, ◌∙◌}
use mathlib.Core.Bool.{not, true≢false}
use mathlib.Core.Logic.{⊎_elim}
use mathlib.Core.List.Memᴰ
use mathlib.Core.List.{List, map}
use Prim.Native.Nat.{ℕ, ◌*◌, ◌≤◌, ◌<◌}
use native.Mathlib.Omega.{arith}
use lib.Dec.{eqb}
use lib.ListN.{length}
use borrow.Author.Tests.{eqb-true, ltb-true, lt-ltb}
use Rattle.wfsx.specs.Sets.{◌∈◌, ◌is_in◌, members}
use Rattle.wfsx.specs.Program.{Entry, positive, default, Rule, fact}
use Rattle.wfsx.specs.Model.{Heads⊆, head_count}
use Rattle.wfsx.specs.Rounds.{rounds}
use Rattle.wfsx.proofs.Members.{members_are}
use Rattle.wfsx.proofs.Supported.{heads}
use Rattle.wfsx.proofs.Contradiction.{heads_in, contradiction}
use Rattle.wfsx.proofs.Rounds.{rounds_most, rounds_below, rounds_by_names}
use Rattle.truth.proofs.Truth.{and_l, or_elim}
use Rattle.litset.specs.Words.{room, capacity}
use Rattle.litset.proofs.Words.{without_at}
use Rattle.book.specs.Limits.{max_names}
use Rattle.book.specs.Book.{literal_in}
use Rattle.maker.specs.Result.{Within}
use Rattle.lesson.specs.State.{unloaded, loaded_with, State, emptied, its_names, its_rules, in_force, program_in, in_book, ContradictoryOver, Said, gives, refused, Ack, its_literal, change_says, changed_set, changed, unless_refused, state_after, known_in}
use Rattle.lesson.specs.declared.Change.{Change}
use Rattle.lesson.specs.declared.Change.TheVariants.{PutIn, TakeOut}
use Rattle.lesson.proofs.Order.{given_inside, literal_below}

pub record Sound (d : State) : Type 0 where
  pub few_names : length (its_names d.book) ≤ max_names
  pub heads_known : (r : Rule) → r is_in its_rules d.book → r.head ∈ in_book d.book
  pub bodies_known : (r : Rule) → r is_in its_rules d.book → (e : Entry) → e is_in r.body → literal_in e ∈ in_book d.book
  pub facts_known : (A : ℕ) → A ∈ in_force d.own → A ∈ in_book d.book

-- ---- where it comes from

pub sound_nothing : Sound (record { book = unloaded; own = emptied })
unfolding in_force
sound_nothing =
    record {
      few_names = omega arith;
      heads_known = λ r i. absurd (Memᴰ.not-nil i);
      bodies_known = λ r i. absurd (Memᴰ.not-nil i);
      facts_known = λ A h. absurd (true≢false (sym h));
    }

pub sound_book : (names : List (List ℕ)) (rules : List Rule) → length names ≤ max_names → ((r : Rule) → r is_in rules → r.head < 2 * length names)
    → ((r : Rule) → r is_in rules → (e : Entry) → e is_in r.body → literal_in e < 2 * length names) → Sound (record { book = loaded_with names rules; own = emptied })
unfolding in_force in_book
sound_book names rules few heads bodies =
    record {
      few_names = few;
      heads_known = λ r i. lt-ltb r.head (2 * length names) (heads r i);
      bodies_known = λ r i e m. lt-ltb (literal_in e) (2 * length names) (bodies r i e m);
      facts_known = λ A h. absurd (true≢false (sym h));
    }

-- a changed set has no literal but those that it had and the one that is put in
changed_from : (c : Change) (d : State) → ((A : ℕ) → A ∈ d.own.put_in → A ∈ in_book d.book) → its_literal c ∈ in_book d.book
    → (B : ℕ) → B ∈ changed_set c d.own.put_in → B ∈ in_book d.book
changed_from (PutIn A) d known i B h = ⊎_elim (λ q. rw (eqb-true B A q) i) (known B) (or_elim (eqb B A) (d.own.put_in B) h)
changed_from (TakeOut A) d known i B h = known B (and_l (d.own.put_in B) (not (eqb B A)) (sym (without_at A d.own.put_in B) ∙ h))

pub sound_change : (c : Change) (d : State) → Sound d → Sound (state_after d c)
unfolding change_says in_force
sound_change c d s = go (change_says d c) refl
  where
    go : (said : Said Ack) → change_says d c ≡ said → Sound (record { book = d.book; own = unless_refused said (changed c d.own) d.own })
    go (gives x) e =
        record {
          few_names = s.few_names;
          heads_known = s.heads_known;
          bodies_known = s.bodies_known;
          facts_known = changed_from c d s.facts_known (given_inside d.book (its_literal c) _ x e).1;
        }
    go (refused n) e = s

-- ---- the program

module _ (d : State) (s : Sound d) where
  pub book_in_room : (A : ℕ) → A ∈ in_book d.book → A < capacity
  unfolding in_book
  book_in_room A i =
      let h = ltb-true A (2 * length (its_names d.book)) i in
      let few = s.few_names in
      omega arith

  pub heads_in_book : Heads⊆ (program_in d) (in_book d.book)
  unfolding program_in
  heads_in_book r m = ⊎_elim (s.heads_known r) of_fact (Memᴰ.append_cases (its_rules d.book) m)
    where
      of_fact : r is_in map fact (members capacity (in_force d.own)) → r.head ∈ in_book d.book
      of_fact i =
          let w = Memᴰ.of_map fact (members capacity (in_force d.own)) i in
          rw (← w.2) (s.facts_known w.0 ((members_are capacity (in_force d.own) w.0).0 w.1).0)

  pub heads_in_room : Heads⊆ (program_in d) room
  heads_in_room r m = lt-ltb r.head capacity (book_in_room r.head (heads_in_book r m))

  head_below : (A : ℕ) → A is_in heads (program_in d) → A < 2 * length (its_names d.book)
  unfolding in_book
  head_below A m = ltb-true A (2 * length (its_names d.book)) (heads_in (program_in d) (in_book d.book) heads_in_book A m)

  -- all its literals are literals of the book
  pub literals_within : Within (known_in d.book) (program_in d)
  unfolding program_in
  literals_within =
      record {
        heads_below = λ r m. literal_below d.book r.head (heads_in_book r m);
        positive_below = λ r m B i. literal_below d.book B (in_body r m (positive B) i);
        default_below = λ r m C i. literal_below d.book C (in_body r m (default C) i);
      }
    where
      in_body : (r : Rule) → r is_in program_in d → (e : Entry) → e is_in r.body → literal_in e ∈ in_book d.book
      in_body r m e i = ⊎_elim (λ q. s.bodies_known r q e i) of_fact (Memᴰ.append_cases (its_rules d.book) m)
        where
          of_fact : r is_in map fact (members capacity (in_force d.own)) → literal_in e ∈ in_book d.book
          of_fact q = let w = Memᴰ.of_map fact (members capacity (in_force d.own)) q in absurd (Memᴰ.not-nil (rw (← w.2) at i))

  head_in_room : (A : ℕ) → A is_in heads (program_in d) → A < capacity
  head_in_room A m = ltb-true A capacity (heads_in (program_in d) room heads_in_room A m)

  -- no model takes more rounds than its program has distinct heads or the book literals, and a set has room for these
  pub rounds_in_heads : rounds (program_in d) ≤ head_count capacity (program_in d)
  rounds_in_heads = rounds_most (program_in d) capacity head_in_room

  pub rounds_in_book : rounds (program_in d) ≤ 2 * length (its_names d.book)
  rounds_in_book = rounds_below (program_in d) (2 * length (its_names d.book)) head_below

  pub rounds_in_room : rounds (program_in d) ≤ capacity
  rounds_in_room = rounds_below (program_in d) capacity head_in_room

  -- and without a contradiction none takes more than the book has names
  pub rounds_in_names : (ContradictoryOver (in_book d.book) d → ⊥) → rounds (program_in d) ≤ length (its_names d.book)
  rounds_in_names never =
      rounds_by_names (program_in d) (length (its_names d.book)) head_below (λ i both. never ((contradiction (program_in d) (in_book d.book) heads_in_book).1 (i, both)))
