-- The program of a book. Every head of it is a literal that a set of literals has room for: a rule's by the remainder, a fact's since it is a member
-- below the capacity.
use mathlib.Core.Path.{◌≡◌, refl}
use mathlib.Core.Bool.{Bool, true, false, cond}
use mathlib.Core.Logic.{⊎_elim}
use mathlib.Core.List.Memᴰ
use mathlib.Core.List.{List, map}
use Prim.Native.Nat.{ℕ, zero, suc, ◌/◌, ◌%◌, ◌≤◌, ◌<◌}
use native.Mathlib.Nat.{mod-lt, zero-lt-suc}
use native.Mathlib.Omega.{arith}
use lib.Dec.{eqb, ltb}
use lib.ListN.{get_or}
use borrow.Author.Tests.{ne_eqb, lt-ltb}
use Rattle.wfsx.specs.Sets.{Set, ◌is_in◌, members}
use Rattle.wfsx.specs.Program.{Entry, positive, default, Rule, fact}
use Rattle.wfsx.specs.Model.{supported, Heads⊆}
use Rattle.wfsx.proofs.Members.{members_are}
use Rattle.wfsx.proofs.Supported.{supported_none, supported_first}
use Rattle.litset.specs.Words.{capacity, room}
use Rattle.book.specs.Book.{rows, literal_of, literal_in, head_at, entry_at, rule_at, rules_in, rules_of, program, program_of}
use Rattle.book.specs.declared.Book.{Book}
use Rattle.book.proofs.Rows.{rows_none, rows_first}

-- ---- literals that a set of literals has room for

pub head_below : (heads : List ℕ) (r : ℕ) → head_at heads r < capacity
head_below heads r = mod-lt (get_or heads r 0) (zero-lt-suc _)

pub entry_below : (entries : List ℕ) (j : ℕ) → literal_in (entry_at entries j) < capacity
entry_below entries j = go (eqb (get_or entries j 0 % 2) 0)
  where
    go : (t : Bool) → literal_in (cond t (positive (literal_of (get_or entries j 0 / 2))) (default (literal_of (get_or entries j 0 / 2)))) < capacity
    go true = mod-lt (get_or entries j 0 / 2) (zero-lt-suc _)
    go false = mod-lt (get_or entries j 0 / 2) (zero-lt-suc _)

-- a literal past the capacity has no rule
pub past_unsupported : (heads starts entries : List ℕ) (n : ℕ) (f : Entry → Bool) (A : ℕ) → capacity ≤ A → supported (rules_in heads starts entries n) f A ≡ false
past_unsupported heads starts entries n f A h = from 0 n
  where
    from : (k n : ℕ) → supported (rows (rule_at heads starts entries) k n) f A ≡ false
    from k zero = rw (rows_none (rule_at heads starts entries) k) (supported_none f A)
    from k (suc n) =
        rw (rows_first (rule_at heads starts entries) k n, supported_first (rule_at heads starts entries k) (rows (rule_at heads starts entries) (suc k) n) f A, ne_eqb (head_at heads k) A (λ e. omega (arith, head_below heads k))) (from (suc k) n)

-- ---- the program of a book

-- what holds of every value of f holds of the rows
rows_all : {X : Type 0} (Q : X → Type 0) (f : ℕ → X) → ((k : ℕ) → Q (f k)) → (k n : ℕ) (x : X) → x is_in rows f k n → Q x
unfolding rows
rows_all Q f q k zero x m = absurd (Memᴰ.not-nil m)
rows_all Q f q k (suc n) x (Memᴰ.head e) = rw e (q k)
rows_all Q f q k (suc n) x (Memᴰ.tail m) = rows_all Q f q (suc k) n x m

pub program_of_lem : (b : Book) (F : Set) → program_of b F ≡ program (rules_of b) F
unfolding program_of
program_of_lem b F = refl

pub program_heads : (b : Book) (F : Set) → Heads⊆ (program_of b F) room
unfolding program_of
program_heads b F r m = ⊎_elim of_rule of_fact (Memᴰ.append_cases (rules_of b) m)
  where
    of_rule : r is_in rules_of b → ltb r.head capacity ≡ true
    of_rule = rows_all (λ (x : Rule). ltb x.head capacity ≡ true) _ (λ k. lt-ltb (head_at b.heads k) capacity (head_below b.heads k)) 0 _ r

    of_fact : r is_in map fact (members capacity F) → ltb r.head capacity ≡ true
    of_fact i =
        let w = Memᴰ.of_map fact (members capacity F) i in
        rw (← w.2) (lt-ltb w.0 capacity ((members_are capacity F w.0).0 w.1).1)
