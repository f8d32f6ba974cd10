-- The walk of a literal's rules by an index, and the program that an index gives. From place p on the rules that are left decide whether some body
-- passes a test. Literal by literal the rules are those of the book, in another order, so they support the same.
use mathlib.Core.Path.{◌≡◌, refl, sym, ap, ◌∙◌}
use mathlib.Core.Bool.{Bool, true, false, ◌&&◌, ◌||◌, or-true, or-false}
use mathlib.Core.List.{List, [], ◌∷◌, map}
use Prim.Native.Nat.{ℕ, zero, suc, ◌+◌, ◌-◌, ◌≤◌, ◌<◌}
use native.Mathlib.Decide.{ℕ_discrete, dec_lt}
use native.Mathlib.Omega.{arith}
use lib.Dec.{eqb, ltb}
use lib.ListN.{get_or, take, drop}
use borrow.Author.Tests.{eq-eqb, ne_eqb, lt-ltb, le-ltb}
use Rattle.wfsx.specs.Program.{Entry}
use Rattle.wfsx.specs.Model.{every, supported}
use Rattle.wfsx.proofs.Supported.{supported_none, supported_first, supported_append}
use Rattle.litset.specs.Words.{capacity}
use Rattle.book.specs.Book.{body_of, rules_in}
use Rattle.book.proofs.Parts.{part_step, part_end}
use Rattle.book.proofs.Heads.{past_unsupported}
use Rattle.index.specs.Index.{head_starts, head_rules, rules_start, rules_end, rules_at, some, supported_by, rules_by}
use Rattle.index.proofs.Indexed.{rules_of_lem, some_none, some_first, supported_by_lem}

-- all entries of rule r pass
abbrev passes : (Entry → Bool) → List ℕ → List ℕ → ℕ → Bool
passes f starts entries r = every f (body_of starts entries r)

-- ---- rule by rule

-- the rules of A from place p on
abbrev rules_from : List ℕ → List ℕ → ℕ → ℕ → List ℕ
rules_from first rules A p = take (get_or first (A + 1) 0 - p) (drop p rules)

pub record RulesLeft (f : Entry → Bool) (first rules starts entries : List ℕ) (A p : ℕ) : Type 0 where
  pub from : rules_start first A ≤ p
  pub left : supported_by first rules starts entries f A ≡ some (passes f starts entries) (rules_from first rules A p)

-- the rule at p, and the rest
step : (f : Entry → Bool) (first rules starts entries : List ℕ) (A p : ℕ) → p < rules_end first rules A
    → some (passes f starts entries) (rules_from first rules A p) ≡ (passes f starts entries (get_or rules p 0) || some (passes f starts entries) (rules_from first rules A (p + 1)))
step f first rules starts entries A p h = rw (part_step rules p (get_or first (A + 1) 0) (omega arith) (omega arith)) (some_first (passes f starts entries) (get_or rules p 0) _)

module _ {f : Entry → Bool} {first rules starts entries : List ℕ} {A p : ℕ} where
  pub rules_first : p ≡ rules_start first A → RulesLeft f first rules starts entries A p
  unfolding supported_by
  rules_first e = record { from = omega (arith, e); left = rw e refl }

  module _ (l : RulesLeft f first rules starts entries A p) where
    pub rules_more : p < rules_end first rules A → every f (body_of starts entries (get_or rules p 0)) ≡ false → RulesLeft f first rules starts entries A (p + 1)
    rules_more h e = record { from = omega (arith, l.from); left = l.left ∙ step f first rules starts entries A p h ∙ rw e refl }

    pub rules_over : rules_end first rules A ≤ p → supported_by first rules starts entries f A ≡ false
    rules_over h = l.left ∙ rw (part_end rules p (get_or first (A + 1) 0) h) (some_none (passes f starts entries))

    -- a rule whose body passes another test is enough, whatever the rules before it are
    pub rules_one : (g : Entry → Bool) → p < rules_end first rules A → every g (body_of starts entries (get_or rules p 0)) ≡ true → supported_by first rules starts entries g A ≡ true
    unfolding supported_by
    rules_one g h e = before (p - rules_start first A) (rules_start first A) (omega (arith, l.from))
      where
        before : (n k : ℕ) → k + n ≡ p → some (passes g starts entries) (rules_from first rules A k) ≡ true
        before zero k s = let here : k ≡ p = omega arith in step g first rules starts entries A k (omega arith) ∙ rw (here, e) refl
        before (suc n) k s = step g first rules starts entries A k (omega arith) ∙ rw (before n (k + 1) (omega arith)) (or-true (passes g starts entries (get_or rules k 0)))

-- a literal that has a rule is a head, and one that has none is not
module _ (first rules starts entries : List ℕ) (A : ℕ) where
  every_passes : (es : List Entry) → every (λ e. true) es ≡ true
  unfolding every
  every_passes [] = refl
  every_passes (e ∷ es) = every_passes es

  pub rules_some : rules_start first A < rules_end first rules A → supported_by first rules starts entries (λ e. true) A ≡ true
  rules_some h = rules_one {f = λ e. true} (rules_first refl) (λ e. true) h (every_passes (body_of starts entries _))

  pub rules_none : (f : Entry → Bool) → rules_end first rules A ≤ rules_start first A → supported_by first rules starts entries f A ≡ false
  rules_none f h = rules_over {f = f} (rules_first refl) h

-- ---- literal by literal

module _ (first rules starts entries : List ℕ) (f : Entry → Bool) (A : ℕ) where
  -- rules with one head
  supported_one : (B : ℕ) (rs : List ℕ) → supported (map (λ r. record { head = B; body = body_of starts entries r }) rs) f A ≡ (eqb B A && some (passes f starts entries) rs)
  supported_one B [] = supported_none f A ∙ sym (rw (some_none (passes f starts entries)) (none (eqb B A)))
    where
      none : (b : Bool) → (b && false) ≡ false
      none true = refl
      none false = refl
  supported_one B (r ∷ rs) =
      supported_first (record { head = B; body = body_of starts entries r }) _ f A
      ∙ rw (supported_one B rs, some_first (passes f starts entries) r rs) (split (eqb B A) (passes f starts entries r) (some (passes f starts entries) rs))
    where
      split : (b c d : Bool) → (b && c || b && d) ≡ (b && (c || d))
      split true c d = refl
      split false c d = refl

  pub supported_below : (n : ℕ) → supported (rules_by first rules starts entries n) f A ≡ (ltb A n && supported_by first rules starts entries f A)
  unfolding rules_by supported_by
  supported_below zero = supported_none f A ∙ sym (ap (λ (b : Bool). b && supported_by first rules starts entries f A) (le-ltb A 0 (omega arith)))
  supported_below (suc n) =
      supported_append (rules_by first rules starts entries n) _ f A
      ∙ rw (supported_below n, supported_one n (rules_at first rules n)) (go (ℕ_discrete n A) (dec_lt A n))
    where
      go : Dec (n ≡ A) → Dec (A < n)
          → (ltb A n && some (passes f starts entries) (rules_at first rules A) || eqb n A && some (passes f starts entries) (rules_at first rules n))
          ≡ (ltb A (suc n) && some (passes f starts entries) (rules_at first rules A))
      go (yes e) d = rw (le-ltb A n (omega arith), lt-ltb A (suc n) (omega arith), eq-eqb n A e, e) refl
      go (no e) (yes h) = rw (lt-ltb A n h, lt-ltb A (suc n) (omega arith), ne_eqb n A e) (or-false _)
      go (no e) (no h) = rw (le-ltb A n (omega arith), le-ltb A (suc n) (omega arith), ne_eqb n A e) refl

-- ---- the index of a table of heads supports what the table does
pub indexed_same : (heads starts entries : List ℕ) (count : ℕ) (f : Entry → Bool) (A : ℕ)
    → supported (rules_by (head_starts heads count) (head_rules heads count) starts entries capacity) f A ≡ supported (rules_in heads starts entries count) f A
unfolding supported_by
indexed_same heads starts entries count f A =
    supported_below (head_starts heads count) (head_rules heads count) starts entries f A capacity ∙ go (dec_lt A capacity)
  where
    go : Dec (A < capacity) → (ltb A capacity && supported_by (head_starts heads count) (head_rules heads count) starts entries f A) ≡ supported (rules_in heads starts entries count) f A
    go (yes h) = rw (lt-ltb A capacity h) (ap (some (passes f starts entries)) (rules_of_lem heads count A h) ∙ sym (supported_by_lem heads starts entries f A count))
    go (no h) = rw (le-ltb A capacity (omega arith)) (sym (past_unsupported heads starts entries count f A (omega arith)))
