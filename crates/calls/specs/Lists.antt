-- Lists of calls on a state S, read over D (document 01, "What a list of calls leaves"): what a list leaves by the calls' arguments alone, and what a
-- run of it is. A call with its arguments is known by one record.
use Rattle.std.specs.Prelude.{◌≡◌, ◌↔◌, List, [], ◌∷◌, ℕ}

pub record CallSpec (S D : Type 0) : Type 1 where
  -- its reply, and what its `ensures` says of the reply
  pub Reply : Type 0
  pub Meets : S → Reply → Type 0
  -- the state after it: with what the call returns, or the one that it was given where it returns none
  pub next : S → Reply → S
  -- what it leaves by its arguments alone
  pub after : D → D
  -- it meets the condition of this number, a load with the line of its file
  pub TurnsDown : D → ℕ → ℕ → Type 0
  -- the reply is the refusal by this number, a load's with this line
  pub RefusedBy : Reply → ℕ → ℕ → Type 0
  -- no byte of a lent buffer is changed in the reply
  pub Unwritten : Reply → Type 0

module _ {S D C : Type 0} (spec_of : C → CallSpec S D) where
  abbrev pub after_all : D → List C → D
  after_all d [] = d
  after_all d (c ∷ cs) = after_all ((spec_of c).after d) cs

  -- Each call gets the state that the call before it returned or left.
  abbrev pub RunOf : S → List C → S → Type 0
  RunOf s [] t = s ≡ t
  RunOf s (c ∷ cs) t = (r : (spec_of c).Reply) × (spec_of c).Meets s r × RunOf ((spec_of c).next s r) cs t

-- The reply r to a call on the state s, where the calls before it leave d: it is the refusal by a number exactly under the number's condition, and then
-- all stays as it was.
pub record Refusals {S D : Type 0} (c : CallSpec S D) (s : S) (d : D) (r : c.Reply) : Type 0 where
  pub exactly : (number line : ℕ) → c.RefusedBy r number line ↔ c.TurnsDown d number line
  pub as_it_was : (number line : ℕ) → c.RefusedBy r number line → (c.next s r ≡ s) × c.Unwritten r
