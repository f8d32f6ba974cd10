-- A literal whose rules are all answered has no rule that is left open, and the other way round: a rule is left open where its seminormal version holds
-- over what is outside the false literals and the group, and over the true ones.
use mathlib.Core.Path.{◌≡◌, refl, ◌∙◌, ap}
use mathlib.Core.Bool.{Bool, true, false, not, ◌&&◌, ◌||◌}
use mathlib.Core.List.{List, [], ◌∷◌}
use Prim.Native.Nat.{ℕ}
use lib.Dec.{eqb}
use Rattle.wfsx.specs.Sets.{Set, ◌∪◌}
use Rattle.wfsx.specs.Program.{compl, Entry, positive, default, Program}
use Rattle.wfsx.specs.Model.{holds, every, supported}
use Rattle.sheet.specs.Sheet.{answers, some, answered, every_rule}
use Rattle.sheet.specs.Turns.{beyond, open_in}

or_not : (a s : Bool) → (a || not s) ≡ not (not a && s)
or_not true s = refl
or_not false s = refl

rule_open : (a t y s : Bool) → ((not a || (t || not y)) && not s) ≡ not (a && (not t && y) || s)
rule_open false t y s = refl
rule_open true true y s = refl
rule_open true false true s = refl
rule_open true false false s = refl

module _ (T F G : Set) where
  body_open : (es : List Entry) → some (answers T F G) es ≡ not (every (holds (beyond (F ∪ G)) T) es)
  unfolding some every
  body_open [] = refl
  body_open (positive B ∷ es) = ap (λ (b : Bool). (F B || G B) || b) (body_open es) ∙ or_not (F B || G B) _
  body_open (default C ∷ es) = ap (λ (b : Bool). T C || b) (body_open es) ∙ or_not (T C) _

  pub not_open : (P : Program) (A : ℕ) → every_rule (answered T F G) P A ≡ not (open_in P T (F ∪ G) A)
  unfolding every_rule supported every
  not_open [] A = refl
  not_open (r ∷ P) A =
      rw (not_open P A, body_open r.body) (rule_open (eqb r.head A) (T (compl r.head)) (every (holds (beyond (F ∪ G)) T) r.body) _)
