-- What each call owes, and what follows for every list of calls by induction over it: the state means what the list leaves, a run exists, and every
-- refusal in a run is by its condition.
use mathlib.Core.Path.{◌≡◌, refl, sym, ◌∙◌, ap}
use mathlib.Core.Logic.{◌↔◌}
use mathlib.Core.List.{List, [], ◌∷◌, ◌++◌}
use Prim.Native.Nat.{ℕ}
use Rattle.calls.specs.Lists.{CallSpec, after_all, RunOf, Refusals}

-- `Good` holds of all states that runs reach.
module _ {S D : Type 0} (meaning : S → D) (Good : S → Type 0) where
  pub record CallLaws (c : CallSpec S D) : Type 0 where
    -- the call does to the state what the list's reading says
    pub means : (s : S) (r : c.Reply) → Good s → c.Meets s r → meaning (c.next s r) ≡ c.after (meaning s)
    pub good : (s : S) (r : c.Reply) → Good s → c.Meets s r → Good (c.next s r)
    -- it is refused by a number exactly under its condition
    pub exactly : (s : S) (r : c.Reply) → Good s → c.Meets s r → (number line : ℕ) → c.RefusedBy r number line ↔ c.TurnsDown (meaning s) number line
    -- a refused call leaves all as it was
    pub kept : (s : S) (r : c.Reply) → c.Meets s r → (number line : ℕ) → c.RefusedBy r number line → (c.next s r ≡ s) × c.Unwritten r
    -- some reply meets the contract
    pub replies : (s : S) → Good s → (r : c.Reply) × c.Meets s r

  module _ {C : Type 0} (spec_of : C → CallSpec S D) (laws_of : (c : C) → CallLaws (spec_of c)) where
    pub run_means : (cs : List C) (s t : S) → Good s → RunOf spec_of s cs t → (meaning t ≡ after_all spec_of (meaning s) cs) × Good t
    run_means [] s t g h = (ap meaning (sym h), rw h at g)
    run_means (c ∷ cs) s t g h =
        let w = run_means cs ((spec_of c).next s h.0) t ((laws_of c).good s h.0 g h.1) h.2 in
        (w.0 ∙ ap (λ (d : D). after_all spec_of d cs) ((laws_of c).means s h.0 g h.1), w.1)

    pub run_from : (cs : List C) (s : S) → Good s → (t : S) × RunOf spec_of s cs t
    run_from [] s g = (s, refl)
    run_from (c ∷ cs) s g =
        let w = (laws_of c).replies s g in
        let then = run_from cs ((spec_of c).next s w.0) ((laws_of c).good s w.0 g w.1) in
        (then.0, (w.0, w.1, then.1))

    -- `c` is called on the state that the list `cs` left
    pub run_refusals : (cs : List C) (s t : S) → Good s → RunOf spec_of s cs t → (c : C) (r : (spec_of c).Reply) → (spec_of c).Meets t r
        → Refusals (spec_of c) t (after_all spec_of (meaning s) cs) r
    run_refusals cs s t g run c r h =
        let w = run_means cs s t g run in
        record { exactly = rw w.0 at ((laws_of c).exactly t r w.1 h); as_it_was = (laws_of c).kept t r h }

-- what a list leaves after another
pub after_parts : {S D C : Type 0} (spec_of : C → CallSpec S D) (cs ds : List C) (d : D) → after_all spec_of d (cs ++ ds) ≡ after_all spec_of (after_all spec_of d cs) ds
after_parts spec_of [] ds d = refl
after_parts spec_of (c ∷ cs) ds d = after_parts spec_of cs ds ((spec_of c).after d)

-- Every call of a run is made on a state to which the calls before it ran: so what holds at the end of every run holds at every call of one.
pub run_parts : {S D C : Type 0} (spec_of : C → CallSpec S D) (cs : List C) (c : C) (ds : List C) (s u : S) → RunOf spec_of s (cs ++ c ∷ ds) u
    → (t : S) × RunOf spec_of s cs t × (r : (spec_of c).Reply) × (spec_of c).Meets t r × RunOf spec_of ((spec_of c).next t r) ds u
run_parts spec_of [] c ds s u h = (s, refl, h.0, h.1, h.2)
run_parts spec_of (b ∷ cs) c ds s u h =
    let w = run_parts spec_of cs c ds ((spec_of b).next s h.0) u h.2 in
    (w.0, (h.0, h.1, w.1), w.2, w.3, w.4)
