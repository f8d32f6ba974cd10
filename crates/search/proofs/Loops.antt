-- The two loops of the walk. Over the entries of a body: as long as all children hold, the entries that are left decide whether all do; one
-- that fails fails the body, whatever the others are. Over the rules of a literal: as long as all bodies fail, the rules that are left
-- decide; one whose children hold is enough.
use mathlib.Core.Path.{◌≡◌, sym, ◌∙◌, ap}
use mathlib.Core.Bool.{true, false}
use mathlib.Core.List.{List}
use Prim.Native.Nat.{ℕ, ◌+◌, ◌<◌}
use lib.ListN.{get_or}
use Rattle.truth.proofs.Truth.{clash}
use Rattle.wfsx.specs.Program.{Program}
use Rattle.wfsx.specs.Model.{every}
use Rattle.wfsx.specs.Trees.{Tree}
use Rattle.litset.specs.Words.{capacity}
use Rattle.book.specs.declared.Entry.{Entry}
use Rattle.book.specs.Book.{entry_is, literal_in, body_end, entry_at, body_of}
use Rattle.book.proofs.Bodies.{BodyLeft, body_more, body_one}
use Rattle.book.proofs.Heads.{entry_below}
use Rattle.index.specs.Index.{rules_end, supported_by}
use Rattle.index.proofs.Walks.{RulesLeft, rules_more, rules_one}
use Rattle.search.specs.declared.Finding.{Finding}
use Rattle.search.specs.Marks.{is_holds, is_fails}
use Rattle.search.specs.Walk.{State, Visited, sure_at, may_at}
use Rattle.search.proofs.Visits.{Going, sure_at_lem, may_at_lem, sure_all, may_all, after_holds, after_fails, ends_with}

pub entry_small : (entries : List ℕ) (j : ℕ) (e : Entry) → entry_is e ≡ entry_at entries j → literal_in (entry_is e) < capacity
entry_small entries j e q = rw q (entry_below entries j)

module _ {P : Program} {k : Tree} {s₀ s s' : State} (g : Going P k s₀ s) where
  module _ {starts entries : List ℕ} {i j : ℕ} (l : BodyLeft (sure_at P k s₀) starts entries i j) (inside : j < body_end starts entries i) (e : Entry) (q : entry_is e ≡ entry_at entries j)
      (f : Finding) (v : Visited P k s s' (sure_at P k s (entry_is e)) (may_at P k s (entry_is e)) f) where
    pub body_goes_on : is_holds f ≡ true → Going P k s₀ s' × BodyLeft (sure_at P k s₀) starts entries i (j + 1)
    body_goes_on h = let next = after_holds f g v h in (next.0, body_more l inside (ap (sure_at P k s₀) (sym q) ∙ sure_at_lem g (entry_is e) next.1))

    pub body_ends : is_holds f ≡ false → Visited P k s₀ s' (every (sure_at P k s₀) (body_of starts entries i)) (every (may_at P k s₀) (body_of starts entries i)) f
    body_ends n = ends_with f g v (λ h. absurd (clash h n)) (λ _ m. body_one l (may_at P k s₀) inside (ap (may_at P k s₀) (sym q) ∙ may_at_lem g (entry_is e) m))

  module _ {first rules starts entries : List ℕ} {a p : ℕ} (l : RulesLeft (may_at P k s₀) first rules starts entries a p) (inside : p < rules_end first rules a) (i : ℕ) (q : i ≡ get_or rules p 0)
      (f : Finding) (v : Visited P k s s' (every (sure_at P k s) (body_of starts entries i)) (every (may_at P k s) (body_of starts entries i)) f) where
    pub rules_go_on : is_fails f ≡ true → Going P k s₀ s' × RulesLeft (may_at P k s₀) first rules starts entries a (p + 1)
    rules_go_on h =
        let next = after_fails f g v h in
        (next.0, rules_more l inside (ap (λ (r : ℕ). every (may_at P k s₀) (body_of starts entries r)) (sym q) ∙ may_all g (body_of starts entries i) next.1))

    pub rules_end_lem : is_fails f ≡ false → Visited P k s₀ s' (supported_by first rules starts entries (sure_at P k s₀) a) (supported_by first rules starts entries (may_at P k s₀) a) f
    rules_end_lem n =
        ends_with f g v (λ _ m. rules_one l (sure_at P k s₀) inside (ap (λ (r : ℕ). every (sure_at P k s₀) (body_of starts entries r)) (sym q) ∙ sure_all g (body_of starts entries i) m))
        (λ h. absurd (clash h n))
