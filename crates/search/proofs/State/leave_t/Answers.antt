use Rattle.std.proofs.Common.{◌≡◌, ℕ, ◌⊎◌, inl, inr, List, map, refl}
use Rattle.std.proofs.Math.ListN.{set}
use Rattle.search.specs.declared.Finding.{Finding}
use Rattle.search.specs.declared.Mark.{Mark}
use Rattle.search.specs.declared.Mark.TheVariants.{Unknown, Proved, Failed, Held}
use Rattle.search.specs.Marks.{t_code, u_code, turned_mark, t_left, held_left}
use Rattle.search.specs.Walk.{state}
use Rattle.search.proofs.Codes.{code_write, t_turned, u_turned}
use Rattle.search.proofs.State.leave_t.Goals as goal

holds-there : (f : Finding) (a v : ℕ) (t t₁ u u₁ : List Mark) → f ≡ Finding.Holds → t₁ ≡ map (turned_mark Failed Unknown) t → u₁ ≡ map (turned_mark Held Unknown) u
    → state (map t_code (set t₁ a Proved)) (map u_code u₁) v ≡ state (t_left f a (map t_code t)) (held_left f (map u_code u)) v
unfolding t_left held_left
holds-there f a v t t₁ u u₁ e p q =
    rw (e, p, q, code_write t_code (map (turned_mark Failed Unknown) t) a Proved, t_turned Failed Unknown t, u_turned Held Unknown u) refl

fails-there : (f : Finding) (a v : ℕ) (t u : List Mark) → (f ≡ Finding.Fails) ⊎ ((l : ℕ) × (f ≡ Finding.Waits l))
    → state (map t_code (set t a Failed)) (map u_code u) v ≡ state (t_left f a (map t_code t)) (held_left f (map u_code u)) v
unfolding t_left held_left
fails-there f a v t u (inl e) = rw (e, code_write t_code t a Failed) refl
fails-there f a v t u (inr w) = rw (w.1, code_write t_code t a Failed) refl

pub returns-in-Holds : goal.returns-in-Holds
returns-in-Holds c = holds-there _ _ _ _ _ _ _ c.in-Holds.is c.turn.ensures c.turn-in-Holds.ensures

pub returns-in-Fails : goal.returns-in-Fails
returns-in-Fails c = fails-there c.args.f c.args.a c.args.self.now.visits c.args.self.now.t c.args.self.now.u c.in-Fails.is
