use Rattle.std.proofs.Common.{◌≡◌, ℕ, List, map, refl}
use Rattle.std.proofs.Math.ListN.{set}
use Rattle.search.specs.declared.Finding.{Finding}
use Rattle.search.specs.declared.Mark.{Mark}
use Rattle.search.specs.declared.Mark.TheVariants.{Unknown, Held, Shut}
use Rattle.search.specs.Marks.{t_code, u_code, turned_mark, u_left}
use Rattle.search.specs.Walk.{state}
use Rattle.search.proofs.Codes.{code_write, u_turned}
use Rattle.search.proofs.State.leave_u.Goals as goal

holds-there : (f : Finding) (a v : ℕ) (t u u₁ : List Mark) → f ≡ Finding.Holds → u₁ ≡ map (turned_mark Shut Unknown) u
    → state (map t_code t) (map u_code (set u₁ a Held)) v ≡ state (map t_code t) (u_left f a (map u_code u)) v
unfolding u_left
holds-there f a v t u u₁ e q = rw (e, q, code_write u_code (map (turned_mark Shut Unknown) u) a Held, u_turned Shut Unknown u) refl

fails-there : (f : Finding) (a v : ℕ) (t u : List Mark) → f ≡ Finding.Fails
    → state (map t_code t) (map u_code (set u a Shut)) v ≡ state (map t_code t) (u_left f a (map u_code u)) v
unfolding u_left
fails-there f a v t u e = rw (e, code_write u_code u a Shut) refl

waits-there : (f : Finding) (l a v : ℕ) (t u : List Mark) → f ≡ Finding.Waits l
    → state (map t_code t) (map u_code (set u a Unknown)) v ≡ state (map t_code t) (u_left f a (map u_code u)) v
unfolding u_left
waits-there f l a v t u e = rw (e, code_write u_code u a Unknown) refl

pub returns-in-Holds : goal.returns-in-Holds
returns-in-Holds c = holds-there _ _ _ _ _ _ c.in-Holds.is c.turn.ensures

pub returns-in-Fails : goal.returns-in-Fails
returns-in-Fails c = fails-there c.args.f c.args.a c.args.self.now.visits c.args.self.now.t c.args.self.now.u c.in-Fails.is

pub returns-in-Waits : goal.returns-in-Waits
returns-in-Waits c = waits-there c.args.f _ c.args.a c.args.self.now.visits c.args.self.now.t c.args.self.now.u c.in-Waits.is
