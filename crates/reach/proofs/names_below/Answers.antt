use native.Mathlib.Omega.{arith}
use mathlib.Core.Path.{◌≡◌, ◌∙◌, ap}
use Prim.Native.Nat.{ℕ}
use Rattle.wfsx.specs.Reach.{literals_of}
use Rattle.reach.specs.Table.{with_name, below}
use Rattle.reach.proofs.Names.{below_zero, below_next}
use Rattle.reach.proofs.names_below.Goals as goal

pub loop-k-init : goal.loop-k-init
loop-k-init c = c.empty-s.ensures ∙ below_zero

pub loop-k-preserved : goal.loop-k-preserved
loop-k-preserved c =
    let k = c.loop-k.k in
    c.with_name-s.ensures ∙ ap (with_name k) c.loop-k.invariant ∙ below_next k

pub returns : goal.returns
returns c =
    let all : c.loop-k.k ≡ c.args.names = omega arith in
    c.loop-k.invariant ∙ ap (λ (k : ℕ). literals_of (below k)) all
