use borrow.Author.Rules.{rules}
use native.Mathlib.Omega.{arith}
use mathlib.Core.Path.{◌∙◌, ap}
use Rattle.wfsx.specs.Sets.{Set, ◌∖◌}
use Rattle.litset.specs.Words.{set_of}
use Rattle.std.specs.Prelude.{None}
use Rattle.litset.proofs.Words.{member_room}
use Rattle.reach.proofs.Names.{lowest_of}
use Rattle.reach.proofs.Placing.{putting_start, putting_end, place, fewer, putting_more}
use Rattle.reach.proofs.put_names.Goals as goal

pub loop-k-init : goal.loop-k-init
loop-k-init c = (search rules, putting_start _ _ _ _ _ c.requires)

pub shape_of-name-in-None : goal.shape_of-name-in-None
shape_of-name-in-None c = c.loop-k.invariant.1.size

pub shape_of-numbers-in-None : goal.shape_of-numbers-in-None
shape_of-numbers-in-None c =
    let fits = c.loop-k.invariant.1.fits in
    let first = c.requires.alike in
    omega (arith, fits.alike, first, c.loop-k.invariant.1.size)

pub returns-in-None : goal.returns-in-None
returns-in-None c = putting_end _ _ _ _ _ _ _ _ _ c.loop-k.invariant.1 (lowest_of _ (member_room _ c.loop-k.invariant.0) _ c.lowest_both.ensures None c.in-None.is)

pub overflow_cast-name : goal.overflow_cast-name
overflow_cast-name c = let small = (lowest_of _ (member_room _ c.loop-k.invariant.0) _ c.lowest_both.ensures _ c.in-Some.is).2 in search rules

pub offset_bounds-name-p : goal.offset_bounds-name-p
offset_bounds-name-p c = let here = (place _ _ _ _ _ _ _ _ _ c.loop-k.invariant.1 _ (lowest_of _ (member_room _ c.loop-k.invariant.0) _ c.lowest_both.ensures _ c.in-Some.is)) in let size = c.loop-k.invariant.1.size in search rules

pub bounds-name-p : goal.bounds-name-p
bounds-name-p c = (place _ _ _ _ _ _ _ _ _ c.loop-k.invariant.1 _ (lowest_of _ (member_room _ c.loop-k.invariant.0) _ c.lowest_both.ensures _ c.in-Some.is))

pub overflow_cast-numbers : goal.overflow_cast-numbers
overflow_cast-numbers c = let small = c.requires.small in search rules

pub offset_bounds-numbers-p : goal.offset_bounds-numbers-p
offset_bounds-numbers-p c = let here = (place _ _ _ _ _ _ _ _ _ c.loop-k.invariant.1 _ (lowest_of _ (member_room _ c.loop-k.invariant.0) _ c.lowest_both.ensures _ c.in-Some.is)) in let size = c.loop-k.invariant.1.size in search rules

pub bounds-numbers-p : goal.bounds-numbers-p
bounds-numbers-p c = omega (arith, (place _ _ _ _ _ _ _ _ _ c.loop-k.invariant.1 _ (lowest_of _ (member_room _ c.loop-k.invariant.0) _ c.lowest_both.ensures _ c.in-Some.is)), c.loop-k.invariant.1.fits.alike)

pub overflow_add-p : goal.overflow_add-p
overflow_add-p c = let here = (place _ _ _ _ _ _ _ _ _ c.loop-k.invariant.1 _ (lowest_of _ (member_room _ c.loop-k.invariant.0) _ c.lowest_both.ensures _ c.in-Some.is)) in let size = c.loop-k.invariant.1.size in search rules

pub with_name-requires : goal.with_name-requires
with_name-requires c = (lowest_of _ (member_room _ c.loop-k.invariant.0) _ c.lowest_both.ensures _ c.in-Some.is).2

pub loop-k-smaller : goal.loop-k-smaller
loop-k-smaller c =
    fewer _ _ _ _ _ _ _ _ _ c.loop-k.invariant.1 _ (lowest_of _ (member_room _ c.loop-k.invariant.0) _ c.lowest_both.ensures _ c.in-Some.is) _ _ c.empty.ensures
    (c.difference-left.ensures ∙ ap (λ (S : Set). set_of c.loop-k.left.words ∖ S) c.with_name.ensures)

pub loop-k-preserved : goal.loop-k-preserved
loop-k-preserved c = (
  search rules,
  putting_more _ _ _ _ _ _ _ _ _ c.loop-k.invariant.1 _ (lowest_of _ (member_room _ c.loop-k.invariant.0) _ c.lowest_both.ensures _ c.in-Some.is) _ _ c.empty.ensures
      (c.difference-left.ensures ∙ ap (λ (S : Set). set_of c.loop-k.left.words ∖ S) c.with_name.ensures),
)
