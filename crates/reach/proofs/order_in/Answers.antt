use borrow.Author.Rules.{rules}
use mathlib.Core.Path.{sym, ◌∙◌}
use Rattle.truth.proofs.Truth.{clash}
use Rattle.reach.proofs.Listing.{listing_start, listing_waits, listing_over, listing_end, some_found, listing_fits, listing_less, listing_more}
use Rattle.reach.proofs.order_in.Goals as goal

pub loop-table-init : goal.loop-table-init
loop-table-init c = listing_start _ _ c.requires _ _ _ c.names_below-left.ensures c.empty-stuck.ensures c.empty-watch.ensures

pub returns-then-equal : goal.returns-then-equal
returns-then-equal c =
    let s = c.loop-table.invariant in
    listing_end _ _ _ _ _ _ _ _ _ s c.requires
    (listing_over _ _ _ _ _ _ _ _ _ s c.requires _ (c.next_group-next.ensures.is _ _ _ (listing_waits _ _ _ _ _ _ _ _ _ c.loop-table.invariant c.requires _ c.reach_table-table.ensures) c.loop-table.invariant.waiting) (c.equal.ensures.0 c.if-equal.true ∙ c.empty.ensures))

pub put_names-at-requires : goal.put_names-at-requires
put_names-at-requires c =
    let f = (some_found _ _ _ _ _ _ _ _ _ c.loop-table.invariant c.requires _ (c.next_group-next.ensures.is _ _ _ (listing_waits _ _ _ _ _ _ _ _ _ c.loop-table.invariant c.requires _ c.reach_table-table.ensures) c.loop-table.invariant.waiting) (λ e. clash (c.equal.ensures.1 (e ∙ sym c.empty.ensures)) c.if-equal.false)) in
    listing_fits _ _ _ _ _ _ _ _ _ c.loop-table.invariant c.requires f.leader f.comes f.lowest _ f.names_are

pub overflow_add-groups : goal.overflow_add-groups
overflow_add-groups c =
    let few = c.loop-table.invariant.few in
    let total = c.loop-table.invariant.total in
    let most = c.requires in
    search rules

pub loop-table-smaller : goal.loop-table-smaller
loop-table-smaller c =
    let f = (some_found _ _ _ _ _ _ _ _ _ c.loop-table.invariant c.requires _ (c.next_group-next.ensures.is _ _ _ (listing_waits _ _ _ _ _ _ _ _ _ c.loop-table.invariant c.requires _ c.reach_table-table.ensures) c.loop-table.invariant.waiting) (λ e. clash (c.equal.ensures.1 (e ∙ sym c.empty.ensures)) c.if-equal.false)) in
    listing_less _ _ _ _ _ _ _ _ _ c.loop-table.invariant c.requires f.leader f.comes f.lowest _ f.names_are _ _ _ c.put_names-at.ensures

pub loop-table-preserved : goal.loop-table-preserved
loop-table-preserved c =
    let f = (some_found _ _ _ _ _ _ _ _ _ c.loop-table.invariant c.requires _ (c.next_group-next.ensures.is _ _ _ (listing_waits _ _ _ _ _ _ _ _ _ c.loop-table.invariant c.requires _ c.reach_table-table.ensures) c.loop-table.invariant.waiting) (λ e. clash (c.equal.ensures.1 (e ∙ sym c.empty.ensures)) c.if-equal.false)) in
    let s = c.loop-table.invariant in
    listing_more _ _ _ _ _ _ _ _ _ s c.requires f.leader f.comes f.lowest _ f.names_are _ _ _ c.put_names-at.ensures _ _ _ _
    c.difference-left.ensures (c.next_group-next.ensures.noted.by _ _ _ (listing_waits _ _ _ _ _ _ _ _ _ c.loop-table.invariant c.requires _ c.reach_table-table.ensures) s.waiting) c.release-stuck.ensures
