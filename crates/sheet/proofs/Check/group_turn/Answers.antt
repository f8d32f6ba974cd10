use Rattle.std.proofs.Common.{◌≡◌, ◌∙◌, sym, length, arith, rules, Err}
use Rattle.litset.proofs.Words.{member_room}
use Rattle.sheet.specs.Flat.{entry_in}
use Rattle.sheet.proofs.Turns.{group_ends, group_fails, group_goes}
use Rattle.sheet.proofs.Check.group_turn.Goals as goal

pub returns-then-is_ended : goal.returns-then-is_ended
returns-then-is_ended c =
    let A = c.args in
    let g = c.group_of-group.ensures in
    (c.requires.0, group_ends A.self.now.book.now _ (member_room A.self.now.facts.words A.self.now.sized) _ A.self.now.small (entry_in A.self.now.entries.now) (length A.self.now.entries.now) _ _ A.p.next c.requires.0 c.requires.1 g.run g.stops (rw (← g.number) (sym c.is_ended.ensures ∙ c.if-is_ended.true)))

pub returns-in_err-all_pass : goal.returns-in_err-all_pass
returns-in_err-all_pass c =
    let A = c.args in
    let g = c.group_of-group.ensures in
    let e : c.from_residual.result ≡ Err c.in_err-all_pass.field-0.0 = search rules in
    rw e (omega (arith, c.in_err-all_pass.ensures.within, g.run.within), group_fails A.self.now.book.now _ (member_room A.self.now.facts.words A.self.now.sized) _ A.self.now.small (entry_in A.self.now.entries.now) (length A.self.now.entries.now) _ _ A.p.next c.requires.0 c.requires.1 g.run g.stops (rw (← g.number) (sym c.is_ended.ensures ∙ c.if-is_ended.false)) c.union-falses.ensures c.left_open-opened.ensures c.in_err-all_pass.ensures)

pub returns : goal.returns
returns c =
    let A = c.args in
    let g = c.group_of-group.ensures in
    (g.run.above, g.run.within, group_goes A.self.now.book.now _ (member_room A.self.now.facts.words A.self.now.sized) _ A.self.now.small (entry_in A.self.now.entries.now) (length A.self.now.entries.now) _ _ A.p.next c.requires.0 c.requires.1 g.run g.stops (rw (← g.number) (sym c.is_ended.ensures ∙ c.if-is_ended.false)) c.union-falses.ensures c.left_open-opened.ensures c.in_ok-all_pass.ensures)
