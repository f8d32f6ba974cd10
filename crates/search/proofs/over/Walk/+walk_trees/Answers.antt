-- The walk, as one cycle of calls: each visit leaves and says what the laws have for its way through the code, if the calls below it do,
-- and each call has a smaller falling number (`Falls`).
use Rattle.std.proofs.Common.{◌≡◌, ◌<◌, ◌∙◌, List, map, sym, ap, refl, arith}
use Rattle.search.specs.declared.Mark.{Mark}
use Rattle.search.specs.declared.Mark.TheVariants.{Unknown, Proved, Above, False, Held, Shut, Path}
use Rattle.litset.specs.Words.{capacity}
use Rattle.litset.proofs.Words.{compl_small}
use Rattle.book.proofs.Bodies.{body_over}
use Rattle.index.proofs.Walks.{rules_first, rules_over}
use Rattle.search.specs.Questions.{tree_of}
use Rattle.search.specs.Marks.{t_code, u_code, turned_mark, turned_in, is_holds}
use Rattle.search.specs.Walk.{program_in, coded}
use Rattle.search.proofs.Codes.{code_write, t_read, t_is, t_other, u_is, u_other, u_turned}
use Rattle.search.proofs.Stock.{most_small}
use Rattle.search.proofs.Visits.{going_none, going_ready, going_holds, going_fails}
use Rattle.search.proofs.TNodes.{t_known_holds, t_known_fails, t_bare, t_fact, t_ready, t_leaves}
use Rattle.search.proofs.TuNodes.{u_known_holds, u_known_fails, u_bare, u_leaf, u_fact, u_ready, u_leaves}
use Rattle.search.proofs.Searches.{search_ready, search_holds, search_fails, search_walked, search_opens, search_again}
use Rattle.search.proofs.Falls.{child_size_same, t_falls, tu_falls, search_tu_falls, search_t_falls, T-t_falls, T-search_falls, TU-tu_falls}
use Rattle.search.proofs.Children.{ready_T, ready_TU, positive_small, default_small, T-positive, T-default, TU-positive, TU-default}
use Rattle.search.proofs.Loops.{entry_small, body_goes_on, body_ends, rules_go_on, rules_end_lem}
use Rattle.search.proofs.Questions.{joined_by, headed_is, headed_by}
use Rattle.search.proofs.over.Walk.+walk_trees.Goals as goal

-- the children under a rule

pub all_children-child-f-requires : goal.all_children-child-f-requires
all_children-child-f-requires t c =
    let inv = c.loop-j.invariant in (
      omega (arith, c.decreases, child_size_same c.requires.tables inv.0.walked (tree_of c.args.kind)),
      (entry_small c.args.self.now.book.now.entries c.loop-j.j c.entry_at.result c.entry_at.ensures, going_ready c.requires inv.0),
    )

pub all_children-returns-then-not-holds : goal.all_children-returns-then-not-holds
all_children-returns-then-not-holds t c =
    let inv = c.loop-j.invariant in
    body_ends inv.0 inv.1 (rw c.body_end-end.ensures at c.loop-j-test.true) c.entry_at.result c.entry_at.ensures _ c.child-f.ensures (sym c.holds.ensures ∙ c.if-not-holds.true)

pub all_children-loop-j-preserved : goal.all_children-loop-j-preserved
all_children-loop-j-preserved t c =
    let inv = c.loop-j.invariant in
    body_goes_on inv.0 inv.1 (rw c.body_end-end.ensures at c.loop-j-test.true) c.entry_at.result c.entry_at.ensures _ c.child-f.ensures (sym c.holds.ensures ∙ c.if-not-holds.false)

pub all_children-returns : goal.all_children-returns
all_children-returns t c =
    let inv = c.loop-j.invariant in
    going_holds inv.0 (body_over inv.1 (rw c.body_end-end.ensures at c.loop-j-test.false))

-- a child

pub child-t_node-requires : goal.child-t_node-requires
child-t_node-requires t c =
    let kind = c.in-T-Positive.is-0 in
    (T-t_falls _ _ _ _ c.decreases (ap tree_of kind), (positive_small _ _ c.in-T-Positive.is-1 c.requires.0, ready_T _ c.requires.1 kind _))

pub child-returns-in-T-Positive : goal.child-returns-in-T-Positive
child-returns-in-T-Positive t c =
    rw c.from.ensures (T-positive _ _ _ c.in-T-Positive.is-0 c.in-T-Positive.is-1 _ c.t_node.ensures)

pub child-tu_node-requires : goal.child-tu_node-requires
child-tu_node-requires t c =
    let kind = c.in-Tu-Positive.is-0 in
    (TU-tu_falls _ _ _ _ c.decreases (ap tree_of kind), (positive_small _ _ c.in-Tu-Positive.is-1 c.requires.0, ready_TU _ c.requires.1 kind))

pub child-returns-in-Tu-Positive : goal.child-returns-in-Tu-Positive
child-returns-in-Tu-Positive t c = TU-positive _ _ _ c.in-Tu-Positive.is-0 c.in-Tu-Positive.is-1 _ c.tu_node.ensures

pub child-tu_search-requires : goal.child-tu_search-requires
child-tu_search-requires t c =
    let kind = c.in-T-Default.is-0 in
    (T-search_falls _ _ _ _ c.decreases (ap tree_of kind), (default_small _ _ c.in-T-Default.is-1 c.requires.0, ready_T _ c.requires.1 kind _))

pub child-returns-in-T-Default : goal.child-returns-in-T-Default
child-returns-in-T-Default t c =
    rw c.from-in-T-Default.ensures (T-default _ _ _ c.in-T-Default.is-0 c.in-T-Default.is-1 _ c.tu_search.ensures)

pub child-returns-in-Tu-Default : goal.child-returns-in-Tu-Default
child-returns-in-Tu-Default t c =
    let long = c.args.self.now.sized in
    let entry = c.in-Tu-Default.is-1 in
    let small = default_small _ _ entry c.requires.0 in
    rw (c.leaf.ensures, ← t_read c.args.s.now.t c.in-Tu-Default.b) (TU-default _ _ _ c.in-Tu-Default.is-0 entry small _ (headed_is _ _ _ _ _ long _ small) c.requires.1)

-- the rules of a literal

pub some_rule-loop-p-init : goal.some_rule-loop-p-init
some_rule-loop-p-init t c = (going_none c.requires, rules_first c.rules_start-p.ensures)

pub some_rule-all_children-f-requires : goal.some_rule-all_children-f-requires
some_rule-all_children-f-requires t c =
    let inv = c.loop-p.invariant in
    (omega (arith, c.decreases, child_size_same c.requires.tables inv.0.walked (tree_of c.args.kind)), going_ready c.requires inv.0)

pub some_rule-returns-then-not-fails : goal.some_rule-returns-then-not-fails
some_rule-returns-then-not-fails t c =
    let inv = c.loop-p.invariant in
    rules_end_lem inv.0 inv.1 (rw c.rules_end-end.ensures at c.loop-p-test.true) _ c.rule_at.ensures _ c.all_children-f.ensures (sym c.fails.ensures ∙ c.if-not-fails.true)

pub some_rule-loop-p-preserved : goal.some_rule-loop-p-preserved
some_rule-loop-p-preserved t c =
    let inv = c.loop-p.invariant in
    rules_go_on inv.0 inv.1 (rw c.rules_end-end.ensures at c.loop-p-test.true) _ c.rule_at.ensures _ c.all_children-f.ensures (sym c.fails.ensures ∙ c.if-not-fails.false)

pub some_rule-returns : goal.some_rule-returns
some_rule-returns t c =
    let inv = c.loop-p.invariant in
    going_fails inv.0 (rules_over inv.1 (rw c.rules_end-end.ensures at c.loop-p-test.false))

-- a node of a T-tree

pub t_node-returns-in-Proved : goal.t_node-returns-in-Proved
t_node-returns-in-Proved t c = t_known_holds c.requires.1 _ (t_is c.args.s.now.t c.args.a Proved c.in-Proved.is)

pub t_node-returns-in_default : goal.t_node-returns-in_default
t_node-returns-in_default t c = t_known_fails c.requires.1 _ (t_other c.args.s.now.t c.args.a Unknown c.in_default.not-Unknown) (t_other c.args.s.now.t c.args.a Proved c.in_default.not-Proved)

pub t_node-returns-then-contains : goal.t_node-returns-then-contains
t_node-returns-then-contains t c =
    let long = c.args.self.now.sized in
    let s = coded c.args.s.now in
    rw (code_write t_code c.args.s.now.t c.args.a Proved) (t_fact (joined_by _ _ _ _ _ long) s.t s.u s.visits c.requires.1 _ c.requires.0 (t_is c.args.s.now.t c.args.a Unknown c.in-Unknown.is) (sym c.contains.ensures ∙ c.if-contains.true))

pub t_node-returns-then-not-is_head : goal.t_node-returns-then-not-is_head
t_node-returns-then-not-is_head t c =
    let long = c.args.self.now.sized in
    let headed = headed_by _ _ _ _ _ long _ c.requires.0 _ _ (sym c.if-contains.false ∙ c.contains.ensures) c.is_head.ensures in
    t_bare c.requires.1 _ (headed ∙ c.if-not-is_head.true)

pub t_node-overflow_add-s : goal.t_node-overflow_add-s
t_node-overflow_add-s t c =
    omega (arith, c.requires.1.room, most_small (program_in c.args.self.now))

pub t_node-some_rule-f-requires : goal.t_node-some_rule-f-requires
t_node-some_rule-f-requires t c =
    let long = c.args.self.now.sized in
    let headed = headed_by _ _ _ _ _ long _ c.requires.0 _ _ (sym c.if-contains.false ∙ c.contains.ensures) c.is_head.ensures in
    let zero = t_is c.args.s.now.t c.args.a Unknown c.in-Unknown.is in
    let write = code_write t_code c.args.s.now.t c.args.a Above in
    let s = coded c.args.s.now in (
      rw write (t_falls c.requires.1.tables _ c.requires.0 zero _ _ c.decreases),
      rw write (t_ready (joined_by _ _ _ _ _ long) s.t s.u s.visits c.requires.1 _ c.requires.0 zero (headed ∙ c.if-not-is_head.false)),
    )

pub t_node-returns : goal.t_node-returns
t_node-returns t c =
    let long = c.args.self.now.sized in
    let headed = headed_by _ _ _ _ _ long _ c.requires.0 _ _ (sym c.if-contains.false ∙ c.contains.ensures) c.is_head.ensures in
    let s = coded c.args.s.now in
    let below = coded c.some_rule-f.new.s in
    rw (c.holds.ensures, c.leave_t.ensures) (t_leaves (joined_by _ _ _ _ _ long) s.t s.u s.visits c.requires.1 _ c.requires.0 (t_is c.args.s.now.t c.args.a Unknown c.in-Unknown.is) (headed ∙ c.if-not-is_head.false)
    (sym c.contains.ensures ∙ c.if-contains.false) below.t below.u below.visits _ (rw (code_write t_code c.args.s.now.t c.args.a Above) at c.some_rule-f.ensures) _ _ refl refl)

-- a node of a TU-tree

pub tu_node-returns-in_default : goal.tu_node-returns-in_default
tu_node-returns-in_default t c = u_known_fails c.requires.1 _ (u_other c.args.s.now.u c.args.a Unknown c.in_default.not-Unknown) (u_other c.args.s.now.u c.args.a Held c.in_default.not-Held)

pub tu_node-returns-in-Held : goal.tu_node-returns-in-Held
tu_node-returns-in-Held t c = u_known_holds c.requires.1 _ (u_is c.args.s.now.u c.args.a Held c.in-Held.is)

pub tu_node-returns-then-not-is_head : goal.tu_node-returns-then-not-is_head
tu_node-returns-then-not-is_head t c =
    let long = c.args.self.now.sized in
    let headed = headed_by _ _ _ _ _ long _ c.requires.0 _ _ c.contains-fact.ensures c.is_head.ensures in
    u_bare c.requires.1 _ (headed ∙ c.if-not-is_head.true)

pub tu_node-bounds-s-other : goal.tu_node-bounds-s-other
tu_node-bounds-s-other t c = omega (arith, compl_small _ c.requires.0, c.complement-other.ensures)

pub tu_node-returns-then-not-holds : goal.tu_node-returns-then-not-holds
tu_node-returns-then-not-holds t c =
    let long = c.args.self.now.sized in
    let other : c.complement-other.result < capacity = omega (arith, compl_small _ c.requires.0, c.complement-other.ensures) in
    let says = rw (← t_read c.args.s.now.t c.complement-other.result) at c.leaf-added.ensures in
    rw says (u_leaf c.requires.1 _ c.requires.0 _ c.complement-other.ensures _ (headed_is _ _ _ _ _ long _ other)
    (ap is_holds (sym says) ∙ sym c.holds.ensures ∙ c.if-not-holds.true))

pub tu_node-returns-then-fact : goal.tu_node-returns-then-fact
tu_node-returns-then-fact t c =
    let long = c.args.self.now.sized in
    let other : c.complement-other.result < capacity = omega (arith, compl_small _ c.requires.0, c.complement-other.ensures) in
    let says = rw (← t_read c.args.s.now.t c.complement-other.result) at c.leaf-added.ensures in
    let leaf = ap is_holds (sym says) ∙ sym c.holds.ensures ∙ c.if-not-holds.false in
    u_fact c.requires.1 _ c.requires.0 _ c.complement-other.ensures _ (headed_is _ _ _ _ _ long _ other) (joined_by _ _ _ _ _ long) leaf
    (sym c.contains-fact.ensures ∙ c.if-fact.true)

pub tu_node-overflow_add-s : goal.tu_node-overflow_add-s
tu_node-overflow_add-s t c =
    omega (arith, c.requires.1.room, most_small (program_in c.args.self.now))

pub tu_node-some_rule-f-requires : goal.tu_node-some_rule-f-requires
tu_node-some_rule-f-requires t c =
    let long = c.args.self.now.sized in
    let headed = headed_by _ _ _ _ _ long _ c.requires.0 _ _ c.contains-fact.ensures c.is_head.ensures in
    let zero = u_is c.args.s.now.u c.args.a Unknown c.in-Unknown.is in
    let write = code_write u_code c.args.s.now.u c.args.a Path in
    let s = coded c.args.s.now in (
      rw write (tu_falls c.requires.1.tables _ c.requires.0 zero _ c.decreases),
      rw write (u_ready (joined_by _ _ _ _ _ long) s.t s.u s.visits c.requires.1 _ c.requires.0 zero (headed ∙ c.if-not-is_head.false)),
    )

pub tu_node-returns : goal.tu_node-returns
tu_node-returns t c =
    let long = c.args.self.now.sized in
    let other : c.complement-other.result < capacity = omega (arith, compl_small _ c.requires.0, c.complement-other.ensures) in
    let headed = headed_by _ _ _ _ _ long _ c.requires.0 _ _ c.contains-fact.ensures c.is_head.ensures in
    let says = rw (← t_read c.args.s.now.t c.complement-other.result) at c.leaf-added.ensures in
    let leaf = ap is_holds (sym says) ∙ sym c.holds.ensures ∙ c.if-not-holds.false in
    let s = coded c.args.s.now in
    let below = coded c.some_rule-f.new.s in
    rw c.leave_u.ensures (u_leaves (joined_by _ _ _ _ _ long) s.t s.u s.visits c.requires.1 _ c.requires.0 (u_is c.args.s.now.u c.args.a Unknown c.in-Unknown.is) (headed ∙ c.if-not-is_head.false)
    _ c.complement-other.ensures _ (headed_is _ _ _ _ _ long _ other) leaf (sym c.contains-fact.ensures ∙ c.if-fact.false)
    below.t below.u below.visits _ (rw (code_write u_code c.args.s.now.u c.args.a Path) at c.some_rule-f.ensures) _ refl)

-- the search of the TU-trees

turned-there : (from to : Mark) (marks : List Mark) {marks' : List Mark} → marks' ≡ map (turned_mark from to) marks → map u_code marks' ≡ turned_in (u_code from) (u_code to) (map u_code marks)
turned-there from to marks e = ap (map u_code) e ∙ u_turned from to marks

pub tu_search-tu_node-requires : goal.tu_search-tu_node-requires
tu_search-tu_node-requires t c =
    let inv = c.loop-s.invariant in
    (search_tu_falls c.requires.1.tables inv.walked _ c.decreases, (c.requires.0, search_ready c.requires.1 inv))

pub tu_search-returns-in-Holds : goal.tu_search-returns-in-Holds
tu_search-returns-in-Holds t c = search_holds c.loop-s.invariant _ _ _ _ _ c.in-Holds.is c.tu_node.ensures

pub tu_search-returns-in-Fails : goal.tu_search-returns-in-Fails
tu_search-returns-in-Fails t c = search_fails c.loop-s.invariant _ _ _ _ _ (turned-there Shut False c.tu_node.new.s.u c.turn.ensures) _ c.in-Fails.is c.tu_node.ensures

pub tu_search-t_node-requires : goal.tu_search-t_node-requires
tu_search-t_node-requires t c =
    let inv = c.loop-s.invariant in
    let waits = c.in-Waits.is in
    let node = c.tu_node.ensures in
    let turned = turned-there Shut Unknown c.tu_node.new.s.u c.turn-in-Waits.ensures in
    let opens = search_opens inv _ _ _ _ _ turned _ _ waits node c.requires.1 in
    (search_t_falls c.requires.1.tables (search_walked inv _ _ _ _ _ turned _ _ waits node) _ c.decreases, (opens.1.0, opens.0))

pub tu_search-loop-s-smaller : goal.tu_search-loop-s-smaller
tu_search-loop-s-smaller t c =
    let inv = c.loop-s.invariant in
    let waits = c.in-Waits.is in
    let node = c.tu_node.ensures in
    let turned = turned-there Shut Unknown c.tu_node.new.s.u c.turn-in-Waits.ensures in
    (search_again inv _ _ _ _ _ turned _ _ waits node c.t_node.ensures (search_opens inv _ _ _ _ _ turned _ _ waits node c.requires.1).1.1).1

pub tu_search-loop-s-preserved : goal.tu_search-loop-s-preserved
tu_search-loop-s-preserved t c =
    let inv = c.loop-s.invariant in
    let waits = c.in-Waits.is in
    let node = c.tu_node.ensures in
    let turned = turned-there Shut Unknown c.tu_node.new.s.u c.turn-in-Waits.ensures in
    (search_again inv _ _ _ _ _ turned _ _ waits node c.t_node.ensures (search_opens inv _ _ _ _ _ turned _ _ waits node c.requires.1).1.1).0
