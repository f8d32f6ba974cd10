-- The walk, as one cycle of calls: each call has a smaller falling number (`Falls`), and each loop goes on from where the call began, with what is left to ask.
use Rattle.std.proofs.Common.{◌+◌}
use Rattle.wfsx.specs.Trees.{T}
use Rattle.book.proofs.Bodies.{BodyLeft}
use Rattle.index.proofs.Walks.{RulesLeft}
use Rattle.search.specs.Questions.{tree_of}
use Rattle.search.specs.Walk.{program_in, coded, left_in, sure_at, may_at}
use Rattle.search.proofs.Visits.{Going}
use Rattle.search.proofs.Falls.{t_size, tu_size, search_size, child_size}
use Rattle.search.proofs.over.Walk.+walk_trees.Given as goal

abbrev pub decreases-all_children : goal.decreases-all_children
decreases-all_children l = child_size (tree_of l.kind) (coded l.s.now).t (coded l.s.now).u + 1

abbrev pub decreases-child : goal.decreases-child
decreases-child l = child_size (tree_of l.kind) (coded l.s.now).t (coded l.s.now).u

abbrev pub decreases-some_rule : goal.decreases-some_rule
decreases-some_rule l = child_size (tree_of l.kind) (coded l.s.now).t (coded l.s.now).u + 2

abbrev pub decreases-t_node : goal.decreases-t_node
decreases-t_node l = t_size (coded l.s.now).t

abbrev pub decreases-tu_node : goal.decreases-tu_node
decreases-tu_node l = tu_size (coded l.s.now).t (coded l.s.now).u

abbrev pub decreases-tu_search : goal.decreases-tu_search
decreases-tu_search l = search_size (coded l.s.now).t

-- the places left are of the rule's body, and each child before them is sure
abbrev pub invariant-all_children-loop-j : goal.invariant-all_children-loop-j
invariant-all_children-loop-j l =
    Going (program_in l.self) (tree_of l.kind) (coded l.initial.s) (coded l.s) × BodyLeft (sure_at (program_in l.self) (tree_of l.kind) (coded l.initial.s)) l.self.book.now.starts l.self.book.now.entries l.i l.j

-- the places left are of the literal's rules, and no rule before them may hold
abbrev pub invariant-some_rule-loop-p : goal.invariant-some_rule-loop-p
invariant-some_rule-loop-p l =
    Going (program_in l.self) (tree_of l.kind) (coded l.initial.s) (coded l.s)
    × RulesLeft (may_at (program_in l.self) (tree_of l.kind) (coded l.initial.s)) l.self.index.now.starts l.self.index.now.rules l.self.book.now.starts l.self.book.now.entries l.a l.p

abbrev pub invariant-tu_search-loop-s : goal.invariant-tu_search-loop-s
invariant-tu_search-loop-s l = Going (program_in l.self) T (coded l.initial.s) (coded l.s)

-- what is left to find in the tables
abbrev pub decreases-tu_search-loop-s : goal.decreases-tu_search-loop-s
decreases-tu_search-loop-s l = left_in (program_in l.self) (coded l.s)
