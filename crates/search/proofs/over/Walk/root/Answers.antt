-- With nothing above it, what a tree is sure of and what may be are the same.
use Rattle.std.proofs.Common.{refl, subst}
use Rattle.wfsx.specs.Trees.{T}
use Rattle.search.specs.declared.Tree.{Tree}
use Rattle.search.specs.Walk.{State, program_in, coded, Ready, TuSearch}
use Rattle.search.proofs.Children.{ready_T}
use Rattle.search.proofs.Questions.{first_ready, root_T, root_TU, root_visits}
use Rattle.search.proofs.over.Walk.root.Goals as goal

pub t_node-holds-requires : goal.t_node-holds-requires
t_node-holds-requires c =
    let start : Ready (program_in c.args.self.now) T (coded c.blank-s.result) 0 = rw c.blank-s.ensures (first_ready _).0 in
    (c.requires, ready_T Tree.T start refl _)

pub tu_search-holds-requires : goal.tu_search-holds-requires
tu_search-holds-requires c = (c.requires, rw c.blank-s.ensures (first_ready _).0)

pub returns-in-T : goal.returns-in-T
returns-in-T c =
    let start = first_ready (program_in c.args.self.now) in
    let walked = rw c.blank-s.ensures at c.t_node-holds.ensures in
    (root_T _ _ start.1 _ c.in-T.is walked, root_visits start.0 walked.settled.paid)

pub returns-in-Tu : goal.returns-in-Tu
returns-in-Tu c =
    let start = first_ready (program_in c.args.self.now) in
    let walked = subst (λ (s : State). TuSearch (program_in c.args.self.now) s (coded c.tu_search-holds.new.s) c.args.a c.tu_search-holds.result) c.blank-s.ensures c.tu_search-holds.ensures in
    (root_TU _ _ start.1 _ c.in-Tu.is walked, root_visits start.0 walked.paid)
