-- `add_heads`: the pass over all rules is the pass over those left, from the set so far.
use Rattle.litset.specs.Words.{set_of}
use Rattle.fixpoint.proofs.Tables.{Going}
use Rattle.fixpoint.proofs.Numbered.add_heads.Given as goal

abbrev pub invariant-loop-n : goal.invariant-loop-n
invariant-loop-n l =
    Going l.self.heads.now l.self.starts.now l.self.entries.now l.self.numbers.now (set_of l.initial.done.words) (set_of l.s.words) (set_of l.initial.y.words)
    (set_of l.y.words) (set_of l.done.words) l.n-index
