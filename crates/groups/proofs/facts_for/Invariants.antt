-- `facts_for`: the literals of the names passed are in the set. What is left of the facts without those outside it are the names' facts.
use Rattle.litset.specs.Words.{set_of}
use Rattle.groups.proofs.Names.{Marked}
use Rattle.groups.proofs.facts_for.Given as goal

abbrev pub invariant-loop-name : goal.invariant-loop-name
invariant-loop-name l = Marked l.names l.name-index (set_of l.literals.words)
