use lib.Bits.{bit_or}
use Rattle.litset.proofs.Words.{Joined}
use Rattle.litset.proofs.union_of.Given as goal

abbrev pub invariant-loop-i : goal.invariant-loop-i
invariant-loop-i g l = Joined bit_or l.initial.word-items l.b l.word-items l.i
