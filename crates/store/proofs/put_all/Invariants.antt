-- `put_all`: what is left of s, stored into what there is from the next place on, is the whole stored.
use Rattle.std.proofs.Common.{◌≡◌, ◌+◌, drop}
use Rattle.std.proofs.lemmas.List.Edits.{sets}
use Rattle.store.proofs.put_all.Given as goal

abbrev pub invariant-loop-i : goal.invariant-loop-i
invariant-loop-i l = sets l.t (l.at + l.i) (drop l.i l.s) ≡ sets l.initial.t l.at l.s
