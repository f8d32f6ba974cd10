-- What each call of the desk owes: its desks are sound, and the marks of their lessons are those of their programs.
use Rattle.lesson.specs.State.{State}
use Rattle.lesson.specs.Calls.{Standing}
use Rattle.lesson.proofs.Sound.{Sound}
use Rattle.calls.specs.Lists.{CallSpec}
use Rattle.calls.proofs.Lists.{CallLaws}
use Rattle.desk.specs.Calls.{state_of}
use Rattle.desk.specs.declared.Desk.{Desk}

pub record Good (k : Desk) : Type 0 where
  pub sound : Sound (state_of k)
  pub stands : Standing k.shelf k.lesson

abbrev pub DeskLaws : CallSpec Desk State → Type 0
DeskLaws c = CallLaws state_of Good c
