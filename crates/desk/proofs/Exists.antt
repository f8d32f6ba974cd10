-- Every list of calls has a run that begins on a fresh desk. So what holds of all that runs leave holds of all that lists leave.
use mathlib.Core.Path.{refl}
use mathlib.Core.List.{List}
use mathlib.Core.Logic.{◌↔◌}
use Prim.Native.Nat.{ℕ}
use Rattle.wfsx.specs.Sets.{◌∈◌, ◌is_in◌, members}
use Rattle.wfsx.proofs.Members.{members_are}
use Rattle.litset.specs.Words.{capacity}
use Rattle.book.specs.Book.{no_book}
use Rattle.lesson.specs.State.{in_force}
use Rattle.lesson.proofs.Sound.{Sound, book_in_room}
use Rattle.lesson.proofs.Exists.{begin_exists}
use Rattle.calls.proofs.Lists.{run_from}
use Rattle.desk.specs.Calls.{state_of, Fresh}
use Rattle.desk.specs.Runs.{Call, spec_of, left, Run}
use Rattle.desk.specs.declared.Desk.{Desk}
use Rattle.desk.proofs.Laws.{Good}
use Rattle.desk.proofs.LoadLaws.{fresh_good}
use Rattle.desk.proofs.Left.{laws_of, left_means, left_good}

pub run_exists : (cs : List Call) → (start : Desk) × Fresh start × (k : Desk) × Run start cs k
run_exists cs =
    let l = begin_exists no_book in
    let start : Desk = record { shelf = record { loaded = 0; book = no_book }; lesson = l.0 } in
    let f : Fresh start = record { shelf_is = refl; lesson_begins = l.1 } in
    let w = run_from state_of Good spec_of laws_of cs start (fresh_good start f) in
    (start, f, w.0, w.1)

pub left_sound : (cs : List Call) → Sound (left cs)
left_sound cs =
    let w = run_exists cs in
    rw (left_means cs w.0 w.2 w.1 w.3) at (left_good cs w.0 w.2 w.1 w.3).sound

-- every fact in force is among those that become rules: none is past the capacity
pub facts_listed : (cs : List Call) (A : ℕ) → (A is_in members capacity (in_force (left cs).own)) ↔ (A ∈ in_force (left cs).own)
facts_listed cs A =
    let s = left_sound cs in
    let are = members_are capacity (in_force (left cs).own) A in
    (λ i. (are.0 i).0, λ h. are.1 (h, book_in_room (left cs) s A (s.facts_known A h)))
