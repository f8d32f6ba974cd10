-- Every model call of a run gives the number of rounds, which is the least k with I(k) = I(k + 1) of the list's program, and the listing has it as a field.
use mathlib.Core.Path.{◌≡◌, refl}
use mathlib.Core.List.{List}
use Rattle.wfsx.specs.Rounds.{rounds}
use Rattle.wfsx.proofs.Rounds.{rounds_are}
use Rattle.lister.specs.Listing.{digits}
use Rattle.lesson.specs.State.{BookState, unloaded, loaded_with, State, program_in, listing_in}
use Rattle.lesson.specs.Calls.{GivesModel}
use Rattle.lesson.specs.Conditions.{NoBook}
use Rattle.std.specs.Prelude.{Result, Ok}
use Rattle.lesson.specs.declared.Refusal.{Refusal}
use Rattle.lesson.specs.declared.WholeModel.{WholeModel}
use Rattle.lesson.proofs.Sound.{rounds_in_heads, rounds_in_book, rounds_in_names}
use Rattle.desk.specs.Calls.{Fresh}
use Rattle.desk.specs.Runs.{Call, left, Run}
use Rattle.desk.specs.Spelling.{field_at}
use Rattle.desk.specs.Rounds.{RoundsDue}
use Rattle.desk.specs.declared.Desk.{Desk}
use Rattle.desk.proofs.Exists.{left_sound}
use Rattle.desk.proofs.Answers.{model_due}
use Rattle.desk.proofs.Spelling.{rounds_listed}

-- field 4 of the header, whichever header it is
listed : (cs : List Call) → (NoBook (left cs) → ⊥) → field_at (listing_in (left cs)) 0 4 ≡ digits (rounds (program_in (left cs)))
listed cs some = go (left cs).book refl
  where
    d : State
    d = left cs

    go : (b : BookState) → (left cs).book ≡ b → field_at (listing_in d) 0 4 ≡ digits (rounds (program_in d))
    go unloaded e = absurd (some e)
    go (loaded_with names rules) e = rounds_listed cs names rules e

pub rounds_due : (cs : List Call) (start k : Desk) → Fresh start → Run start cs k → (NoBook (left cs) → ⊥)
    → (r : Result WholeModel Refusal) → GivesModel k.shelf k.lesson r → (m : WholeModel) × (r ≡ Ok m) × RoundsDue (left cs) m.model.rounds
rounds_due cs start k f run some r h =
    let P = program_in (left cs) in
    let due = model_due cs start k f run some r h in (
      due.given,
      due.is_given,
      rw due.model_is.rounds
          (record {
            least = rounds_are P;
            by_heads = rounds_in_heads (left cs) (left_sound cs);
            by_literals = rounds_in_book (left cs) (left_sound cs);
            by_names = rounds_in_names (left cs) (left_sound cs);
            listed = listed cs some;
          }),
    )
