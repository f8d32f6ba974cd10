-- Proof sheets over lists of calls (document 02, A.3): the check judges them over the list's own book and facts, so a claim that it accepts is so in the M and N
-- of the list's program; and all literals of that program are literals of the book, so the maker writes a sheet for every claim that is so.
use mathlib.Core.Path.{◌≡◌, refl, sym, ◌∙◌, ap, subst}
use mathlib.Core.Bool.{Bool, true≢false}
use mathlib.Core.List.{List}
use mathlib.Core.Logic.{inl, inr}
use Prim.Native.Nat.{ℕ, ◌*◌, ◌≤◌}
use native.Mathlib.Omega.{arith}
use lib.ListN.{length, take, drop}
use Rattle.wfsx.specs.Sets.{◌∈◌}
use Rattle.sheet.specs.Sheet.{accepted, IsSo}
use Rattle.sheet.specs.declared.SheetEntry.{SheetEntry}
use Rattle.maker.specs.declared.Made.{Made}
use Rattle.reader.specs.Conditions.{First}
use Rattle.std.specs.Prelude.{Result}
use Rattle.lesson.specs.State.{State, program_in, none_loaded, in_book, Said, gives, refused, known_in, check_says}
use Rattle.lesson.specs.Calls.{Checks, make_told, Makes}
use Rattle.lesson.specs.Conditions.{make_rows}
use Rattle.lesson.specs.declared.Refusal.{Refusal}
use Rattle.lesson.specs.declared.Unmade.{Unmade}
use Rattle.lesson.proofs.Order.{some_book, literal_below}
use Rattle.lesson.proofs.Sound.{book_in_room}
use Rattle.lesson.proofs.Sheets.{check_sound, make_by, make_wrote}
use Rattle.desk.specs.Calls.{state_of, Fresh}
use Rattle.desk.specs.Runs.{Call, left, Run, CheckDue, MakeDue}
use Rattle.desk.specs.declared.Desk.{Desk}
use Rattle.desk.proofs.Left.{left_means, left_good}
use Rattle.desk.proofs.Exists.{left_sound}

module _ (cs : List Call) (start k : Desk) (f : Fresh start) (run : Run start cs k) (A : ℕ) (truth : Bool) where
  means : state_of k ≡ left cs
  means = left_means cs start k f run

  -- every check of a run, for every claim and all entries
  pub check_due : (es : List SheetEntry) (r : Result (Unit {0}) Refusal) → Checks k.shelf k.lesson A truth es r → CheckDue (left cs) A truth es r
  check_due es r h =
      let says = h.says ∙ ap (λ (d : State). check_says d A truth es) means in
      record {
        says = says;
        sound = λ e. check_sound (left cs) A truth es (λ B i. book_in_room (left cs) (left_sound cs) B ((left_sound cs).facts_known B i)) (sym says ∙ e);
      }

  -- every call of the maker in a run, for a literal of the book
  pub make_due : A ∈ in_book (left cs).book → (lent : List SheetEntry) (r : Result Made Unmade) (after : List SheetEntry) → Makes k.shelf k.lesson A truth lent r after
      → MakeDue (left cs) A truth lent (make_told r) after
  make_due i lent r after h =
      record {
        writes = λ so fits. given so fits (make_told r) turned;
        few = λ n e. (wrote n e).0;
        accepted = λ n e. (wrote n e).1;
        rest = λ n e. (wrote n e).2;
      }
    where
      wrote : (n : ℕ) → make_told r ≡ gives n → (n ≤ 2 * known_in (left cs).book) × (check_says (left cs) A truth (take n after) ≡ accepted) × (drop n after ≡ drop n lent)
      wrote n e =
          subst (λ (d : State). (n ≤ 2 * known_in d.book) × (check_says d A truth (take n after) ≡ accepted) × (drop n after ≡ drop n lent)) means
          (make_wrote k.shelf k.lesson A truth lent r after h n e)

      turned : (n : ℕ) → make_told r ≡ refused n → First n (make_rows (left cs) A truth lent)
      turned n e =
          subst (λ (d : State). First n (make_rows d A truth lent)) means ((make_by k.shelf k.lesson A truth lent r after h (left_good cs start k f run).sound n).0 e)

      -- no condition is met
      given : IsSo (program_in (left cs)) truth A → 2 * known_in (left cs).book ≤ length lent → (said : Said ℕ) → ((n : ℕ) → said ≡ refused n → First n (make_rows (left cs) A truth lent))
          → (n : ℕ) × (said ≡ gives n)
      given so fits (gives n) t = (n, refl)
      given so fits (refused n) t = absurd (none_met (t n refl))
        where
          none_met : First n (make_rows (left cs) A truth lent) → ⊥
          none_met (inl w) = true≢false (sym (ap none_loaded w.1) ∙ some_book (left cs).book A i)
          none_met (inr (b, inl w)) = let below = literal_below (left cs).book A i in let over = w.1 in omega arith
          none_met (inr (b, inr (c, inl w))) = w.1 so
          none_met (inr (b, inr (c, inr (e, inl w)))) = let short = w.1 in omega arith
          none_met (inr (b, inr (c, inr (e, inr (g, w))))) = w
