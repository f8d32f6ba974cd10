-- Demand 3: after every list of calls the search says yes exactly where the model of the list's own book and facts has it so. The desk means what
-- the list leaves, the search's contract gives the answer of the pruned trees over it, and the trees agree with the model.
use mathlib.Core.Path.{◌≡◌, refl, sym, ◌∙◌, ap}
use mathlib.Core.Bool.{Bool, true, false, not, true≢false}
use mathlib.Core.Logic.{◌↔◌}
use borrow.Author.Tests.{not-true}
use mathlib.Core.List.{List}
use Prim.Native.Nat.{ℕ}
use Rattle.wfsx.specs.Sets.{◌∈◌}
use Rattle.wfsx.specs.Program.{Program}
use Rattle.wfsx.specs.Trees.{Tree, T, TU, answer}
use Rattle.wfsx.proofs.Agreement.{agreement}
use Rattle.search.specs.Questions.{question_of}
use Rattle.std.specs.Prelude.{Result}
use Rattle.lesson.specs.State.{told, State, in_book, program_in, gives, Said, search_says}
use Rattle.lesson.specs.Calls.{Searches}
use Rattle.lesson.specs.declared.Refusal.{Refusal}
use Rattle.lesson.proofs.Order.{given_same}
use Rattle.lesson.proofs.WithBook.{search_inside}
use Rattle.desk.specs.Calls.{Fresh}
use Rattle.desk.specs.Runs.{Call, left, Run, IsDue, Due}
use Rattle.desk.specs.declared.Desk.{Desk}
use Rattle.desk.proofs.Left.{left_means}

-- a search whose answer is the test b says yes exactly where b is true
due_by : (P : Program) (k : Tree) (default : Bool) (A : ℕ) (said : Said Bool) (b : Bool) → said ≡ gives b → (b ≡ true) ↔ IsDue P k default A → Due P k default A said
due_by P k default A said true e i =
    record { yes_exactly = (λ h. i.0 refl, λ h. e); else_no = λ h. absurd (h (i.0 refl)) }
due_by P k default A said false e i =
    record { yes_exactly = (λ h. absurd (true≢false (sym (given_same false true (sym e ∙ h)))), λ h. absurd (true≢false (sym (i.1 h)))); else_no = λ h. e }

same_true : {a b : Bool} → a ≡ b → (a ≡ true) ↔ (b ≡ true)
same_true e = (λ h. sym e ∙ h, λ h. e ∙ h)

not_same : {a b : Bool} → a ≡ not b → (a ≡ true) ↔ (b ≡ false)
not_same {a} {b} e = (λ h. not-true b (sym e ∙ h), λ h. e ∙ ap not h)

answer_due : (P : Program) (k : Tree) (default : Bool) (A : ℕ) → (answer P k (question_of A default) ≡ true) ↔ IsDue P k default A
answer_due P T false A = same_true (agreement P A).0
answer_due P TU false A = same_true (agreement P A).1
answer_due P T true A = not_same (agreement P A).2
answer_due P TU true A = not_same (agreement P A).3

pub demand3 : (cs : List Call) (start k : Desk) → Fresh start → Run start cs k → (A : ℕ) → A ∈ in_book (left cs).book → (default : Bool) (t : Tree) (r : Result Bool Refusal)
    → Searches k.shelf k.lesson A t (question_of A default) r → Due (program_in (left cs)) t default A (told r)
demand3 cs start k f run A i default t r h =
    let d = left cs in
    let said : told r ≡ gives (answer (program_in d) t (question_of A default)) =
    h.says ∙ ap (λ (e : State). search_says e A t (question_of A default)) (left_means cs start k f run) ∙ search_inside d A t (question_of A default) i in
    due_by (program_in d) t default A (told r) _ said (answer_due (program_in d) t default A)
