-- Rules for names that a name does not reach can't alter its verdicts: what a verdict call says is a matter of M and N on the reached names and of which of
-- these are contradictory. And the listing shows for each literal what the verdict call says.
use mathlib.Core.Path.{◌≡◌, refl, sym, ap, ◌∙◌}
use mathlib.Core.Bool.{Bool, true, false, cond}
use mathlib.Core.Logic.{◌⊎◌, inl, inr}
use mathlib.Core.List.{List, [], ◌∷◌}
use Prim.Native.Nat.{ℕ, ◌+◌, ◌*◌, ◌/◌, ◌%◌}
use native.Mathlib.Omega.{arith}
use lib.ListN.{get_or}
use Rattle.wfsx.specs.Sets.{◌∈◌}
use Rattle.wfsx.specs.Program.{Program}
use Rattle.wfsx.specs.Model.{verdict}
use Rattle.wfsx.specs.Reach.{name_of, name_for, Reaches, reach}
use Rattle.wfsx.specs.ContradictoryNames.{contradictory_names}
use Rattle.wfsx.proofs.Program.{of_name}
use Rattle.wfsx.proofs.Reach.{reach_is, reach_itself}
use Rattle.wfsx.proofs.Relevance.{Has, verdict_unaltered}
use Rattle.wfsx.proofs.ContradictoryNames.{contradictory_unaltered}
use Rattle.lister.specs.Listing.{contradictory_word, verdict_word, words_of, verdict_fields}
use Rattle.std.specs.Prelude.{Result}
use Rattle.fixpoint.specs.Result.{verdict_is}
use Rattle.fixpoint.specs.declared.Verdict.{Verdict}
use Rattle.lesson.specs.State.{told_by, BookState, unloaded, loaded_with, State, its_rules, in_book, program_in, listing_in, gives, refused}
use Rattle.lesson.specs.Calls.{GivesVerdict}
use Rattle.lesson.specs.declared.Refusal.{Refusal}
use Rattle.lesson.proofs.Order.{name_inside}
use Rattle.lesson.proofs.Meaning.{reach_of_program, rule_carried}
use Rattle.desk.specs.Calls.{Fresh}
use Rattle.desk.specs.Runs.{Call, left, Run}
use Rattle.desk.specs.Spelling.{field_at}
use Rattle.desk.specs.Reached.{SameFor, shown}
use Rattle.desk.specs.declared.Desk.{Desk}
use Rattle.desk.proofs.Demand2.{due_of, verdict_said_lem}
use Rattle.desk.proofs.Spelling.{line_listed}

-- ---- the same rules for the reached names

module _ (d e : State) (n : ℕ) (same : SameFor n d e) where
  reached_by : (k : ℕ) → k ∈ reach (program_in d) n → Reaches (its_rules d.book) n k
  reached_by k w = (reach_is (its_rules d.book) n k).0 (rw (reach_of_program d n) at w)

  has : Has (reach (program_in d) n) (program_in e) (program_in d)
  has r w = let reached = reached_by (name_for r) w in rule_carried d e r (same.rules r reached).0 (λ h. sym (same.facts r.head reached) ∙ h)

  lacks : Has (reach (program_in d) n) (program_in d) (program_in e)
  lacks r w = let reached = reached_by (name_for r) w in rule_carried e d r (same.rules r reached).1 (λ h. same.facts r.head reached ∙ h)

  due_same : (A : ℕ) → name_of A ≡ n → due_of (program_in d) A ≡ due_of (program_in e) A
  due_same A q =
      rw (q, contradictory_unaltered (program_in d) (program_in e) n has lacks, verdict_unaltered (program_in d) (program_in e) n has lacks A (rw q (reach_itself (program_in d) n))) refl

-- two lists whose books have the same rules, and which leave the same facts, for the names that a literal's name reaches have the same said of it
pub unreached_unaltered : (cs ds : List Call) (start k begin m : Desk) → Fresh start → Run start cs k → Fresh begin → Run begin ds m
    → (A : ℕ) → A ∈ in_book (left cs).book → A ∈ in_book (left ds).book → SameFor (name_of A) (left cs) (left ds)
    → (r q : Result Verdict Refusal) → GivesVerdict k.shelf k.lesson A r → GivesVerdict m.shelf m.lesson A q → told_by verdict_is r ≡ told_by verdict_is q
unreached_unaltered cs ds start k begin m f run g ran A i j same r q h l =
    verdict_said_lem cs start k f run A i r h ∙ due_same (left cs) (left ds) (name_of A) same A refl ∙ sym (verdict_said_lem ds begin m g ran A j q l)

-- ---- the listing

-- the word of a literal in the listing is that of what is said of it
mark_shown : (P : Program) (A : ℕ) → words_of P A ≡ shown (due_of P A)
mark_shown P A = go (contradictory_names P (name_of A))
  where
    go : (t : Bool) → cond t contradictory_word (verdict_word (verdict P A)) ≡ shown (cond t (refused 24) (gives (verdict P A)))
    go true = refl
    go false = refl

-- the verdict fields of a line have numbers 2 and 3
field_of : (w : ℕ → List ℕ) (number name : List ℕ) (A : ℕ) → get_or (number ∷ name ∷ verdict_fields w (name_of A)) (2 + A % 2) [] ≡ w A
field_of w number name A = go (of_name A)
  where
    go : (A ≡ 2 * (A / 2)) ⊎ (A ≡ 2 * (A / 2) + 1) → get_or (number ∷ name ∷ verdict_fields w (name_of A)) (2 + A % 2) [] ≡ w A
    go (inl e) = let rest : A % 2 ≡ 0 = omega arith in rw rest (ap w (sym e))
    go (inr e) = let rest : A % 2 ≡ 1 = omega arith in rw rest (ap w (sym e))

-- field 2 or 3 of a name's line has the word of what the verdict call says of the name or of its explicit negation
pub mark_listed : (cs : List Call) (start k : Desk) → Fresh start → Run start cs k → (A : ℕ) → A ∈ in_book (left cs).book
    → (r : Result Verdict Refusal) → GivesVerdict k.shelf k.lesson A r → field_at (listing_in (left cs)) (name_of A + 1) (2 + A % 2) ≡ shown (told_by verdict_is r)
mark_listed cs start k f run A i r h = go (left cs).book refl
  where
    go : (b : BookState) → (left cs).book ≡ b → field_at (listing_in (left cs)) (name_of A + 1) (2 + A % 2) ≡ shown (told_by verdict_is r)
    go unloaded e = let h = name_inside unloaded A (rw e at i) in absurd (omega arith)
    go (loaded_with names rules) e =
        ap (λ (fs : List (List ℕ)). get_or fs (2 + A % 2) []) (line_listed cs names rules e (name_of A) (name_inside (loaded_with names rules) A (rw e at i)))
        ∙ field_of (words_of (program_in (left cs))) _ _ A ∙ mark_shown (program_in (left cs)) A ∙ ap shown (sym (verdict_said_lem cs start k f run A i r h))
