-- A pass over the tables of a book: the laws of its loop over the rules with given numbers.
use mathlib.Core.Path.{◌≡◌, refl, sym, ◌∙◌, ap, fun_ext}
use mathlib.Core.Logic.{◌⊎◌, inl, inr}
use mathlib.Core.Bool.{Bool, true, false, not, cond, ◌&&◌, ◌||◌, and-false}
use mathlib.Core.List.{List, ◌∷◌, map}
use Prim.Native.Nat.{ℕ, ◌+◌, ◌≤◌, ◌<◌}
use native.Mathlib.Numerals.{add-one}
use lib.ListN.{length, drop, get_or, drop_of_length-le}
use lib.Seq.{drop-cons}
use Rattle.truth.proofs.Truth.{neither, or_elim}
use Rattle.wfsx.specs.Sets.{Set, ◌∈◌, ◌∉◌, ◌∪◌, add}
use Rattle.wfsx.specs.Program.{Rule}
use Rattle.wfsx.specs.Model.{holds, every}
use Rattle.wfsx.proofs.Sets.{add_∪, add_same}
use Rattle.litset.specs.Words.{with}
use Rattle.litset.proofs.Words.{with_room}
use Rattle.book.specs.Limits.{max_rules}
use Rattle.book.specs.Book.{rows, clamp, head_at, body_of, rule_at, rules_in, rules_numbered, program, program_of}
use Rattle.book.specs.declared.Book.{Book}
use Rattle.book.proofs.Rows.{rows_map}
use Rattle.book.proofs.Heads.{head_below, program_of_lem}
use Rattle.fixpoint.specs.Pass.{pass}

-- ---- the rules of a book

-- they are those with the first numbers
pub book_program : (b : Book) (F : Set) {n : ℕ} {l : List ℕ} → n ≡ clamp max_rules b.rules → l ≡ rows (λ k. k) 0 n
    → program (rules_numbered b.heads b.starts b.entries l) F ≡ program_of b F
book_program b F e f =
    ap (λ (rules : List Rule). program rules F) (ap (map (rule_at b.heads b.starts b.entries)) f ∙ rows_map (rule_at b.heads b.starts b.entries) 0 _ ∙ ap (rules_in b.heads b.starts b.entries) e)
    ∙ sym (program_of_lem b F)

-- ---- one rule

module _ (B S : Set) (r : Rule) (P : List Rule) (X : Set) where
  pub pass_shut : r.head ∈ B → pass (r ∷ P) B S X ≡ pass P B S X
  unfolding pass
  pass_shut b = rw b refl

  pub pass_there : r.head ∈ X → pass (r ∷ P) B S X ≡ pass P B S X
  unfolding pass
  pass_there x = ap (pass P B S) (go (not (B r.head) && every (holds X S) r.body))
    where
      go : (b : Bool) → cond b (add r.head X) X ≡ X
      go true = add_same r.head X x
      go false = refl

  pub pass_fails : every (holds X S) r.body ≡ false → pass (r ∷ P) B S X ≡ pass P B S X
  unfolding pass
  pass_fails e = rw (e, and-false (not (B r.head))) refl

  pub pass_fires : r.head ∉ B → every (holds X S) r.body ≡ true → pass (r ∷ P) B S X ≡ pass P B S (add r.head X)
  unfolding pass
  pass_fires b e = rw (b, e) refl

-- ---- a pass from X₀ has come to X before the rule at place p, and the heads D are passed over at once

pub record Going (heads starts entries numbers : List ℕ) (B S X₀ X D : Set) (p : ℕ) : Type 0 where
  pub same : pass (rules_numbered heads starts entries numbers) B S X₀ ≡ pass (rules_numbered heads starts entries (drop p numbers)) B S X
  pub passed : D ≡ X ∪ B

-- at the start, where the heads that are there already are shut with those of C
pub going_start : {heads starts entries numbers : List ℕ} {S X₀ D : Set} (C : Set) → D ≡ X₀ ∪ C → Going heads starts entries numbers D S X₀ X₀ D 0
going_start {X₀ = X₀} {D} C d = record { same = refl; passed = rw d (fun_ext (λ A. twice (X₀ A) (C A))) }
  where
    twice : (a b : Bool) → (a || b) ≡ (a || (a || b))
    twice true b = refl
    twice false b = refl

module _ {heads starts entries numbers : List ℕ} {B S X₀ X D : Set} {p : ℕ} (g : Going heads starts entries numbers B S X₀ X D p) where
  pub going_end : length numbers ≤ p → X ≡ pass (rules_numbered heads starts entries numbers) B S X₀
  unfolding pass
  going_end h = sym (g.same ∙ rw (drop_of_length-le numbers h) refl)

  -- r is the rule's number
  module _ (more : p < length numbers) {r : ℕ} (here : r ≡ get_or numbers p 0) where
    abbrev later : List Rule
    later = rules_numbered heads starts entries (drop (p + 1) numbers)

    -- what rule r makes of X
    stepped : {Y E : Set} → E ≡ Y ∪ B → pass (rule_at heads starts entries r ∷ later) B S X ≡ pass later B S Y → Going heads starts entries numbers B S X₀ Y E (p + 1)
    stepped d e = record { same = g.same ∙ ap (λ (l : List Rule). pass l B S X) next ∙ e; passed = d }
      where
        next : rules_numbered heads starts entries (drop p numbers) ≡ rule_at heads starts entries r ∷ later
        next = rw (drop-cons numbers p 0 more, here, add-one p) refl

    pub going_fails : every (holds X S) (body_of starts entries r) ≡ false → Going heads starts entries numbers B S X₀ X D (p + 1)
    going_fails e = stepped g.passed (pass_fails B S (rule_at heads starts entries r) _ X e)

    -- h is the head of rule r
    module _ {h : ℕ} (is : h ≡ head_at heads r) where
      in_either : h ∈ D → (head_at heads r ∈ X) ⊎ (head_at heads r ∈ B)
      in_either d = or_elim (X (head_at heads r)) (B (head_at heads r)) (sym (ap (λ (U : Set). U (head_at heads r)) g.passed) ∙ ap D (sym is) ∙ d)

      pub going_passed : h ∈ D → Going heads starts entries numbers B S X₀ X D (p + 1)
      going_passed d = go (in_either d)
        where
          go : (head_at heads r ∈ X) ⊎ (head_at heads r ∈ B) → Going heads starts entries numbers B S X₀ X D (p + 1)
          go (inl x) = stepped g.passed (pass_there B S (rule_at heads starts entries r) _ X x)
          go (inr b) = stepped g.passed (pass_shut B S (rule_at heads starts entries r) _ X b)

      pub going_fires : {Y E : Set} → h ∉ D → every (holds X S) (body_of starts entries r) ≡ true → Y ≡ with h X → E ≡ with h D
          → Going heads starts entries numbers B S X₀ Y E (p + 1)
      going_fires {Y} {E} d e y z = stepped wider (pass_fires B S (rule_at heads starts entries r) _ X free e ∙ ap (pass _ B S) (sym added))
        where
          added : Y ≡ add (head_at heads r) X
          added = y ∙ ap (λ (k : ℕ). with k X) is ∙ with_room (head_at heads r) X (head_below heads r)

          free : head_at heads r ∉ B
          free = (neither (X (head_at heads r)) (B (head_at heads r)) (sym (ap (λ (U : Set). U (head_at heads r)) g.passed) ∙ ap D (sym is) ∙ d)).1

          wider : E ≡ Y ∪ B
          wider =
              z ∙ ap (λ (k : ℕ). with k D) is ∙ with_room (head_at heads r) D (head_below heads r) ∙ ap (add (head_at heads r)) g.passed
              ∙ sym (add_∪ (head_at heads r) X B) ∙ ap (λ (U : Set). U ∪ B) (sym added)
