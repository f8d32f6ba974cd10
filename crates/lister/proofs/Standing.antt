-- With M, N, the contradictory names and the rounds of a book's rules and the facts in the place of its three sets and its number, the listing by sets is
-- the listing of documents 01 and 02. Of the third set the literals of the names matter alone.
use mathlib.Core.Path.{◌≡◌, refl, ap, ap₂}
use mathlib.Core.List.{List, [], ◌∷◌, ◌++◌}
use Prim.Native.Nat.{ℕ, suc, ◌+◌, ◌*◌, ◌<◌}
use native.Mathlib.Omega.{arith}
use lib.ListN.{length}
use Rattle.wfsx.specs.Sets.{Set, members}
use Rattle.wfsx.specs.Program.{Rule}
use Rattle.wfsx.specs.Model.{M, N}
use Rattle.wfsx.specs.Rounds.{rounds}
use Rattle.wfsx.specs.Reach.{name_of}
use Rattle.wfsx.specs.ContradictoryNames.{contradictory_names}
use Rattle.litset.specs.Words.{capacity, clash_in}
use Rattle.std.specs.Prelude.{Option}
use Rattle.book.specs.Book.{program}
use Rattle.fixpoint.proofs.Published.{verdict_same}
use Rattle.lister.specs.Listing.{digits, line, words_of, name_lines, header_by, listing_by, listing_by_sets, listing_of}

-- lines with the same words are the same
lines_same : (w x : ℕ → List ℕ) (k : ℕ) (names : List (List ℕ)) → ((A : ℕ) → A < 2 * (k + length names) → w A ≡ x A) → name_lines w k names ≡ name_lines x k names
unfolding name_lines
lines_same w x k [] same = refl
lines_same w x k (name ∷ names) same =
    ap₂ (λ (a b : List ℕ). a ++ b)
    (ap₂ (λ (a b : List ℕ). line (digits k) (name ∷ a ∷ b ∷ [])) (same (2 * k) (omega arith)) (same (2 * k + 1) (omega arith)))
    (lines_same w x (suc k) names (λ A h. same A (omega arith)))

-- the listing by its header and the words of its program
pub listing_by_lem : (names : List (List ℕ)) (rules : List Rule) (facts : Set)
    → let P = program rules facts in listing_of names rules facts ≡ listing_by names (length rules) (length (members capacity facts)) (rounds P) (words_of P) (clash_in (M P))
unfolding listing_of
listing_by_lem names rules facts = refl

module _ (names : List (List ℕ)) (rules : List Rule) (facts T U C : Set) (k : ℕ) where
  pub listing_stands : T ≡ M (program rules facts) → U ≡ N (program rules facts)
      → ((A : ℕ) → A < 2 * length names → C A ≡ contradictory_names (program rules facts) (name_of A)) → k ≡ rounds (program rules facts)
      → listing_by_sets names rules facts T U C k ≡ listing_of names rules facts
  unfolding listing_by_sets listing_of
  listing_stands t u c n =
      let P = program rules facts in
      ap₂ (λ (a b : List ℕ). a ++ b)
      (ap₂ (λ (j : ℕ) (clash : Option ℕ). header_by names (length rules) (length (members capacity facts)) j clash) n (ap clash_in t))
      (lines_same _ (words_of P) 0 names (λ A h. rw (c A (omega arith), verdict_same P T U t u A) refl))
