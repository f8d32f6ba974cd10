-- What the calls that read say where there is a book, and of a literal of it.
use mathlib.Core.Path.{◌≡◌, refl, ◌∙◌}
use mathlib.Core.Bool.{false, cond}
use mathlib.Core.List.{List}
use Prim.Native.Nat.{ℕ, ◌≤◌, ◌<◌}
use lib.ListN.{length}
use borrow.Author.Tests.{le-leb, lt-leb}
use Rattle.wfsx.specs.Sets.{Set, ◌∈◌}
use Rattle.wfsx.specs.Program.{Entry}
use Rattle.wfsx.specs.Model.{Verdict}
use Rattle.wfsx.specs.Trees.{Tree, answer}
use Rattle.litset.specs.Words.{clash_in}
use Rattle.fixpoint.specs.Result.{verdict_in}
use Rattle.lesson.specs.State.{BookState, State, program_in, none_loaded, in_book, gives, refused, search_says, verdict_says, is_clash, model_says, listing_says}
use Rattle.lesson.proofs.Order.{loaded_says, inside, given_inside, some_book}

pub verdict_inside : (b : BookState) (T U C : Set) (A : ℕ) → A ∈ in_book b → verdict_says b T U C A ≡ cond (C A) (refused 24) (gives (verdict_in T U A))
unfolding verdict_says
verdict_inside b T U C A i = inside b A _ (some_book b A i) i

-- a verdict is given of a literal of the book
pub verdict_given : (b : BookState) (T U C : Set) (A : ℕ) (v : Verdict) → verdict_says b T U C A ≡ gives v → A ∈ in_book b
unfolding verdict_says
verdict_given b T U C A v e = (given_inside b A _ v e).1

pub search_inside : (d : State) (A : ℕ) (k : Tree) (question : Entry) → A ∈ in_book d.book → search_says d A k question ≡ gives (answer (program_in d) k question)
unfolding search_says
search_inside d A k question i = inside d.book A _ (some_book d.book A i) i

module _ (b : BookState) (e : none_loaded b ≡ false) where
  pub model_loaded : (T : Set) → model_says b T ≡ gives (is_clash (clash_in T))
  unfolding model_says
  model_loaded T = loaded_says b _ e

  module _ (bytes buffer : List ℕ) where
    pub listing_fits : length bytes ≤ length buffer → listing_says b bytes buffer ≡ gives (length bytes)
    unfolding listing_says
    listing_fits h = loaded_says b _ e ∙ rw (le-leb (length bytes) (length buffer) h) refl

    pub listing_short : length buffer < length bytes → listing_says b bytes buffer ≡ refused 25
    unfolding listing_says
    listing_short h = loaded_says b _ e ∙ rw (lt-leb (length bytes) (length buffer) h) refl
