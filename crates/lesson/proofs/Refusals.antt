-- Refusals and their numbers: a number but 27 tells its refusal, and what a call says where it looks at 20 and 21 first is told by some result.
use mathlib.Core.Path.{◌≡◌, refl, sym, ◌∙◌, ap}
use mathlib.Core.Bool.{Bool, true, false, cond}
use Prim.Native.Nat.{ℕ}
use lib.Dec.{eqb}
use Rattle.std.specs.Prelude.{Result, Ok, Err}
use Rattle.lesson.specs.State.{BookState, none_loaded, in_book, Said, gives, refused, number_of, told_by, told, if_loaded, in_order}
use Rattle.lesson.specs.declared.Refusal.{Refusal}
use Rattle.lesson.specs.declared.Refusal.TheVariants as refusal
use Rattle.lesson.proofs.Order.{given_refused, refused_same, given_same}

-- ---- a number but 27 tells its refusal

numbered : ℕ → Refusal
numbered n =
    cond (eqb n 20) refusal.NoBook
    (cond (eqb n 21) refusal.NotInBook
    (cond (eqb n 22) refusal.AlreadyPutIn
    (cond (eqb n 23) refusal.NotPutIn
    (cond (eqb n 24) refusal.ContradictoryName
    (cond (eqb n 25) refusal.TooShort
    (cond (eqb n 26) refusal.EntryCount refusal.ClaimNotShown))))))

numbered_back : (e : Refusal) → (number_of e ≡ 27 → ⊥) → numbered (number_of e) ≡ e
unfolding numbered
numbered_back refusal.NoBook never = refl
numbered_back refusal.NotInBook never = refl
numbered_back refusal.AlreadyPutIn never = refl
numbered_back refusal.NotPutIn never = refl
numbered_back refusal.ContradictoryName never = refl
numbered_back refusal.TooShort never = refl
numbered_back refusal.EntryCount never = refl
numbered_back (refusal.EntryAt index) never = absurd (never refl)
numbered_back refusal.ClaimNotShown never = refl

pub refusal_same : (e f : Refusal) → number_of e ≡ number_of f → (number_of e ≡ 27 → ⊥) → e ≡ f
refusal_same e f h never = sym (numbered_back e never) ∙ ap numbered h ∙ numbered_back f (λ q. never (h ∙ q))

-- so does what is told
pub told_same : {X : Type 0} (r q : Result X Refusal) → told r ≡ told q → (told r ≡ refused 27 → ⊥) → r ≡ q
told_same (Ok x) (Ok y) e never = ap Ok (given_same x y e)
told_same (Ok x) (Err f) e never = absurd (given_refused x (number_of f) e)
told_same (Err e) (Ok y) h never = absurd (given_refused y (number_of e) (sym h))
told_same (Err e) (Err f) h never = ap Err (refusal_same e f (refused_same _ _ h) (λ q. never (ap refused q)))

-- ---- what is given is the value of an Ok

pub told_ok : {T X : Type 0} (read : T → X) (r : Result T Refusal) (x : X) → told_by read r ≡ gives x → (value : T) × (r ≡ Ok value) × (read value ≡ x)
told_ok read (Ok value) x e = (value, refl, given_same _ _ e)
told_ok read (Err e) x h = absurd (given_refused x (number_of e) (sym h))

-- ---- some result tells it

abbrev pub Told : {T X : Type 0} → (T → X) → Said X → Type 0
Told {T} read said = (r : Result T Refusal) × (told_by read r ≡ said)

module _ {T X : Type 0} (read : T → X) (b : BookState) (said : Said X) (w : Told read said) where
  pub loaded_told : Told read (if_loaded b said)
  unfolding if_loaded
  loaded_told = go (none_loaded b)
    where
      go : (a : Bool) → Told read (cond a (refused 20) said)
      go true = (Err refusal.NoBook, refl)
      go false = w

  pub order_told_lem : (A : ℕ) → Told read (in_order b A said)
  unfolding in_order if_loaded
  order_told_lem A = go (none_loaded b) (in_book b A)
    where
      go : (a i : Bool) → Told read (cond a (refused 20) (cond i said (refused 21)))
      go true i = (Err refusal.NoBook, refl)
      go false true = w
      go false false = (Err refusal.NotInBook, refl)
