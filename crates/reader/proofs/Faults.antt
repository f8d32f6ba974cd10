-- A line whose number is 0 meets none of the tests of the table, since 9, 4, 5, 6, 7 and 8 are not 0; and a test of all entries of a list holds
-- exactly where it holds of each one.
use mathlib.Core.Path.{◌≡◌, refl, sym, ap, ◌∙◌}
use mathlib.Core.Bool.{Bool, true, false, not, ◌&&◌}
use mathlib.Core.Logic.{◌↔◌}
use mathlib.Core.List.Memᴰ
use mathlib.Core.List.{List, [], ◌∷◌}
use Prim.Native.Nat.{ℕ, suc}
use native.Mathlib.Omega.{arith}
use lib.ListN.{length}
use Rattle.wfsx.specs.Sets.{◌is_in◌}
use Rattle.truth.proofs.Truth.{clash, refuted, not_intro, and_l, and_r, and_intro}
use borrow.Author.Tests.{not-true}
use Rattle.scan.specs.declared.Word.{Word}
use Rattle.scan.specs.declared.Alphabet.TheVariants.{EitherCase}
use Rattle.reader.specs.File.{Content, all_fields, wrong_fields, malformed, declared_before, uses_undeclared, beyond_table, ◌when◌else◌, fault_of}

pub record Passes (d : Content) (w : Word) (others : List (List ℕ)) : Type 0 where
  pub not_ended : d.ended ≡ false
  pub right_fields : wrong_fields w others ≡ false
  pub well_formed : malformed EitherCase w others ≡ false
  pub not_before : declared_before EitherCase d w others ≡ false
  pub all_declared : uses_undeclared EitherCase d w others ≡ false
  pub in_table : beyond_table d w others ≡ false

passed : (n : ℕ) (b : Bool) (m : ℕ) → (suc n when b else m) ≡ 0 → (b ≡ false) × (m ≡ 0)
passed n true m e = absurd (omega arith)
passed n false m e = (refl, e)

pub line_passes : (d : Content) (w : Word) (others : List (List ℕ)) → fault_of EitherCase d w others ≡ 0 → Passes d w others
unfolding fault_of
line_passes d w others e =
    let a = passed 8 d.ended _ e in
    let b = passed 3 (wrong_fields w others) _ a.1 in
    let c = passed 4 (malformed EitherCase w others) _ b.1 in
    let f = passed 5 (declared_before EitherCase d w others) _ c.1 in
    let g = passed 6 (uses_undeclared EitherCase d w others) _ f.1 in
    let h = passed 7 (beyond_table d w others) _ g.1 in
    record { not_ended = a.0; right_fields = b.0; well_formed = c.0; not_before = f.0; all_declared = g.0; in_table = h.0 }

pub no_entries : {X : Type 0} (l : List X) → length l ≡ 0 → l ≡ []
no_entries [] e = refl
no_entries (x ∷ l) e = absurd (omega arith)

-- ---- a test of all entries of a list

module _ {X : Type 0} (f : X → Bool) (all : List X → Bool) (nil : all [] ≡ true) (cons : (x : X) (xs : List X) → all (x ∷ xs) ≡ (f x && all xs)) where
  pub each_passes : {x : X} {xs : List X} → x is_in xs → all xs ≡ true → f x ≡ true
  each_passes (Memᴰ.head {x = y} {xs = ys} e) h = rw e (and_l (f y) (all ys) (sym (cons y ys) ∙ h))
  each_passes (Memᴰ.tail {x = y} {xs = ys} m) h = each_passes m (and_r (f y) (all ys) (sym (cons y ys) ∙ h))

  pub all_pass : (xs : List X) → ((x : X) → x is_in xs → f x ≡ true) → all xs ≡ true
  all_pass [] h = nil
  all_pass (x ∷ xs) h = cons x xs ∙ and_intro (f x) (all xs) (h x (Memᴰ.head refl)) (all_pass xs (λ y m. h y (Memᴰ.tail m)))

  some_fails : (xs : List X) → all xs ≡ false → (x : X) × (x is_in xs) × (f x ≡ false)
  some_fails [] e = absurd (clash nil e)
  some_fails (x ∷ xs) e = go (some_fails xs) (f x) refl
    where
      go : (all xs ≡ false → (y : X) × (y is_in xs) × (f y ≡ false)) → (t : Bool) → f x ≡ t → (y : X) × (y is_in x ∷ xs) × (f y ≡ false)
      go rest true p = let r = rest (sym (ap (λ (t : Bool). t && all xs) p) ∙ sym (cons x xs) ∙ e) in (r.0, Memᴰ.tail r.1, r.2)
      go rest false p = (x, Memᴰ.head refl, p)

  -- it fails where an entry does
  pub fails_where : (xs : List X) (P : X → Type 0) → ((x : X) → x is_in xs → (f x ≡ false) ↔ P x) → (not (all xs) ≡ true) ↔ ((x : X) × (x is_in xs) × P x)
  fails_where xs P d = (
    λ e. let r = some_fails xs (not-true (all xs) e) in (r.0, r.1, (d r.0 r.1).0 r.2),
    λ r. not_intro (refuted (λ e. clash (each_passes r.1 e) ((d r.0 r.1).1 r.2))),
  )

pub each_field : (f : List ℕ → Bool) {x : List ℕ} {xs : List (List ℕ)} → x is_in xs → all_fields f xs ≡ true → f x ≡ true
unfolding all_fields
each_field f m h = each_passes f (all_fields f) refl (λ x xs. refl) m h
