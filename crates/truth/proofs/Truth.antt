-- Laws of tests: each holds by cases on the values of the tests. A test that decides a statement is true exactly where the statement holds.
use mathlib.Core.Path.{◌≡◌, refl, sym, ◌∙◌, ap}
use mathlib.Core.Logic.{◌⊎◌, inl, inr, ⊎_elim, ◌↔◌}
use mathlib.Core.Bool.{Bool, true, false, not, ◌&&◌, ◌||◌, true≢false}
use Prim.Native.Nat.{ℕ, ◌≤◌}
use lib.Dec.{eqb, leb}
use borrow.Author.Tests.{not-true, leb-true, le-leb, eqb-true, eq-eqb}

pub clash : {b : Bool} → b ≡ true → b ≡ false → ⊥
clash p q = true≢false (sym p ∙ q)

pub decided : (b : Bool) → (b ≡ true) ⊎ (b ≡ false)
decided true = inl refl
decided false = inr refl

-- not in a larger set, so not in a smaller one
pub contra : {a b : Bool} → (a ≡ true → b ≡ true) → b ≡ false → a ≡ false
contra {a = true} f q = absurd (clash (f refl) q)
contra {a = false} f q = refl

pub refuted : {b : Bool} → (b ≡ true → ⊥) → b ≡ false
refuted {b = true} f = absurd (f refl)
refuted {b = false} f = refl

pub same_test : {a b : Bool} → (a ≡ true → b ≡ true) → (b ≡ true → a ≡ true) → a ≡ b
same_test {a = true} f g = sym (f refl)
same_test {a = false} {b = true} f g = g refl
same_test {a = false} {b = false} f g = refl

-- where either test's success makes the two equal, they are equal
pub same_if : {a b : Bool} → (a ≡ true → a ≡ b) → (b ≡ true → a ≡ b) → a ≡ b
same_if {a = true} f g = f refl
same_if {a = false} {b = true} f g = g refl
same_if {a = false} {b = false} f g = refl

pub not_intro : {b : Bool} → b ≡ false → not b ≡ true
not_intro e = ap not e

pub not_mono : (a : Bool) {b : Bool} → (b ≡ true → a ≡ true) → not a ≡ true → not b ≡ true
not_mono a f h = not_intro (contra f (not-true a h))

pub and_l : (a b : Bool) → a && b ≡ true → a ≡ true
and_l true b e = refl
and_l false b e = e

pub and_r : (a b : Bool) → a && b ≡ true → b ≡ true
and_r true b e = e
and_r false b e = absurd (clash e refl)

pub and_intro : (a b : Bool) → a ≡ true → b ≡ true → a && b ≡ true
and_intro true b p q = q
and_intro false b p q = p

pub or_elim : (a b : Bool) → a || b ≡ true → (a ≡ true) ⊎ (b ≡ true)
or_elim true b e = inl refl
or_elim false b e = inr e

pub or_l : (a b : Bool) → a ≡ true → a || b ≡ true
or_l true b e = refl
or_l false b e = absurd (clash e refl)

pub or_r : (a b : Bool) → b ≡ true → a || b ≡ true
or_r true b e = refl
or_r false b e = e

pub or_none : (a b : Bool) → a ≡ false → b ≡ false → a || b ≡ false
or_none a b p q = ap (λ (x : Bool). x || b) p ∙ q

pub neither : (a b : Bool) → a || b ≡ false → (a ≡ false) × (b ≡ false)
neither true b e = absurd (true≢false e)
neither false b e = (refl, e)

pub and_map : (a b : Bool) {c d : Bool} → (a ≡ true → c ≡ true) → (b ≡ true → d ≡ true) → a && b ≡ true → c && d ≡ true
and_map a b {c} {d} f g h = and_intro c d (f (and_l a b h)) (g (and_r a b h))

pub or_map : (a b : Bool) {c d : Bool} → (a ≡ true → c ≡ true) → (b ≡ true → d ≡ true) → a || b ≡ true → c || d ≡ true
or_map true b {c} {d} f g h = or_l c d (f refl)
or_map false b {c} {d} f g h = or_r c d (g h)

-- ---- tests that decide a statement

-- where a test decides P, its failure is that P does not hold
pub fails : (b : Bool) {P : Type 0} → ((b ≡ true) ↔ P) → (b ≡ false) ↔ (P → ⊥)
fails b d = (λ e p. clash (d.1 p) e, λ n. refuted (λ e. n (d.0 e)))

pub or_is : (a b : Bool) {P Q : Type 0} → ((a ≡ true) ↔ P) → ((b ≡ true) ↔ Q) → (a || b ≡ true) ↔ (P ⊎ Q)
or_is a b p q = (λ e. ⊎_elim (λ h. inl (p.0 h)) (λ h. inr (q.0 h)) (or_elim a b e), ⊎_elim (λ h. or_l a b (p.1 h)) (λ h. or_r a b (q.1 h)))

pub and_is : (a b : Bool) {P Q : Type 0} → ((a ≡ true) ↔ P) → ((b ≡ true) ↔ Q) → (a && b ≡ true) ↔ (P × Q)
and_is a b p q = (λ e. (p.0 (and_l a b e), q.0 (and_r a b e)), λ h. and_intro a b (p.1 h.0) (q.1 h.1))

pub not_is : (b : Bool) {P : Type 0} → ((b ≡ true) ↔ P) → (not b ≡ true) ↔ (P → ⊥)
not_is b d = (λ e. (fails b d).0 (not-true b e), λ n. not_intro ((fails b d).1 n))

pub leb_is : (a b : ℕ) → (leb a b ≡ true) ↔ (a ≤ b)
leb_is a b = (leb-true a b, le-leb a b)

pub eqb_is : (a b : ℕ) → (eqb a b ≡ true) ↔ (a ≡ b)
eqb_is a b = (eqb-true a b, eq-eqb a b)
