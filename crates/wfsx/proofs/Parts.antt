-- Laws of a part of the rules. Γ is settled by what the rules support: so Γs(S) is Γ(S) of the rules whose head's complement is not in S, and facts
-- that lie in Γ(S) add nothing to it.
use mathlib.Core.Path.{◌≡◌, refl, sym, ◌∙◌, ap}
use mathlib.Core.Logic.{◌⊎◌, inl, inr, ⊎_elim}
use mathlib.Core.Bool.{Bool, true, false, not, cond, ◌&&◌, ◌||◌, or-false, and-false, false≢true}
use mathlib.Core.List.Memᴰ
use mathlib.Core.List.{[], ◌∷◌}
use Prim.Native.Nat.{ℕ}
use lib.Dec.{eqb}
use borrow.Author.Tests.{eqb-true}
use Rattle.truth.proofs.Truth.{decided, or_elim, or_l}
use Rattle.wfsx.specs.Sets.{Set, ◌∉◌, ◌⊆◌, ∅, ◌is_in◌}
use Rattle.wfsx.specs.Program.{compl, complements, Entry, default, Rule, Program, seminormal, without_heads}
use Rattle.wfsx.specs.Model.{holds, every, supported, Γ, Γs}
use Rattle.wfsx.proofs.Sets.{⊆_antisym}
use Rattle.wfsx.proofs.Supported.{supported_seminormal}
use Rattle.wfsx.proofs.Operators.{Γ-fixed, Γ-inside, Γs-is}

-- the rules of the part

pub without_intro : (B : Set) (P : Program) (r : Rule) → r is_in P → r.head ∉ B → r is_in without_heads B P
unfolding without_heads
without_intro B [] r x'' h = elim x'' [ ]
without_intro B (q ∷ P) r (Memᴰ.head e) h = rw (rw e at h) (Memᴰ.head e)
without_intro B (q ∷ P) r (Memᴰ.tail m) h = go (B q.head) (without_intro B P r m h)
  where
    go : (b : Bool) → r is_in without_heads B P → r is_in cond b (without_heads B P) (q ∷ without_heads B P)
    go true i = i
    go false i = Memᴰ.tail i

pub without_elim : (B : Set) (P : Program) (r : Rule) → r is_in without_heads B P → r is_in P × (r.head ∉ B)
unfolding without_heads
without_elim B [] r m = absurd (Memᴰ.not-nil m)
without_elim B (q ∷ P) r m = go (B q.head) refl m (without_elim B P r)
  where
    up : r is_in P × (r.head ∉ B) → r is_in q ∷ P × (r.head ∉ B)
    up w = (Memᴰ.tail w.0, w.1)

    go : (b : Bool) → B q.head ≡ b → r is_in cond b (without_heads B P) (q ∷ without_heads B P) → (r is_in without_heads B P → r is_in P × (r.head ∉ B)) → r is_in q ∷ P × (r.head ∉ B)
    go true e i rest = up (rest i)
    go false e (Memᴰ.head i) rest = (Memᴰ.head i, rw i e)
    go false e (Memᴰ.tail i) rest = up (rest i)

-- the part supports what the whole does, but for the heads that are left out
pub supported_without : (B : Set) (P : Program) (f : Entry → Bool) (A : ℕ) → supported (without_heads B P) f A ≡ (not (B A) && supported P f A)
unfolding without_heads supported
supported_without B [] f A = sym (and-false (not (B A)))
supported_without B (r ∷ P) f A = kept (decided (B r.head)) ∙ go (decided (eqb r.head A)) (supported_without B P f A)
  where
    -- the first rule, where it is not left out
    kept : (B r.head ≡ true) ⊎ (B r.head ≡ false)
        → supported (without_heads B (r ∷ P)) f A ≡ (eqb r.head A && (not (B r.head) && every f r.body) || supported (without_heads B P) f A)
    kept (inl e) = rw (e, and-false (eqb r.head A)) refl
    kept (inr e) = rw e refl

    go : (eqb r.head A ≡ true) ⊎ (eqb r.head A ≡ false) → supported (without_heads B P) f A ≡ (not (B A) && supported P f A)
        → (eqb r.head A && (not (B r.head) && every f r.body) || supported (without_heads B P) f A)
        ≡ (not (B A) && (eqb r.head A && every f r.body || supported P f A))
    go (inl e) ih = rw (e, eqb-true r.head A e, ih) (split (not (B A)))
      where
        split : (b : Bool) → (b && every f r.body || b && supported P f A) ≡ (b && (every f r.body || supported P f A))
        split true = refl
        split false = refl
    go (inr e) ih = rw (e, ih) refl

-- a program that supports besides what lies in Γ(S) has the same Γ(S)
pub Γ-with : (P Q : Program) (S X : Set) → X ⊆ Γ P S → ((D : Set) (A : ℕ) → supported Q (holds D S) A ≡ (supported P (holds D S) A || X A)) → Γ Q S ≡ Γ P S
Γ-with P Q S X inside also =
    ⊆_antisym
    (Γ-inside Q S (Γ P S) (λ A h. ⊎_elim (λ p. rw (Γ-fixed P S) p) (inside A) (or_elim (supported P (holds (Γ P S) S) A) (X A) (sym (also (Γ P S) A) ∙ h))))
    (Γ-inside P S (Γ Q S) (λ A h. rw (Γ-fixed Q S) (also (Γ Q S) A ∙ or_l _ (X A) h)))

-- programs that support the same have the same Γ(S)
pub Γ-same : (P Q : Program) (S : Set) → ((D : Set) (A : ℕ) → supported Q (holds D S) A ≡ supported P (holds D S) A) → Γ Q S ≡ Γ P S
Γ-same P Q S same = Γ-with P Q S ∅ (λ A h. absurd (false≢true h)) (λ D A. same D A ∙ sym (or-false (supported P (holds D S) A)))

-- and the same Γs(S)
pub Γs-same : (P Q : Program) (S : Set) → ((D : Set) (A : ℕ) → supported Q (holds D S) A ≡ supported P (holds D S) A) → Γs Q S ≡ Γs P S
Γs-same P Q S same =
    Γs-is Q S ∙ Γ-same (seminormal P) (seminormal Q) S (λ D A.
    supported_seminormal Q (holds D S) A ∙ ap (λ (b : Bool). holds D S (default (compl A)) && b) (same D A) ∙ sym (supported_seminormal P (holds D S) A))
    ∙ sym (Γs-is P S)

-- Γs(S) is Γ(S) of the rules whose head's complement is not in S
pub Γs-without : (P : Program) (S : Set) → Γs P S ≡ Γ (without_heads (complements S) P) S
Γs-without P S =
    Γs-is P S ∙ Γ-same (without_heads (complements S) P) (seminormal P) S (λ D A.
    supported_seminormal P (holds D S) A ∙ sym (supported_without (complements S) P (holds D S) A))
