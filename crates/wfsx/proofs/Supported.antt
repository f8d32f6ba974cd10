-- Laws of `supported`. Every proof about Γ, Γs and the trees compares two tests by `supported_map` and looks into no rule; only the published
-- notion of a closed set takes the rules apart.
use mathlib.Core.Path.{◌≡◌, refl, sym, ◌∙◌, ap}
use mathlib.Core.Logic.{◌⊎◌, inl, inr}
use mathlib.Core.Bool.{Bool, true, false, ◌&&◌, ◌||◌, and-or_distrib_left, and-false, or_assoc}
use mathlib.Core.List.Memᴰ
use mathlib.Core.List.{List, [], ◌∷◌, ◌++◌, map}
use Prim.Native.Nat.{ℕ, ◌≤◌}
use native.Mathlib.Nat.{le_of_eq}
use lib.ListN.{length, length-map}
use lib.Dec.{eqb}
use borrow.Author.Tests.{eqb-true, eq-eqb, not-true}
use Rattle.wfsx.specs.Sets.{Set, ◌∈◌, ◌⊆◌, ◌is_in◌}
use Rattle.wfsx.specs.Program.{compl, Entry, positive, default, Rule, Program, seminormal}
use Rattle.wfsx.specs.Model.{Closed, holds, every, supported}
use Rattle.truth.proofs.Truth.{clash, decided, not_intro, not_mono, and_l, and_r, and_intro, and_map, or_elim, or_l, or_r, or_map}

-- ---- entry by entry, rule by rule

pub every_none : (f : Entry → Bool) → every f [] ≡ true
unfolding every
every_none f = refl

pub every_first : (f : Entry → Bool) (e : Entry) (es : List Entry) → every f (e ∷ es) ≡ (f e && every f es)
unfolding every
every_first f e es = refl

pub supported_none : (f : Entry → Bool) (A : ℕ) → supported [] f A ≡ false
unfolding supported
supported_none f A = refl

pub supported_first : (r : Rule) (P : Program) (f : Entry → Bool) (A : ℕ) → supported (r ∷ P) f A ≡ (eqb r.head A && every f r.body || supported P f A)
unfolding supported
supported_first r P f A = refl

pub supported_append : (P Q : Program) (f : Entry → Bool) (A : ℕ) → supported (P ++ Q) f A ≡ (supported P f A || supported Q f A)
unfolding supported
supported_append [] Q f A = refl
supported_append (r ∷ P) Q f A =
    ap (λ (b : Bool). eqb r.head A && every f r.body || b) (supported_append P Q f A)
    ∙ sym (or_assoc (eqb r.head A && every f r.body) (supported P f A) (supported Q f A))

-- ---- a test that passes more

module _ (f g : Entry → Bool) (more : (e : Entry) → f e ≡ true → g e ≡ true) where
  every_map : (es : List Entry) → every f es ≡ true → every g es ≡ true
  unfolding every
  every_map [] h = h
  every_map (e ∷ es) h = and_map (f e) (every f es) (more e) (every_map es) h

  pub supported_map : (P : Program) → supported P f ⊆ supported P g
  unfolding supported
  supported_map [] A h = h
  supported_map (r ∷ P) A h =
      or_map (eqb r.head A && every f r.body) (supported P f A)
      (and_map (eqb r.head A) (every f r.body) (λ e. e) (every_map r.body)) (supported_map P A) h

-- more in D and less in S
pub holds_map : {D E S U : Set} → D ⊆ E → U ⊆ S → (e : Entry) → holds D S e ≡ true → holds E U e ≡ true
holds_map d s (positive B) h = d B h
holds_map {S = S} d s (default C) h = not_mono (S C) (s C) h

-- ---- only heads are supported

abbrev pub heads : Program → List ℕ
heads P = map (λ (r : Rule). r.head) P

pub supported_head : (P : Program) (f : Entry → Bool) (A : ℕ) → A ∈ supported P f → A is_in heads P
unfolding supported
supported_head [] f A h = absurd (clash h refl)
supported_head (r ∷ P) f A h = go (or_elim (eqb r.head A && every f r.body) (supported P f A) h) (supported_head P f A)
  where
    go : (eqb r.head A && every f r.body ≡ true) ⊎ (A ∈ supported P f) → (A ∈ supported P f → A is_in heads P) → A is_in heads (r ∷ P)
    go (inl e) rest = Memᴰ.head (sym (eqb-true r.head A (and_l (eqb r.head A) _ e)))
    go (inr e) rest = Memᴰ.tail (rest e)

pub heads_most : (P : Program) → length (heads P) ≤ length P
heads_most P = le_of_eq (length-map P (λ r. r.head))

-- ---- the seminormal version: its added entry is asked once for a literal and not once for each rule

pub supported_seminormal : (P : Program) (f : Entry → Bool) (A : ℕ) → supported (seminormal P) f A ≡ (f (default (compl A)) && supported P f A)
unfolding supported every
supported_seminormal [] f A = sym (and-false (f (default (compl A))))
supported_seminormal (r ∷ P) f A =
    ap (λ (b : Bool). eqb r.head A && (f (default (compl r.head)) && every f r.body) || b) (supported_seminormal P f A) ∙ go (decided (eqb r.head A))
  where
    go : (eqb r.head A ≡ true) ⊎ (eqb r.head A ≡ false)
        → (eqb r.head A && (f (default (compl r.head)) && every f r.body) || (f (default (compl A)) && supported P f A))
        ≡ (f (default (compl A)) && (eqb r.head A && every f r.body || supported P f A))
    go (inl e) = rw (e, eqb-true r.head A e) (sym (and-or_distrib_left (f (default (compl A))) (every f r.body) (supported P f A)))
    go (inr e) = rw e refl

-- ---- the published notion: a set is closed where it has what it supports

pub every_intro : (f : Entry → Bool) (es : List Entry) → ((e : Entry) → e is_in es → f e ≡ true) → every f es ≡ true
unfolding every
every_intro f [] h = refl
every_intro f (e ∷ es) h = and_intro (f e) (every f es) (h e (Memᴰ.head refl)) (every_intro f es (λ x m. h x (Memᴰ.tail m)))

pub every_elim : (f : Entry → Bool) (es : List Entry) → every f es ≡ true → (e : Entry) → e is_in es → f e ≡ true
unfolding every
every_elim f [] h e x'' = elim x'' [ ]
every_elim f (x ∷ es) h e (Memᴰ.head q) = ap f q ∙ and_l (f x) (every f es) h
every_elim f (x ∷ es) h e (Memᴰ.tail m) = every_elim f es (and_r (f x) (every f es) h) e m

pub supported_intro : (P : Program) (f : Entry → Bool) (r : Rule) → r is_in P → every f r.body ≡ true → r.head ∈ supported P f
unfolding supported
supported_intro [] f r x'' h = elim x'' [ ]
supported_intro (q ∷ P) f r (Memᴰ.head e) h =
    or_l (eqb q.head r.head && every f q.body) (supported P f r.head)
    (and_intro _ _ (eq-eqb q.head r.head (ap (λ (x : Rule). x.head) (sym e))) (ap (λ (x : Rule). every f x.body) (sym e) ∙ h))
supported_intro (q ∷ P) f r (Memᴰ.tail m) h = or_r (eqb q.head r.head && every f q.body) _ (supported_intro P f r m h)

pub supported_elim : (P : Program) (f : Entry → Bool) (A : ℕ) → A ∈ supported P f → (r : Rule) × r is_in P × (r.head ≡ A) × (every f r.body ≡ true)
unfolding supported
supported_elim [] f A h = absurd (clash h refl)
supported_elim (r ∷ P) f A h = go (or_elim (eqb r.head A && every f r.body) (supported P f A) h) (supported_elim P f A)
  where
    go : (eqb r.head A && every f r.body ≡ true) ⊎ (A ∈ supported P f)
        → (A ∈ supported P f → (q : Rule) × q is_in P × (q.head ≡ A) × (every f q.body ≡ true))
        → (q : Rule) × q is_in r ∷ P × (q.head ≡ A) × (every f q.body ≡ true)
    go (inl e) rest = (r, Memᴰ.head refl, eqb-true r.head A (and_l (eqb r.head A) _ e), and_r (eqb r.head A) _ e)
    go (inr e) rest = let w = rest e in (w.0, Memᴰ.tail w.1, w.2, w.3)

module _ (P : Program) (S U : Set) where
  pub closed_from : supported P (holds U S) ⊆ U → Closed P S U
  closed_from c r m kept body = c r.head (supported_intro P (holds U S) r m (every_intro (holds U S) r.body entry))
    where
      entry : (e : Entry) → e is_in r.body → holds U S e ≡ true
      entry (positive B) i = body B i
      entry (default C) i = not_intro (kept C i)

  pub closed_to : Closed P S U → supported P (holds U S) ⊆ U
  closed_to c A h =
      let w = supported_elim P (holds U S) A h in
      rw w.2 at (c w.0 w.1 (λ C i. not-true (S C) (every_elim (holds U S) w.0.body w.3 (default C) i))
      (λ B i. every_elim (holds U S) w.0.body w.3 (positive B) i))
