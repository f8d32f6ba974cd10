-- `reach` is the relation `Reaches`: sound by induction over the steps, complete since the last step adds nothing. It is reflexive and transitive.
use mathlib.Core.Path.{◌≡◌, refl, sym, ap}
use mathlib.Core.Logic.{◌⊎◌, inl, inr, ◌↔◌}
use mathlib.Core.Bool.{true, ◌&&◌}
use mathlib.Core.List.Memᴰ
use mathlib.Core.List.{List, [], ◌∷◌, ◌++◌, map}
use Prim.Native.Nat.{ℕ, suc, ◌+◌}
use native.Mathlib.Omega.{arith}
use lib.ListN.{length, length-map, length-append}
use lib.Dec.{eqb}
use borrow.Author.Tests.{eqb-true, eq-eqb}
use Rattle.wfsx.specs.Sets.{Set, ◌∈◌, ◌⊆◌, ∅, add, ◌is_in◌, iterate}
use Rattle.wfsx.specs.Program.{Entry, Rule, Program, fact, with_facts}
use Rattle.wfsx.specs.Reach.{name_in, name_for, Reaches, itself, further, mentioned, body_names, entry_count, reach, group}
use Rattle.truth.proofs.Truth.{clash, and_l, and_r, and_intro, or_elim, or_l, or_r, or_map}
use Rattle.wfsx.proofs.Sets.{⊆_antisym, add_has}
use Rattle.wfsx.proofs.Chain.{chain_ind, chain_stops}

-- ---- the names in bodies

mentioned_intro : (es : List Entry) (e : Entry) → e is_in es → name_in e ∈ mentioned es
unfolding mentioned
mentioned_intro [] e x' = elim x' [ ]
mentioned_intro (x ∷ es) e (Memᴰ.head q) = or_l (eqb (name_in e) (name_in x)) _ (eq-eqb _ _ (ap name_in q))
mentioned_intro (x ∷ es) e (Memᴰ.tail m) = or_r (eqb (name_in e) (name_in x)) _ (mentioned_intro es e m)

mentioned_elim : (es : List Entry) (k : ℕ) → k ∈ mentioned es → (e : Entry) × e is_in es × (name_in e ≡ k)
unfolding mentioned
mentioned_elim [] k h = absurd (clash h refl)
mentioned_elim (x ∷ es) k h = go (mentioned_elim es k) (or_elim (eqb k (name_in x)) (mentioned es k) h)
  where
    go : (k ∈ mentioned es → (e : Entry) × e is_in es × (name_in e ≡ k)) → (eqb k (name_in x) ≡ true) ⊎ (k ∈ mentioned es) → (e : Entry) × e is_in x ∷ es × (name_in e ≡ k)
    go rest (inl q) = (x, Memᴰ.head refl, sym (eqb-true k (name_in x) q))
    go rest (inr m) = let w = rest m in (w.0, Memᴰ.tail w.1, w.2)

pub mentioned_none : mentioned [] ≡ ∅
unfolding mentioned
mentioned_none = refl

pub mentioned_first : (e : Entry) (es : List Entry) → mentioned (e ∷ es) ≡ add (name_in e) (mentioned es)
unfolding mentioned
mentioned_first e es = refl

pub body_intro : (P : Program) (D : Set) (r : Rule) (e : Entry) → r is_in P → name_for r ∈ D → e is_in r.body → name_in e ∈ body_names P D
unfolding body_names
body_intro [] D r e x3 d m = elim x3 [ ]
body_intro (q ∷ P) D r e (Memᴰ.head i) d m =
    or_l (D (name_for q) && mentioned q.body (name_in e)) _ (and_intro _ _ (rw i at d) (mentioned_intro q.body e (rw i at m)))
body_intro (q ∷ P) D r e (Memᴰ.tail i) d m = or_r (D (name_for q) && mentioned q.body (name_in e)) _ (body_intro P D r e i d m)

pub body_elim : (P : Program) (D : Set) (k : ℕ) → k ∈ body_names P D → (r : Rule) × (e : Entry) × r is_in P × (name_for r ∈ D) × e is_in r.body × (name_in e ≡ k)
unfolding body_names
body_elim [] D k h = absurd (clash h refl)
body_elim (q ∷ P) D k h = go (body_elim P D k) (or_elim (D (name_for q) && mentioned q.body k) (body_names P D k) h)
  where
    go : (k ∈ body_names P D → (r : Rule) × (e : Entry) × r is_in P × (name_for r ∈ D) × e is_in r.body × (name_in e ≡ k))
        → (D (name_for q) && mentioned q.body k ≡ true) ⊎ (k ∈ body_names P D)
        → (r : Rule) × (e : Entry) × r is_in q ∷ P × (name_for r ∈ D) × e is_in r.body × (name_in e ≡ k)
    go rest (inl c) =
        let w = mentioned_elim q.body k (and_r (D (name_for q)) _ c) in
        (q, w.0, Memᴰ.head refl, and_l (D (name_for q)) _ c, w.1, w.2)
    go rest (inr m) = let w = rest m in (w.0, w.1, Memᴰ.tail w.2, w.3, w.4, w.5)

body_mono : (P : Program) (S U : Set) → S ⊆ U → body_names P S ⊆ body_names P U
body_mono P S U f k h =
    let w = body_elim P S k h in
    rw (← w.5) (body_intro P U w.0 w.1 w.2 (f _ w.3) w.4)

-- ---- the names of all bodies, as a list

mentions : Program → List ℕ
mentions [] = []
mentions (r ∷ P) = map name_in r.body ++ mentions P

entries_length : (P : Program) → length (mentions P) ≡ entry_count P
unfolding mentions entry_count
entries_length [] = refl
entries_length (r ∷ P) = omega (arith, length-append (map name_in r.body) (mentions P), length-map r.body name_in, entries_length P)

entries_in_lem : (P : Program) (r : Rule) (e : Entry) → r is_in P → e is_in r.body → name_in e is_in mentions P
unfolding mentions
entries_in_lem [] r e x'' m = elim x'' [ ]
entries_in_lem (q ∷ P) r e (Memᴰ.head i) m = Memᴰ.append_left (mentions P) (Memᴰ.map name_in (rw i at m))
entries_in_lem (q ∷ P) r e (Memᴰ.tail i) m = Memᴰ.append_right (map name_in q.body) (entries_in_lem P r e i m)

-- ---- reach

module _ (P : Program) where
  module _ (n : ℕ) where
    -- one step
    abbrev widened : Set → Set
    widened D = add n (body_names P D)

    reach_fixed : reach P n ≡ widened (reach P n)
    unfolding reach
    reach_fixed = chain_stops widened (λ S U f k h. or_map (eqb k n) (body_names P S k) (λ e. e) (body_mono P S U f k) h) (n ∷ mentions P) given (suc (entry_count P)) (omega (arith, entries_length P))
      where
        given : (i k : ℕ) → k ∈ widened (iterate widened ∅ i) → k is_in n ∷ mentions P
        given i k h = go (or_elim (eqb k n) (body_names P (iterate widened ∅ i) k) h)
          where
            go : (eqb k n ≡ true) ⊎ (k ∈ body_names P (iterate widened ∅ i)) → k is_in n ∷ mentions P
            go (inl e) = Memᴰ.head (eqb-true k n e)
            go (inr b) = let w = body_elim P (iterate widened ∅ i) k b in Memᴰ.tail (Memᴰ.cast (sym w.5) (entries_in_lem P w.0 w.1 w.2 w.4))

    pub reach_itself : n ∈ reach P n
    reach_itself = rw reach_fixed (add_has n (body_names P (reach P n)))

    -- a name in the body of a rule for a reached name is reached
    pub reach_body : (r : Rule) (e : Entry) → r is_in P → name_for r ∈ reach P n → e is_in r.body → name_in e ∈ reach P n
    reach_body r e i d m = rw reach_fixed (or_r (eqb (name_in e) n) _ (body_intro P (reach P n) r e i d m))

    -- whatever is so of n, and of the names in the bodies for names of which it is so, is so of every reached name
    pub reach_ind : (Q : ℕ → Type 0) → Q n → ((r : Rule) (e : Entry) → r is_in P → Q (name_for r) → e is_in r.body → Q (name_in e)) → (k : ℕ) → k ∈ reach P n → Q k
    unfolding reach
    reach_ind Q here next = chain_ind widened Q step (suc (entry_count P))
      where
        step : (D : Set) → ((k : ℕ) → k ∈ D → Q k) → (k : ℕ) → k ∈ widened D → Q k
        step D d k h = go (or_elim (eqb k n) (body_names P D k) h)
          where
            go : (eqb k n ≡ true) ⊎ (k ∈ body_names P D) → Q k
            go (inl e) = rw (eqb-true k n e) here
            go (inr b) = let w = body_elim P D k b in rw (← w.5) (next w.0 w.1 w.2 (d _ w.3) w.4)

    -- reach lies in every set that has n and the names in the bodies of its rules
    pub reach_inside : (U : Set) → n ∈ U → ((r : Rule) (e : Entry) → r is_in P → name_for r ∈ U → e is_in r.body → name_in e ∈ U) → reach P n ⊆ U
    reach_inside U here next = reach_ind (λ k. k ∈ U) here next

  pub reach_trans : (n k j : ℕ) → k ∈ reach P n → j ∈ reach P k → j ∈ reach P n
  reach_trans n k j a b = reach_inside k (reach P n) a (reach_body n) j b

  -- ---- the published relation

  further_last : {n k : ℕ} (r : Rule) (e : Entry) → r is_in P → e is_in r.body → Reaches P n k → name_for r ≡ k → Reaches P n (name_in e)
  further_last r e i m itself q = further r e i q m itself
  further_last r e i m (further s f j p l t) q = further s f j p l (further_last r e i m t q)

  complete : {n k : ℕ} → Reaches P n k → k ∈ reach P n
  complete {n} itself = reach_itself n
  complete {n} {k} (further r e i q m t) = reach_trans n (name_in e) k (reach_body n r e i (rw q (reach_itself n)) m) (complete t)

  pub reach_is : (n k : ℕ) → (k ∈ reach P n) ↔ Reaches P n k
  reach_is n k = (reach_ind n (Reaches P n) itself (λ r e i h m. further_last r e i m h refl) k, complete)

  -- ---- groups

  pub group_is : (k j : ℕ) → (j ∈ group P k) ↔ (Reaches P k j × Reaches P j k)
  unfolding group
  group_is k j =
      (λ h. ((reach_is k j).0 (and_l (reach P k j) _ h), (reach_is j k).0 (and_r (reach P k j) _ h)), λ w. and_intro _ _ ((reach_is k j).1 w.0) ((reach_is j k).1 w.1))

  pub group_at : (k j : ℕ) → group P k j ≡ (reach P k j && reach P j k)
  unfolding group
  group_at k j = refl

-- ---- facts

-- a fact has no body, so facts alter no reach
pub reach_facts : (rules : List Rule) (l : List ℕ) (n : ℕ) → reach (with_facts rules l) n ≡ reach rules n
reach_facts rules l n =
    ⊆_antisym (reach_inside P n (reach rules n) (reach_itself rules n) (λ r e m w i. next r e w i (Memᴰ.append_cases rules m)))
    (reach_inside rules n (reach P n) (reach_itself P n) (λ r e m w i. reach_body P n r e (Memᴰ.append_left (map fact l) m) w i))
  where
    P : Program
    P = with_facts rules l

    next : (r : Rule) (e : Entry) → name_for r ∈ reach rules n → e is_in r.body → (r is_in rules) ⊎ (r is_in map fact l) → name_in e ∈ reach rules n
    next r e w i (inl m) = reach_body rules n r e m w i
    next r e w i (inr m) = absurd (Memᴰ.not-nil (rw (← (Memᴰ.of_map fact l m).2) at i))
