-- What an accepted sheet says is so: "true" literals lie in M and "false" ones outside N, for every program. A "true" entry's rule holds over M and N. A group
-- lies outside N since a literal of N is derived from others of N, none of them in the group, so its rule is left open.
use mathlib.Core.Path.{◌≡◌, refl, sym, ◌∙◌, ap}
use mathlib.Core.Logic.{◌⊎◌, inl, inr, ⊎_elim}
use mathlib.Core.Bool.{Bool, true, false, not, cond, ◌&&◌, ◌||◌}
use mathlib.Core.List.{List, [], ◌∷◌}
use Prim.Native.Nat.{ℕ, zero, suc, ◌+◌, ◌<◌}
use native.Mathlib.Omega.{arith}
use lib.Dec.{eqb, ltb, leb}
use lib.ListN.{length}
use borrow.Author.Tests.{eqb-true}
use Rattle.truth.proofs.Truth.{clash, decided, refuted, not_intro, and_l, and_r, or_elim, or_l, or_r, or_none, or_map}
use Rattle.wfsx.specs.Sets.{Set, ◌∈◌, ◌∉◌, ◌⊆◌, ∅, ◌∪◌, add}
use Rattle.wfsx.specs.Program.{Entry, positive, default, Rule, Program, seminormal}
use Rattle.wfsx.specs.Model.{holds, every, supported, Γ, M, N}
use Rattle.wfsx.proofs.Sets.{with_one}
use Rattle.wfsx.proofs.Supported.{supported_map}
use Rattle.wfsx.proofs.Operators.{derived_map, Γ-ind, Γs-is, N-is, M-has}
use Rattle.wfsx.proofs.Facts.{supported_facts}
use Rattle.litset.specs.Words.{capacity}
use Rattle.book.specs.Book.{program}
use Rattle.sheet.specs.declared.SheetEntry.{SheetEntry}
use Rattle.sheet.specs.Sheet.{max_sheet, Block, single, group, joined, blocks, listed, shown, rule_numbered, fact_number, names_rule, answered, every_rule, Fault, none, at, first_failing, true_follows, false_follows, fault_in, fault, kind_of, among, accepted, refused, judged_by, judgement, IsSo}
use Rattle.sheet.proofs.Open.{not_open}

-- ---- groups

-- a group that follows lies outside N
module _ (P : Program) (T F G : Set) (true-is : T ⊆ M P) (false-is : (A : ℕ) → A ∈ F → A ∉ N P) where
  group_false : ((A : ℕ) → A ∈ G → every_rule (answered T F G) P A ≡ true) → (A : ℕ) → A ∈ G → A ∉ N P
  group_false shut A g = refuted (λ n. (derived A (rw (N-is P ∙ Γs-is P (M P)) at n)).1 g)
    where
      -- no literal that is derived belongs to the group
      derived : (A : ℕ) → A ∈ Γ (seminormal P) (M P) → (A ∈ N P) × (A ∈ G → ⊥)
      derived = Γ-ind (seminormal P) (M P) (λ A. (A ∈ N P) × (A ∈ G → ⊥)) (λ D d A n h. (
        rw (N-is P ∙ Γs-is P (M P)) n,
        λ g. clash (shut A g) (not_open T F G P A ∙ ap not (derived_map (seminormal P) (λ B b. not_intro (or_none (F B) (G B) (refuted (λ f. clash (d B b).0 (false-is B f))) (refuted (d B b).1))) true-is A h)),
      ))

-- ---- "true" entries

-- earlier entries that say what is so show what holds
shown_holds : (T F U S : Set) → T ⊆ U → ((A : ℕ) → A ∈ F → A ∉ S) → (e : Entry) → shown T F e ≡ true → holds U S e ≡ true
shown_holds T F U S t f (positive B) h = t B h
shown_holds T F U S t f (default C) h = not_intro (f C h)

-- a rule that a number names is a rule
rule_named : (f : Entry → Bool) (rules : List Rule) (A k : ℕ) → rule_numbered (λ r. eqb r.head A && every f r.body) rules k ≡ true → A ∈ supported rules f
unfolding rule_numbered supported
rule_named f [] A k h = h
rule_named f (r ∷ rs) A zero h = or_l (eqb r.head A && every f r.body) _ h
rule_named f (r ∷ rs) A (suc k) h = or_r (eqb r.head A && every f r.body) _ (rule_named f rs A k h)

-- ---- a sheet

-- an entry of the kind k for the literal A is in some blocks
unfoldable among_blocks : (k A : ℕ) → List Block → Bool
among_blocks k A [] = false
among_blocks k A (single e ∷ bs) = eqb e.kind k && eqb A e.literal || among_blocks k A bs
among_blocks k A (group g As ∷ bs) = eqb 0 k && listed As A || among_blocks k A bs

alone : (k a r : Bool) → (k && (a || false) || r) ≡ (k && a || r)
alone true true r = refl
alone true false r = refl
alone false a r = refl

together : (k a l r : Bool) → (k && (a || l) || r) ≡ (k && a || (k && l || r))
together true true l r = refl
together true false l r = refl
together false a l r = refl

no_fault : {i : ℕ} → at i ≡ none → ⊥
no_fault h = let z : ◌≡◌ {A = ℕ} 0 1 = cc in omega arith

among_joined : (k A g B : ℕ) (bs : List Block) → among_blocks k A (joined g B bs) ≡ (eqb 0 k && eqb A B || among_blocks k A bs)
unfolding among_blocks joined listed
among_joined k A g B [] = alone (eqb 0 k) (eqb A B) false
among_joined k A g B (single e ∷ bs) = alone (eqb 0 k) (eqb A B) _
among_joined k A g B (group h As ∷ bs) = go (decided (eqb g h))
  where
    go : (eqb g h ≡ true) ⊎ (eqb g h ≡ false)
        → among_blocks k A (cond (eqb g h) (group g (B ∷ As) ∷ bs) (group g (B ∷ []) ∷ group h As ∷ bs))
        ≡ (eqb 0 k && eqb A B || (eqb 0 k && listed As A || among_blocks k A bs))
    go (inl e) = rw e (together (eqb 0 k) (eqb A B) (listed As A) (among_blocks k A bs))
    go (inr e) = rw e (alone (eqb 0 k) (eqb A B) (eqb 0 k && listed As A || among_blocks k A bs))

among_blocks_lem : (k A : ℕ) (es : List SheetEntry) → among k A es ≡ among_blocks k A (blocks es)
unfolding among_blocks blocks among
among_blocks_lem k A [] = refl
among_blocks_lem k A (e ∷ es) = go (decided (eqb e.kind 0)) (among_blocks_lem k A es)
  where
    go : (eqb e.kind 0 ≡ true) ⊎ (eqb e.kind 0 ≡ false) → among k A es ≡ among_blocks k A (blocks es)
        → (eqb e.kind k && eqb A e.literal || among k A es)
        ≡ among_blocks k A (cond (eqb e.kind 0) (joined e.group e.literal (blocks es)) (single e ∷ blocks es))
    go (inl z) rest = rw (z, rest, eqb-true e.kind 0 z) (sym (among_joined k A e.group e.literal (blocks es)))
    go (inr z) rest = rw (z, rest) refl

-- where no number of the list fails, the fault is the one after it
pub failing_none : (f : ℕ → Bool) (i : ℕ) (As : List ℕ) (after : Fault) → first_failing f i As after ≡ none
    → ((A : ℕ) → A ∈ listed As → f A ≡ true) × (after ≡ none)
unfolding first_failing listed
failing_none f i [] after h = (λ A m. absurd (clash m refl), h)
failing_none f i (B ∷ As) after h = go (decided (f B)) (failing_none f (suc i) As after)
  where
    go : (f B ≡ true) ⊎ (f B ≡ false) → (first_failing f (suc i) As after ≡ none → ((A : ℕ) → A ∈ listed As → f A ≡ true) × (after ≡ none))
        → ((A : ℕ) → A ∈ listed (B ∷ As) → f A ≡ true) × (after ≡ none)
    go (inl y) rest = let w = rest (rw y at h) in (with_one (λ A. f A ≡ true) B (listed As) y w.0, w.1)
    go (inr y) rest = absurd (no_fault (rw y at h))

module _ (rules : List Rule) (facts : Set) (below : (A : ℕ) → A ∈ facts → A < capacity) (known : ℕ) where
  abbrev P : Program
  P = program rules facts

  -- what the entries of a kind say, where they are of the literal A
  abbrev Says : ℕ → ℕ → Type 0
  Says k A = (k ≡ 1 → A ∈ M P) × (k ≡ 0 → A ∉ N P)

  true_sound : (T F : Set) → T ⊆ M P → ((A : ℕ) → A ∈ F → A ∉ N P) → (e : SheetEntry) → true_follows rules facts known T F e ≡ true → (e.kind ≡ 1) × (e.literal ∈ M P)
  unfolding true_follows names_rule
  true_sound T F t f e h =
      let k = and_l (eqb e.kind 1) _ h in let l = and_r (ltb e.literal known) _ (and_r (eqb e.kind 1) _ h) in (
        eqb-true e.kind 1 k,
        M-has P e.literal (supported_facts rules capacity facts below (holds (M P) (N P)) e.literal
            ∙ or_map (rule_numbered _ rules e.rule) (eqb e.rule (fact_number e.literal) && facts e.literal)
            (λ h. supported_map (shown T F) (holds (M P) (N P)) (shown_holds T F (M P) (N P) t f) rules e.literal (rule_named (shown T F) rules e.literal e.rule h)) (and_r (eqb e.rule (fact_number e.literal)) _) l),
      )

  sheet_blocks : (T F E : Set) (i : ℕ) (bs : List Block) → T ⊆ M P → ((A : ℕ) → A ∈ F → A ∉ N P) → fault_in rules facts known T F E i bs ≡ none
      → (k A : ℕ) → among_blocks k A bs ≡ true → Says k A
  unfolding fault_in among_blocks false_follows
  sheet_blocks T F E i [] t f h k A a = absurd (clash a refl)
  sheet_blocks T F E i (single e ∷ bs) t f h k A a = go (decided (true_follows rules facts known T F e)) (sheet_blocks (add e.literal T) F E (suc i) bs)
    where
      go : (true_follows rules facts known T F e ≡ true) ⊎ (true_follows rules facts known T F e ≡ false)
          → (add e.literal T ⊆ M P → ((B : ℕ) → B ∈ F → B ∉ N P) → fault_in rules facts known (add e.literal T) F E (suc i) bs ≡ none
          → (k A : ℕ) → among_blocks k A bs ≡ true → Says k A) → Says k A
      go (inr y) rest = absurd (no_fault (rw y at h))
      go (inl y) rest =
          let s = true_sound T F t f e y in
          ⊎_elim (λ q. (
            λ _. rw (eqb-true A e.literal (and_r (eqb e.kind k) _ q)) s.1,
            λ z. let x = eqb-true e.kind k (and_l (eqb e.kind k) _ q) in let o = s.0 in absurd (omega arith),
          ))
          (rest (with_one (λ B. B ∈ M P) e.literal T s.1 t) f (rw y at h) k A)
          (or_elim (eqb e.kind k && eqb A e.literal) (among_blocks k A bs) a)
  sheet_blocks T F E i (group g As ∷ bs) t f h k A a = go (decided (E g)) (sheet_blocks T (F ∪ listed As) (add g E) (i + length As) bs)
    where
      go : (E g ≡ true) ⊎ (E g ≡ false)
          → (T ⊆ M P → ((B : ℕ) → B ∈ F ∪ listed As → B ∉ N P) → fault_in rules facts known T (F ∪ listed As) (add g E) (i + length As) bs ≡ none
          → (k A : ℕ) → among_blocks k A bs ≡ true → Says k A) → Says k A
      go (inl y) rest = absurd (no_fault (rw y at h))
      go (inr y) rest =
          let w = failing_none (false_follows rules facts known T F (listed As)) i As _ (rw y at h) in
          let out = group_false P T F (listed As) t f (λ B b. and_r (ltb B known) _ (w.0 B b)) in
          ⊎_elim (λ q. (
            λ o. let z = eqb-true 0 k (and_l (eqb 0 k) _ q) in absurd (omega arith),
            λ _. out A (and_r (eqb 0 k) _ q),
          ))
          (rest t (λ B b. ⊎_elim (f B) (out B) (or_elim (F B) (listed As B) b)) w.1 k A)
          (or_elim (eqb 0 k && listed As A) (among_blocks k A bs) a)

  -- in a sheet all of whose entries follow, what each says is so
  pub sheet_sound : (es : List SheetEntry) → fault rules facts known es ≡ none → (truth : Bool) (A : ℕ) → among (kind_of truth) A es ≡ true → IsSo P truth A
  sheet_sound es h truth A a = of_kind truth (sheet_blocks ∅ ∅ ∅ 0 (blocks es) (λ B b. absurd (clash b refl)) (λ B b. absurd (clash b refl)) h (kind_of truth) A (sym (among_blocks_lem (kind_of truth) A es) ∙ a))
    where
      of_kind : (truth : Bool) → Says (kind_of truth) A → IsSo P truth A
      of_kind true s = s.0 refl
      of_kind false s = s.1 refl

  -- an accepted claim "true" lies in M, an accepted claim "false" outside N, whoever wrote the sheet
  pub accepted_sound : (truth : Bool) (A : ℕ) (es : List SheetEntry) → judgement rules facts known truth A es ≡ accepted → IsSo P truth A
  unfolding judgement judged_by
  accepted_sound truth A es h = go (decided (ltb 0 (length es) && leb (length es) max_sheet))
    where
      not_refused : {n i : ℕ} → refused n i ≡ accepted → ⊥
      not_refused h = let z : ◌≡◌ {A = ℕ} 0 1 = cc in omega arith

      by_fault : (f : Fault) (b : Bool) → judged_by f b ≡ accepted → (f ≡ none) × (b ≡ true)
      by_fault none true h = (refl, refl)
      by_fault none false h = absurd (not_refused h)
      by_fault (at i) b h = absurd (not_refused h)

      go : (ltb 0 (length es) && leb (length es) max_sheet ≡ true) ⊎ (ltb 0 (length es) && leb (length es) max_sheet ≡ false) → IsSo P truth A
      go (inl y) = let w = by_fault (fault rules facts known es) (among (kind_of truth) A es) (rw y at h) in sheet_sound es w.0 truth A w.1
      go (inr y) = absurd (not_refused (rw y at h))
