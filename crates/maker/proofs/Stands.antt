-- A sheet that stands: all its entries follow, and whatever is written behind it is judged over what it shows. So a maker may write one block after the
-- other, each judged over the blocks before.
use mathlib.Core.Path.{◌≡◌, refl, sym, ◌∙◌, ap, ap₂, subst, fun_ext}
use mathlib.Core.Logic.{◌⊎◌, inl, inr, ⊎_elim}
use mathlib.Core.Bool.{Bool, true, false, cond, ◌&&◌, ◌||◌}
use mathlib.Core.List.{List, [], ◌∷◌, ◌++◌, map, append_assoc, append-nil}
use Prim.Native.Nat.{ℕ, suc, ◌+◌, ◌<◌}
use native.Mathlib.Omega.{arith}
use lib.Dec.{eqb}
use lib.ListN.{length, length-append, length-map}
use borrow.Author.Tests.{eq-eqb, eqb-true, ne_eqb}
use Rattle.truth.proofs.Truth.{clash, decided, refuted, and_l, or_elim, or_l, or_r}
use Rattle.wfsx.specs.Sets.{Set, ∅, ◌∈◌, ◌∉◌, ◌∪◌, add}
use Rattle.wfsx.specs.Program.{Rule}
use Rattle.sheet.specs.Sheet.{Block, single, group, joined, blocks, listed, Fault, none, first_failing, true_follows, false_follows, fault_in, fault, among}
use Rattle.sheet.specs.declared.SheetEntry.{SheetEntry}
use Rattle.maker.specs.Making.{member_entry}

-- entries that do not begin with a "false" entry under one of these numbers
abbrev pub Fresh : Set → List SheetEntry → Type 0
Fresh E [] = Unit
Fresh E (e ∷ es) = e.kind ≡ 0 → e.group ∉ E

-- ---- a group in front of some entries

abbrev falses : ℕ → List ℕ → List SheetEntry
falses g As = map (member_entry 0 g) As

module _ (g : ℕ) (E : Set) where
  joined_fresh : (A : ℕ) (more : List SheetEntry) → Fresh (add g E) more → joined g A (blocks more) ≡ group g (A ∷ []) ∷ blocks more
  unfolding joined blocks
  joined_fresh A [] f = refl
  joined_fresh A (e ∷ es) f = go (decided (eqb e.kind 0))
    where
      other : e.kind ≡ 0 → eqb g e.group ≡ false
      other z = refuted (λ s. clash {b = add g E e.group} (or_l (eqb e.group g) (E e.group) (eq-eqb e.group g (sym (eqb-true g e.group s)))) (f z))

      apart : (h : ℕ) → eqb g h ≡ false → (B : ℕ) (bs : List Block) → joined g A (joined h B bs) ≡ group g (A ∷ []) ∷ joined h B bs
      apart h n B [] = rw n refl
      apart h n B (single d ∷ bs) = rw n refl
      apart h n B (group k Bs ∷ bs) = either (eqb h k)
        where
          either : (t : Bool) → joined g A (cond t (group h (B ∷ Bs) ∷ bs) (group h (B ∷ []) ∷ group k Bs ∷ bs)) ≡ group g (A ∷ []) ∷ cond t (group h (B ∷ Bs) ∷ bs) (group h (B ∷ []) ∷ group k Bs ∷ bs)
          either true = rw n refl
          either false = rw n refl

      go : (eqb e.kind 0 ≡ true) ⊎ (eqb e.kind 0 ≡ false) → joined g A (cond (eqb e.kind 0) (joined e.group e.literal (blocks es)) (single e ∷ blocks es))
          ≡ group g (A ∷ []) ∷ cond (eqb e.kind 0) (joined e.group e.literal (blocks es)) (single e ∷ blocks es)
      go (inl z) = rw z (apart e.group (other (eqb-true e.kind 0 z)) e.literal (blocks es))
      go (inr z) = rw z refl

  group_first : (A : ℕ) (As : List ℕ) (more : List SheetEntry) → Fresh (add g E) more → blocks (falses g (A ∷ As) ++ more) ≡ group g (A ∷ As) ∷ blocks more
  unfolding blocks joined
  group_first A [] more f = joined_fresh A more f
  group_first A (B ∷ As) more f = rw (group_first B As more f) (rw (eq-eqb g g refl) refl)

-- ---- what is among the entries

among_append : (k A : ℕ) (es fs : List SheetEntry) → among k A (es ++ fs) ≡ (among k A es || among k A fs)
unfolding among
among_append k A [] fs = refl
among_append k A (e ∷ es) fs = rw (among_append k A es fs) (go (eqb e.kind k && eqb A e.literal) (among k A es) (among k A fs))
  where
    go : (a b c : Bool) → (a || (b || c)) ≡ ((a || b) || c)
    go true b c = refl
    go false b c = refl

among_falses : (g A : ℕ) (As : List ℕ) → A ∈ listed As → among 0 A (falses g As) ≡ true
unfolding among listed
among_falses g A [] m = m
among_falses g A (B ∷ As) m = go (eqb A B) (or_elim (eqb A B) (listed As A) m) (among_falses g A As)
  where
    go : (t : Bool) → (t ≡ true) ⊎ (A ∈ listed As) → (A ∈ listed As → among 0 A (falses g As) ≡ true) → t || among 0 A (falses g As) ≡ true
    go t (inl e) rest = or_l t _ e
    go t (inr i) rest = or_r t _ (rest i)

-- where no number of a list fails, the fault is the one after it
none_fails : (f : ℕ → Bool) (i : ℕ) (As : List ℕ) (after : Fault) → ((A : ℕ) → A ∈ listed As → f A ≡ true) → first_failing f i As after ≡ after
unfolding first_failing listed
none_fails f i [] after h = refl
none_fails f i (A ∷ As) after h =
    rw (h A (or_l (eqb A A) _ (eq-eqb A A refl))) (none_fails f (suc i) As after (λ B m. h B (or_r (eqb B A) _ m)))

or_nothing : (b : Bool) → (b || false) ≡ b
or_nothing true = refl
or_nothing false = refl

-- ---- a sheet that stands

module _ (rules : List Rule) (facts : Set) (known : ℕ) where
  group_goes : (T F E : Set) (i g : ℕ) (As : List ℕ) (bs : List Block) → g ∉ E → fault_in rules facts known T F E i (group g As ∷ bs)
      ≡ first_failing (false_follows rules facts known T F (listed As)) i As (fault_in rules facts known T (F ∪ listed As) (add g E) (i + length As) bs)
  unfolding fault_in
  group_goes T F E i g As bs o = rw o refl

  -- T and F are the literals of its "true" and "false" entries
  pub record Stands (es : List SheetEntry) (T F : Set) : Type 0 where
    pub numbers : Set
    pub used : (g : ℕ) → g ∈ numbers → g < length es
    pub reads : (more : List SheetEntry) → Fresh numbers more → fault rules facts known (es ++ more) ≡ fault_in rules facts known T F numbers (length es) (blocks more)
    pub truths : (A : ℕ) → A ∈ T → among 1 A es ≡ true
    pub falses_are : (A : ℕ) → A ∈ F → among 0 A es ≡ true

  pub stands_none : Stands [] ∅ ∅
  stands_none =
      record {
        numbers = ∅;
        used = λ g m. absurd (clash m refl);
        reads = λ more f. refl;
        truths = λ A a. absurd (clash a refl);
        falses_are = λ A a. absurd (clash a refl);
      }

  module _ {es : List SheetEntry} {T F : Set} (s : Stands es T F) where
    -- all its entries follow
    pub stands_follows : fault rules facts known es ≡ none
    unfolding blocks fault_in
    stands_follows = ap (fault rules facts known) (sym (append-nil es)) ∙ s.reads [] tt

    -- a "true" entry that follows
    pub stands_true : (e : SheetEntry) → true_follows rules facts known T F e ≡ true → Stands (es ++ (e ∷ [])) (add e.literal T) F
    unfolding blocks fault_in true_follows among
    stands_true e h =
        record {
          numbers = s.numbers;
          used = λ g m. let u = s.used g m in let l = longer in omega arith;
          reads = λ more f. ap (fault rules facts known) (append_assoc es (e ∷ []) more) ∙ s.reads (e ∷ more) (λ z. absurd (omega (arith, kind_is))) ∙ goes more ∙ rw longer refl;
          truths = λ A a. among_append 1 A es (e ∷ []) ∙ shown_true A (or_elim (eqb A e.literal) (T A) a);
          falses_are = λ A a. among_append 0 A es (e ∷ []) ∙ or_l (among 0 A es) _ (s.falses_are A a);
        }
      where
        kind_is : e.kind ≡ 1
        kind_is = eqb-true e.kind 1 (and_l (eqb e.kind 1) _ h)

        longer : length (es ++ (e ∷ [])) ≡ suc (length es)
        longer = length-append es (e ∷ []) ∙ omega arith

        goes : (more : List SheetEntry) → fault_in rules facts known T F s.numbers (length es) (blocks (e ∷ more)) ≡ fault_in rules facts known (add e.literal T) F s.numbers (suc (length es)) (blocks more)
        goes more = rw (ne_eqb e.kind 0 (λ z. omega (arith, kind_is))) (rw h refl)

        shown_true : (A : ℕ) → (eqb A e.literal ≡ true) ⊎ (A ∈ T) → (among 1 A es || among 1 A (e ∷ [])) ≡ true
        shown_true A (inl a) = or_r (among 1 A es) _ (rw (eq-eqb e.kind 1 kind_is, a) refl)
        shown_true A (inr a) = or_l (among 1 A es) _ (s.truths A a)

    -- a group that follows whole, under a number that no group before has
    pub stands_group : (As : List ℕ) → ((A : ℕ) → A ∈ listed As → false_follows rules facts known T F (listed As) A ≡ true)
        → Stands (es ++ falses (length es) As) T (F ∪ listed As)
    unfolding listed
    stands_group [] h = subst (λ X. X) (ap₂ (λ (l : List SheetEntry) (X : Set). Stands l T X) (sym (append-nil es)) (sym nothing_more)) s
      where
        nothing_more : F ∪ listed [] ≡ F
        nothing_more = fun_ext (λ A. or_nothing (F A))
    stands_group (A ∷ As) h =
        record {
          numbers = add (length es) s.numbers;
          used = λ g m. ⊎_elim (λ e. let z = eqb-true g (length es) e in let l = longer in omega arith) (λ u. let v = s.used g u in let l = longer in omega arith) (or_elim (eqb g (length es)) (s.numbers g) m);
          reads = λ more f. ap (fault rules facts known) (append_assoc es written more) ∙ s.reads (written ++ more) (λ z. not_used) ∙ goes more f;
          truths = λ B b. among_append 1 B es written ∙ or_l (among 1 B es) _ (s.truths B b);
          falses_are = λ B b. among_append 0 B es written
              ∙ ⊎_elim (λ m. or_l (among 0 B es) _ (s.falses_are B m)) (λ m. or_r (among 0 B es) _ (among_falses (length es) B (A ∷ As) m)) (or_elim (F B) (listed (A ∷ As) B) b);
        }
      where
        written : List SheetEntry
        written = falses (length es) (A ∷ As)

        longer : length (es ++ written) ≡ length es + suc (length As)
        longer = length-append es written ∙ ap (λ (n : ℕ). length es + n) (length-map (A ∷ As) (member_entry 0 (length es)))

        not_used : length es ∉ s.numbers
        not_used = refuted (λ m. let u = s.used (length es) m in absurd (omega arith))

        goes : (more : List SheetEntry) → Fresh (add (length es) s.numbers) more → fault_in rules facts known T F s.numbers (length es) (blocks (written ++ more))
            ≡ fault_in rules facts known T (F ∪ listed (A ∷ As)) (add (length es) s.numbers) (length (es ++ written)) (blocks more)
        goes more f =
            ap (fault_in rules facts known T F s.numbers (length es)) (group_first (length es) s.numbers A As more f)
            ∙ group_goes T F s.numbers (length es) (length es) (A ∷ As) (blocks more) not_used
            ∙ none_fails (false_follows rules facts known T F (listed (A ∷ As))) (length es) (A ∷ As) _ h
            ∙ ap (λ (n : ℕ). fault_in rules facts known T (F ∪ listed (A ∷ As)) (add (length es) s.numbers) n (blocks more)) (sym longer)
