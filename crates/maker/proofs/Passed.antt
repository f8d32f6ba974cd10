-- A pass over the rules: its entries follow one after the other; each adds a literal; and where it writes none, no rule of a known literal is left to add.
use mathlib.Core.Path.{◌≡◌, refl, sym, ◌∙◌, ap, subst}
use mathlib.Core.Logic.{◌⊎◌, inl, inr, ⊎_elim}
use mathlib.Core.Bool.{Bool, true, false, not, ◌&&◌}
use mathlib.Core.List.Memᴰ
use mathlib.Core.List.{List, [], ◌∷◌, ◌++◌, append_assoc, append-nil}
use Prim.Native.Nat.{ℕ, suc, ◌+◌, ◌≤◌, ◌<◌}
use native.Mathlib.Omega.{arith}
use lib.Dec.{eqb, ltb}
use lib.ListN.{length, length-append}
use borrow.Author.Tests.{eq-eqb, not-true, lt-ltb, ltb-true}
use Rattle.truth.proofs.Truth.{clash, decided, and_l, and_r, and_intro, or_l, not_intro}
use Rattle.wfsx.specs.Sets.{Set, ◌∈◌, ◌∉◌, ◌⊆◌, add, ◌is_in◌}
use Rattle.wfsx.specs.Program.{Rule}
use Rattle.wfsx.specs.Model.{every}
use Rattle.wfsx.proofs.Sets.{⊆_add}
use Rattle.sheet.specs.Sheet.{shown, rule_numbered, names_rule, true_follows}
use Rattle.sheet.specs.declared.SheetEntry.{SheetEntry}
use Rattle.maker.specs.Making.{adds, rule_entry, passed, with_literals}
use Rattle.wfsx.proofs.Members.{size_below, size_add}
use Rattle.maker.proofs.Stands.{Stands, stands_true}

pub with_grows : (es : List SheetEntry) (T : Set) → T ⊆ with_literals es T
unfolding with_literals
with_grows [] T A a = a
with_grows (e ∷ es) T A a = with_grows es (add e.literal T) A (⊆_add e.literal T A a)

-- the number of a rule is how many stand before it
number_names : (f : Rule → Bool) (before : List Rule) (r : Rule) (rs : List Rule) → rule_numbered f (before ++ (r ∷ rs)) (length before) ≡ f r
unfolding rule_numbered
number_names f [] r rs = refl
number_names f (q ∷ before) r rs = number_names f before r rs

module _ (known : ℕ) (F : Set) where
  -- ---- what a pass writes follows

  module _ (rules : List Rule) (facts : Set) where
    rule_follows : (before : List Rule) (r : Rule) (rs : List Rule) → rules ≡ before ++ (r ∷ rs) → (T : Set) → adds known T F r ≡ true
        → true_follows rules facts known T F (rule_entry r.head (length before)) ≡ true
    unfolding true_follows names_rule
    rule_follows before r rs is T h =
        let fresh = and_l (ltb r.head known && not (T r.head)) _ h in
        let named : Rule → Bool = λ q. eqb q.head r.head && every (shown T F) q.body in
        and_intro (ltb r.head known) _ (and_l (ltb r.head known) _ fresh)
        (or_l (rule_numbered named rules (length before)) _
        (ap (λ (l : List Rule). rule_numbered named l (length before)) is ∙ number_names named before r rs
        ∙ and_intro (eqb r.head r.head) _ (eq-eqb r.head r.head refl) (and_r (ltb r.head known && not (T r.head)) _ h)))

    pub stands_passed : (before rs : List Rule) → rules ≡ before ++ rs → (es : List SheetEntry) (T : Set) → Stands rules facts known es T F
        → Stands rules facts known (es ++ passed known F (length before) rs T) (with_literals (passed known F (length before) rs T) T) F
    unfolding passed with_literals
    stands_passed before [] is es T s = rw (append-nil es) s
    stands_passed before (r ∷ rs) is es T s =
        go (decided (adds known T F r)) (λ X ds t. stands_passed (before ++ (r ∷ [])) rs (is ∙ sym (append_assoc before (r ∷ []) rs)) ds X t)
      where
        next : ℕ
        next = length (before ++ (r ∷ []))

        one_more : next ≡ suc (length before)
        one_more = length-append before (r ∷ []) ∙ omega arith

        later : List SheetEntry
        later = passed known F (suc (length before)) rs (add r.head T)

        go : (adds known T F r ≡ true) ⊎ (adds known T F r ≡ false)
            → ((X : Set) (ds : List SheetEntry) → Stands rules facts known ds X F → Stands rules facts known (ds ++ passed known F next rs X) (with_literals (passed known F next rs X) X) F)
            → Stands rules facts known (es ++ passed known F (length before) (r ∷ rs) T) (with_literals (passed known F (length before) (r ∷ rs) T) T) F
        go (inl h) rest =
            rw h (subst (λ (l : List SheetEntry). Stands rules facts known l (with_literals later (add r.head T)) F) (append_assoc es (rule_entry r.head (length before) ∷ []) later)
            (rw one_more at (rest (add r.head T) (es ++ (rule_entry r.head (length before) ∷ [])) (stands_true rules facts known s (rule_entry r.head (length before)) (rule_follows before r rs is T h)))))
        go (inr h) rest = rw h (rw one_more at (rest T es s))

  -- ---- each entry adds a literal

  pub passed_most : (k : ℕ) (rs : List Rule) (T : Set) → length (passed known F k rs T) + size_below known T ≤ size_below known (with_literals (passed known F k rs T) T)
  unfolding passed with_literals
  passed_most k [] T = omega arith
  passed_most k (r ∷ rs) T = go (decided (adds known T F r)) (λ X. passed_most (suc k) rs X)
    where
      go : (adds known T F r ≡ true) ⊎ (adds known T F r ≡ false)
          → ((X : Set) → length (passed known F (suc k) rs X) + size_below known X ≤ size_below known (with_literals (passed known F (suc k) rs X) X))
          → length (passed known F k (r ∷ rs) T) + size_below known T ≤ size_below known (with_literals (passed known F k (r ∷ rs) T) T)
      go (inl h) rest =
          let fresh = and_l (ltb r.head known && not (T r.head)) _ h in
          let more = size_add known T r.head (ltb-true r.head known (and_l (ltb r.head known) _ fresh)) (not-true (T r.head) (and_r (ltb r.head known) _ fresh)) in
          let tail = rest (add r.head T) in
          rw h (omega arith)
      go (inr h) rest = rw h (rest T)

  -- ---- where it writes none

  pub passed_none : (k : ℕ) (rs : List Rule) (T : Set) → passed known F k rs T ≡ [] → (r : Rule) → r is_in rs → r.head < known → every (shown T F) r.body ≡ true → r.head ∈ T
  unfolding passed
  passed_none k [] T h r m l s = absurd (Memᴰ.not-nil m)
  passed_none k (q ∷ rs) T h r m l s = go (decided (adds known T F q)) m (λ i n. passed_none (suc k) rs T i r n l s)
    where
      no_entry : {e : SheetEntry} {es : List SheetEntry} → e ∷ es ≡ [] → ⊥
      no_entry {es = es} p = let z : suc (length es) ≡ 0 = ap length p in omega arith

      adding : r ≡ q → r.head ∉ T → adds known T F q ≡ true
      adding e y = rw (← e) (and_intro (ltb r.head known && not (T r.head)) _ (and_intro (ltb r.head known) _ (lt-ltb r.head known l) (not_intro y)) s)

      go : (adds known T F q ≡ true) ⊎ (adds known T F q ≡ false) → r is_in (q ∷ rs) → (passed known F (suc k) rs T ≡ [] → r is_in rs → r.head ∈ T) → r.head ∈ T
      go (inl a) m rest = absurd (no_entry (rw a at h))
      go (inr a) (Memᴰ.tail m) rest = rest (rw a at h) m
      go (inr a) (Memᴰ.head e) rest = ⊎_elim (λ y. y) (λ y. absurd (clash (adding e y) a)) (decided (T r.head))
