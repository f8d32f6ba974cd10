-- One turn of the check: what is left to be said of a sheet behind a single entry, and behind a group. A run of "false" entries of one number that ends there
-- is the first block of the entries from its first on.
use mathlib.Core.Path.{◌≡◌, refl, sym, ◌∙◌, ap, fun_ext}
use mathlib.Core.Logic.{◌⊎◌, inl, inr}
use mathlib.Core.Bool.{Bool, true, false, not, cond, ◌&&◌, ◌||◌}
use mathlib.Core.List.{List, [], ◌∷◌}
use Prim.Native.Nat.{ℕ, zero, suc, ◌+◌, ◌-◌, ◌≤◌, ◌<◌}
use native.Mathlib.Decide.{dec_lt, ℕ_discrete}
use native.Mathlib.Numerals.{add-one}
use native.Mathlib.Omega.{arith}
use lib.Dec.{eqb, ltb}
use lib.ListN.{length}
use borrow.Author.Tests.{eq-eqb, ne_eqb, eqb-true, ltb-true, lt-ltb}
use Rattle.truth.proofs.Truth.{decided, same_test as same-test', and_l, and_r, and_intro}
use Rattle.wfsx.specs.Sets.{Set, ∅, ◌∈◌, ◌∉◌, ◌∪◌, add}
use Rattle.wfsx.specs.Program.{Rule}
use Rattle.litset.specs.Words.{capacity, set_of, with}
use Rattle.litset.proofs.Words.{with_room}
use Rattle.std.specs.Prelude.{Result, Ok, Err}
use Rattle.book.specs.Book.{rows, rules_of, program}
use Rattle.book.specs.declared.Book.{Book}
use Rattle.book.proofs.Rows.{rows_step, rows_end, rows_length}
use Rattle.sheet.specs.declared.SheetEntry.{SheetEntry}
use Rattle.sheet.specs.declared.Progress.{Progress}
use Rattle.sheet.specs.Sheet.{Block, single, group, joined, blocks, listed, Fault, none, at, first_failing, true_follows, false_follows, fault_in, fault}
use Rattle.sheet.specs.Turns.{open_in, numbered, literals, passes, fault_or, FirstFailing, same_group, RunTo, left_at, left_for, TurnOf, FaultAt}
use Rattle.sheet.proofs.Open.{not_open}
use Rattle.sheet.proofs.Sound.{failing_none}
use Rattle.sheet.proofs.Tables.{open_agree}
use Rattle.sheet.proofs.Entries.{numbered_none}

-- ---- the first block of some entries

-- a block that is no group of the number g stands first, or none
data Other (g : ℕ) : List Block → Type 0 where
  no_block : Other g []
  a_single : {e : SheetEntry} {bs : List Block} → Other g (single e ∷ bs)
  a_group : {h : ℕ} {As : List ℕ} {bs : List Block} → eqb g h ≡ false → Other g (group h As ∷ bs)

joined_other : (g h A : ℕ) (bs : List Block) → eqb g h ≡ false → Other g (joined h A bs)
unfolding joined
joined_other g h A [] n = a_group n
joined_other g h A (single e ∷ bs) n = a_group n
joined_other g h A (group k As ∷ bs) n = go (decided (eqb h k))
  where
    go : (eqb h k ≡ true) ⊎ (eqb h k ≡ false) → Other g (cond (eqb h k) (group h (A ∷ As) ∷ bs) (group h (A ∷ []) ∷ group k As ∷ bs))
    go (inl e) = rw e (a_group n)
    go (inr e) = rw e (a_group n)

joined_first : (g A : ℕ) {bs : List Block} → Other g bs → joined g A bs ≡ group g (A ∷ []) ∷ bs
unfolding joined
joined_first g A no_block = refl
joined_first g A a_single = refl
joined_first g A (a_group n) = rw n refl

joined_more : (g A : ℕ) (As : List ℕ) (bs : List Block) → joined g A (group g As ∷ bs) ≡ group g (A ∷ As) ∷ bs
unfolding joined
joined_more g A As bs = rw (eq-eqb g g refl) refl

module _ (e : ℕ → SheetEntry) where
  entry_single : (x : SheetEntry) (es : List SheetEntry) → eqb x.kind 0 ≡ false → blocks (x ∷ es) ≡ single x ∷ blocks es
  unfolding blocks
  entry_single x es z = rw z refl

  entry_false : (x : SheetEntry) (es : List SheetEntry) → eqb x.kind 0 ≡ true → blocks (x ∷ es) ≡ joined x.group x.literal (blocks es)
  unfolding blocks
  entry_false x es z = rw z refl

  blocks_none : blocks [] ≡ []
  unfolding blocks
  blocks_none = refl

  -- no entry at j, or one that is not a "false" entry under g
  end_other : (g n j : ℕ) → (j < n → (eqb (e j).kind 0 && eqb g (e j).group) ≡ false) → Other g (blocks (rows e j (n - j)))
  end_other g n j stops = go (dec_lt j n)
    where
      inside : (j < n) → (eqb (e j).kind 0 ≡ true) ⊎ (eqb (e j).kind 0 ≡ false) → Other g (blocks (e j ∷ rows e (j + 1) (n - (j + 1))))
      inside h (inl z) = rw (entry_false (e j) (rows e (j + 1) (n - (j + 1))) z) (joined_other g (e j).group (e j).literal _ (rw z at (stops h)))
      inside h (inr z) = rw (entry_single (e j) (rows e (j + 1) (n - (j + 1))) z) a_single

      go : Dec (j < n) → Other g (blocks (rows e j (n - j)))
      go (yes h) = rw (rows_step e j n h) (inside h (decided (eqb (e j).kind 0)))
      go (no h) = rw (rows_end e j n (omega arith), blocks_none) no_block

  -- the m + 1 entries from i on are "false" entries under g, and the run ends behind them
  blocks_run : (g n m i : ℕ) → i + suc m ≤ n → ((k : ℕ) → i ≤ k → k < i + suc m → (eqb (e k).kind 0 && eqb g (e k).group) ≡ true)
      → Other g (blocks (rows e (i + suc m) (n - (i + suc m))))
      → blocks (rows e i (n - i)) ≡ group g (rows (λ k. (e k).literal) i (suc m)) ∷ blocks (rows e (i + suc m) (n - (i + suc m)))
  unfolding rows
  blocks_run g n zero i h runs o =
      let next : i + 1 ≡ i + suc 0 = omega arith in
      let same : g ≡ (e i).group = eqb-true g (e i).group (and_r (eqb (e i).kind 0) _ (runs i (omega arith) (omega arith))) in
      ap blocks (rows_step e i n (omega arith)) ∙ entry_false (e i) _ (and_l (eqb (e i).kind 0) _ (runs i (omega arith) (omega arith)))
      ∙ rw (next, ← same) (joined_first g (e i).literal o)
  blocks_run g n (suc m) i h runs o =
      let next : i + suc (suc m) ≡ suc i + suc m = omega arith in
      let same : g ≡ (e i).group = eqb-true g (e i).group (and_r (eqb (e i).kind 0) _ (runs i (omega arith) (omega arith))) in
      let rest = blocks_run g n m (suc i) (omega arith) (λ k a b. runs k (omega arith) (omega arith)) (rw next at o) in
      ap blocks (rows_step e i n (omega arith)) ∙ entry_false (e i) _ (and_l (eqb (e i).kind 0) _ (runs i (omega arith) (omega arith)))
      ∙ rw (add-one i, ← same, rest, next) (joined_more g (e i).literal (rows (λ k. (e k).literal) (suc i) (suc m)) _)

-- ---- the numbers of the groups before

module _ (e : ℕ → SheetEntry) where
  numbered_single : (i : ℕ) → eqb (e i).kind 0 ≡ false → numbered e (i + 1) ≡ numbered e i
  unfolding numbered
  numbered_single i z = rw (add-one i) (fun_ext (λ g. rw z refl))

  -- a run under one number adds that number
  numbered_run : (g i m : ℕ) → ((k : ℕ) → i ≤ k → k < i + suc m → (eqb (e k).kind 0 && eqb g (e k).group) ≡ true)
      → numbered e (i + suc m) ≡ add g (numbered e i)
  unfolding numbered
  numbered_run g i m runs = fun_ext (λ h. go m runs h)
    where
      twice : (a s : Bool) → (a || (a || s)) ≡ (a || s)
      twice true s = refl
      twice false s = refl

      last : (k h : ℕ) → (eqb (e k).kind 0 && eqb g (e k).group) ≡ true → (eqb (e k).kind 0 && eqb h (e k).group) ≡ eqb h g
      last k h t = rw (and_l (eqb (e k).kind 0) _ t, ← eqb-true g (e k).group (and_r (eqb (e k).kind 0) _ t)) refl

      go : (m : ℕ) → ((k : ℕ) → i ≤ k → k < i + suc m → (eqb (e k).kind 0 && eqb g (e k).group) ≡ true) → (h : ℕ) → numbered e (i + suc m) h ≡ (eqb h g || numbered e i h)
      go zero runs h = let z : i + suc 0 ≡ suc i = omega arith in rw (z, last i h (runs i (omega arith) (omega arith))) refl
      go (suc m) runs h =
          let z : i + suc (suc m) ≡ suc (i + suc m) = omega arith in
          rw (z, last (i + suc m) h (runs (i + suc m) (omega arith) (omega arith)), go m (λ k a b. runs k a (omega arith)) h) (twice (eqb h g) (numbered e i h))

-- ---- what is left behind an entry or a group

literal_known : (rules : List Rule) (facts : Set) (known : ℕ) (T F : Set) (x : SheetEntry) → true_follows rules facts known T F x ≡ true → x.literal < known
unfolding true_follows
literal_known rules facts known T F x h = ltb-true x.literal known (and_l (ltb x.literal known) _ (and_r (eqb x.kind 1) _ h))

false_passes : (rules : List Rule) (facts : Set) (known : ℕ) (T F G : Set) (A : ℕ)
    → false_follows rules facts known T F G A ≡ passes known (open_in (program rules facts) T (F ∪ G)) A
unfolding false_follows
false_passes rules facts known T F G A = ap (λ (b : Bool). ltb A known && b) (not_open T F G (program rules facts) A)

module _ (rules : List Rule) (facts : Set) (known : ℕ) (e : ℕ → SheetEntry) (n : ℕ) (T F : Set) (i : ℕ) (here : i < n) where
  abbrev left : (T F : Set) → ℕ → Fault
  left = left_at rules facts known e n

  -- x is the entry at i, and b says whether it follows
  module _ {x : SheetEntry} (is : x ≡ e i) (not-false : x.kind ≡ 0 → ⊥) {b : Bool} (says : b ≡ true_follows rules facts known T F x) where
    single_next : left T F i ≡ cond b (left (add x.literal T) F (i + 1)) (at i)
    unfolding left_at fault_in
    single_next =
        let z : eqb (e i).kind 0 ≡ false = rw (← is) (ne_eqb x.kind 0 not-false) in
        rw (rows_step e i n here, entry_single e (e i) (rows e (i + 1) (n - (i + 1))) z, ← add-one i, numbered_single e i z, ← is, ← says) refl

    pub single_fails : b ≡ false → left T F i ≡ at i
    single_fails y = single_next ∙ rw y refl

    pub single_goes : known ≤ capacity → b ≡ true → {l : ℕ} → l ≡ x.literal → {U : Set} → U ≡ with l T → left T F i ≡ left U F (i + 1)
    single_goes small y {l} literal_is u = single_next ∙ rw (y, u, literal_is, with_room x.literal T inside) refl
      where
        inside : x.literal < capacity
        inside = let h = literal_known rules facts known T F x (sym says ∙ y) in omega arith

  -- a run to j of "false" entries under one number
  module _ (z : (e i).kind ≡ 0) {j : ℕ} {S : Set} (run : RunTo e i n j S) (stops : j < n → same_group e i j ≡ false) where
    abbrev g : ℕ
    g = (e i).group

    abbrev As : List ℕ
    As = literals e i j

    of_group : (k : ℕ) → i ≤ k → k < j → same_group e i k ≡ true
    of_group k a b = go (ℕ_discrete k i)
      where
        go : Dec (k ≡ i) → same_group e i k ≡ true
        go (yes q) = rw q (and_intro (eqb (e i).kind 0) _ (eq-eqb (e i).kind 0 z) (eq-eqb g g refl))
        go (no q) = run.runs k (omega arith) b

    group_first : blocks (rows e i (n - i)) ≡ group g As ∷ blocks (rows e j (n - j))
    group_first =
        let above = run.above in
        let within = run.within in
        let end : i + suc (j - i - 1) ≡ j = omega arith in
        let size : suc (j - i - 1) ≡ j - i = omega arith in
        rw (end, size) at (blocks_run e g n (j - i - 1) i (omega arith) (λ k a b. of_group k a (omega arith)) (rw end (end_other e g n j stops)))

    group_ended : numbered e j ≡ add g (numbered e i)
    group_ended =
        let above = run.above in
        let end : i + suc (j - i - 1) ≡ j = omega arith in
        rw end at (numbered_run e g i (j - i - 1) (λ k a b. of_group k a (omega arith)))

    group_next : left T F i ≡ cond (numbered e i g) (at i) (first_failing (false_follows rules facts known T F (listed As)) i As (left T (F ∪ listed As) j))
    unfolding left_at fault_in
    group_next =
        let above = run.above in
        let size : i + length As ≡ j = omega (arith, rows_length (λ k. (e k).literal) i (j - i)) in
        ap (fault_in rules facts known T F (numbered e i) i) group_first
        ∙ ap (λ (m : ℕ). cond (numbered e i g) (at i) (first_failing (false_follows rules facts known T F (listed As)) i As (fault_in rules facts known T (F ∪ listed As) (add g (numbered e i)) m (blocks (rows e j (n - j)))))) size
        ∙ ap (λ (E : Set). cond (numbered e i g) (at i) (first_failing (false_follows rules facts known T F (listed As)) i As (fault_in rules facts known T (F ∪ listed As) E j (blocks (rows e j (n - j)))))) (sym group_ended)

-- the same over the rules of a book; O are the literals that have a rule left open, and r has the place of the first entry that does not pass
module _ (b : Book) (facts : Set) (below : (A : ℕ) → A ∈ facts → A < capacity) (known : ℕ) (small : known ≤ capacity)
    (e : ℕ → SheetEntry) (n : ℕ) (T F : Set) (i : ℕ) (here : i < n) (z : (e i).kind ≡ 0) {j : ℕ} {S : Set} (run : RunTo e i n j S)
    (stops : j < n → same_group e i j ≡ false) where
  abbrev lefts : (T F : Set) → ℕ → Fault
  lefts = left_at (rules_of b) facts known e n

  pub group_ends : (e i).group ∈ numbered e i → lefts T F i ≡ at i
  group_ends m = group_next (rules_of b) facts known e n T F i here z run stops ∙ rw m refl

  module _ (fresh : (e i).group ∉ numbered e i) {D O : Set} (together : D ≡ F ∪ S) (opens : O ≡ open_in (program (rules_of b) facts) T D) where
    abbrev group_literals : List ℕ
    group_literals = literals e i j

    same_test : false_follows (rules_of b) facts known T F (listed group_literals) ≡ passes known O
    same_test = fun_ext (λ A. false_passes (rules_of b) facts known T F (listed group_literals) A ∙ ap (λ (s : Bool). ltb A known && not s) (open_agree T agree b facts below A ∙ sym (ap (λ (U : Set). U A) (opens ∙ ap (open_in (program (rules_of b) facts) T) together))))
      where
        agree : (A : ℕ) → A < capacity → (F ∪ listed group_literals) A ≡ (F ∪ S) A
        agree A h = ap (λ (s : Bool). F A || s) (sym (ap (λ (U : Set). U A) run.members ∙ rw (lt-ltb A capacity h) refl))

    judged : {r : Result Unit ℕ} → FirstFailing (passes known O) e i j r → lefts T F i ≡ fault_or r (lefts T (F ∪ listed group_literals) j)
    judged first =
        group_next (rules_of b) facts known e n T F i here z run stops
        ∙ rw (fresh, same_test) (first.found (lefts T (F ∪ listed group_literals) j))

    pub group_fails : {k : ℕ} → FirstFailing (passes known O) e i j (Err k) → lefts T F i ≡ at k
    group_fails first = judged first

    pub group_goes : {u : Unit} → FirstFailing (passes known O) e i j (Ok u) → lefts T F i ≡ lefts T D j
    group_goes first = judged first ∙ rw (together, members) refl
      where
        passing : (A : ℕ) → A ∈ listed group_literals → A < known
        passing A a = ltb-true A known (and_l (ltb A known) _ ((failing_none (passes known O) i group_literals none (first.found none)).0 A a))

        members : S ≡ listed group_literals
        members = run.members ∙ fun_ext (λ A. same-test' (λ a. and_r (ltb A capacity) _ a) (λ a. let l = passing A a in and_intro (ltb A capacity) _ (lt-ltb A capacity (omega arith)) a))

-- ---- the whole sheet

-- the entries before p follow, and what is left decides
pub record ComeTo (rules : List Rule) (facts : Set) (known : ℕ) (e : ℕ → SheetEntry) (n : ℕ) (p : Progress) : Type 0 where
  pub inside : p.next ≤ n
  pub same : fault rules facts known (rows e 0 n) ≡ left_for (left_at rules facts known e n) p

module _ {rules : List Rule} {facts : Set} {known : ℕ} {e : ℕ → SheetEntry} {n : ℕ} where
  pub come_start : (p : Progress) → p.next ≡ 0 → set_of p.truths.words ≡ ∅ → set_of p.falses.words ≡ ∅ → ComeTo rules facts known e n p
  unfolding left_at
  come_start p z t f =
      let all : n - 0 ≡ n = omega arith in
      let none_yet : numbered e 0 ≡ ∅ = fun_ext (λ g. numbered_none e g) in
      record { inside = omega arith; same = sym (rw (z, t, f, all, none_yet) refl) }

  module _ {p : Progress} (c : ComeTo rules facts known e n p) where
    pub come_end : n ≤ p.next → FaultAt rules facts known e n (Ok tt)
    unfolding left_at blocks fault_in
    come_end h = record { within = tt; found = c.same ∙ rw (rows_end e p.next n h) refl }

    pub come_on : {q : Progress} → TurnOf (left_at rules facts known e n) n p (Ok q) → ComeTo rules facts known e n q
    come_on t = record { inside = t.1; same = c.same ∙ t.2 }

    pub come_halt : {k : ℕ} → TurnOf (left_at rules facts known e n) n p (Err k) → FaultAt rules facts known e n (Err k)
    come_halt t = record { within = t.0; found = c.same ∙ t.1 }
