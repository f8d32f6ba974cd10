-- The run of a name in the index has the rules for its two literals, since these stand beside each other. The starts do not fall, so the runs of names in ascending
-- order have room one behind another.
use mathlib.Core.Path.{◌≡◌, refl, sym, ◌∙◌, ap, ap₂}
use mathlib.Core.Logic.{◌⊎◌, inl, inr, ◌↔◌}
use mathlib.Core.Bool.{Bool, true, false, cond}
use mathlib.Core.List.Memᴰ
use mathlib.Core.List.{List, map, [], ◌∷◌, ◌++◌, append_assoc, append-nil}
use Prim.Native.Nat.{ℕ, zero, suc, ◌+◌, ◌-◌, ◌*◌, ◌/◌, ◌≤◌, ◌<◌}
use native.Mathlib.Numerals.{add-one}
use native.Mathlib.Decide.{ℕ_discrete}
use native.Mathlib.Omega.{arith}
use lib.ListN.{length, get_or, take, drop, set, length-append, length-take, length-drop, drop_of_length-le}
use lib.Seq.{take-add, drop-drop, drop-cons, take-suc-set}
use Rattle.wfsx.specs.Sets.{Set, ◌is_in◌, members_from, members}
use Rattle.wfsx.proofs.Members.{members_none, members_first, members_are}
use Rattle.book.specs.Limits.{max_names, max_rules}
use Rattle.book.specs.Book.{head_at}
use Rattle.book.proofs.Back.{get_d_in}
use Rattle.book.proofs.Parts.{part_step, part_end}
use Rattle.index.specs.Index.{rules_with, head_starts, head_rules}
use Rattle.book.proofs.Tables.{joined_none, joined_first}
use Rattle.index.proofs.Indexed.{with_head, start_of, head_rules_length, start_most, start_next, rules_of_lem}
use Rattle.groups.specs.Parts.{run_of, runs_of, RunsFit, Copied}

-- ---- lists of runs

module _ (first rules : List ℕ) where
  pub runs_none : runs_of first rules [] ≡ []
  runs_none = joined_none

  pub runs_first : (k : ℕ) (ks : List ℕ) → runs_of first rules (k ∷ ks) ≡ run_of first rules k ++ runs_of first rules ks
  runs_first k ks = joined_first (run_of first rules k) (map (run_of first rules) ks)

  pub runs_elim : (ks : List ℕ) (j : ℕ) → j is_in runs_of first rules ks → (k : ℕ) × k is_in ks × j is_in run_of first rules k
  runs_elim [] j m = absurd (Memᴰ.not-nil (rw runs_none at m))
  runs_elim (k ∷ ks) j m = go (Memᴰ.append_cases (run_of first rules k) (rw (runs_first k ks) at m)) (runs_elim ks j)
    where
      go : (j is_in run_of first rules k) ⊎ (j is_in runs_of first rules ks) → (j is_in runs_of first rules ks → (i : ℕ) × i is_in ks × j is_in run_of first rules i)
          → (i : ℕ) × i is_in k ∷ ks × j is_in run_of first rules i
      go (inl i) rest = (k, Memᴰ.head refl, i)
      go (inr i) rest = let w = rest i in (w.0, Memᴰ.tail w.1, w.2)

  pub runs_intro : (ks : List ℕ) (k j : ℕ) → k is_in ks → j is_in run_of first rules k → j is_in runs_of first rules ks
  runs_intro [] k j x'' m = elim x'' [ ]
  runs_intro (i ∷ ks) k j (Memᴰ.head e) m = rw (runs_first i ks) (Memᴰ.append_left (runs_of first rules ks) (rw e at m))
  runs_intro (i ∷ ks) k j (Memᴰ.tail h) m = rw (runs_first i ks) (Memᴰ.append_right (run_of first rules i) (runs_intro ks k j h m))

-- ---- the index of a table of heads

module _ (heads : List ℕ) (count : ℕ) (few : count ≤ max_rules) where
  abbrev run : ℕ → List ℕ
  run = run_of (head_starts heads count) (head_rules heads count)

  -- the starts of a name's literals and the start behind them
  run_starts : (k : ℕ) → k < max_names → (start_of heads count (2 * k) ≤ start_of heads count (2 * k + 1)) × (start_of heads count (2 * k + 1) ≤ start_of heads count (2 * k + 2))
  run_starts k h =
      let two : 2 * k + 1 + 1 ≡ 2 * k + 2 = omega arith in
      (start_next heads count (2 * k) (omega arith), rw two at (start_next heads count (2 * k + 1) (omega arith)))

  run_is : (k : ℕ) → k < max_names → run k ≡ rules_with heads count (2 * k) ++ rules_with heads count (2 * k + 1)
  run_is k h =
      let a = start_of heads count (2 * k) in
      let b = start_of heads count (2 * k + 1) in
      let d = start_of heads count (2 * k + 2) in
      let w = run_starts k h in
      let two : 2 * k + 1 + 1 ≡ 2 * k + 2 = omega arith in
      let parts : d - a ≡ (b - a) + (d - b) = omega arith in
      let mid : a + (b - a) ≡ b = omega arith in
      ap (λ (m : ℕ). take m (drop a (head_rules heads count))) parts ∙ take-add (b - a) (d - b) (drop a (head_rules heads count))
      ∙ ap₂ (λ (x y : List ℕ). x ++ y) (rules_of_lem heads count (2 * k) (omega arith))
      (ap (take (d - b)) (drop-drop (b - a) a (head_rules heads count) ∙ ap (λ (m : ℕ). drop m (head_rules heads count)) mid)
      ∙ rw two at (rules_of_lem heads count (2 * k + 1) (omega arith)))

  -- the run of a name has the rules for the name
  pub run_has : (k : ℕ) → k < max_names → (j : ℕ) → (j is_in run k) ↔ ((head_at heads j / 2 ≡ k) × (j < count))
  run_has k h j = (λ m. there (Memᴰ.append_cases (rules_with heads count (2 * k)) (rw (run_is k h) at m)), λ w. rw (run_is k h) (back w (ℕ_discrete (head_at heads j) (2 * k))))
    where
      there : (j is_in rules_with heads count (2 * k)) ⊎ (j is_in rules_with heads count (2 * k + 1)) → (head_at heads j / 2 ≡ k) × (j < count)
      there (inl m) = let w = (with_head heads count (2 * k) j).0 m in let e = w.0 in (omega arith, w.1)
      there (inr m) = let w = (with_head heads count (2 * k + 1) j).0 m in let e = w.0 in (omega arith, w.1)

      back : (head_at heads j / 2 ≡ k) × (j < count) → Dec (head_at heads j ≡ 2 * k) → j is_in rules_with heads count (2 * k) ++ rules_with heads count (2 * k + 1)
      back (e, l) (yes q) = Memᴰ.append_left (rules_with heads count (2 * k + 1)) ((with_head heads count (2 * k) j).1 (q, l))
      back (e, l) (no q) = Memᴰ.append_right (rules_with heads count (2 * k)) ((with_head heads count (2 * k + 1) j).1 (omega arith, l))

  run_length : (k : ℕ) → k < max_names → start_of heads count (2 * k) + length (run k) ≡ start_of heads count (2 * k + 2)
  run_length k h =
      let w = run_starts k h in
      omega (
        arith,
        w.0,
        w.1,
        start_most heads count (2 * k + 2) (omega arith),
        head_rules_length heads count few,
        length-take (start_of heads count (2 * k + 2) - start_of heads count (2 * k)) (drop (start_of heads count (2 * k)) (head_rules heads count)),
        length-drop (start_of heads count (2 * k)) (head_rules heads count),
      )

  runs_length : (W : Set) (b n : ℕ) → b + n ≤ max_names
      → start_of heads count (2 * b) + length (runs_of (head_starts heads count) (head_rules heads count) (members_from W b n)) ≤ start_of heads count (2 * (b + n))
  runs_length W b zero h =
      let e : 2 * (b + 0) ≡ 2 * b = omega arith in
      rw (members_none W b, runs_none (head_starts heads count) (head_rules heads count), e) (omega arith)
  runs_length W b (suc n) h = rw (members_first W b n) (go (W b) (rw (low, high) at (runs_length W (suc b) n (omega arith))))
    where
      low : 2 * suc b ≡ 2 * b + 2
      low = omega arith

      high : 2 * (suc b + n) ≡ 2 * (b + suc n)
      high = omega arith

      go : (t : Bool)
          → start_of heads count (2 * b + 2) + length (runs_of (head_starts heads count) (head_rules heads count) (members_from W (suc b) n)) ≤ start_of heads count (2 * (b + suc n))
          → start_of heads count (2 * b) + length (runs_of (head_starts heads count) (head_rules heads count) (cond t (b ∷ members_from W (suc b) n) (members_from W (suc b) n)))
          ≤ start_of heads count (2 * (b + suc n))
      go true rest =
          let later = runs_of (head_starts heads count) (head_rules heads count) (members_from W (suc b) n) in
          rw (runs_first (head_starts heads count) (head_rules heads count) b (members_from W (suc b) n))
          (omega (arith, rest, length-append (run b) later, run_length b (omega arith)))
      go false rest = let w = run_starts b (omega arith) in omega (arith, rest, w.0, w.1)

  pub runs_fit : (W : Set) (n : ℕ) → n ≤ max_names → RunsFit (head_starts heads count) (head_rules heads count) (members n W)
  runs_fit W n h =
      record {
        inside = λ k m. let w = (members_are n W k).0 m in omega (arith, start_most heads count (2 * k + 2) (omega arith), head_rules_length heads count few);
        room = omega (arith, runs_length W 0 n (omega arith), start_most heads count (2 * (0 + n)) (omega arith));
      }

-- ---- the copy of a run

module _ (rules : List ℕ) (end : ℕ) where
  -- what stands before place p with the part that is left is the whole
  pub record Copying (whole numbers : List ℕ) (p j : ℕ) : Type 0 where
    pub same : take p numbers ++ take (end - j) (drop j rules) ≡ whole

  pub copying_more : {whole numbers : List ℕ} {p j : ℕ} → j < end → end ≤ length rules → p < length numbers → Copying whole numbers p j
      → Copying whole (set numbers p (get_or rules j 0)) (p + 1) (j + 1)
  copying_more {whole} {numbers} {p} {j} h inside room g =
      record {
        same =
            ap (λ (m : ℕ). take m (set numbers p (get_or rules j 0)) ++ take (end - (j + 1)) (drop (j + 1) rules)) (add-one p)
            ∙ ap (λ (l : List ℕ). l ++ take (end - (j + 1)) (drop (j + 1) rules)) (take-suc-set numbers p (get_or rules j 0) room)
            ∙ append_assoc (take p numbers) (get_or rules j 0 ∷ []) (take (end - (j + 1)) (drop (j + 1) rules))
            ∙ ap (λ (l : List ℕ). take p numbers ++ l) (sym (part_step rules j end h (omega arith))) ∙ g.same;
      }

  pub copying_end : {whole numbers : List ℕ} {p j : ℕ} → end ≤ j → Copying whole numbers p j → take p numbers ≡ whole
  copying_end {whole} {numbers} {p} {j} h g =
      sym (append-nil (take p numbers)) ∙ ap (λ (l : List ℕ). take p numbers ++ l) (sym (part_end rules j end (omega arith))) ∙ g.same

-- ---- the runs of some names

module _ (first rules names : List ℕ) where
  -- the runs of the names before place i stand before place p, and those left make the whole with them
  pub record Gathering (numbers : List ℕ) (p i : ℕ) : Type 0 where
    pub same : take p numbers ++ runs_of first rules (drop i names) ≡ runs_of first rules names
    pub count : p + length (runs_of first rules (drop i names)) ≡ length (runs_of first rules names)

  pub gathering_start : (numbers : List ℕ) → Gathering numbers 0 0
  gathering_start numbers = record { same = refl; count = omega arith }

  module _ (fit : RunsFit first rules names) {numbers : List ℕ} {p i : ℕ} (g : Gathering numbers p i) where
    pub gathering_most : p ≤ max_rules
    gathering_most = omega (arith, g.count, fit.room)

    pub gathering_end : length names ≤ i → take p numbers ≡ runs_of first rules names
    gathering_end h = sym (rw (drop_of_length-le names h, runs_none first rules) (append-nil (take p numbers))) ∙ g.same

    -- a is the first literal of the name at place i
    module _ (more : i < length names) {a from end : ℕ} (its : a ≡ 2 * get_or names i 0) (low : from ≡ get_or first a 0) (high : end ≡ get_or first (a + 2) 0) where
      here : take (end - from) (drop from rules) ≡ run_of first rules (get_or names i 0)
      here = rw (low, high, its) refl

      pub gathering_inside : end ≤ length rules
      gathering_inside = rw (high, its) (fit.inside (get_or names i 0) (get_d_in names i 0 more))

      next : runs_of first rules (drop i names) ≡ take (end - from) (drop from rules) ++ runs_of first rules (drop (i + 1) names)
      next =
          ap (runs_of first rules) (drop-cons names i 0 more) ∙ runs_first first rules (get_or names i 0) (drop (suc i) names)
          ∙ ap₂ (λ (x : List ℕ) (k : ℕ). x ++ runs_of first rules (drop k names)) (sym here) (sym (add-one i))

      size : end - from + length (runs_of first rules (drop (i + 1) names)) ≡ length (runs_of first rules (drop i names))
      size =
          omega (
            arith,
            ap length next,
            length-append (take (end - from) (drop from rules)) (runs_of first rules (drop (i + 1) names)),
            length-take (end - from) (drop from rules),
            length-drop from rules,
            gathering_inside,
          )

      pub gathering_room : p + (end - from) ≤ max_rules
      gathering_room = omega (arith, size, g.count, fit.room)

      pub gathering_more : {behind : ℕ} {after : List ℕ} → Copied rules from end numbers p behind after → Gathering after behind (i + 1)
      gathering_more {behind} {after} c =
          record {
            same =
                ap (λ (l : List ℕ). l ++ runs_of first rules (drop (i + 1) names)) c.whole
                ∙ append_assoc (take p numbers) (take (end - from) (drop from rules)) (runs_of first rules (drop (i + 1) names))
                ∙ ap (λ (l : List ℕ). take p numbers ++ l) (sym next) ∙ g.same;
            count = omega (arith, size, g.count, c.count);
          }
