-- The loop over the groups. The places left are those of the groups left, in working order; the number at a place tells where its group ends, since the numbers of later
-- groups are higher. A group's step, or nothing where it has no rules, settles it.
use mathlib.Core.Path.{◌≡◌, refl, sym, ◌∙◌, ap, ap₂}
use mathlib.Core.Logic.{◌⊎◌, inl, inr}
use mathlib.Core.List.Memᴰ
use mathlib.Core.List.{List, [], ◌∷◌, ◌++◌, map}
use Prim.Native.Nat.{ℕ, suc, ◌+◌, ◌-◌, ◌≤◌, ◌<◌}
use native.Mathlib.Omega.{arith}
use native.Mathlib.Nat.{add-zero}
use lib.ListN.{length, get_or, take, drop, length-append, length-map, length-drop}
use lib.Seq.{take_at, drop_at, drop-drop, get_or-drop}
use Rattle.wfsx.specs.Sets.{Set, ◌∪◌, ◌is_in◌, members}
use Rattle.wfsx.specs.Program.{Rule, Program}
use Rattle.wfsx.specs.Model.{M, N, Heads⊆}
use Rattle.wfsx.specs.Reach.{name_for, group}
use Rattle.wfsx.specs.Groups.{MayCome, InOrder, all_listed, comes_next, leaders, working_order, Values, no_values, step}
use Rattle.wfsx.proofs.Members.{members_are}
use Rattle.wfsx.proofs.Order.{in_order, order_is, group_itself}
use Rattle.wfsx.proofs.Going.{RulesOf, Going, going_start, going_more, going_past, going_end}
use Rattle.litset.specs.Words.{capacity, room}
use Rattle.book.specs.Book.{joined}
use Rattle.reach.specs.Order.{numbered}
use Rattle.reach.proofs.Places.{numbered_none, numbered_first}
use Rattle.book.proofs.Tables.{joined_none, joined_first}
use Rattle.groups.specs.Parts.{alike}
use Rattle.groups.proofs.Names.{alike_none, alike_more, alike_other}

-- ---- the numbers of the places

some_place : {k : ℕ} (l : List ℕ) → k is_in l → 0 < length l
some_place [] m = absurd (Memᴰ.not-nil m)
some_place (x ∷ l) m = omega arith

later_other : (i j : ℕ) (gs : List (List ℕ)) → i < j → alike i (numbered j gs) ≡ 0
later_other i j [] h = rw (numbered_none j) (alike_none i)
later_other i j ([] ∷ gs) h = rw (numbered_first j [] gs) (later_other i (suc j) gs (omega arith))
later_other i j ((x ∷ g) ∷ gs) h = rw (numbered_first j (x ∷ g) gs) (alike_other i j (map (λ _. j) g ++ numbered (suc j) gs) (λ e. omega arith))

run_alike : (i : ℕ) (g ys : List ℕ) → alike i ys ≡ 0 → alike i (map (λ _. i) g ++ ys) ≡ length g
run_alike i [] ys e = e
run_alike i (x ∷ g) ys e = alike_more i i (map (λ _. i) g ++ ys) refl ∙ ap suc (run_alike i g ys e)

first_number : (i : ℕ) (g ys : List ℕ) → 0 < length g → get_or (map (λ _. i) g ++ ys) 0 0 ≡ i
first_number i [] ys h = absurd (omega arith)
first_number i (x ∷ g) ys h = refl

module _ (i : ℕ) (g : List ℕ) (gs : List (List ℕ)) where
  -- a table's rest that begins with a group ends it where the number changes
  group_ends : (numbers : List ℕ) (p : ℕ) → 0 < length g → drop p numbers ≡ numbered i (g ∷ gs) → alike (get_or numbers p 0) (drop p numbers) ≡ length g
  group_ends numbers p some e =
      let rest : drop p numbers ≡ map (λ _. i) g ++ numbered (suc i) gs = e ∙ numbered_first i g gs in
      let here : get_or numbers p 0 ≡ i =
      ap (λ (k : ℕ). get_or numbers k 0) (sym (add-zero p)) ∙ sym (get_or-drop p numbers 0 0) ∙ ap (λ (l : List ℕ). get_or l 0 0) rest ∙ first_number i g (numbered (suc i) gs) some in
      ap₂ (λ (x : ℕ) (l : List ℕ). alike x l) here rest ∙ run_alike i g (numbered (suc i) gs) (later_other i (suc i) gs (omega arith))

-- ---- the loop

module _ (P : Program) (n : ℕ) (named : (r : Rule) → r is_in P → name_for r < n) where
  abbrev groups_of : List ℕ → List (List ℕ)
  groups_of ks = map (λ k. members n (group P k)) ks

  -- before place p the groups of ks are left, and v has the values of those before
  pub record Left (name numbers : List ℕ) (p : ℕ) (v : Values) : Type 0 where
    pub listed : Set
    pub ks : List ℕ
    pub i : ℕ
    pub order : InOrder P n listed ks
    pub names_left : drop p name ≡ joined (groups_of ks)
    pub numbers_left : drop p numbers ≡ numbered i (groups_of ks)
    pub going : Going P n named listed v

  -- the group of k stands from place p to `end`
  pub record Turn (name numbers : List ℕ) (p end : ℕ) (v : Values) : Type 0 where
    pub listed : Set
    pub k : ℕ
    pub ks : List ℕ
    pub i : ℕ
    pub comes : MayCome P n listed k
    pub order : InOrder P n (listed ∪ group P k) ks
    pub going : Going P n named listed v
    pub further : p < end
    pub inside : end ≤ length name
    pub here : take (end - p) (drop p name) ≡ members n (group P k)
    pub names_left : drop end name ≡ joined (groups_of ks)
    pub numbers_left : drop end numbers ≡ numbered i (groups_of ks)

  pub left_start : {name numbers : List ℕ} → name ≡ joined (working_order P n) → numbers ≡ numbered 0 (working_order P n) → Left name numbers 0 no_values
  left_start e f =
      record {
        listed = _;
        ks = leaders P n;
        i = 0;
        order = in_order P n;
        names_left = e ∙ ap joined (order_is P n);
        numbers_left = f ∙ ap (numbered 0) (order_is P n);
        going = going_start P n named;
      }

  some_name : {listed : Set} {k : ℕ} → MayCome P n listed k → 0 < length (members n (group P k))
  some_name {k = k} c = some_place {k = k} (members n (group P k)) ((members_are n (group P k) k).1 (group_itself P k, c.below))

  module _ {name numbers : List ℕ} {p : ℕ} {v : Values} (l : Left name numbers p v) where
    pub turn : {end : ℕ} → p < length name → end ≡ p + alike (get_or numbers p 0) (drop p numbers) → Turn name numbers p end v
    turn {end} more e = go l.listed l.ks l.order l.names_left l.numbers_left l.going
      where
        left : length (drop p name) ≡ length name - p
        left = length-drop p name

        go : (listed : Set) (ks : List ℕ) → InOrder P n listed ks → drop p name ≡ joined (groups_of ks) → drop p numbers ≡ numbered l.i (groups_of ks) → Going P n named listed v
            → Turn name numbers p end v
        go listed [] o a b g = absurd (omega (arith, left, ap length (a ∙ joined_none)))
        go listed (k ∷ ks) (comes_next c low o) a b g =
            let G = members n (group P k) in
            let some = some_name c in
            let here = a ∙ joined_first G (groups_of ks) in
            let there = b ∙ numbered_first l.i G (groups_of ks) in
            let size : end ≡ p + length G = e ∙ ap (λ (x : ℕ). p + x) (group_ends l.i G (groups_of ks) numbers p some b) in
            let part : end - p ≡ length G = omega arith in
            record {
              listed = listed;
              k = k;
              ks = ks;
              i = suc l.i;
              comes = c;
              order = o;
              going = g;
              further = omega arith;
              inside = omega (arith, left, ap length here, length-append G (joined (groups_of ks)));
              here = ap₂ (λ (x : ℕ) (y : List ℕ). take x y) part here ∙ take_at G (joined (groups_of ks)) (length G) refl;
              names_left = ap (λ (x : ℕ). drop x name) size ∙ sym (drop-drop (length G) p name) ∙ ap (drop (length G)) here ∙ drop_at G (joined (groups_of ks)) (length G) refl;
              numbers_left =
                  ap (λ (x : ℕ). drop x numbers) size ∙ sym (drop-drop (length G) p numbers) ∙ ap (drop (length G)) there
                  ∙ drop_at (map (λ _. l.i) G) (numbered (suc l.i) (groups_of ks)) (length G) (length-map G (λ _. l.i));
            }

    pub left_end : length name ≤ p → (v.truths ≡ M P) × (v.nonfalse ≡ N P)
    left_end all = go l.listed l.ks l.order l.names_left l.going
      where
        none : length (drop p name) ≡ 0
        none = omega (arith, length-drop p name)

        go : (listed : Set) (ks : List ℕ) → InOrder P n listed ks → drop p name ≡ joined (groups_of ks) → Going P n named listed v → (v.truths ≡ M P) × (v.nonfalse ≡ N P)
        go listed [] (all_listed f) a g = going_end P n named v g f
        go listed (k ∷ ks) (comes_next c low o) a g =
            absurd (omega (arith, none, ap length (a ∙ joined_first (members n (group P k)) (groups_of ks)), length-append (members n (group P k)) (joined (groups_of ks)), some_name c))

  -- the group's values, by a step or where it has no rules by doing nothing
  pub left_more : {name numbers : List ℕ} {p end : ℕ} {v : Values} (t : Turn name numbers p end v) (G : Program) → Heads⊆ P room → RulesOf P (group P t.k) G → (w : Values)
      → (w ≡ step capacity G v) ⊎ (((r : Rule) → r is_in G → ⊥) × (w ≡ v)) → Left name numbers end w
  left_more {v = v} t G small g w s =
      record { listed = _; ks = t.ks; i = t.i; order = t.order; names_left = t.names_left; numbers_left = t.numbers_left; going = go s }
    where
      go : (w ≡ step capacity G v) ⊎ (((r : Rule) → r is_in G → ⊥) × (w ≡ v)) → Going P n named (t.listed ∪ group P t.k) w
      go (inl e) = rw e (going_more P n named t.comes capacity small G g v t.going)
      go (inr (none, e)) = rw e (going_past P n named t.comes (λ r m q. none r (g.all r m q)) v t.going)
