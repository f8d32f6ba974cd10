-- The rounds of the maker. A round begins with a sheet that stands. It writes the known literals outside Γs(T) as a group, which follows; then the heads of
-- rules that are shown, which follow one by one. Where it writes no head, the sheet has all that is so.
use mathlib.Core.Path.{◌≡◌, refl, sym, ◌∙◌, ap, ap₂, subst, fun_ext}
use mathlib.Core.Logic.{◌⊎◌, inl, inr, ⊎_elim}
use mathlib.Core.Bool.{Bool, true, false, not, cond, ◌&&◌, ◌||◌}
use mathlib.Core.List.Memᴰ
use mathlib.Core.List.{List, [], ◌∷◌, ◌++◌, map, append_assoc, append-nil}
use Prim.Native.Nat.{ℕ, suc, ◌+◌, ◌-◌, ◌*◌, ◌%◌, ◌≤◌, ◌<◌}
use native.Mathlib.Decide.{dec_lt, ℕ_discrete}
use native.Mathlib.Omega.{arith}
use lib.Dec.{eqb, ltb, leb}
use lib.ListN.{length, length-append, length-map}
use borrow.Author.Tests.{eq-eqb, eqb-true, lt-ltb, le-leb, ltb-true, leb-true, not-true}
use Rattle.truth.proofs.Truth.{clash, decided, refuted, same_test, and_l, and_r, and_intro, not_intro, contra, or_elim, or_l, or_r}
use Rattle.wfsx.specs.Sets.{Set, ∅, ◌∈◌, ◌∉◌, ◌⊆◌, ◌∪◌, ◌∖◌, add, ◌is_in◌, members}
use Rattle.wfsx.specs.Program.{compl, positive, Rule, Program, fact}
use Rattle.wfsx.specs.Model.{holds, every, supported, Γs}
use Rattle.wfsx.proofs.Program.{compl_plain, compl_negated}
use Rattle.wfsx.proofs.Facts.{supported_facts}
use Rattle.wfsx.proofs.Operators.{Γs-has}
use Rattle.wfsx.proofs.Supported.{supported_elim}
use Rattle.litset.specs.Words.{n_words, capacity, room, set_of, from_on}
use Rattle.litset.proofs.Words.{member_room}
use Rattle.book.specs.Limits.{max_names, max_rules}
use Rattle.book.specs.Book.{rows, clamp, literal_in, entry_of, body_at, rule_at, rules_in, rules_of, names_of, program, program_of}
use Rattle.book.specs.declared.Book.{Book}
use Rattle.book.proofs.Heads.{entry_below, program_of_lem}
use Rattle.book.proofs.Names.{names_counted}
use Rattle.book.proofs.Rows.{rows_none, rows_length, rows_map}
use Rattle.sheet.specs.Sheet.{max_sheet, shown, listed, true_follows, false_follows, names_rule, fact_number, among, kind_of, judgement, judged_by, accepted, rule_numbered, IsSo}
use Rattle.sheet.specs.Flat.{entry_in, entries_in}
use Rattle.sheet.specs.declared.SheetEntry.{SheetEntry}
use Rattle.std.specs.Prelude.{Some, None}
use Rattle.maker.specs.Result.{Within, MadeFor}
use Rattle.maker.specs.Making.{member_entry, adds, passed, with_literals, Passes, none_yet, one_more}
use Rattle.wfsx.proofs.Members.{members_are, length_most, members_same, size_below, size_apart}
use Rattle.maker.proofs.Stands.{Stands, stands_none, stands_true, stands_group, stands_follows}
use Rattle.maker.proofs.Complete.{group_follows, known_only, all_true, all_false}
use Rattle.maker.proofs.Passed.{with_grows, stands_passed, passed_most, passed_none}

-- ---- passes one after the other

with_none : (W : List SheetEntry) (U : Set) → length W ≤ 0 → U ≡ with_literals W U
unfolding with_literals
with_none [] U h = refl
with_none (w ∷ W) U h = absurd (omega arith)

module _ (rules : List Rule) (known : ℕ) (F : Set) where
  pub passes_stand : (facts : Set) {before : List SheetEntry} {T : Set} {after : List SheetEntry} {U : Set} → Passes rules known F before T after U
      → Stands rules facts known before T F → Stands rules facts known after U F
  passes_stand facts none_yet s = s
  passes_stand facts (one_more {after} {U} p) s = stands_passed known F rules facts [] rules refl after U (passes_stand facts p s)

  -- each entry adds a literal
  pub passes_most : {before : List SheetEntry} {T : Set} {after : List SheetEntry} {U : Set} → Passes rules known F before T after U
      → length after + size_below known T ≤ length before + size_below known U
  passes_most none_yet = omega arith
  passes_most (one_more {after} {U} p) =
      omega (arith, passes_most p, passed_most known F 0 rules U, length-append after (passed known F 0 rules U))

  pub passes_grow : {before : List SheetEntry} {T : Set} {after : List SheetEntry} {U : Set} → Passes rules known F before T after U → T ⊆ U
  passes_grow none_yet A a = a
  passes_grow (one_more {after} {U} p) A a = with_grows (passed known F 0 rules U) U A (passes_grow p A a)

  passed_known : (k : ℕ) (rs : List Rule) (T : Set) → ((A : ℕ) → A ∈ T → A < known) → (A : ℕ) → A ∈ with_literals (passed known F k rs T) T → A < known
  unfolding passed with_literals
  passed_known k [] T h A a = h A a
  passed_known k (r ∷ rs) T h A a = go (decided (adds known T F r)) (λ X g i. passed_known (suc k) rs X g A i)
    where
      go : (adds known T F r ≡ true) ⊎ (adds known T F r ≡ false) → ((X : Set) → ((B : ℕ) → B ∈ X → B < known) → A ∈ with_literals (passed known F (suc k) rs X) X → A < known) → A < known
      go (inl y) rest =
          rest (add r.head T) (λ B b. ⊎_elim (λ e. rw (eqb-true B r.head e) (ltb-true r.head known (and_l (ltb r.head known) _ (and_l (ltb r.head known && not (T r.head)) _ y)))) (h B) (or_elim (eqb B r.head) (T B) b)) (rw y at a)
      go (inr y) rest = rest T h (rw y at a)

  pub passes_known : {before : List SheetEntry} {T : Set} {after : List SheetEntry} {U : Set} → Passes rules known F before T after U → ((A : ℕ) → A ∈ T → A < known) → (A : ℕ) → A ∈ U → A < known
  passes_known none_yet h A a = h A a
  passes_known (one_more {after} {U} p) h A a = passed_known 0 rules U (λ B b. passes_known p h B b) A a

  pub passes_longer : {before : List SheetEntry} {T : Set} {after : List SheetEntry} {U : Set} → Passes rules known F before T after U → length before ≤ length after
  passes_longer none_yet = omega arith
  passes_longer (one_more {after} {U} p) = omega (arith, passes_longer p, length-append after (passed known F 0 rules U))

  -- where nothing is written, no literal is added
  pub passes_same : {before : List SheetEntry} {T : Set} {after : List SheetEntry} {U : Set} → Passes rules known F before T after U → length after ≤ length before → T ≡ U
  passes_same none_yet h = refl
  passes_same (one_more {after} {U} p) h =
      let all = length-append after (passed known F 0 rules U) in
      let before = passes_longer p in
      passes_same p (omega arith) ∙ with_none (passed known F 0 rules U) U (omega arith)

-- ---- the loop of the passes

-- m entries stand in the table
pub record Grew (rules : List Rule) (known : ℕ) (F : Set) (before : List SheetEntry) (T : Set) (table : List SheetEntry) (m : ℕ) (U : Set) : Type 0 where
  pub passes : Passes rules known F before T (entries_in table m) U
  pub bounded : m ≤ size_below known U + size_below known F
  pub as_long : length table ≡ max_sheet

module _ {rules : List Rule} {known : ℕ} {F : Set} {T : Set} (few : known ≤ 2 * max_names) where
  module _ {before : List SheetEntry} {table : List SheetEntry} {m : ℕ} {U : Set} (g : Grew rules known F before T table m U) where
    abbrev W : List SheetEntry
    W = passed known F 0 rules U

    -- a pass has room
    pub grew_room : m + length W ≤ length table
    grew_room = omega (arith, g.bounded, g.as_long, passed_most known F 0 rules U, length_most (with_literals W U) 0 known, length_most F 0 known)

    module _ (after : List SheetEntry) {k : ℕ} {X : Set} (count : k ≡ m + length W) (es : entries_in after k ≡ entries_in table m ++ W) (lits : X ≡ with_literals W U)
        (as_long : length after ≡ length table) where
      next : Passes rules known F before T (entries_in after k) X
      next = subst (λ X. X) (ap₂ (λ (l : List SheetEntry) (Y : Set). Passes rules known F before T l Y) (sym es) (sym lits)) (one_more g.passes)

      pub grew_more : Grew rules known F before T after k X
      grew_more =
          record {
            passes = next;
            bounded = omega (arith, g.bounded, count, passed_most known F 0 rules U, ap (size_below known) lits);
            as_long = as_long ∙ g.as_long;
          }

      pub grew_fewer : (k ≡ m → ⊥) → 2 * known - k < 2 * known - m
      grew_fewer n = omega (arith, count, grew_more.bounded, length_most X 0 known, length_most F 0 known)

      -- a pass that writes nothing is the last
      pub grew_last : k ≡ m → Passes rules known F before T (entries_in after k) X × (passed known F 0 rules X ≡ [])
      grew_last e = (next, rw (← with_none W U (omega arith) ∙ sym lits) (no_entries W (omega arith)))
        where
          no_entries : (es : List SheetEntry) → length es ≤ 0 → es ≡ []
          no_entries [] h = refl
          no_entries (e ∷ es) h = absurd (omega arith)

-- ---- the facts

or_swap : (a x l : Bool) → ((a || x) || l) ≡ (x || (a || l))
or_swap true true l = refl
or_swap true false l = refl
or_swap false x l = refl

in_list : (A : ℕ) (l : List ℕ) → A ∈ listed l → A is_in l
unfolding listed
in_list A [] m = absurd (clash m refl)
in_list A (B ∷ l) m = ⊎_elim (λ e. Memᴰ.head (eqb-true A B e)) (λ i. Memᴰ.tail (in_list A l i)) (or_elim (eqb A B) (listed l A) m)

in_set : (A : ℕ) (l : List ℕ) → A is_in l → A ∈ listed l
unfolding listed
in_set A [] m = absurd (Memᴰ.not-nil m)
in_set A (B ∷ l) (Memᴰ.head e) = or_l (eqb A B) _ (eq-eqb A B e)
in_set A (B ∷ l) (Memᴰ.tail m) = or_r (eqb A B) _ (in_set A l m)

-- the members below n, listed, are those of a set that has no others
pub listed_same : (n : ℕ) (S U : Set) → ((A : ℕ) → A ∈ U → (A ∈ S) × (A < n)) → ((A : ℕ) → A ∈ S → A < n → A ∈ U) → listed (members n S) ≡ U
listed_same n S U only all =
    fun_ext (λ A. same_test (λ m. let w = (members_are n S A).0 (in_list A (members n S) m) in all A w.0 w.1) (λ u. in_set A (members n S) ((members_are n S A).1 (only A u))))

module _ (rules : List Rule) (facts : Set) (known : ℕ) where
  fact_follows : (T F : Set) (A : ℕ) → A ∈ facts → A < known → true_follows rules facts known T F (member_entry 1 0 A) ≡ true
  unfolding true_follows names_rule
  fact_follows T F A i h =
      and_intro (ltb A known) _ (lt-ltb A known h)
      (or_r (rule_numbered (λ r. eqb r.head A && every (shown T F) r.body) rules (fact_number A)) _ (and_intro (eqb (fact_number A) (fact_number A)) _ (eq-eqb (fact_number A) (fact_number A) refl) i))

  pub stands_facts : (As : List ℕ) → ((A : ℕ) → A is_in As → (A ∈ facts) × (A < known)) → {es : List SheetEntry} {T F : Set} → Stands rules facts known es T F
      → Stands rules facts known (es ++ map (member_entry 1 0) As) (T ∪ listed As) F
  unfolding listed
  stands_facts [] h {es} {T} {F} s = subst (λ X. X) (ap₂ (λ (l : List SheetEntry) (X : Set). Stands rules facts known l X F) (sym (append-nil es)) (fun_ext (λ A. none (T A)))) s
    where
      none : (b : Bool) → b ≡ (b || false)
      none true = refl
      none false = refl
  stands_facts (A ∷ As) h {es} {T} {F} s =
      let w = h A (Memᴰ.head refl) in
      subst (λ X. X) (ap₂ (λ (l : List SheetEntry) (X : Set). Stands rules facts known l X F) (append_assoc es (member_entry 1 0 A ∷ []) (map (member_entry 1 0) As)) (fun_ext (λ B. or_swap (eqb B A) (T B) (listed As B))))
      (stands_facts As (λ B m. h B (Memᴰ.tail m)) (stands_true rules facts known s (member_entry 1 0 A) (fact_follows T F A w.0 w.1)))

-- ---- a sheet so far

-- it stands, and has no more entries than there are literals shown
pub record Making (rules : List Rule) (facts : Set) (known : ℕ) (es : List SheetEntry) (T F : Set) : Type 0 where
  pub stands : Stands rules facts known es T F
  pub bounded : length es ≤ size_below known T + size_below known F
  pub truths_known : (A : ℕ) → A ∈ T → A < known
  pub facts_there : (A : ℕ) → A ∈ facts → A < known → A ∈ T

-- ---- a group

-- a literal that is not known has a complement that is not known
compl_unknown : (known names A : ℕ) → known ≡ 2 * names → known ≤ A → compl A < known → ⊥
compl_unknown known names A is h l = go (ℕ_discrete (A % 2) 0)
  where
    go : Dec (A % 2 ≡ 0) → ⊥
    go (yes e) = let c = compl_plain A e in omega arith
    go (no e) = let c = compl_negated A e in omega arith

module _ (rules : List Rule) (facts : Set) (known names : ℕ) (known_is : known ≡ 2 * names) (few : names ≤ max_names) (facts_room : (A : ℕ) → A ∈ facts → A < capacity)
    (small : (r : Rule) → r is_in rules → (B : ℕ) → positive B is_in r.body → B < capacity) where
  -- the facts, and the literals that are not known
  abbrev pub possible : Set
  possible = facts ∪ from_on known

  abbrev P : Program
  P = program rules facts

  abbrev Q : Program
  Q = program rules possible

  possible_room : (A : ℕ) → A ∈ possible → A < capacity
  possible_room A a = ⊎_elim (facts_room A) (λ m. ltb-true A capacity (and_r (leb known A) _ m)) (or_elim (facts A) (from_on known A) a)

  inside : (r : Rule) → r is_in P → r is_in Q
  inside r m = ⊎_elim (Memᴰ.append_left (map fact (members capacity possible))) (λ f. Memᴰ.append_right rules (more f)) (Memᴰ.append_cases rules m)
    where
      more : r is_in map fact (members capacity facts) → r is_in map fact (members capacity possible)
      more f =
          let w = Memᴰ.of_map fact (members capacity facts) f in
          let i = (members_are capacity facts w.0).0 w.1 in
          rw (← w.2) (Memᴰ.map fact ((members_are capacity possible w.0).1 (or_l (facts w.0) _ i.0, i.1)))

  others : (r : Rule) → r is_in Q → (r is_in P) ⊎ (r.head < known → ⊥)
  others r m = ⊎_elim (λ i. inl (Memᴰ.append_left (map fact (members capacity facts)) i)) of_fact (Memᴰ.append_cases rules m)
    where
      of_fact : r is_in map fact (members capacity possible) → (r is_in P) ⊎ (r.head < known → ⊥)
      of_fact f =
          let w = Memᴰ.of_map fact (members capacity possible) f in
          let i = (members_are capacity possible w.0).0 w.1 in
          ⊎_elim (λ g. inl (rw (← w.2) (Memᴰ.append_right rules (Memᴰ.map fact ((members_are capacity facts w.0).1 (g, i.1))))))
          (λ g. inr (λ l. let low = leb-true known w.0 (and_l (leb known w.0) _ g) in let h : r.head ≡ w.0 = ap (λ (x : Rule). x.head) (sym w.2) in omega arith))
          (or_elim (facts w.0) (from_on known w.0) i.0)

  module _ (T : Set) (T-known : (A : ℕ) → A ∈ T → A < known) where
    -- what is not known is derived, since it counts as a fact
    unknown_derived : (A : ℕ) → known ≤ A → A < capacity → A ∈ Γs Q T
    unknown_derived A h r =
        Γs-has Q T A (refuted (λ c. compl_unknown known names A known_is h (T-known (compl A) c)))
        (supported_facts rules capacity possible possible_room (holds (Γs Q T) T) A ∙ or_r (supported rules (holds (Γs Q T) T) A) _ (or_r (facts A) _ (and_intro (leb known A) _ (le-leb known A h) (lt-ltb A capacity r))))

    -- the known literals outside Γs(T) that are not in F
    module _ (F G : Set) (G-is : G ≡ (from_on 0 ∖ Γs Q T) ∖ F) where
      in_group : (A : ℕ) → A ∈ G → (A ∉ Γs Q T) × (A ∉ F) × (A < capacity)
      in_group A g =
          let w = sym (ap (λ (X : Set). X A) G-is) ∙ g in
          let v = and_l (from_on 0 A && not (Γs Q T A)) _ w in
          (not-true (Γs Q T A) (and_r (from_on 0 A) _ v), not-true (F A) (and_r (from_on 0 A && not (Γs Q T A)) _ w), ltb-true A capacity (and_r (leb 0 A) _ (and_l (from_on 0 A) _ v)))

      group_known : (A : ℕ) → A ∈ G → A < known
      group_known A g = go (dec_lt A known)
        where
          go : Dec (A < known) → A < known
          go (yes h) = h
          go (no h) = absurd (clash (unknown_derived A (omega arith) (in_group A g).2) (in_group A g).0)

      -- what is outside Γs(T) is false already or in the group
      group_has : (B : ℕ) → B < capacity → B ∉ Γs Q T → F B || G B ≡ true
      group_has B h o = ⊎_elim (λ f. or_l (F B) _ f) (λ f. or_r (F B) _ (ap (λ (X : Set). X B) G-is ∙ and_intro (from_on 0 B && not (Γs Q T B)) _ (and_intro (from_on 0 B) _ (and_intro (leb 0 B) _ (le-leb 0 B (omega arith)) (lt-ltb B capacity h)) (not_intro o)) (not_intro f))) (decided (F B))

      rule_small : (r : Rule) → r is_in P → (B : ℕ) → positive B is_in r.body → B < capacity
      rule_small r m B i = ⊎_elim (λ q. small r q B i) (λ q. absurd (no_body (Memᴰ.of_map fact (members capacity facts) q) i)) (Memᴰ.append_cases rules m)
        where
          no_body : (A : ℕ) × (A is_in members capacity facts) × (fact A ≡ r) → positive B is_in r.body → ⊥
          no_body w j = Memᴰ.not-nil (rw (← w.2) at j)

      group_is : listed (members known G) ≡ G
      group_is = listed_same known G G (λ A g. (g, group_known A g)) (λ A g h. g)

      pub group_stands : {es : List SheetEntry} → Stands rules facts known es T F
          → Stands rules facts known (es ++ map (member_entry 0 (length es)) (members known G)) T (F ∪ G)
      unfolding false_follows
      group_stands {es} s =
          subst (λ (X : Set). Stands rules facts known (es ++ map (member_entry 0 (length es)) (members known G)) T (F ∪ X)) group_is
          (stands_group rules facts known s (members known G) (λ A m. rw group_is (and_intro (ltb A known) _ (lt-ltb A known (group_known A (rw group_is at m))) (group_follows P Q inside T F G (λ r i B j. group_has B (rule_small r i B j)) A (in_group A (rw group_is at m)).0))))

      pub group_size : size_below known (F ∪ G) ≡ size_below known F + size_below known G
      group_size = size_apart known F G (λ A g. (in_group A g).1)

  -- ---- a round

  -- the facts that are known
  pub making_start : {T F : Set} → T ≡ facts ∖ from_on known → F ≡ ∅ → Making rules facts known (map (member_entry 1 0) (members known facts)) T F
  making_start {T} {F} t f =
      record {
        stands = subst (λ (X : Set). Stands rules facts known (map (member_entry 1 0) (members known facts)) X F) same
            (rw f (stands_facts rules facts known (members known facts) (λ A m. (members_are known facts A).0 m) (stands_none rules facts known)));
        bounded = omega (arith, length-map (members known facts) (member_entry 1 0), ap length (members_same known T facts agree));
        truths_known = λ A a. (only A a).1;
        facts_there = there;
      }
    where
      there : (A : ℕ) → A ∈ facts → A < known → A ∈ T
      there A i h = ap (λ (X : Set). X A) t ∙ and_intro (facts A) (not (from_on known A)) i (not_intro (refuted (λ m. let w = leb-true known A (and_l (leb known A) (room A) m) in absurd (omega arith))))

      only : (A : ℕ) → A ∈ T → (A ∈ facts) × (A < known)
      only A a = (and_l (facts A) (not (from_on known A)) w, below (dec_lt A known))
        where
          w : facts A && not (from_on known A) ≡ true
          w = sym (ap (λ (X : Set). X A) t) ∙ a

          below : Dec (A < known) → A < known
          below (yes h) = h
          below (no h) =
              absurd (clash (and_intro (leb known A) (room A) (le-leb known A (omega arith)) (lt-ltb A capacity (facts_room A (and_l (facts A) (not (from_on known A)) w))))
              (not-true (from_on known A) (and_r (facts A) (not (from_on known A)) w)))

      same : ∅ ∪ listed (members known facts) ≡ T
      same = listed_same known facts T only there

      agree : (A : ℕ) → A < known → T A ≡ facts A
      agree A h = same_test (λ a. (only A a).0) (λ i. there A i h)

  module _ {es : List SheetEntry} {T F : Set} (s : Making rules facts known es T F) where
    -- the sheet with the group of this round
    module _ {D G E : Set} (D-is : D ≡ Γs Q T) {all : Set} (all-is : all ≡ from_on 0) (G-is : G ≡ (all ∖ D) ∖ F) (E-is : E ≡ F ∪ G) where
      the_group : G ≡ (from_on 0 ∖ Γs Q T) ∖ F
      the_group = G-is ∙ ap₂ (λ (a d : Set). (a ∖ d) ∖ F) all-is D-is

      group_fits : length es + size_below known G ≤ size_below known T + size_below known E
      group_fits = omega (arith, s.bounded, group_size T s.truths_known F G the_group, ap (size_below known) E-is)

      pub group_room : length es + size_below known G ≤ max_sheet
      group_room = omega (arith, known_is, group_fits, length_most T 0 known, length_most E 0 known)

      pub with_group : Making rules facts known (es ++ map (member_entry 0 (length es)) (members known G)) T E
      with_group =
          record {
            stands = rw E-is (group_stands T s.truths_known F G the_group s.stands);
            bounded = omega (arith, group_fits, length-append es (map (member_entry 0 (length es)) (members known G)), length-map (members known G) (member_entry 0 (length es)));
            truths_known = s.truths_known;
            facts_there = s.facts_there;
          }

      -- every literal outside Γs(T) is in it
      pub group_covers : (B : ℕ) → B < capacity → B ∉ Γs Q T → B ∈ E
      group_covers B h o = ap (λ (X : Set). X B) E-is ∙ group_has T s.truths_known F G the_group B h o

    -- the sheet with the heads of this round
    pub with_passes : {after : List SheetEntry} {U : Set} → Passes rules known F es T after U → Making rules facts known after U F
    with_passes p =
        record {
          stands = passes_stand rules known F facts p s.stands;
          bounded = omega (arith, passes_most rules known F p, s.bounded);
          truths_known = passes_known rules known F p s.truths_known;
          facts_there = λ A i h. passes_grow rules known F p A (s.facts_there A i h);
        }

    pub making_few : length es ≤ 2 * known
    making_few = omega (arith, s.bounded, length_most T 0 known, length_most F 0 known)

    -- ---- at the end

    -- a claim that is among its literals is accepted
    pub making_passes : (truth : Bool) (A : ℕ) → cond truth (T A) (F A) ≡ true → judgement rules facts known truth A es ≡ accepted
    unfolding judgement judged_by among
    making_passes truth A c =
        let most = making_few in
        rw (lt-ltb 0 (length es) (some_entry es claimed), le-leb (length es) max_sheet (omega arith)) (rw (stands_follows rules facts known s.stands, claimed) refl)
      where
        claimed : among (kind_of truth) A es ≡ true
        claimed = go truth c
          where
            go : (truth : Bool) → cond truth (T A) (F A) ≡ true → among (kind_of truth) A es ≡ true
            go true i = s.stands.truths A i
            go false i = s.stands.falses_are A i

        some_entry : (es : List SheetEntry) → among (kind_of truth) A es ≡ true → 0 < length es
        some_entry [] a = absurd (clash a refl)
        some_entry (x ∷ es) a = omega arith

    -- where no rule is left to add, all that is so is there
    pub making_complete : Within known P → ((B : ℕ) → B < capacity → B ∉ Γs Q T → B ∈ F) → passed known F 0 rules T ≡ []
        → (truth : Bool) (A : ℕ) → A < known → IsSo P truth A → cond truth (T A) (F A) ≡ true
    making_complete w covers none truth A l so = go truth so
      where
        full : supported P (shown T F) ⊆ T
        full B b = ⊎_elim of_rule of_fact (or_elim (supported rules (shown T F) B) (facts B) (sym (supported_facts rules capacity facts facts_room (shown T F) B) ∙ b))
          where
            of_rule : B ∈ supported rules (shown T F) → B ∈ T
            of_rule i =
                let r = supported_elim rules (shown T F) B i in
                rw r.2 at (passed_none known F 0 rules T none r.0 r.1 (w.heads_below r.0 (Memᴰ.append_left (map fact (members capacity facts)) r.1)) r.3)

            of_fact : B ∈ facts → B ∈ T
            of_fact i = s.facts_there B i (w.heads_below (fact B) (Memᴰ.append_right rules (Memᴰ.map fact ((members_are capacity facts B).1 (i, facts_room B i)))))

        covers_known : (B : ℕ) → B < known → B ∉ Γs P T → B ∈ F
        covers_known B i o = covers B (omega arith) (contra (known_only P Q known w others T B i) o)

        go : (truth : Bool) → IsSo P truth A → cond truth (T A) (F A) ≡ true
        go true so = all_true P known w T F covers_known full A so
        go false so = all_false P known w T F covers_known full A l so

  -- ---- in a table

  pub start_there : (before after : List SheetEntry) (n : ℕ) {T F : Set} → T ≡ facts ∖ from_on known → F ≡ ∅
      → entries_in after n ≡ entries_in before 0 ++ map (member_entry 1 0) (members known facts) → Making rules facts known (entries_in after n) T F
  start_there before after n t f es = rw (es, rows_none (entry_in before) 0) (making_start t f)

  module _ (table : List SheetEntry) (n : ℕ) {T F : Set} (s : Making rules facts known (entries_in table n) T F) where
    size : length (entries_in table n) ≡ n
    size = rows_length (entry_in table) 0 n

    pub few_there : n ≤ 2 * known
    few_there = omega (arith, size, making_few s)

    pub bound_there : n ≤ size_below known T + size_below known F
    bound_there = omega (arith, size, s.bounded)

    module _ {D G E : Set} (D-is : D ≡ Γs Q T) {all : Set} (all-is : all ≡ from_on 0) (G-is : G ≡ (all ∖ D) ∖ F) (E-is : E ≡ F ∪ G) where
      pub room_there : length table ≡ max_sheet → n + size_below known G ≤ length table
      room_there l = omega (arith, size, group_room s D-is all-is G-is E-is)

      pub group_there : (after : List SheetEntry) (m : ℕ) → entries_in after m ≡ entries_in table n ++ map (member_entry 0 n) (members known G)
          → Making rules facts known (entries_in after m) T E
      group_there after m es = rw es (rw size at (with_group s D-is all-is G-is E-is))

    -- ---- what is made

    module _ {rs : List Rule} {k : ℕ} (rules_are : rules ≡ rs) (is : known ≡ k) (truth : Bool) (A : ℕ) where
      pub made_found : cond truth (T A) (F A) ≡ true → MadeFor rs facts k truth A (Some (record { count = n; sheet = record { entries = table } }))
      made_found c = rw (← rules_are, ← is) (record { few = few_there; passes = making_passes s truth A c; complete = λ w l so. refl })

      pub made_none : ((B : ℕ) → B < capacity → B ∉ Γs Q T → B ∈ F) → passed known F 0 rules T ≡ [] → cond truth (T A) (F A) ≡ false → MadeFor rs facts k truth A None
      made_none covers none c =
          rw (← rules_are, ← is) (record { few = tt; passes = tt; complete = λ w l so. absurd (clash (making_complete s w covers none truth A l so) c) })

-- ---- over the tables of a book

-- every positive literal of a body is one for which a set has room
pub rules_small : (heads starts entries : List ℕ) (count : ℕ) (r : Rule) → r is_in rules_in heads starts entries count → (B : ℕ) → positive B is_in r.body → B < capacity
rules_small heads starts entries count r m B i =
    let w = Memᴰ.of_map (rule_at heads starts entries) (rows (λ j. j) 0 count) (rw (← rows_map (rule_at heads starts entries) 0 count) at m) in
    let e = Memᴰ.of_map entry_of (body_at starts entries w.0) (rw (← ap (λ (q : Rule). q.body) w.2) at i) in
    rw (ap literal_in e.2) at (entry_below (e.0 ∷ []) 0)

-- Γs of a book, where what counts as a fact is given part by part
pub derived_is : (b : Book) (known : ℕ) (facts T : Set) {unknown both D : Set} → unknown ≡ from_on known → both ≡ facts ∪ unknown → D ≡ Γs (program_of b both) T
    → D ≡ Γs (program (rules_of b) (facts ∪ from_on known)) T
derived_is b known facts T {unknown} {both} u v d =
    d ∙ ap (λ (P : Program). Γs P T) (program_of_lem b both) ∙ ap (λ (X : Set). Γs (program (rules_of b) X) T) (v ∙ ap (λ (X : Set). facts ∪ X) u)

-- ---- a round over a book

known_names : (b : Book) {m : ℕ} → m ≡ clamp max_names b.names → 2 * m ≡ 2 * length (names_of b)
known_names b counted = ap (λ (i : ℕ). 2 * i) (counted ∙ sym (names_counted b))

-- The book has m names, its sheet the first n entries of a table, and the sets are as they are worked out one from the other. The last is the group.
pub record Round (b : Book) (facts : Set) (m : ℕ) (table : List SheetEntry) (n : ℕ) (T F G : Set) : Type 0 where
  pub few : m ≤ max_names
  pub facts_room : (A : ℕ) → A ∈ facts → A < capacity
  pub making : Making (rules_of b) facts (2 * m) (entries_in table n) T F
  pub derived : Set
  pub derived_are : derived ≡ Γs (program (rules_of b) (facts ∪ from_on (2 * m))) T
  pub group_are : G ≡ (from_on 0 ∖ derived) ∖ F

module _ (b : Book) (words : List ℕ) (sized : length words ≡ n_words) {m : ℕ} (counted : m ≡ clamp max_names b.names) where
  few_names : m ≤ max_names
  few_names = omega (arith, counted)

  body_room : (r : Rule) → r is_in rules_of b → (B : ℕ) → positive B is_in r.body → B < capacity
  body_room = rules_small b.heads b.starts b.entries (clamp max_rules b.rules)

  pub facts_fit : (2 * m ≤ capacity) × (size_below (2 * m) (set_of words) ≤ max_sheet)
  facts_fit = let few = few_names in (omega arith, omega (arith, length_most (set_of words) 0 (2 * m)))

  pub round_start : {unknown T F : Set} → unknown ≡ from_on (2 * m) → T ≡ set_of words ∖ unknown → F ≡ ∅ → (before after : List SheetEntry) (n : ℕ)
      → entries_in after n ≡ entries_in before 0 ++ map (member_entry 1 0) (members (2 * m) (set_of words)) → Making (rules_of b) (set_of words) (2 * m) (entries_in after n) T F
  round_start u t f before after n es =
      start_there (rules_of b) (set_of words) (2 * m) m refl few_names (member_room words sized) body_room before after n (t ∙ ap (λ (X : Set). set_of words ∖ X) u) f es

  pub a_round : {table : List SheetEntry} {n : ℕ} {T F : Set} → Making (rules_of b) (set_of words) (2 * m) (entries_in table n) T F
      → {all unknown both D X G : Set} → all ≡ from_on 0 → unknown ≡ from_on (2 * m) → both ≡ set_of words ∪ unknown → D ≡ Γs (program_of b both) T → X ≡ all ∖ D → G ≡ X ∖ F
      → Round b (set_of words) m table n T F G
  a_round {T = T} {F} s {D = D} a u v d x g =
      record {
        few = few_names;
        facts_room = member_room words sized;
        making = s;
        derived = D;
        derived_are = derived_is b (2 * m) (set_of words) T u v d;
        group_are = g ∙ ap (λ (Y : Set). Y ∖ F) (x ∙ ap (λ (Y : Set). Y ∖ D) a);
      }

module _ {b : Book} {facts : Set} {m : ℕ} {table : List SheetEntry} {n : ℕ} {T F G : Set} (r : Round b facts m table n T F G) where
  small_bodies : (q : Rule) → q is_in rules_of b → (B : ℕ) → positive B is_in q.body → B < capacity
  small_bodies = rules_small b.heads b.starts b.entries (clamp max_rules b.rules)

  pub round_few : n ≤ 4 * m
  round_few = omega (arith, few_there (rules_of b) facts (2 * m) m refl r.few r.facts_room small_bodies table n r.making)

  pub round_room : length table ≡ max_sheet → (2 * m ≤ capacity) × (n + size_below (2 * m) G ≤ length table)
  round_room l =
      let few = r.few in
      (omega arith, room_there (rules_of b) facts (2 * m) m refl r.few r.facts_room small_bodies table n r.making r.derived_are refl r.group_are refl l)

  -- k entries with the group, E the literals of all groups
  module _ {E : Set} (together : E ≡ F ∪ G) (after : List SheetEntry) (k : ℕ) (put : entries_in after k ≡ entries_in table n ++ map (member_entry 0 n) (members (2 * m) G)) where
    grouped : Making (rules_of b) facts (2 * m) (entries_in after k) T E
    grouped = group_there (rules_of b) facts (2 * m) m refl r.few r.facts_room small_bodies table n r.making r.derived_are refl r.group_are together after k put

    pub round_bound : length after ≡ max_sheet → (2 * m ≤ 2 * max_names) × (length after ≡ max_sheet) × (k ≤ size_below (2 * m) T + size_below (2 * m) E)
    round_bound l =
        let few = r.few in
        (omega arith, l, bound_there (rules_of b) facts (2 * m) m refl r.few r.facts_room small_bodies after k grouped)

    -- j entries with the heads that are shown, U their literals
    module _ (last : List SheetEntry) (j : ℕ) {U : Set} (shown : Passes (rules_of b) (2 * m) E (entries_in after k) T (entries_in last j) U) where
      pub round_next : Making (rules_of b) facts (2 * m) (entries_in last j) U E
      round_next = with_passes (rules_of b) facts (2 * m) m refl r.few r.facts_room small_bodies grouped shown

      longer : k ≤ j
      longer = omega (arith, passes_longer _ _ _ shown, rows_length (entry_in after) 0 k, rows_length (entry_in last) 0 j)

      -- fewer entries are left to write, where one was written
      pub round_fewer : n ≤ k → (j ≡ k → ⊥) → 2 * (2 * m) - j < 2 * (2 * m) - n
      round_fewer h ne = omega (arith, longer, few_there (rules_of b) facts (2 * m) m refl r.few r.facts_room small_bodies last j round_next)

      module _ (counted : m ≡ clamp max_names b.names) (truth : Bool) (A : ℕ) where
        pub round_found : cond truth (U A) (E A) ≡ true → MadeFor (rules_of b) facts (2 * length (names_of b)) truth A (Some (record { count = j; sheet = record { entries = last } }))
        round_found c = made_found (rules_of b) facts (2 * m) m refl r.few r.facts_room small_bodies last j round_next refl (known_names b counted) truth A c

        -- where no head was written, all that is so is there
        pub round_none : j ≡ k → passed (2 * m) E 0 (rules_of b) U ≡ [] → cond truth (U A) (E A) ≡ false → MadeFor (rules_of b) facts (2 * length (names_of b)) truth A None
        round_none same none c =
            made_none (rules_of b) facts (2 * m) m refl r.few r.facts_room small_bodies last j round_next refl (known_names b counted) truth A (rw (← truths_same) covers) none c
          where
            truths_same : T ≡ U
            truths_same = passes_same _ _ _ shown (omega (arith, same, rows_length (entry_in after) 0 k, rows_length (entry_in last) 0 j))

            covers : (B : ℕ) → B < capacity → B ∉ Γs (program (rules_of b) (facts ∪ from_on (2 * m))) T → B ∈ E
            covers = group_covers (rules_of b) facts (2 * m) m refl r.few r.facts_room small_bodies r.making r.derived_are refl r.group_are together
