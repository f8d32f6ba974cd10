-- The loops of the maker: each has come to some place, and what is written behind the entries that were there is what its definition says so far.
use mathlib.Core.Path.{◌≡◌, refl, sym, ◌∙◌, ap, ap₂}
use mathlib.Core.Bool.{true, false}
use mathlib.Core.List.{List, [], ◌∷◌, ◌++◌, map, map-append, append_assoc, append-nil}
use Prim.Native.Nat.{ℕ, ◌+◌, ◌-◌, ◌≤◌, ◌<◌}
use native.Mathlib.Numerals.{add-one}
use native.Mathlib.Omega.{arith}
use lib.ListN.{length, set, length-append, length-set}
use Rattle.wfsx.specs.Sets.{Set, ◌∈◌, ◌∉◌, add, members}
use Rattle.wfsx.specs.Program.{Rule}
use Rattle.litset.specs.Words.{with}
use Rattle.litset.proofs.Words.{with_room}
use Rattle.book.specs.Limits.{max_rules}
use Rattle.book.specs.Book.{rows, clamp, head_at, rule_at, rules_of}
use Rattle.book.specs.declared.Book.{Book}
use Rattle.book.proofs.Rows.{rows_step, rows_end}
use Rattle.book.proofs.Heads.{head_below}
use Rattle.sheet.specs.Flat.{entries_in}
use Rattle.sheet.proofs.Stored.{entries_more}
use Rattle.sheet.specs.declared.SheetEntry.{SheetEntry}
use Rattle.maker.specs.Making.{member_entry, rule_entry, adds, passed, with_literals}
use Rattle.wfsx.proofs.Members.{members_none, length_parts, members_last}

-- ---- entries for the members of a set

-- those of the members below l stand behind the first n entries
pub record Putting (kind group : ℕ) (S : Set) (known n : ℕ) (before table : List SheetEntry) (m l : ℕ) : Type 0 where
  pub upto : l ≤ known
  pub place : m ≡ n + length (members l S)
  pub entries : entries_in table m ≡ entries_in before n ++ map (member_entry kind group) (members l S)
  pub as_long : length table ≡ length before

module _ {kind group : ℕ} {S : Set} {known n : ℕ} {before : List SheetEntry} where
  pub putting_start : Putting kind group S known n before before n 0
  putting_start =
      record {
        upto = omega arith;
        place = rw (members_none S 0) (omega arith);
        entries = rw (members_none S 0) (sym (append-nil (entries_in before n)));
        as_long = refl;
      }

  module _ {table : List SheetEntry} {m l : ℕ} (p : Putting kind group S known n before table m l) where
    pub putting_skip : l < known → l ∉ S → Putting kind group S known n before table m (l + 1)
    putting_skip h o =
        record { upto = omega arith; place = rw same p.place; entries = rw same p.entries; as_long = p.as_long }
      where
        same : members (l + 1) S ≡ members l S
        same = let z : 0 + l ≡ l = omega arith in members_last S 0 l ∙ rw (z, o) (append-nil (members l S))

    next_member : l ∈ S → members (l + 1) S ≡ members l S ++ (l ∷ [])
    next_member i = let z : 0 + l ≡ l = omega arith in members_last S 0 l ∙ rw (z, i) refl

    one_longer : l ∈ S → length (members (l + 1) S) ≡ length (members l S) + 1
    one_longer i = ap length (next_member i) ∙ length-append (members l S) (l ∷ [])

    -- there is room for one more
    pub putting_room : l < known → l ∈ S → n + length (members known S) ≤ length before → m < length table
    putting_room h i r =
        let parts = length_parts S 0 (l + 1) (known - (l + 1)) in
        let whole : l + 1 + (known - (l + 1)) ≡ known = omega arith in
        omega (arith, rw whole at parts, one_longer i, p.place, p.as_long)

    pub putting_more : {after : List SheetEntry} {e : SheetEntry} → l < known → l ∈ S → m < length table → e ≡ member_entry kind group l → after ≡ set table m e
        → Putting kind group S known n before after (m + 1) (l + 1)
    putting_more {after} {e} h i room is stored =
        record {
          upto = omega arith;
          place = omega (arith, p.place, one_longer i);
          entries = ap (λ (t : List SheetEntry). entries_in t (m + 1)) stored ∙ entries_more table m e room ∙ ap₂ (λ (a : List SheetEntry) (x : SheetEntry). a ++ (x ∷ [])) p.entries is
              ∙ append_assoc (entries_in before n) _ _ ∙ ap (λ (w : List SheetEntry). entries_in before n ++ w) (sym (ap (map (member_entry kind group)) (next_member i) ∙ map-append (member_entry kind group) (members l S) (l ∷ [])));
          as_long = ap length stored ∙ length-set table m e ∙ p.as_long;
        }

    pub putting_end : known ≤ l → (m ≡ n + length (members known S)) × (entries_in table m ≡ entries_in before n ++ map (member_entry kind group) (members known S))
    putting_end h = let z : l ≡ known = omega (arith, p.upto) in rw (← z) (p.place, p.entries)

-- ---- one pass over the rules

with_last : (es : List SheetEntry) (e : SheetEntry) (T : Set) → with_literals (es ++ (e ∷ [])) T ≡ add e.literal (with_literals es T)
unfolding with_literals
with_last [] e T = refl
with_last (d ∷ es) e T = with_last es e (add d.literal T)

-- it has come to rule r with the literals U: `written` stands behind the first n entries
pub record Passing (b : Book) (known : ℕ) (F T : Set) (n : ℕ) (before table : List SheetEntry) (m : ℕ) (U : Set) (r : ℕ) : Type 0 where
  pub written : List SheetEntry
  pub left : passed known F 0 (rules_of b) T ≡ written ++ passed known F r (rows (rule_at b.heads b.starts b.entries) r (clamp max_rules b.rules - r)) U
  pub literals : U ≡ with_literals written T
  pub place : m ≡ n + length written
  pub stand : entries_in table m ≡ entries_in before n ++ written
  pub as_long : length table ≡ length before

module _ {b : Book} {known : ℕ} {F T : Set} {n : ℕ} {before : List SheetEntry} where
  pub passing_start : Passing b known F T n before before n T 0
  unfolding with_literals
  passing_start =
      let z : clamp max_rules b.rules - 0 ≡ clamp max_rules b.rules = omega arith in
      record {
        written = [];
        left = ap (λ (k : ℕ). passed known F 0 (rows (rule_at b.heads b.starts b.entries) 0 k) T) (sym z);
        literals = refl;
        place = omega arith;
        stand = sym (append-nil (entries_in before n));
        as_long = refl;
      }

  module _ {table : List SheetEntry} {m : ℕ} {U : Set} {r : ℕ} (p : Passing b known F T n before table m U r) where
    abbrev rule : Rule
    rule = rule_at b.heads b.starts b.entries r

    abbrev later : List Rule
    later = rows (rule_at b.heads b.starts b.entries) (r + 1) (clamp max_rules b.rules - (r + 1))

    pub passing_skip : r < clamp max_rules b.rules → adds known U F rule ≡ false → Passing b known F T n before table m U (r + 1)
    unfolding passed
    passing_skip h o =
        record {
          written = p.written;
          left = p.left ∙ ap (λ (w : List SheetEntry). p.written ++ w) (rw (rows_step (rule_at b.heads b.starts b.entries) r (clamp max_rules b.rules) h, o, add-one r) refl);
          literals = p.literals;
          place = p.place;
          stand = p.stand;
          as_long = p.as_long;
        }

    -- the rule's entry, and what is left behind it
    next_entry : r < clamp max_rules b.rules → adds known U F rule ≡ true
        → passed known F 0 (rules_of b) T ≡ p.written ++ (rule_entry (head_at b.heads r) r ∷ passed known F (r + 1) later (add (head_at b.heads r) U))
    unfolding passed
    next_entry h i = p.left ∙ ap (λ (w : List SheetEntry). p.written ++ w) (rw (rows_step (rule_at b.heads b.starts b.entries) r (clamp max_rules b.rules) h, i, add-one r) refl)

    pub passing_room : r < clamp max_rules b.rules → adds known U F rule ≡ true → n + length (passed known F 0 (rules_of b) T) ≤ length before → m < length table
    passing_room h i room =
        omega (arith, ap length (next_entry h i) ∙ length-append p.written (rule_entry (head_at b.heads r) r ∷ passed known F (r + 1) later (add (head_at b.heads r) U)), p.place, p.as_long)

    pub passing_more : {after : List SheetEntry} {head : ℕ} {Y : Set} → r < clamp max_rules b.rules → adds known U F rule ≡ true → m < length table → head ≡ head_at b.heads r
        → after ≡ set table m (rule_entry head r) → Y ≡ with head U → Passing b known F T n before after (m + 1) Y (r + 1)
    passing_more {after} {head} {Y} h i room is stored v =
        record {
          written = p.written ++ (e ∷ []);
          left = next_entry h i ∙ sym (append_assoc p.written (e ∷ []) _) ∙ ap (λ (X : Set). (p.written ++ (e ∷ [])) ++ passed known F (r + 1) later X) (sym added);
          literals = added ∙ ap (add (head_at b.heads r)) p.literals ∙ sym (with_last p.written e T);
          place = omega (arith, p.place, length-append p.written (e ∷ []));
          stand = ap (λ (t : List SheetEntry). entries_in t (m + 1)) put ∙ entries_more table m e room ∙ ap (λ (a : List SheetEntry). a ++ (e ∷ [])) p.stand
              ∙ append_assoc (entries_in before n) p.written (e ∷ []);
          as_long = ap length put ∙ length-set table m e ∙ p.as_long;
        }
      where
        e : SheetEntry
        e = rule_entry (head_at b.heads r) r

        put : after ≡ set table m e
        put = stored ∙ ap (λ (A : ℕ). set table m (rule_entry A r)) is

        added : Y ≡ add (head_at b.heads r) U
        added = v ∙ ap (λ (A : ℕ). with A U) is ∙ with_room (head_at b.heads r) U (head_below b.heads r)

    pub passing_end : clamp max_rules b.rules ≤ r → {W : List SheetEntry} → W ≡ passed known F 0 (rules_of b) T
        → (m ≡ n + length W) × (entries_in table m ≡ entries_in before n ++ W) × (U ≡ with_literals W T)
    unfolding passed
    passing_end h {W} is = rw all (p.place, p.stand, p.literals)
      where
        all : W ≡ p.written
        all = is ∙ p.left ∙ rw (rows_end (rule_at b.heads b.starts b.entries) r (clamp max_rules b.rules) h) (append-nil p.written)
