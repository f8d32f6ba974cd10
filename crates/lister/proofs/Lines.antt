-- The listing as the parts that are written one behind the other, and how long it can be.
use mathlib.Core.Path.{◌≡◌, refl, ap}
use mathlib.Core.Bool.{Bool, true, false, cond}
use mathlib.Core.List.{List, [], ◌∷◌, ◌++◌, append_assoc}
use Prim.Native.Nat.{ℕ, zero, suc, ◌+◌, ◌-◌, ◌*◌, ◌^◌, ◌≤◌, ◌<◌}
use native.Mathlib.Numerals.{add-one}
use native.Mathlib.Omega.{arith}
use lib.ListN.{length, get_or, length-append}
use Rattle.wfsx.specs.Sets.{Set, members}
use Rattle.wfsx.proofs.Members.{length_most}
use Rattle.litset.specs.Words.{capacity, set_of, clash_in}
use Rattle.litset.specs.declared.LitSet.{LitSet}
use Rattle.wfsx.specs.Model.{Verdict, is_true, is_false, is-undefined}
use Rattle.book.specs.Book.{rows, clamp, name_at, names_in}
use Rattle.book.specs.declared.Book.{Book}
use Rattle.book.specs.Limits.{max_names, max_rules}
use Rattle.book.proofs.Rows.{rows_none, rows_first, rows_step, rows_end}
use Rattle.book.proofs.Counts.{clamp_most}
use Rattle.std.specs.Prelude.{Option, None, Some}
use Rattle.scan.specs.Text.{comma, newline, max_length}
use Rattle.book.proofs.Names.{names_count, name_most, name_short, rules_counted}
use Rattle.lister.specs.Listing.{model_word, contradiction_word, refused_word, contradictory_word, verdict_word, digits, field, line, mark_word, name_line, name_lines, header_by, listing_by_sets, verdicts_by, words_by, listing_held, refusal_of}
use Rattle.lister.specs.Steps.{Room, Put, counts_to, header_of, verdicts_end}
use Rattle.lister.specs.declared.Counts.{Counts}
use Rattle.lister.specs.declared.Marks.{Marks}
use Rattle.lister.proofs.Stored.{room_first, Left, left_step, left_none}
use Rattle.lister.proofs.Digits.{digits_most}

-- ---- a name's line, and the lines from name k on

pub name_line_is : (w : ℕ → List ℕ) (k : ℕ) (name : List ℕ) → name_line w k name ≡ field (digits k) comma ++ (field name comma ++ verdicts_end w k)
unfolding line
name_line_is w k name = refl

-- the lines that are left for a loop over n names that has come to name k
abbrev pub lines_left : (ℕ → List ℕ) → (ℕ → List ℕ) → ℕ → ℕ → List ℕ
lines_left w f n k = name_lines w k (rows f k (n - k))

module _ (w : ℕ → List ℕ) (f : ℕ → List ℕ) (n k : ℕ) {all t u : List ℕ} {at p : ℕ} (left : Left all at t (lines_left w f n k) p u) where
  lines_step : k < n → lines_left w f n k ≡ name_line w k (f k) ++ lines_left w f n (k + 1)
  unfolding name_lines
  lines_step h = rw (rows_step f k n h, add-one k)

  lines_end : n ≤ k → lines_left w f n k ≡ []
  unfolding name_lines
  lines_end h = rw (rows_end f k n h)

  pub line_room : k < n → Room (name_line w k (f k)) p
  line_room h = room_first (name_line w k (f k)) (lines_left w f n (k + 1)) (rw (lines_step h) at left.room)

  pub line_stored : k < n → {x : List ℕ} {q : ℕ} → Put (name_line w k (f k)) p u x q → Left all at t (lines_left w f n (k + 1)) q x
  line_stored h put = left_step (name_line w k (f k)) (lines_left w f n (k + 1)) (rw (lines_step h) at left) put

  pub lines_stored : n ≤ k → Put all at t u p
  lines_stored h = left_none (rw (lines_end h) at left)

-- ---- the header, and the listing

-- by the counts that the code has
module _ (text lengths : List ℕ) (c : Counts) where
  abbrev names : List (List ℕ)
  names = names_in text lengths c.names

  pub clear_is : header_of text lengths c None ≡ field model_word comma ++ counts_to newline c
  unfolding header_by line
  clear_is = rw (names_count text lengths c.names) refl

  pub clash_is : (n : ℕ) → header_of text lengths c (Some n) ≡ field contradiction_word comma ++ (counts_to comma c ++ field (get_or names n []) newline)
  unfolding header_by line
  clash_is n = rw (names_count text lengths c.names) (simp append_assoc)

module _ (b : Book) (facts : LitSet) (m : Marks) (c : Counts) (ns : c.names ≡ clamp max_names b.names) (rs : c.rules ≡ clamp max_rules b.rules)
    (fs : c.facts ≡ length (members capacity (set_of facts.words))) (ks : c.rounds ≡ m.model.rounds) where
  pub listing_parts : (k : Option ℕ) → k ≡ clash_in (set_of m.model.truths.words)
      → listing_held b facts m ≡ header_of b.text b.lengths c k ++ name_lines (words_by m) 0 (names_in b.text b.lengths c.names)
  unfolding listing_by_sets
  listing_parts k e = rw (ns, rs, fs, ks, e, rules_counted b)

pub refusal_is : (number at : ℕ) → refusal_of number at ≡ field refused_word comma ++ (field (digits number) comma ++ field (digits at) newline)
unfolding refusal_of line
refusal_is number at = refl

-- ---- lengths

length_field : (f : List ℕ) (stop : ℕ) → length (field f stop) ≡ length f + 1
length_field f stop = length-append f (stop ∷ [])

-- every number of the machine has at most 20 digits
number_most : (n stop : ℕ) → n < 10 ^ 20 → length (field (digits n) stop) ≤ 21
number_most n stop h = omega (arith, length_field (digits n) stop, digits_most 19 n h)

verdict_most : (v : Verdict) → length (verdict_word v) ≤ 13
verdict_most is_true = omega arith
verdict_most is_false = omega arith
verdict_most is-undefined = omega arith

-- no word of a verdict field is longer than `contradictory`
mark_most : (v : ℕ → Verdict) (C : Set) (A : ℕ) → length (mark_word v C A) ≤ 13
mark_most v C A = go (C A)
  where
    go : (b : Bool) → length (cond b contradictory_word (verdict_word (v A))) ≤ 13
    go true = omega arith
    go false = verdict_most (v A)

-- every count is a number of the machine
record Small (c : Counts) : Type 0 where
  pub names : c.names < 10 ^ 20
  pub rules : c.rules < 10 ^ 20
  pub facts : c.facts < 10 ^ 20
  pub rounds : c.rounds < 10 ^ 20

counts_most : (stop : ℕ) (c : Counts) → Small c → length (counts_to stop c) ≤ 84
counts_most stop c small =
    let last = field (digits c.facts) comma ++ field (digits c.rounds) stop in
    omega (
      arith,
      length-append (field (digits c.names) comma) (field (digits c.rules) comma ++ last),
      length-append (field (digits c.rules) comma) last,
      length-append (field (digits c.facts) comma) (field (digits c.rounds) stop),
      number_most c.names comma small.names,
      number_most c.rules comma small.rules,
      number_most c.facts comma small.facts,
      number_most c.rounds stop small.rounds,
    )

module _ (w : ℕ → List ℕ) (words : (A : ℕ) → length (w A) ≤ 13) where
  line_most : (k : ℕ) (name : List ℕ) → k < 10 ^ 20 → length name ≤ max_length → length (name_line w k name) ≤ max_length + 50
  line_most k name h l =
      let first = w (2 * k) in
      let second = w (2 * k + 1) in
      omega (
        arith,
        ap length (name_line_is w k name),
        length-append (field (digits k) comma) (field name comma ++ verdicts_end w k),
        length-append (field name comma) (verdicts_end w k),
        length-append (field first comma) (field second newline),
        length_field name comma,
        length_field first comma,
        length_field second newline,
        number_most k comma h,
        words (2 * k),
        words (2 * k + 1),
      )

  lines_most : (f : ℕ → List ℕ) → ((k : ℕ) → length (f k) ≤ max_length) → (k n : ℕ) → k + n < 10 ^ 20 → length (name_lines w k (rows f k n)) ≤ (max_length + 50) * n
  unfolding name_lines
  lines_most f short k zero h = rw (rows_none f k) (omega arith)
  lines_most f short k (suc n) h =
      rw (rows_first f k n) (omega (arith, length-append (name_line w k (f k)) (name_lines w (suc k) (rows f (suc k) n)), line_most k (f k) (omega arith) (short k), lines_most f short (suc k) n (omega arith)))

header_most : (text lengths : List ℕ) (c : Counts) → Small c → (k : Option ℕ) → length (header_of text lengths c k) ≤ max_length + 99
header_most text lengths c small None =
    omega (
      arith,
      ap length (clear_is text lengths c),
      length-append (field model_word comma) (counts_to newline c),
      counts_most newline c small,
    )
header_most text lengths c small (Some k) =
    let last = get_or (names_in text lengths c.names) k [] in
    omega (
      arith,
      ap length (clash_is text lengths c k),
      length-append (field contradiction_word comma) (counts_to comma c ++ field last newline),
      length-append (counts_to comma c) (field last newline),
      counts_most comma c small,
      length_field last newline,
      name_short text lengths c.names k,
    )

-- the rounds of a model in memory are a number of the machine
pub listing_room : (b : Book) (facts : LitSet) (m : Marks) → m.model.rounds < 10 ^ 20 → Room (listing_held b facts m) 0
listing_room b facts m h =
    let few = clamp_most max_names b.names in
    let c : Counts =
    record { names = clamp max_names b.names; rules = clamp max_rules b.rules; facts = length (members capacity (set_of facts.words)); rounds = m.model.rounds } in
    let small : Small c =
    record {
      names = omega arith;
      rules = omega (arith, clamp_most max_rules b.rules);
      facts = omega (arith, length_most (set_of facts.words) 0 capacity);
      rounds = h;
    } in
    let clash = clash_in (set_of m.model.truths.words) in
    let lines = name_lines (words_by m) 0 (names_in b.text b.lengths c.names) in
    record {
      fits =
          omega (
            arith,
            ap length (listing_parts b facts m c refl refl refl refl clash refl),
            length-append (header_of b.text b.lengths c clash) lines,
            header_most b.text b.lengths c small clash,
            lines_most (words_by m) (mark_most (verdicts_by m.model) (set_of m.contradictory.words)) (name_at b.text b.lengths) (name_most b.text b.lengths) 0 c.names (omega arith),
          );
    }

pub refusal_room : (number at : ℕ) → number < 10 ^ 20 → at < 10 ^ 20 → Room (refusal_of number at) 0
refusal_room number at h l =
    let rest = field (digits number) comma ++ field (digits at) newline in
    record {
      fits =
          omega (arith, ap length (refusal_is number at), length-append (field refused_word comma) rest, length-append (field (digits number) comma) (field (digits at) newline), number_most number comma h, number_most at newline l);
    }
