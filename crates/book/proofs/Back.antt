-- The tables that hold names and rules give back those names and rules: each name stands in a block of its own, and each body begins where the
-- bodies before it end.
use mathlib.Core.Path.{◌≡◌, refl, sym, ap, ap₂, ◌∙◌}
use mathlib.Core.List.Memᴰ
use mathlib.Core.List.{List, [], ◌∷◌, ◌++◌, map, append_assoc}
use Prim.Native.Nat.{ℕ, zero, suc, ◌+◌, ◌-◌, ◌*◌, ◌/◌, ◌%◌, ◌≤◌, ◌<◌}
use native.Mathlib.Omega.{arith}
use native.Mathlib.Nat.{mod-eq_of_lt, zero-add, suc-add, add-suc, add-zero, sub-zero}
use native.Mathlib.Numerals.{add-one}
use lib.ListN.{length, get_or, take, drop, replicate, length-map, get_or-append, get_or-map}
use lib.Seq.{take-append_seam, drop-append-add}
use borrow.Author.Tests.{eq-eqb, ne_eqb}
use Rattle.wfsx.specs.Sets.{◌is_in◌}
use Rattle.wfsx.specs.Program.{Entry, positive, default, Rule}
use Rattle.litset.specs.Words.{capacity}
use Rattle.scan.specs.Text.{max_length}
use Rattle.book.specs.Limits.{max_names, max_rules}
use Rattle.book.specs.Book.{rows, clamp, name_at, names_in, names_of, literal_of, entry_of, body_at, rule_at, rules_in, rules_of, padded, joined, code_of, body_codes, starts_from, text_table, length_table, head_table, start_table, entry_table, book_of, literal_in}
use Rattle.book.proofs.Counts.{clamp_least}
use Rattle.book.proofs.Tables.{all_codes, padded_length, starts_length}

-- rows that are the elements of a list
rows_from : {X : Type 0} (f : ℕ → X) (d : X) (j : ℕ) (xs : List X) → ((k : ℕ) → k < length xs → f (j + k) ≡ get_or xs k d) → rows f j (length xs) ≡ xs
unfolding rows
rows_from f d j [] h = refl
rows_from f d j (x ∷ xs) h =
    ap₂ (λ y l. y ∷ l) (ap f (sym (add-zero j)) ∙ h 0 (omega arith))
    (rows_from f d (suc j) xs (λ k l. ap f (suc-add j k ∙ sym (add-suc j k)) ∙ h (suc k) (omega arith)))

-- ---- names

name_block : (names : List (List ℕ)) (z : List ℕ) → ((n : List ℕ) → n is_in names → length n ≤ max_length) → (k : ℕ) → k < length names
    → take (length (get_or names k [])) (drop (max_length * k) (joined (map (padded max_length) names) ++ z)) ≡ get_or names k []
unfolding joined
name_block [] z short k h = absurd (omega arith)
name_block (n ∷ names) z short zero h =
    let zeros = replicate {A = ℕ} (max_length - length n) 0 in
    let others = joined (map (padded max_length) names) in
    ap (take (length n)) (append_assoc (n ++ zeros) others z ∙ append_assoc n zeros (others ++ z)) ∙ take-append_seam n (zeros ++ (others ++ z))
name_block (n ∷ names) z short (suc k) h =
    let others = joined (map (padded max_length) names) in
    let place : max_length * suc k ≡ length (padded max_length n) + max_length * k = omega (arith, padded_length max_length n (short n (Memᴰ.head refl))) in
    ap (take (length (get_or names k []))) (ap₂ drop place (append_assoc (padded max_length n) others z) ∙ drop-append-add (padded max_length n) (others ++ z) (max_length * k))
    ∙ name_block names z (λ m i. short m (Memᴰ.tail i)) k (omega arith)

pub get_d_in : {X : Type 0} (xs : List X) (k : ℕ) (d : X) → k < length xs → get_or xs k d is_in xs
get_d_in [] k d h = absurd (omega arith)
get_d_in (x ∷ xs) zero d h = Memᴰ.head refl
get_d_in (x ∷ xs) (suc k) d h = Memᴰ.tail (get_d_in xs k d (omega arith))

pub names_back : (names : List (List ℕ)) → ((n : List ℕ) → n is_in names → length n ≤ max_length) → length names ≤ max_names
    → names_in (text_table names) (length_table names) (length names) ≡ names
names_back names short few = rows_from (name_at (text_table names) (length_table names)) [] 0 names (λ k h. ap (name_at (text_table names) (length_table names)) (zero-add k) ∙ at k h)
  where
    stored : (k : ℕ) → k < length names → clamp max_length (get_or (length_table names) k 0) ≡ length (get_or names k [])
    stored k h =
        ap (clamp max_length) (get_or-append (map length names) (replicate (max_names - length (map length names)) 0) 0 k (omega (arith, length-map names (λ (n : List ℕ). length n)))
        ∙ get_or-map length names k [])
        ∙ clamp_least max_length (length (get_or names k [])) (short (get_or names k []) (get_d_in names k [] h))

    at : (k : ℕ) → k < length names → name_at (text_table names) (length_table names) k ≡ get_or names k []
    at k h = ap (λ (n : ℕ). take n (drop (max_length * k) (text_table names))) (stored k h) ∙ name_block names _ short k h

-- ---- rules

starts_first : (n : ℕ) (rules : List Rule) → get_or (starts_from n rules) 0 0 ≡ n
unfolding starts_from
starts_first n [] = refl
starts_first n (r ∷ rules) = refl

starts_above : (n : ℕ) (rules : List Rule) (k : ℕ) → k ≤ length rules → n ≤ get_or (starts_from n rules) k 0
unfolding starts_from
starts_above n rules zero h = omega (arith, starts_first n rules)
starts_above n [] (suc k) h = absurd (omega arith)
starts_above n (r ∷ rules) (suc k) h = omega (arith, starts_above (n + length r.body) rules k (omega arith))

-- the stored body of rule k, where the first body begins at n
body_block : (n : ℕ) (rules : List Rule) (z : List ℕ) (d : Rule) (k : ℕ) → k < length rules
    → take (get_or (starts_from n rules) (suc k) 0 - get_or (starts_from n rules) k 0) (drop (get_or (starts_from n rules) k 0 - n) (all_codes rules ++ z)) ≡ body_codes (get_or rules k d)
unfolding starts_from joined
body_block n [] z d k h = absurd (omega arith)
body_block n (r ∷ rules) z d zero h =
    let size : get_or (starts_from (n + length r.body) rules) 0 0 - n ≡ length (body_codes r) =
    omega (arith, starts_first (n + length r.body) rules, length-map r.body code_of) in
    let none : n - n ≡ 0 = omega arith in
    ap₂ take size (ap₂ drop none (append_assoc (body_codes r) (all_codes rules) z)) ∙ take-append_seam (body_codes r) (all_codes rules ++ z)
body_block n (r ∷ rules) z d (suc k) h =
    let m = get_or (starts_from (n + length r.body) rules) k 0 in
    let place : m - n ≡ length (body_codes r) + (m - (n + length r.body)) =
    omega (arith, starts_above (n + length r.body) rules k (omega arith), length-map r.body code_of) in
    ap (take (get_or (starts_from (n + length r.body) rules) (suc k) 0 - m))
    (ap₂ drop place (append_assoc (body_codes r) (all_codes rules) z) ∙ drop-append-add (body_codes r) (all_codes rules ++ z) (m - (n + length r.body)))
    ∙ body_block (n + length r.body) rules z d k (omega arith)

entry_back : (e : Entry) → literal_in e < capacity → entry_of (code_of e) ≡ e
entry_back (positive B) h =
    let even : 2 * B % 2 ≡ 0 = omega arith in
    let half : 2 * B / 2 ≡ B = omega arith in
    rw (eq-eqb (2 * B % 2) 0 even, half) (ap positive (mod-eq_of_lt h))
entry_back (default C) h =
    let odd : (2 * C + 1) % 2 ≡ 0 → ⊥ = λ e. omega arith in
    let half : (2 * C + 1) / 2 ≡ C = omega arith in
    rw (ne_eqb ((2 * C + 1) % 2) 0 odd, half) (ap default (mod-eq_of_lt h))

body_back : (es : List Entry) → ((e : Entry) → e is_in es → literal_in e < capacity) → map entry_of (map code_of es) ≡ es
body_back [] h = refl
body_back (e ∷ es) h = ap₂ (λ x l. x ∷ l) (entry_back e (h e (Memᴰ.head refl))) (body_back es (λ x i. h x (Memᴰ.tail i)))

-- the literals of the rules are numbers that a set has room for
pub record Storable (rules : List Rule) : Type 0 where
  pub heads_fit : (r : Rule) → r is_in rules → r.head < capacity
  pub entries_fit : (r : Rule) → r is_in rules → (e : Entry) → e is_in r.body → literal_in e < capacity

pub rules_back : (rules : List Rule) → Storable rules → length rules ≤ max_rules
    → rules_in (head_table rules) (start_table rules) (entry_table rules) (length rules) ≡ rules
rules_back rules s few =
    rows_from (rule_at (head_table rules) (start_table rules) (entry_table rules)) none 0 rules (λ k h. ap (rule_at (head_table rules) (start_table rules) (entry_table rules)) (zero-add k) ∙ at k h)
  where
    none : Rule
    none = record { head = 0; body = [] }

    head_at_lem : (k : ℕ) → k < length rules → literal_of (get_or (head_table rules) k 0) ≡ (get_or rules k none).head
    head_at_lem k h =
        ap literal_of (get_or-append (map (λ (r : Rule). r.head) rules) _ 0 k (omega (arith, length-map rules (λ (r : Rule). r.head)))
        ∙ get_or-map (λ (r : Rule). r.head) rules k none)
        ∙ mod-eq_of_lt (s.heads_fit (get_or rules k none) (get_d_in rules k none h))

    start_at : (k : ℕ) → k ≤ length rules → get_or (start_table rules) k 0 ≡ get_or (starts_from 0 rules) k 0
    start_at k h = get_or-append (starts_from 0 rules) _ 0 k (omega (arith, starts_length 0 rules))

    codes_at : (k : ℕ) → k < length rules → body_at (start_table rules) (entry_table rules) k ≡ body_codes (get_or rules k none)
    codes_at k h =
        ap₂ (λ (a b : ℕ). take (a - b) (drop b (entry_table rules))) (start_at (k + 1) (omega arith) ∙ ap (λ (n : ℕ). get_or (starts_from 0 rules) n 0) (add-one k)) (start_at k (omega arith))
        ∙ ap (λ (n : ℕ). take (get_or (starts_from 0 rules) (suc k) 0 - get_or (starts_from 0 rules) k 0) (drop n (entry_table rules))) (sym (sub-zero (get_or (starts_from 0 rules) k 0)))
        ∙ body_block 0 rules _ none k h

    at : (k : ℕ) → k < length rules → rule_at (head_table rules) (start_table rules) (entry_table rules) k ≡ get_or rules k none
    at k h =
        ap₂ (λ (a : ℕ) (es : List Entry). record { head = a; body = es }) (head_at_lem k h)
        (ap (map entry_of) (codes_at k h) ∙ body_back (get_or rules k none).body (s.entries_fit (get_or rules k none) (get_d_in rules k none h)))

-- a book whose tables hold given names and rules has them
module _ (names : List (List ℕ)) (rules : List Rule) where
  pub book_names : ((n : List ℕ) → n is_in names → length n ≤ max_length) → length names ≤ max_names → names_of (book_of names rules) ≡ names
  unfolding book_of
  book_names short few = ap (names_in (text_table names) (length_table names)) (clamp_least max_names (length names) few) ∙ names_back names short few

  pub book_rules : Storable rules → length rules ≤ max_rules → rules_of (book_of names rules) ≡ rules
  unfolding book_of
  book_rules s few = ap (rules_in (head_table rules) (start_table rules) (entry_table rules)) (clamp_least max_rules (length rules) few) ∙ rules_back rules s few
