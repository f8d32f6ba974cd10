-- A table with one name or rule more is the table before with the stores that add it: each table is a list with zeros behind it, and what is
-- stored at the end of that list takes the place of as many zeros. With no name and no rule a table is zeros.
use mathlib.Core.Path.{◌≡◌, refl, sym, ap, ap₂, ◌∙◌}
use mathlib.Core.List.Memᴰ
use mathlib.Core.List.{List, [], ◌∷◌, ◌++◌, map, append_assoc, append-nil}
use Prim.Native.Nat.{ℕ, zero, suc, ◌+◌, ◌-◌, ◌*◌, ◌≤◌, ◌<◌}
use native.Mathlib.Omega.{arith}
use native.Mathlib.Nat.{sub-zero, zero-sub, suc-sub-suc}
use lib.ListN.{length, drop, set, replicate, length-append, length-replicate, length-map, replicate-append-replicate}
use lib.Seq.{sets, sets-eq, take-append_seam, drop-append-add}
use Rattle.wfsx.specs.Sets.{◌is_in◌}
use Rattle.wfsx.specs.Program.{Rule}
use Rattle.scan.specs.Text.{max_length}
use Rattle.book.specs.Limits.{max_names, max_rules, max_entries}
use Rattle.book.specs.Book.{padded, joined, code_of, body_codes, starts_from, text_table, length_table, head_table, start_table, entry_table, book_of}

-- ---- lists with zeros behind them

drop_zeros : (k m : ℕ) → drop k (replicate m 0) ≡ replicate {A = ℕ} (m - k) 0
drop_zeros zero m = ap (λ (n : ℕ). replicate n 0) (sym (sub-zero m))
drop_zeros (suc k) zero = ap (λ (n : ℕ). replicate n 0) (sym (zero-sub (suc k)))
drop_zeros (suc k) (suc m) = drop_zeros k m ∙ ap (λ (n : ℕ). replicate n 0) (sym (suc-sub-suc m k))

pub padded_length : (n : ℕ) (xs : List ℕ) → length xs ≤ n → length (padded n xs) ≡ n
padded_length n xs h = omega (arith, length-append xs (replicate (n - length xs) 0), length-replicate {A = ℕ} (n - length xs) 0)

pub padded_sets : (n : ℕ) (xs ys : List ℕ) → length xs + length ys ≤ n → sets (padded n xs) (length xs) ys ≡ padded n (xs ++ ys)
padded_sets n xs ys h =
    let fewer : n - length xs - length ys ≡ n - length (xs ++ ys) = omega (arith, length-append xs ys) in
    sets-eq ys (padded n xs) (length xs) (omega (arith, padded_length n xs (omega arith)))
    ∙ ap₂ (λ (a b : List ℕ). a ++ ys ++ b) (take-append_seam xs (replicate (n - length xs) 0))
    (drop-append-add xs (replicate (n - length xs) 0) (length ys) ∙ drop_zeros (length ys) (n - length xs) ∙ ap (λ (k : ℕ). replicate k 0) fewer)

-- zeros behind a part that has zeros behind it
padded_padded : (n w : ℕ) (xs ys : List ℕ) → length ys ≤ w → length xs + w ≤ n → padded n (xs ++ padded w ys) ≡ padded n (xs ++ ys)
padded_padded n w xs ys h l =
    let size : length (xs ++ padded w ys) ≡ length xs + w = omega (arith, length-append xs (padded w ys), padded_length w ys h) in
    let zeros : (w - length ys) + (n - length (xs ++ padded w ys)) ≡ n - length (xs ++ ys) = omega (arith, size, length-append xs ys) in
    ap (λ (l : List ℕ). l ++ replicate (n - length (xs ++ padded w ys)) 0) (sym (append_assoc xs ys (replicate (w - length ys) 0)))
    ∙ append_assoc (xs ++ ys) (replicate (w - length ys) 0) (replicate (n - length (xs ++ padded w ys)) 0)
    ∙ ap (λ (l : List ℕ). xs ++ ys ++ l) (replicate-append-replicate (w - length ys) (n - length (xs ++ padded w ys)) 0 ∙ ap (λ (k : ℕ). replicate k 0) zeros)

-- ---- lists of parts

pub joined_none : joined [] ≡ []
unfolding joined
joined_none = refl

pub joined_first : (x : List ℕ) (xs : List (List ℕ)) → joined (x ∷ xs) ≡ x ++ joined xs
unfolding joined
joined_first x xs = refl

pub joined_more : (xs : List (List ℕ)) (y : List ℕ) → joined (xs ++ (y ∷ [])) ≡ joined xs ++ y
unfolding joined
joined_more [] y = append-nil y
joined_more (x ∷ xs) y = ap (λ (l : List ℕ). x ++ l) (joined_more xs y) ∙ sym (append_assoc x (joined xs) y)

pub map_more : {X Y : Type 0} (f : X → Y) (xs : List X) (y : X) → map f (xs ++ (y ∷ [])) ≡ map f xs ++ (f y ∷ [])
map_more f [] y = refl
map_more f (x ∷ xs) y = ap (λ l. f x ∷ l) (map_more f xs y)

-- what is stored behind the list
store : (n : ℕ) (xs ys : List ℕ) (i : ℕ) → length xs ≡ i → length xs + length ys ≤ n → sets (padded n xs) i ys ≡ padded n (xs ++ ys)
store n xs ys i e h = ap (λ (k : ℕ). sets (padded n xs) k ys) (sym e) ∙ padded_sets n xs ys h

-- ---- one name more

pub text_length : (names : List (List ℕ)) → ((n : List ℕ) → n is_in names → length n ≤ max_length)
    → length (joined (map (padded max_length) names)) ≡ max_length * length names
unfolding joined
text_length [] short = refl
text_length (n ∷ names) short =
    omega (
      arith,
      length-append (padded max_length n) (joined (map (padded max_length) names)),
      padded_length max_length n (short n (Memᴰ.head refl)),
      text_length names (λ m i. short m (Memᴰ.tail i)),
    )

module _ (names : List (List ℕ)) (name : List ℕ) (room : length names < max_names) where
  pub text_more : ((n : List ℕ) → n is_in names → length n ≤ max_length) → length name ≤ max_length
      → sets (text_table names) (max_length * length names) name ≡ text_table (names ++ (name ∷ []))
  text_more short fits =
      let size = text_length names short in
      let all = joined (map (padded max_length) names) in
      store (max_length * max_names) all name (max_length * length names) size (omega arith)
      ∙ sym (padded_padded (max_length * max_names) max_length all name fits (omega arith))
      ∙ ap (padded (max_length * max_names)) (sym (ap joined (map_more (padded max_length) names name) ∙ joined_more (map (padded max_length) names) (padded max_length name)))

  pub length_more : set (length_table names) (length names) (length name) ≡ length_table (names ++ (name ∷ []))
  length_more =
      let size = length-map names (λ (n : List ℕ). length n) in
      store max_names (map length names) (length name ∷ []) (length names) size (omega arith) ∙ ap (padded max_names) (sym (map_more length names name))

-- ---- one rule more

-- the stored entries of some rules
abbrev pub all_codes : List Rule → List ℕ
all_codes rules = joined (map body_codes rules)

pub codes_none : all_codes [] ≡ []
unfolding joined
codes_none = refl

pub codes_first : (r : Rule) (rules : List Rule) → all_codes (r ∷ rules) ≡ body_codes r ++ all_codes rules
unfolding joined
codes_first r rules = refl

starts_more : (n : ℕ) (rules : List Rule) (r : Rule) → starts_from n (rules ++ (r ∷ [])) ≡ starts_from n rules ++ ((n + length (all_codes rules) + length r.body) ∷ [])
unfolding starts_from joined
starts_more n [] r = ap (λ (k : ℕ). n ∷ k ∷ []) (omega arith)
starts_more n (q ∷ rules) r =
    let sum : n + length q.body + length (all_codes rules) + length r.body ≡ n + length (all_codes (q ∷ rules)) + length r.body =
    omega (arith, length-append (body_codes q) (all_codes rules), length-map q.body code_of) in
    ap (λ (l : List ℕ). n ∷ l) (starts_more (n + length q.body) rules r ∙ ap (λ (k : ℕ). starts_from (n + length q.body) rules ++ (k ∷ [])) sum)

pub starts_length : (n : ℕ) (rules : List Rule) → length (starts_from n rules) ≡ length rules + 1
unfolding starts_from
starts_length n [] = refl
starts_length n (r ∷ rules) = omega (arith, starts_length (n + length r.body) rules)

module _ (rules : List Rule) (r : Rule) where
  pub head_more : length rules < max_rules → set (head_table rules) (length rules) r.head ≡ head_table (rules ++ (r ∷ []))
  head_more h =
      let size = length-map rules (λ (q : Rule). q.head) in
      store max_rules (map (λ (q : Rule). q.head) rules) (r.head ∷ []) (length rules) size (omega arith)
      ∙ ap (padded max_rules) (sym (map_more (λ (q : Rule). q.head) rules r))

  pub start_more : length rules < max_rules → set (start_table rules) (length rules + 1) (length (all_codes rules) + length r.body) ≡ start_table (rules ++ (r ∷ []))
  start_more h =
      let size = starts_length 0 rules in
      let sum : 0 + length (all_codes rules) + length r.body ≡ length (all_codes rules) + length r.body = omega arith in
      store (max_rules + 1) (starts_from 0 rules) ((length (all_codes rules) + length r.body) ∷ []) (length rules + 1) size (omega arith)
      ∙ ap (padded (max_rules + 1)) (sym (starts_more 0 rules r ∙ ap (λ (k : ℕ). starts_from 0 rules ++ (k ∷ [])) sum))

  pub entry_more : length (all_codes rules) + length r.body ≤ max_entries → sets (entry_table rules) (length (all_codes rules)) (body_codes r) ≡ entry_table (rules ++ (r ∷ []))
  entry_more h =
      store max_entries (all_codes rules) (body_codes r) (length (all_codes rules)) refl (omega (arith, length-map r.body code_of))
      ∙ ap (padded max_entries) (sym (ap joined (map_more body_codes rules r) ∙ joined_more (map body_codes rules) (body_codes r)))

-- ---- the book of given names and rules

-- the book of some names and rules has their counts and their tables
pub book_is : (names : List (List ℕ)) (rules : List Rule)
    → record {
      names = length names;
      rules = length rules;
      text = text_table names;
      lengths = length_table names;
      heads = head_table rules;
      starts = start_table rules;
      entries = entry_table rules;
    } ≡ book_of names rules
unfolding book_of
book_is names rules = refl
