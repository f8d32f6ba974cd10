-- Two names are the same exactly where their keys are: digits in base 256 tell lists of bytes of one length apart, and the two words of a key have the
-- first 16 bytes. A word is small enough for the machine, since it has 8 of them.
use mathlib.Core.Path.{◌≡◌, refl, sym, ap, ap₂, ◌∙◌}
use mathlib.Core.Bool.{Bool, true, false, ◌&&◌, true≢false}
use mathlib.Core.List.{List, [], ◌∷◌, ◌++◌, map, map-append}
use Prim.Native.Nat.{ℕ, zero, suc, ◌+◌, ◌-◌, ◌*◌, ◌^◌, ◌≤◌, ◌<◌}
use native.Mathlib.Nat.{pow-suc, pow-le-pow_right}
use native.Mathlib.Omega.{arith}
use lib.ListN.{length, get_or, take, drop, length-map, length-take, length-drop, drop_of_length-le}
use lib.Seq.{take_all, take-nil, take-add}
use lib.Dec.{eqb, leb}
use borrow.Author.Tests.{eq-eqb, eqb-true, leb-true}
use Rattle.truth.proofs.Truth.{refuted, and_l, and_r}
use Rattle.scan.specs.Text.{is_capital, small, counts_as, max_length, folded, SameName, same_name}
use Rattle.scan.specs.Keys.{packed, in_word, Bytes, word_from, key_of, same_key}
use Rattle.scan.specs.declared.Alphabet.{Alphabet}
use Rattle.scan.specs.declared.Alphabet.TheVariants.{SmallOnly, EitherCase}
use Rattle.scan.specs.declared.Key.{Key}
use Rattle.scan.proofs.Places.{left_at}
use Rattle.scan.proofs.Names.{same_decides}

-- ---- digits

-- every element is a byte
abbrev EachByte : List ℕ → Type 0
EachByte [] = Unit
EachByte (x ∷ xs) = (x < 256) × EachByte xs

pub packed_more : (w b : ℕ) (bs : List ℕ) → packed w (b ∷ bs) ≡ packed (256 * w + b) bs
unfolding packed
packed_more w b bs = refl

pub packed_none : (w : ℕ) → packed w [] ≡ w
unfolding packed
packed_none w = refl

-- numbers with as many digits are equal where all digits are
packed_same : (v w : ℕ) (a b : List ℕ) → length a ≡ length b → EachByte a → EachByte b → packed v a ≡ packed w b → (v ≡ w) × (a ≡ b)
unfolding packed
packed_same v w [] [] n p q e = (e, refl)
packed_same v w [] (y ∷ ys) n p q e = absurd (omega arith)
packed_same v w (x ∷ xs) [] n p q e = absurd (omega arith)
packed_same v w (x ∷ xs) (y ∷ ys) n p q e =
    let rest = packed_same (256 * v + x) (256 * w + y) xs ys (omega arith) p.1 q.1 e in
    let heads = rest.0 in
    let first : x ≡ y = omega (arith, heads, p.0, q.0) in
    (omega (arith, heads, first), ap₂ (λ (z : ℕ) (zs : List ℕ). z ∷ zs) first rest.1)

-- ---- a word

-- a byte counts as a byte
pub count_byte : (α : Alphabet) (b : ℕ) → b < 256 → counts_as α b < 256
count_byte SmallOnly b h = h
count_byte EitherCase b h = go (is_capital b) refl
  where
    go : (t : Bool) → is_capital b ≡ t → small b < 256
    go true e = let most = leb-true b 90 (and_r (leb 65 b) (leb b 90) e) in rw e (omega arith)
    go false e = rw e h

-- bytes count as bytes, however many of them are taken from whatever place
count_bytes : (α : Alphabet) (n : ℕ) (s : List ℕ) → Bytes s → EachByte (folded α (take n s))
count_bytes α zero s h = tt
count_bytes α (suc n) [] h = tt
count_bytes α (suc n) (x ∷ xs) h = (count_byte α x (h 0), count_bytes α n xs (λ i. h (suc i)))

bytes_drop : (k : ℕ) (s : List ℕ) → Bytes s → Bytes (drop k s)
bytes_drop zero s h = h
bytes_drop (suc k) [] h = h
bytes_drop (suc k) (x ∷ xs) h = bytes_drop k xs (λ i. h (suc i))

-- k digits make a number below 256 to the k
pub packed_grow : (w b k : ℕ) → w < 256 ^ k → b < 256 → 256 * w + b < 256 ^ suc k
packed_grow w b k h l = rw (pow-suc 256 k) (omega arith)

-- so one more digit behind fewer than 8 leaves a number of the machine
pub packed_fits : (w k : ℕ) → w < 256 ^ k → k < in_word → 256 * w + 255 < 18446744073709551616
packed_fits w k h l =
    let most : 256 ^ suc k ≤ 256 ^ in_word = pow-le-pow_right {n = 256} (omega arith) {i = suc k} {j = in_word} l in
    omega (arith, packed_grow w 255 k h (omega arith), most)

-- for a loop over the places from `from` on, before `end`
module _ (α : Alphabet) (s : List ℕ) where
  abbrev pub word_left : ℕ → ℕ → ℕ → ℕ
  word_left w i end = packed w (folded α (take (end - i) (drop i s)))

  pub word_begins : (from : ℕ) → word_left 0 from (from + in_word) ≡ word_from α from s
  word_begins from = let size : from + in_word - from ≡ in_word = omega arith in rw size

  pub word_step_lem : (w i end : ℕ) → i < end → i < length s → word_left w i end ≡ word_left (256 * w + counts_as α (get_or s i 0)) (i + 1) end
  word_step_lem w i end h l =
      let more : end - i ≡ suc (end - (i + 1)) = omega arith in
      rw (more, left_at s i l) (packed_more w (counts_as α (get_or s i 0)) (folded α (take (end - (i + 1)) (drop (i + 1) s))))

  -- no place is left, or no byte
  pub word_ends : (w i end : ℕ) → end ≤ i → word_left w i end ≡ w
  word_ends w i end h = let none : end - i ≡ 0 = omega arith in rw none (packed_none w)

  pub word_past : (w i end : ℕ) → length s ≤ i → word_left w i end ≡ w
  word_past w i end h = rw (drop_of_length-le s h, take-nil {A = ℕ} (end - i)) (packed_none w)

-- ---- keys

map_part : (f : ℕ → ℕ) (n k : ℕ) (s : List ℕ) → map f (take n (drop k s)) ≡ take n (drop k (map f s))
map_part f zero k s = refl
map_part f (suc n) zero [] = refl
map_part f (suc n) zero (x ∷ xs) = ap (λ (l : List ℕ). f x ∷ l) (map_part f n zero xs)
map_part f (suc n) (suc k) [] = refl
map_part f (suc n) (suc k) (x ∷ xs) = map_part f (suc n) k xs

-- the bytes of both words are all bytes
two_words : (s : List ℕ) → length s ≤ max_length → s ≡ take in_word (drop 0 s) ++ take in_word (drop in_word s)
two_words s h = sym (take_all (in_word + in_word) s h) ∙ take-add in_word in_word s

module _ (α : Alphabet) (a b : List ℕ) where
  -- the same name has the same key
  same_length : SameName α a b → length a ≡ length b
  unfolding SameName
  same_length e = sym (length-map a (counts_as α)) ∙ ap length e ∙ length-map b (counts_as α)

  same_word : (from : ℕ) → SameName α a b → word_from α from a ≡ word_from α from b
  unfolding SameName
  same_word from e =
      ap (packed 0) (map_part (counts_as α) in_word from a ∙ ap (λ (l : List ℕ). take in_word (drop from l)) e ∙ sym (map_part (counts_as α) in_word from b))

  module _ (byte-a : Bytes a) (byte-b : Bytes b) where
    -- the same word has the same bytes
    word_same : (from : ℕ) → length a ≡ length b → word_from α from a ≡ word_from α from b
        → folded α (take in_word (drop from a)) ≡ folded α (take in_word (drop from b))
    word_same from n e =
        (packed_same 0 0 (folded α (take in_word (drop from a))) (folded α (take in_word (drop from b))) size
        (count_bytes α in_word (drop from a) (bytes_drop from a byte-a)) (count_bytes α in_word (drop from b) (bytes_drop from b byte-b)) e).1
      where
        size : length (folded α (take in_word (drop from a))) ≡ length (folded α (take in_word (drop from b)))
        size = omega (
          arith,
          length-map (take in_word (drop from a)) (counts_as α),
          length-map (take in_word (drop from b)) (counts_as α),
          length-take in_word (drop from a),
          length-take in_word (drop from b),
          length-drop from a,
          length-drop from b,
          n,
        )

    key_same : length a ≤ max_length → length a ≡ length b → word_from α 0 a ≡ word_from α 0 b → word_from α in_word a ≡ word_from α in_word b → SameName α a b
    unfolding SameName
    key_same short n e f =
        ap (folded α) (two_words a short) ∙ map-append (counts_as α) (take in_word (drop 0 a)) (take in_word (drop in_word a))
        ∙ ap₂ (λ (x y : List ℕ). x ++ y) (word_same 0 n e) (word_same in_word n f)
        ∙ sym (map-append (counts_as α) (take in_word (drop 0 b)) (take in_word (drop in_word b))) ∙ sym (ap (folded α) (two_words b (omega arith)))

    -- two names, of which one is short enough, are the same exactly where their keys are
    same_key_lem : (length a ≡ length b → length a ≤ max_length) → same_key (key_of α a) (key_of α b) ≡ same_name α a b
    same_key_lem short = go (same_key (key_of α a) (key_of α b)) refl
      where
        lengths : Bool
        lengths = eqb (length a) (length b)

        firsts : Bool
        firsts = eqb (word_from α 0 a) (word_from α 0 b)

        seconds : Bool
        seconds = eqb (word_from α in_word a) (word_from α in_word b)

        go : (t : Bool) → same_key (key_of α a) (key_of α b) ≡ t → same_key (key_of α a) (key_of α b) ≡ same_name α a b
        go true e =
            let long = eqb-true (length a) (length b) (and_l lengths (firsts && seconds) e) in
            let words = and_r lengths (firsts && seconds) e in
            e
            ∙ sym ((same_decides α a b).1 (key_same (short long) long
            (eqb-true (word_from α 0 a) (word_from α 0 b) (and_l firsts seconds words)) (eqb-true (word_from α in_word a) (word_from α in_word b) (and_r firsts seconds words))))
        go false e = e ∙ sym (refuted (λ q. true≢false (sym (equal ((same_decides α a b).0 q)) ∙ e)))
          where
            equal : SameName α a b → same_key (key_of α a) (key_of α b) ≡ true
            equal s =
                rw (eq-eqb (length a) (length b) (same_length s), eq-eqb (word_from α 0 a) (word_from α 0 b) (same_word 0 s), eq-eqb (word_from α in_word a) (word_from α in_word b) (same_word in_word s))

-- what `same_key` answers of two keys that `key_of` gave
pub keys_tell : (α : Alphabet) (a b : List ℕ) (x y : Key) → (x ≡ key_of α a) × Bytes a → (y ≡ key_of α b) × Bytes b → (length a ≡ length b → length a ≤ max_length)
    → same_key x y ≡ same_name α a b
keys_tell α a b x y p q short = ap₂ same_key p.0 q.0 ∙ same_key_lem α a b p.1 q.1 short
