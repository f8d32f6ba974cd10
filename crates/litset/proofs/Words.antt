-- Laws of `set_of`, over a list of words of any length.
use mathlib.Core.Path.{◌≡◌, refl, sym, ap, ◌∙◌, fun_ext}
use mathlib.Core.Bool.{Bool, true, false, not, ◌&&◌, ◌||◌, and-true, or-true, or-false, true≢false}
use mathlib.Core.List.{List}
use Prim.Native.Nat.{ℕ, zero, suc, ◌+◌, ◌*◌, ◌/◌, ◌%◌, ◌^◌, ◌≤◌, ◌<◌}
use native.Mathlib.Omega.{arith}
use native.Mathlib.Decide.{dec_lt, ℕ_discrete}
use lib.Bits.{bit_or}
use lib.Dec.{eqb}
use lib.ListN.{length, get_or, set, replicate, length-set, get_or-eq_default}
use lib.Seq.{get_or-set_same, get_or-set_other, ext_get_or}
use borrow.Author.Count.{below_none, below_more}
use borrow.Author.Tests.{eq-eqb, ne_eqb, lt-ltb, le-ltb}
use native.Mathlib.Nat.{le_refl}
use Rattle.wfsx.specs.Sets.{Set, ◌∈◌, ∅, ◌∖◌, add}
use Rattle.wfsx.specs.Program.{compl}
use Rattle.wfsx.proofs.Program.{compl_plain, compl_negated}
use Rattle.litset.specs.Words.{n_words, capacity, bit, set_of, add_below, with, without}
use Rattle.litset.proofs.Bit.{or_bit, clear, clear_bit, bit_zero, pow_same, pow_other, same_bits}

-- the capacity is even, so the complement of a literal below it is below it
pub compl_small : (A : ℕ) → A < capacity → compl A < capacity
compl_small A h = go (ℕ_discrete (A % 2) 0)
  where
    go : Dec (A % 2 ≡ 0) → compl A < capacity
    go (yes e) = rw (compl_plain A e) (omega arith)
    go (no n) = rw (compl_negated A n) (omega arith)

-- ---- past the end, and the empty set

pub none_past : (ws : List ℕ) (l : ℕ) → length ws ≤ l / 64 → set_of ws l ≡ false
unfolding set_of
none_past ws l h = ap (λ (w : ℕ). bit w (l % 64)) (get_or-eq_default ws 0 h) ∙ bit_zero (l % 64)

-- a member lies below the bits of all words
pub member_below : (ws : List ℕ) (l : ℕ) → l ∈ set_of ws → l < 64 * length ws
member_below ws l m = go (dec_lt (l / 64) (length ws))
  where
    go : Dec (l / 64 < length ws) → l < 64 * length ws
    go (yes h) = omega arith
    go (no h) = absurd (true≢false (sym m ∙ none_past ws l (omega arith)))

-- so the members of a `LitSet` lie below its capacity
pub member_room : (ws : List ℕ) → length ws ≡ n_words → (l : ℕ) → l ∈ set_of ws → l < capacity
member_room ws size l m = omega (arith, member_below ws l m)

get_d_zeros : (n i : ℕ) → ◌≡◌ {A = ℕ} (get_or (replicate n 0) i 0) 0
get_d_zeros zero i = refl
get_d_zeros (suc n) zero = refl
get_d_zeros (suc n) (suc i) = get_d_zeros n i

pub set_zeros : (n : ℕ) → set_of (replicate n 0) ≡ ∅
unfolding set_of
set_zeros n = fun_ext (λ l. ap (λ (w : ℕ). bit w (l % 64)) (get_d_zeros n (l / 64)) ∙ bit_zero (l % 64))

-- ---- one bit changed

-- the word of l put through f with the bit of l
abbrev pub change : (ℕ → ℕ → ℕ) → List ℕ → ℕ → List ℕ
change f ws l = set ws (l / 64) (f (get_or ws (l / 64) 0) (2 ^ (l % 64)))

-- f is g at each bit, and a bit of 0 changes nothing
module _ (f : ℕ → ℕ → ℕ) (g : Bool → Bool → Bool) (at_bit : (a b j : ℕ) → bit (f a b) j ≡ g (bit a j) (bit b j)) (keeps : (b : Bool) → g b false ≡ b)
    (ws : List ℕ) (l : ℕ) (room : l / 64 < length ws) where
  changed : set_of (change f ws l) l ≡ g (set_of ws l) true
  unfolding set_of
  changed = ap (λ (w : ℕ). bit w (l % 64)) (get_or-set_same ws (l / 64) _ 0 room) ∙ at_bit _ _ (l % 64) ∙ ap (g (set_of ws l)) (pow_same (l % 64))

  unchanged : (A : ℕ) → (A ≡ l → ⊥) → set_of (change f ws l) A ≡ set_of ws A
  unfolding set_of
  unchanged A ne = go (ℕ_discrete (A / 64) (l / 64))
    where
      go : Dec (A / 64 ≡ l / 64) → set_of (change f ws l) A ≡ set_of ws A
      go (no q) = ap (λ (w : ℕ). bit w (A % 64)) (get_or-set_other ws (l / 64) (A / 64) _ 0 q)
      go (yes e) =
          let other : A % 64 ≡ l % 64 → ⊥ = λ q. ne (omega arith) in
          ap (λ (i : ℕ). bit (get_or (change f ws l) i 0) (A % 64)) e ∙ ap (λ (w : ℕ). bit w (A % 64)) (get_or-set_same ws (l / 64) _ 0 room) ∙ at_bit _ _ (A % 64)
          ∙ ap (g (bit (get_or ws (l / 64) 0) (A % 64))) (pow_other (l % 64) (A % 64) other) ∙ keeps _ ∙ ap (λ (i : ℕ). bit (get_or ws i 0) (A % 64)) (sym e)

  -- whatever answers so is the set of the changed words
  change_is : (S : Set) → S l ≡ g (set_of ws l) true → ((A : ℕ) → (A ≡ l → ⊥) → S A ≡ set_of ws A) → set_of (change f ws l) ≡ S
  change_is S here there = fun_ext (λ A. go A (ℕ_discrete A l))
    where
      go : (A : ℕ) → Dec (A ≡ l) → set_of (change f ws l) A ≡ S A
      go A (yes e) = ap (set_of (change f ws l)) e ∙ changed ∙ sym here ∙ ap S (sym e)
      go A (no ne) = unchanged A ne ∙ sym (there A ne)

pub with_room : (l : ℕ) (S : Set) → l < capacity → with l S ≡ add l S
unfolding with
with_room l S h = rw (lt-ltb l capacity h) refl

pub without_at : (l : ℕ) (S : Set) (A : ℕ) → without l S A ≡ (S A && not (eqb A l))
unfolding without
without_at l S A = refl

module _ (ws : List ℕ) (l : ℕ) where
  add_here : (S : Set) → add l S l ≡ true
  add_here S = ap (λ (b : Bool). b || S l) (eq-eqb l l refl)

  pub set_insert : length ws ≡ n_words → l / 64 < n_words → set_of (change bit_or ws l) ≡ with l (set_of ws)
  unfolding with
  set_insert len h =
      rw (lt-ltb l capacity (omega arith)) (change_is bit_or ◌||◌ or_bit or-false ws l (omega arith) (add l (set_of ws)) (add_here (set_of ws) ∙ sym (or-true (set_of ws l)))
      (λ A ne. ap (λ (b : Bool). b || set_of ws A) (ne_eqb A l ne)))

  pub set_no_room : n_words ≤ l / 64 → set_of ws ≡ with l (set_of ws)
  unfolding with
  set_no_room h = rw (le-ltb l capacity (omega arith)) refl

  -- the same for words of any count
  pub below_insert : l / 64 < length ws → set_of (change bit_or ws l) ≡ add_below (64 * length ws) l (set_of ws)
  unfolding add_below
  below_insert h =
      rw (lt-ltb l (64 * length ws) (omega arith)) (change_is bit_or ◌||◌ or_bit or-false ws l h (add l (set_of ws)) (add_here (set_of ws) ∙ sym (or-true (set_of ws l)))
      (λ A ne. ap (λ (b : Bool). b || set_of ws A) (ne_eqb A l ne)))

  pub below_no_room : length ws ≤ l / 64 → set_of ws ≡ add_below (64 * length ws) l (set_of ws)
  unfolding add_below
  below_no_room h = rw (le-ltb l (64 * length ws) (omega arith)) refl

  pub set_remove : l / 64 < length ws → set_of (change clear ws l) ≡ without l (set_of ws)
  unfolding without
  set_remove h =
      change_is clear (λ p q. p && not q) clear_bit and-true ws l h (without l (set_of ws)) (ap (λ (b : Bool). set_of ws l && not b) (eq-eqb l l refl))
      (λ A ne. ap (λ (b : Bool). set_of ws A && not b) (ne_eqb A l ne) ∙ and-true (set_of ws A))

  pub set_not_there : length ws ≤ l / 64 → set_of ws ≡ without l (set_of ws)
  unfolding without
  set_not_there h = fun_ext (λ A. go A (ℕ_discrete A l))
    where
      go : (A : ℕ) → Dec (A ≡ l) → set_of ws A ≡ (set_of ws A && not (eqb A l))
      go A (yes e) = let out : set_of ws A ≡ false = ap (set_of ws) e ∙ none_past ws l h in rw out refl
      go A (no ne) = sym (ap (λ (b : Bool). set_of ws A && not b) (ne_eqb A l ne) ∙ and-true (set_of ws A))

-- ---- a set settles its words

pub set_settles : (ws vs : List ℕ) → length ws ≡ length vs → ((i : ℕ) → get_or ws i 0 < 2 ^ 64) → ((i : ℕ) → get_or vs i 0 < 2 ^ 64) → set_of ws ≡ set_of vs → ws ≡ vs
unfolding set_of
set_settles ws vs len hw hv e =
    ext_get_or 0 ws vs len (λ i hi. same_bits 64 (get_or ws i 0) (get_or vs i 0) (hw i) (hv i) (λ j hj.
    let word : (64 * i + j) / 64 ≡ i = omega arith in
    let place : (64 * i + j) % 64 ≡ j = omega arith in
    simp (word, place) at (ap (λ (S : Set). S (64 * i + j)) e)))

-- ---- a loop that puts, word by word, what an operation makes of two sets in the place of the first

pub record Joined (op : ℕ → ℕ → ℕ) (a b t : List ℕ) (i : ℕ) : Type 0 where
  pub size : length t ≡ length a
  pub done : (k : ℕ) → k < i → get_or t k 0 ≡ op (get_or a k 0) (get_or b k 0)
  pub left : (k : ℕ) → i ≤ k → get_or t k 0 ≡ get_or a k 0

module _ (op : ℕ → ℕ → ℕ) (a b : List ℕ) where
  pub joined_none : Joined op a b a 0
  joined_none = record { size = refl; done = below_none _; left = λ k h. refl }

  pub joined_more : (t : List ℕ) (i : ℕ) → i < length t → Joined op a b t i → Joined op a b (set t i (op (get_or t i 0) (get_or b i 0))) (i + 1)
  joined_more t i h u =
      record {
        size = length-set t i _ ∙ u.size;
        done = below_more _ i (λ k l. get_or-set_other t i k _ 0 (λ e. omega arith) ∙ u.done k l)
            (get_or-set_same t i _ 0 h ∙ ap (λ (w : ℕ). op w (get_or b i 0)) (u.left i (le_refl i)));
        left = λ k l. get_or-set_other t i k _ 0 (λ e. omega arith) ∙ u.left k (omega arith);
      }

  -- past the last word every word counts as 0
  pub joined_words : op 0 0 ≡ 0 → (t : List ℕ) (i : ℕ) → length a ≤ i → length b ≤ i → Joined op a b t i → (k : ℕ) → get_or t k 0 ≡ op (get_or a k 0) (get_or b k 0)
  joined_words zeros t i ha hb u k = go (dec_lt k i)
    where
      go : Dec (k < i) → get_or t k 0 ≡ op (get_or a k 0) (get_or b k 0)
      go (yes h) = u.done k h
      go (no h) =
          let pa : get_or a k 0 ≡ 0 = get_or-eq_default a 0 (omega arith) in
          let pb : get_or b k 0 ≡ 0 = get_or-eq_default b 0 (omega arith) in
          u.left k (omega arith) ∙ rw (pa, pb) (sym zeros)

  -- an operation that is f at each bit makes f of the sets
  pub joined_all : (f : Bool → Bool → Bool) → ((v w j : ℕ) → bit (op v w) j ≡ f (bit v j) (bit w j)) → op 0 0 ≡ 0
      → (t : List ℕ) (i : ℕ) → length a ≤ i → length b ≤ i → Joined op a b t i → set_of t ≡ (λ l. f (set_of a l) (set_of b l))
  unfolding set_of
  joined_all f at_bit zeros t i ha hb u =
      fun_ext (λ l. ap (λ (w : ℕ). bit w (l % 64)) (joined_words zeros t i ha hb u (l / 64)) ∙ at_bit _ _ (l % 64))

-- word i of what is left of a set without another
abbrev pub left_word : List ℕ → List ℕ → ℕ → ℕ
left_word a b i = clear (get_or a i 0) (get_or b i 0)

pub left_bit : (a b : List ℕ) (l : ℕ) → (set_of a ∖ set_of b) l ≡ bit (left_word a b (l / 64)) (l % 64)
unfolding set_of
left_bit a b l = sym (clear_bit _ _ (l % 64))
