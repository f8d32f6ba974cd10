-- Laws over the fields of a line: for a loop that has come to the field at place p, which ends at e, and for a field's name looked up.
use mathlib.Core.Path.{◌≡◌, refl, ap, ◌∙◌, sym}
use mathlib.Core.Bool.{Bool, true, false, cond, not, not-not, true≢false}
use mathlib.Core.List.{List, ◌∷◌}
use Prim.Native.Nat.{ℕ, zero, suc, ◌+◌, ◌-◌, ◌*◌, ◌≤◌, ◌<◌, zero-le}
use native.Mathlib.Nat.{sub-zero}
use native.Mathlib.Omega.{arith}
use lib.ListN.{length, take, drop}
use lib.Dec.{eqb}
use Rattle.std.proofs.Common.{Option, Some, None, is_some}
use Rattle.wfsx.specs.Program.{positive, default}
use Rattle.scan.specs.Text.{len_to, rest, tildes, minuses, name_of, comma, fields}
use Rattle.scan.proofs.Places.{rest_step, rest_none, rest_here}
use Rattle.scan.proofs.Forms.{lead_most}
use Rattle.book.specs.Book.{find, code_of}
use Rattle.std.specs.Prelude.{Option, None, Some}
use Rattle.scan.specs.declared.Word.TheVariants.{Rule as RuleWord}
use Rattle.scan.specs.declared.Alphabet.TheVariants.{EitherCase}
use Rattle.reader.specs.File.{all_fields, declared, is_found, number_in, literal_number, entry_from, is_literal, has_tilde, malformed}
use Rattle.reader.specs.Steps.{known_by, known_of}
use Rattle.reader.specs.declared.Known.{Known}

-- ---- a test of every field

module _ (f : List ℕ → Bool) (x : List ℕ) (xs : List (List ℕ)) where
  pub first_passes : f x ≡ true → all_fields f (x ∷ xs) ≡ all_fields f xs
  unfolding all_fields
  first_passes e = rw e

  pub first_fails : f x ≡ false → all_fields f (x ∷ xs) ≡ false
  unfolding all_fields
  first_fails e = rw e

module _ (f : List ℕ → Bool) (l : List ℕ) (p : ℕ) where
  module _ (e : ℕ) (h : p ≤ length l) (q : e ≡ p + len_to comma (drop p l)) where
    pub fields_go : f (take (e - p) (drop p l)) ≡ true → all_fields f (rest comma l p) ≡ all_fields f (rest comma l (e + 1))
    fields_go t = ap (all_fields f) (rest_step comma l p e h q) ∙ first_passes f _ _ t

    pub fields_stop : f (take (e - p) (drop p l)) ≡ false → all_fields f (rest comma l p) ≡ false
    fields_stop t = ap (all_fields f) (rest_step comma l p e h q) ∙ first_fails f _ _ t

  pub fields_end : length l < p → all_fields f (rest comma l p) ≡ true
  unfolding all_fields
  fields_end h = ap (all_fields f) (rest_none comma l p h)

-- the first field of a line ends at e
pub first_field : (line : List ℕ) (e : ℕ) → e ≡ 0 + len_to comma (drop 0 line) → fields line ≡ take e line ∷ rest comma line (e + 1)
first_field line e q =
    sym (rest_here comma line 0 zero-le) ∙ rest_step comma line 0 e zero-le q ∙ ap (λ (n : ℕ). take n line ∷ rest comma line (e + 1)) (sub-zero e)

-- ---- the form of a rule, by its head and its body

module _ (h : List ℕ) (ls : List (List ℕ)) where
  pub head_tilde_lem : has_tilde h ≡ true → false ≡ not (malformed EitherCase RuleWord (h ∷ ls))
  unfolding malformed
  head_tilde_lem e = rw e

-- a rule whose head has no `~` is well formed where all fields are
pub head_plain : (fs : List (List ℕ)) (h : List ℕ) (ls : List (List ℕ)) → fs ≡ h ∷ ls → has_tilde h ≡ false
    → all_fields (is_literal EitherCase) fs ≡ not (malformed EitherCase RuleWord fs)
unfolding malformed
head_plain fs h ls part plain = rw (part, plain, not-not (all_fields (is_literal EitherCase) (h ∷ ls))) refl

-- ---- a name looked up

module _ (names : List (List ℕ)) (f : List ℕ) where
  pub known_none : find EitherCase names (name_of f) ≡ None → known_of names f ≡ None
  unfolding known_of
  known_none e = ap (λ (x : Option ℕ). known_by x (tildes f) (minuses f)) e

  pub known_some : (i : ℕ) → find EitherCase names (name_of f) ≡ Some i → known_of names f ≡ Some (record { literal = 2 * i + minuses f; tildes = tildes f })
  unfolding known_of
  known_some i e = ap (λ (x : Option ℕ). known_by x (tildes f) (minuses f)) e

  is_known_lem : Option Known → Bool
  is_known_lem None = false
  is_known_lem (Some k) = true

  literal_known : Option Known → ℕ
  literal_known None = minuses f
  literal_known (Some k) = k.literal

  tildes_known : Option Known → ℕ
  tildes_known None = tildes f
  tildes_known (Some k) = k.tildes

  declared_test : declared EitherCase names (name_of f) ≡ is_known_lem (known_of names f)
  unfolding known_of is_known_lem
  declared_test = go (find EitherCase names (name_of f))
    where
      go : (x : Option ℕ) → is_found x ≡ is_known_lem (known_by x (tildes f) (minuses f))
      go None = refl
      go (Some i) = refl

  pub not_declared : known_of names f ≡ None → declared EitherCase names (name_of f) ≡ false
  unfolding is_known_lem
  not_declared e = declared_test ∙ ap is_known_lem e

  module _ (k : Known) (e : known_of names f ≡ Some k) where
    pub is_declared : declared EitherCase names (name_of f) ≡ true
    unfolding is_known_lem
    is_declared = declared_test ∙ ap is_known_lem e

    pub literal_is : literal_number EitherCase names f ≡ k.literal
    unfolding known_of literal_known literal_number
    literal_is = go (find EitherCase names (name_of f)) ∙ ap literal_known e
      where
        go : (x : Option ℕ) → 2 * number_in x + minuses f ≡ literal_known (known_by x (tildes f) (minuses f))
        go None = omega arith
        go (Some i) = refl

    pub tildes_are : tildes f ≡ k.tildes
    unfolding known_of tildes_known
    tildes_are = go (find EitherCase names (name_of f)) ∙ ap tildes_known e
      where
        go : (x : Option ℕ) → tildes f ≡ tildes_known (known_by x (tildes f) (minuses f))
        go None = refl
        go (Some i) = refl

    -- the code that is stored for the field
    pub code_is : code_of (entry_from EitherCase names f) ≡ 2 * k.literal + k.tildes
    unfolding entry_from
    code_is = go (tildes f) tildes_are (lead_most 126 f)
      where
        go : (n : ℕ) → n ≡ k.tildes → n ≤ 1 → code_of (cond (eqb n 1) (default (literal_number EitherCase names f)) (positive (literal_number EitherCase names f))) ≡ 2 * k.literal + k.tildes
        go zero q h = omega (arith, literal_is)
        go (suc zero) q h = omega (arith, literal_is)
        go (suc (suc n)) q h = absurd (omega arith)

pub none_some : {k : Known} → ◌≡◌ {A = Option Known} None (Some k) → ⊥
none_some e = true≢false (sym (ap (λ (x : Option Known). is_some x) e))

-- a literal by its name's number and its marks is small
pub known_small : (f : List ℕ) (i count : ℕ) (k : Known) → i < count → Some (record { literal = 2 * i + minuses f; tildes = tildes f }) ≡ Some k → (k.literal < 2 * count) × (k.tildes ≤ 1)
known_small f i count k h e =
    let literal : 2 * i + minuses f ≡ k.literal = ap (literal_in 0) e in
    let mark : tildes f ≡ k.tildes = ap (tildes_in 0) e in
    (omega (arith, literal, lead_most 45 (drop (tildes f) f)), omega (arith, mark, lead_most 126 f))
  where
    literal_in : ℕ → Option Known → ℕ
    literal_in n None = n
    literal_in n (Some x) = x.literal

    tildes_in : ℕ → Option Known → ℕ
    tildes_in n None = n
    tildes_in n (Some x) = x.tildes
