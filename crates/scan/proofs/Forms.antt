-- The form of a field: `~` is looked for at the first place, `-` behind it, and the name is what is left. A field is a literal exactly where that is a
-- name, so the form tells whether it is.
use mathlib.Core.Path.{◌≡◌, refl, sym, ap, ap₂, ◌∙◌}
use mathlib.Core.Bool.{Bool, true, false, cond}
use mathlib.Core.List.{List, [], ◌∷◌}
use Prim.Native.Nat.{ℕ, ◌+◌, ◌-◌, ◌≤◌}
use native.Mathlib.Omega.{arith}
use lib.ListN.{length, take, drop, length-drop}
use lib.Seq.{take_all, drop-drop}
use lib.Dec.{eqb}
use Rattle.scan.specs.Text.{is_name, lead, tildes, minuses, name_of, form_of}
use Rattle.scan.specs.declared.Alphabet.{Alphabet}
use Rattle.std.specs.Prelude.{Option, None, Some}
use Rattle.std.specs.Option.{is_some}
use Rattle.scan.specs.declared.Marks.{Marks}

-- ---- `~` and `-`

-- at most one `~` and one `-`
pub lead_most : (b : ℕ) (s : List ℕ) → lead b s ≤ 1
lead_most b [] = omega arith
lead_most b (x ∷ xs) = go (eqb x b)
  where
    go : (t : Bool) → cond t 1 0 ≤ 1
    go true = omega arith
    go false = omega arith

-- ---- the form by the name: `~` and `-` as the marks say, the name behind them

module _ (f : List ℕ) (m : Marks) (ea : m.tildes ≡ tildes f) (eb : m.minuses ≡ minuses f) where
  pub name_from : name_of f ≡ take (length f - (m.tildes + m.minuses)) (drop (m.tildes + m.minuses) f)
  name_from =
      drop-drop (minuses f) (tildes f) f ∙ ap₂ (λ (x y : ℕ). drop (x + y) f) (sym ea) (sym eb)
      ∙ sym (take_all (length f - (m.tildes + m.minuses)) (drop (m.tildes + m.minuses) f) (omega (arith, length-drop (m.tildes + m.minuses) f)))

  module _ (α : Alphabet) where
    pub form_malformed : is_name α (take (length f - (m.tildes + m.minuses)) (drop (m.tildes + m.minuses) f)) ≡ false → form_of α f ≡ None
    unfolding form_of
    form_malformed h = rw (ap (is_name α) name_from ∙ h)

    pub form_literal : is_name α (take (length f - (m.tildes + m.minuses)) (drop (m.tildes + m.minuses) f)) ≡ true → form_of α f ≡ Some m
    unfolding form_of
    form_literal h = rw (ap (is_name α) name_from ∙ h) (ap₂ {C = Option Marks} (λ (x y : ℕ). Some (record { tildes = x; minuses = y })) (sym ea) (sym eb))

-- ---- whether there is a form

module _ (α : Alphabet) (f : List ℕ) where
  -- the marks that the field has
  abbrev own : Marks
  own = record { tildes = tildes f; minuses = minuses f }

  -- there are marks exactly where the field reads as a literal
  pub form_some : is_some (form_of α f) ≡ is_name α (name_of f)
  unfolding form_of
  form_some = go (is_name α (name_of f))
    where
      go : (t : Bool) → is_some (cond t (Some own) None) ≡ t
      go true = refl
      go false = refl
