-- The library's words for parts of a list and for a test of each element, beside those of the definitions: the pieces between the bytes `stop`, and a test of
-- every field.
use mathlib.Core.Path.{◌≡◌, refl, ap}
use mathlib.Core.Bool.{Bool, ◌&&◌}
use mathlib.Core.List.{List, [], ◌∷◌}
use Prim.Native.Nat.{ℕ}
use lib.Dec.{eqb}
use Rattle.std.specs.List.{slice_split, onto_first, list_all}
use Rattle.scan.specs.Text.{split, onto}
use Rattle.reader.specs.File.{all_fields}

onto_is : (x : ℕ) (ps : List (List ℕ)) → onto_first x ps ≡ onto x ps
onto_is x [] = refl
onto_is x (p ∷ ps) = refl

pub split_is : (stop : ℕ) (xs : List ℕ) → slice_split (λ b. eqb b stop) xs ≡ split stop xs
unfolding split
split_is stop [] = refl
split_is stop (x ∷ xs) = rw (split_is stop xs, onto_is x (split stop xs)) refl

pub all_is : (f : List ℕ → Bool) (xs : List (List ℕ)) → list_all f xs ≡ all_fields f xs
unfolding all_fields
all_is f [] = refl
all_is f (x ∷ xs) = ap (λ (b : Bool). f x && b) (all_is f xs)
