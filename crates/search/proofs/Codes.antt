-- The marks of the code and their numbers. No two marks have one number in the same table, so a table is read, written and turned by its numbers as by its
-- marks.
use mathlib.Core.Path.{◌≡◌, refl, sym, ◌∙◌, ap}
use mathlib.Core.Bool.{Bool, true, false, cond}
use mathlib.Core.List.{List, [], ◌∷◌, map}
use Prim.Native.Nat.{ℕ, zero, suc, ◌<◌}
use native.Mathlib.Omega.{arith}
use lib.Dec.{eqb}
use lib.ListN.{length, get_or, set}
use borrow.Author.Tests.{eqb-true, eq-eqb}
use Rattle.truth.proofs.Truth.{same_test}
use Rattle.search.specs.declared.Mark.{Mark}
use Rattle.search.specs.declared.Mark.TheVariants.{Unknown, Proved, Failed, Above, False, Held, Shut, Path}
use Rattle.search.specs.Marks.{t_code, u_code, turned_mark, turned, turned_in}

-- ---- a number tells its mark

abbrev t_back : ℕ → Mark
t_back n =
    cond (eqb n 1) Proved (cond (eqb n 2) Failed (cond (eqb n 3) Above (cond (eqb n 4) False (cond (eqb n 5) Held (cond (eqb n 6) Shut (cond (eqb n 7) Path Unknown))))))

t_told : (m : Mark) → t_back (t_code m) ≡ m
t_told Unknown = refl
t_told Proved = refl
t_told Failed = refl
t_told Above = refl
t_told False = refl
t_told Held = refl
t_told Shut = refl
t_told Path = refl

abbrev u_back : ℕ → Mark
u_back n =
    cond (eqb n 1) False (cond (eqb n 2) Held (cond (eqb n 3) Shut (cond (eqb n 4) Path (cond (eqb n 5) Proved (cond (eqb n 6) Failed (cond (eqb n 7) Above Unknown))))))

u_told : (m : Mark) → u_back (u_code m) ≡ m
u_told Unknown = refl
u_told Proved = refl
u_told Failed = refl
u_told Above = refl
u_told False = refl
u_told Held = refl
u_told Shut = refl
u_told Path = refl

pub t_same : (m n : Mark) → t_code m ≡ t_code n → m ≡ n
t_same m n e = sym (t_told m) ∙ ap t_back e ∙ t_told n

pub u_same : (m n : Mark) → u_code m ≡ u_code n → m ≡ n
u_same m n e = sym (u_told m) ∙ ap u_back e ∙ u_told n

-- ---- a table

code_read : (f : Mark → ℕ) → f Unknown ≡ 0 → (s : List Mark) (a : ℕ) → get_or (map f s) a 0 ≡ f (get_or s a Unknown)
code_read f z [] a = sym z
code_read f z (m ∷ s) zero = refl
code_read f z (m ∷ s) (suc a) = code_read f z s a

pub code_write : (f : Mark → ℕ) (s : List Mark) (a : ℕ) (m : Mark) → map f (set s a m) ≡ set (map f s) a (f m)
code_write f [] a m = refl
code_write f (x ∷ s) zero m = refl
code_write f (x ∷ s) (suc a) m = ap (λ (l : List ℕ). f x ∷ l) (code_write f s a m)

module _ (s : List Mark) (a : ℕ) where
  pub t_read : get_or (map t_code s) a 0 ≡ t_code (get_or s a Unknown)
  t_read = code_read t_code refl s a

  pub u_read : get_or (map u_code s) a 0 ≡ u_code (get_or s a Unknown)
  u_read = code_read u_code refl s a

  -- the mark m, and another
  module _ (m : Mark) where
    pub t_is : get_or s a Unknown ≡ m → get_or (map t_code s) a 0 ≡ t_code m
    t_is e = t_read ∙ ap t_code e

    pub u_is : get_or s a Unknown ≡ m → get_or (map u_code s) a 0 ≡ u_code m
    u_is e = u_read ∙ ap u_code e

    pub t_other : (get_or s a Unknown ≡ m → ⊥) → get_or (map t_code s) a 0 ≡ t_code m → ⊥
    t_other n e = n (t_same _ m (sym t_read ∙ e))

    pub u_other : (get_or s a Unknown ≡ m → ⊥) → get_or (map u_code s) a 0 ≡ u_code m → ⊥
    u_other n e = n (u_same _ m (sym u_read ∙ e))

-- ---- a mark turned

module _ (f : Mark → ℕ) (same : (m n : Mark) → f m ≡ f n → m ≡ n) (from to : Mark) where
  turned_code : (m : Mark) → f (turned_mark from to m) ≡ turned (f from) (f to) (f m)
  unfolding turned
  turned_code m =
      rw one_test (either (eqb (f m) (f from)))
    where
      one_test : eqb (t_code m) (t_code from) ≡ eqb (f m) (f from)
      one_test =
          same_test (λ e. eq-eqb (f m) (f from) (ap f (t_same m from (eqb-true (t_code m) (t_code from) e))))
          (λ e. eq-eqb (t_code m) (t_code from) (ap t_code (same m from (eqb-true (f m) (f from) e))))

      either : (b : Bool) → f (cond b to m) ≡ cond b (f to) (f m)
      either true = refl
      either false = refl

  all_turned : (s : List Mark) → map f (map (turned_mark from to) s) ≡ turned_in (f from) (f to) (map f s)
  all_turned [] = refl
  all_turned (m ∷ s) = rw (turned_code m, all_turned s) refl

pub t_turned : (from to : Mark) (s : List Mark) → map t_code (map (turned_mark from to) s) ≡ turned_in (t_code from) (t_code to) (map t_code s)
t_turned from to s = all_turned t_code t_same from to s

pub u_turned : (from to : Mark) (s : List Mark) → map u_code (map (turned_mark from to) s) ≡ turned_in (u_code from) (u_code to) (map u_code s)
u_turned from to s = all_turned u_code u_same from to s

-- ---- an element of a list that a function is applied to

pub map_at : {X : Type 0} (d : X) (g : X → X) (s : List X) (a : ℕ) → a < length s → get_or (map g s) a d ≡ g (get_or s a d)
map_at d g [] a h = absurd (omega arith)
map_at d g (x ∷ s) zero h = refl
map_at d g (x ∷ s) (suc a) h = map_at d g s a (omega arith)
