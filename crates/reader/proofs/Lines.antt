-- None of the lines of an accepted file is faulty, and one of them is `end`, where it has bytes; its names and rules are what the lines say. It is the
-- recursion of the definition over the lines, read as one statement.
use mathlib.Core.Path.{◌≡◌, refl}
use mathlib.Core.Logic.{◌⊎◌, inl, inr}
use mathlib.Core.Bool.{Bool, true, false, not, cond}
use mathlib.Core.List.{List, [], ◌∷◌}
use Prim.Native.Nat.{ℕ, ◌+◌}
use native.Mathlib.Omega.{arith}
use lib.Dec.{eqb, ltb}
use lib.ListN.{length}
use borrow.Author.Tests.{eqb-true}
use Rattle.wfsx.specs.Program.{Rule}
use Rattle.scan.specs.Text.{is_text, all_bytes, fields}
use Rattle.scan.specs.declared.Alphabet.TheVariants.{EitherCase}
use Rattle.reader.specs.File.{Content, nothing_yet, line_fault, with_line, Outcome, accepted, refused, read_lines, max_bytes, has_bytes, unended, lines_of, read_file}
use Rattle.reader.specs.Conditions.{said_by, SaysNothing}

-- none of the lines is faulty after d and the lines before it
abbrev pub Faultless : Content → List (List ℕ) → Type 0
Faultless d [] = Unit
Faultless d (line ∷ lines) = (line_fault EitherCase d (fields line) ≡ 0) × Faultless (with_line EitherCase d (fields line)) lines

pub record Read (d : Content) (lines : List (List ℕ)) (names : List (List ℕ)) (rules : List Rule) : Type 0 where
  pub lines_pass : Faultless d lines
  pub ends : (said_by d lines).ended ≡ true
  pub its_names : (said_by d lines).names ≡ names
  pub its_rules : (said_by d lines).rules ≡ rules

pub lines_read : (d : Content) (at : ℕ) (lines names : List (List ℕ)) (rules : List Rule) → read_lines EitherCase d at lines ≡ accepted names rules → Read d lines names rules
unfolding read_lines
lines_read d at [] names rules e = go d.ended refl e
  where
    go : (t : Bool) → d.ended ≡ t → cond t (accepted d.names d.rules) (refused 9 at) ≡ accepted names rules → Read d [] names rules
    go true p q = record { lines_pass = tt; ends = p; its_names = cc; its_rules = cc }
    go false p q = let z : ◌≡◌ {A = ℕ} 0 1 = cc in absurd (omega arith)
lines_read d at (line ∷ lines) names rules e = go (lines_read (with_line EitherCase d (fields line)) (at + 1) lines names rules) (eqb (line_fault EitherCase d (fields line)) 0) refl e
  where
    next : Outcome
    next = read_lines EitherCase (with_line EitherCase d (fields line)) (at + 1) lines

    go : (next ≡ accepted names rules → Read (with_line EitherCase d (fields line)) lines names rules) → (t : Bool) → eqb (line_fault EitherCase d (fields line)) 0 ≡ t
        → cond t next (refused (line_fault EitherCase d (fields line)) at) ≡ accepted names rules → Read d (line ∷ lines) names rules
    go rest true p q =
        let r = rest q in
        record { lines_pass = (eqb-true (line_fault EitherCase d (fields line)) 0 p, r.lines_pass); ends = r.ends; its_names = r.its_names; its_rules = r.its_rules }
    go rest false p q = let z : ◌≡◌ {A = ℕ} 0 1 = cc in absurd (omega arith)

-- what is accepted has passed a test that refuses
unrefused : (t : Bool) (k at : ℕ) (next : Outcome) (names : List (List ℕ)) (rules : List Rule) → cond t (refused k at) next ≡ accepted names rules
    → next ≡ accepted names rules
unrefused true k at next names rules e = let z : ◌≡◌ {A = ℕ} 0 1 = cc in absurd (omega arith)
unrefused false k at next names rules e = e

pub file_read : (file : List ℕ) (names : List (List ℕ)) (rules : List Rule) → read_file EitherCase file ≡ accepted names rules
    → Read nothing_yet (lines_of file) names rules ⊎ SaysNothing file names rules
unfolding read_file
file_read file names rules e =
    let a = unrefused (ltb max_bytes (length file)) 1 0 _ names rules e in
    let b = unrefused (not (all_bytes is_text file)) 2 0 _ names rules a in
    let c = unrefused (unended file) 3 0 _ names rules b in
    go file c
  where
    go : (f : List ℕ) → cond (has_bytes f) (read_lines EitherCase nothing_yet 1 (lines_of f)) (accepted [] []) ≡ accepted names rules
        → Read nothing_yet (lines_of f) names rules ⊎ SaysNothing f names rules
    go [] q = inr (refl, cc, cc)
    go (b ∷ bs) q = inl (lines_read nothing_yet 1 (lines_of (b ∷ bs)) names rules q)
