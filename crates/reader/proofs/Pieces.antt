-- The lines of a file are the one way to part it into lines that have no byte 10 and are ended by byte 10, and the fields of a line the one way to part it
-- by commas: what `split` gives puts together to the bytes again, and bytes that are put together from such pieces are split into these.
use mathlib.Core.Path.{◌≡◌, refl, sym, ap, ◌∙◌, subst}
use mathlib.Core.Logic.{⊎_elim, ◌↔◌}
use mathlib.Core.Bool.{Bool, true, false}
use mathlib.Core.List.Memᴰ
use mathlib.Core.List.{List, [], ◌∷◌, ◌++◌, append_assoc}
use Prim.Native.Nat.{ℕ, suc, ◌-◌, ◌<◌}
use native.Mathlib.Omega.{arith}
use native.Mathlib.Decide.{ℕ_discrete}
use lib.Dec.{eqb}
use lib.ListN.{length, get_or, take, length-append}
use lib.Seq.{take-suc, take-length, get_or_at}
use borrow.Author.Tests.{eqb-true, eqb-false, eq-eqb, ne_eqb}
use Rattle.wfsx.specs.Sets.{◌is_in◌}
use Rattle.scan.specs.Text.{onto, split, fields, comma, newline}
use Rattle.scan.proofs.Places.{split_none, split_stop, split_byte, split_some}
use Rattle.reader.specs.File.{lines_of}
use Rattle.reader.specs.Conditions.{LastLineOpen, closed, FreeOf}

module _ (stop : ℕ) where
  closed_onto : (x : ℕ) (ps : List (List ℕ)) → 0 < length ps → closed stop (onto x ps) ≡ x ∷ closed stop ps
  unfolding closed
  closed_onto x [] h = absurd (omega arith)
  closed_onto x (p ∷ ps) h = refl

  free_onto : (x : ℕ) (ps : List (List ℕ)) → (x ≡ stop → ⊥) → 0 < length ps → FreeOf stop ps → FreeOf stop (onto x ps)
  free_onto x [] n h f = absurd (omega arith)
  free_onto x (q ∷ qs) n h f = λ p m i. ⊎_elim (here p i) (λ k. f p (Memᴰ.tail k) i) (Memᴰ.cases_cons m)
    where
      here : (p : List ℕ) → stop is_in p → p ≡ x ∷ q → ⊥
      here p i e = ⊎_elim (λ s. n (sym s)) (f q (Memᴰ.head refl)) (Memᴰ.cases_cons (rw e at i))

  split_closed : (s : List ℕ) → (closed stop (split stop s) ≡ s ++ stop ∷ []) × FreeOf stop (split stop s)
  unfolding closed
  split_closed [] =
      rw (split_none stop) (refl, λ p m i. ⊎_elim (λ e. Memᴰ.not-nil (rw e at i)) (λ k. Memᴰ.not-nil k) (Memᴰ.cases_cons m))
  split_closed (x ∷ xs) = go (split_closed xs) (eqb x stop) refl
    where
      go : (closed stop (split stop xs) ≡ xs ++ stop ∷ []) × FreeOf stop (split stop xs) → (t : Bool) → eqb x stop ≡ t
          → (closed stop (split stop (x ∷ xs)) ≡ x ∷ (xs ++ stop ∷ [])) × FreeOf stop (split stop (x ∷ xs))
      go ih true e = rw (split_stop stop x xs e) (
        rw (eqb-true x stop e, ih.0),
        λ p m i. ⊎_elim (λ q. Memᴰ.not-nil (rw q at i)) (λ k. ih.1 p k i) (Memᴰ.cases_cons m),
      )
      go ih false e = rw (split_byte stop x xs e) (
        closed_onto x (split stop xs) (split_some stop xs) ∙ ap (λ (l : List ℕ). x ∷ l) ih.0,
        free_onto x (split stop xs) (eqb-false x stop e) (split_some stop xs) ih.1,
      )

  split_unique : (s : List ℕ) (ps : List (List ℕ)) → closed stop ps ≡ s ++ stop ∷ [] → FreeOf stop ps → split stop s ≡ ps
  unfolding closed
  split_unique [] [] e f = let bad = ap length e in absurd (omega arith)
  split_unique [] ([] ∷ []) e f = split_none stop
  split_unique [] ([] ∷ p ∷ ps) e f = let bad = ap length e in absurd (omega (arith, length-append p (stop ∷ closed stop ps)))
  split_unique [] ((y ∷ p) ∷ ps) e f = let bad = ap length e in absurd (omega (arith, length-append p (stop ∷ closed stop ps)))
  split_unique (x ∷ xs) [] e f = let bad = ap length e in absurd (omega arith)
  split_unique (x ∷ xs) ([] ∷ ps) e f =
      let same : stop ≡ x = cc in
      let rest : closed stop ps ≡ xs ++ stop ∷ [] = cc in
      rw (split_stop stop x xs (eq-eqb x stop (sym same))) (ap (λ (l : List (List ℕ)). [] ∷ l) (split_unique xs ps rest (λ p m i. f p (Memᴰ.tail m) i)))
  split_unique (x ∷ xs) ((y ∷ p) ∷ ps) e f =
      let same : y ≡ x = cc in
      let rest : p ++ stop ∷ closed stop ps ≡ xs ++ stop ∷ [] = cc in
      let other : x ≡ stop → ⊥ = λ q. f (y ∷ p) (Memᴰ.head refl) (Memᴰ.head (sym (same ∙ q))) in
      let free : FreeOf stop (p ∷ ps) = λ q m i. ⊎_elim (λ z. f (y ∷ p) (Memᴰ.head refl) (Memᴰ.tail (rw z at i))) (λ k. f q (Memᴰ.tail k) i) (Memᴰ.cases_cons m) in
      rw (split_byte stop x xs (ne_eqb x stop other), split_unique xs (p ∷ ps) rest free, same)

  pub split_is : (s : List ℕ) (ps : List (List ℕ)) → (split stop s ≡ ps) ↔ ((closed stop ps ≡ s ++ stop ∷ []) × FreeOf stop ps)
  split_is s ps = (λ e. subst (λ (l : List (List ℕ)). (closed stop l ≡ s ++ stop ∷ []) × FreeOf stop l) e (split_closed s), λ c. split_unique s ps c.0 c.1)

pub fields_are : (line : List ℕ) (fs : List (List ℕ)) → (fields line ≡ fs) ↔ ((closed comma fs ≡ line ++ comma ∷ []) × FreeOf comma fs)
fields_are line fs = split_is comma line fs

pub lines_are : (file : List ℕ) (lines : List (List ℕ)) → (LastLineOpen file → ⊥) → (lines_of file ≡ lines) ↔ ((closed newline lines ≡ file) × FreeOf newline lines)
unfolding closed
lines_are [] lines shut = (none, λ c. no_lines lines c.0)
  where
    none : [] ≡ lines → (closed newline lines ≡ []) × FreeOf newline lines
    none e = rw (← e) (refl, λ p m i. Memᴰ.not-nil m)

    no_lines : (ls : List (List ℕ)) → closed newline ls ≡ [] → [] ≡ ls
    no_lines [] e = refl
    no_lines (l ∷ ls) e = let bad = ap length e in absurd (omega (arith, length-append l (newline ∷ closed newline ls)))
lines_are (b ∷ bs) lines shut = subst (λ (l : List ℕ). (lines_of file ≡ lines) ↔ ((closed newline lines ≡ l) × FreeOf newline lines)) put_together (split_is newline (take (length file - 1) file) lines)
  where
    file : List ℕ
    file = b ∷ bs

    last : Dec (get_or file (length file - 1) 0 ≡ newline) → get_or file (length file - 1) 0 ≡ newline
    last (yes e) = e
    last (no n) = absurd (shut (omega arith, n))

    put_together : take (length file - 1) file ++ newline ∷ [] ≡ file
    put_together =
        let n = length file - 1 in
        let all : suc n ≡ length file = omega arith in
        ap (λ (x : ℕ). take n file ++ x ∷ []) (sym (last (ℕ_discrete (get_or file n 0) newline))) ∙ sym (take-suc file n 0 (omega arith)) ∙ ap (λ (k : ℕ). take k file) all ∙ take-length file

-- what is put together from lines ends in byte 10
closed_ends : (l : List ℕ) (ls : List (List ℕ)) → (s : List ℕ) × (closed newline (l ∷ ls) ≡ s ++ newline ∷ [])
unfolding closed
closed_ends l [] = (l, refl)
closed_ends l (m ∷ ls) =
    let r = closed_ends m ls in
    (l ++ newline ∷ r.0, ap (λ (x : List ℕ). l ++ newline ∷ x) r.1 ∙ sym (append_assoc l (newline ∷ r.0) (newline ∷ [])))

closed_shut : (ls : List (List ℕ)) → LastLineOpen (closed newline ls) → ⊥
unfolding closed
closed_shut [] o = let h = o.0 in omega arith
closed_shut (l ∷ ls) o =
    let r = closed_ends l ls in
    let s = r.0 in
    let last : get_or (s ++ newline ∷ []) (length (s ++ newline ∷ []) - 1) 0 ≡ newline = get_or_at s newline [] 0 _ (omega (arith, length-append s (newline ∷ []))) in
    o.1 (rw r.1 last)

-- lines without byte 10 are given back
pub lines_closed : (ls : List (List ℕ)) → FreeOf newline ls → lines_of (closed newline ls) ≡ ls
lines_closed ls free = (lines_are (closed newline ls) ls (closed_shut ls)).1 (refl, free)
