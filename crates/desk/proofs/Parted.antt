-- A listing parted into lines and fields. A line is put together from its fields, with commas between them and byte 10 behind. Every byte of a field is
-- above both, so the lines and fields of the listing are those that it is put together from.
use mathlib.Core.Path.{◌≡◌, refl, sym, ap, ap₂, ◌∙◌}
use mathlib.Core.Logic.{inl, inr, ⊎_elim}
use mathlib.Core.Bool.{Bool, true, false, cond}
use mathlib.Core.List.Memᴰ
use mathlib.Core.List.{List, [], ◌∷◌, ◌++◌, append_assoc}
use Prim.Native.Nat.{ℕ, zero, suc, ◌+◌, ◌*◌, ◌≤◌, ◌<◌}
use native.Mathlib.Nat.{add-zero, zero-add}
use native.Mathlib.Numerals.{add-one}
use native.Mathlib.Omega.{arith}
use lib.Dec.{ltb}
use lib.ListN.{length, get_or}
use borrow.Author.Tests.{ltb-true}
use Rattle.wfsx.specs.Sets.{Set, ◌is_in◌}
use Rattle.wfsx.specs.Program.{Rule}
use Rattle.wfsx.specs.Model.{Verdict, is_true, is_false, is-undefined}
use Rattle.std.specs.Prelude.{Option, None, Some}
use Rattle.scan.specs.Text.{all_bytes, fields, comma, newline}
use Rattle.scan.specs.declared.Alphabet.TheVariants.{EitherCase}
use Rattle.scan.proofs.Bytes.{bytes_none, bytes_first}
use Rattle.reader.specs.File.{accepted, lines_of, read_file}
use Rattle.reader.specs.Conditions.{NameByte, closed, FreeOf}
use Rattle.reader.proofs.Faults.{each_passes}
use Rattle.reader.proofs.Tests.{name_is}
use Rattle.reader.proofs.Pieces.{fields_are, lines_closed}
use Rattle.reader.proofs.Within.{accepted_within}
use Rattle.lister.specs.Listing.{model_word, contradiction_word, contradictory_word, verdict_word, digits, line, counts, mark_word, verdict_fields, name_lines, header_by, listing_by}
use Rattle.lister.proofs.Digits.{digit_bytes}
use Rattle.desk.specs.Spelling.{field_at}

-- ---- the bytes of a field

-- every byte is above the comma, and so above byte 10
abbrev pub Plain : List ℕ → Type 0
Plain f = (b : ℕ) → b is_in f → comma < b

abbrev pub AllPlain : List (List ℕ) → Type 0
AllPlain fs = (f : List ℕ) → f is_in fs → Plain f

no_fields : AllPlain []
no_fields f m = absurd (Memᴰ.not-nil m)

one_more : {f : List ℕ} {fs : List (List ℕ)} → Plain f → AllPlain fs → AllPlain (f ∷ fs)
one_more {f} p ps g m = ⊎_elim (λ e. rw e p) (ps g) (Memᴰ.cases_cons m)

word_plain : (f : List ℕ) → all_bytes (ltb comma) f ≡ true → Plain f
word_plain f e b m = ltb-true comma b (each_passes (ltb comma) (all_bytes (ltb comma)) (bytes_none (ltb comma)) (bytes_first (ltb comma)) m e)

verdict_plain : (v : Verdict) → Plain (verdict_word v)
unfolding all_bytes
verdict_plain is_true = word_plain (verdict_word is_true) refl
verdict_plain is_false = word_plain (verdict_word is_false) refl
verdict_plain is-undefined = word_plain (verdict_word is-undefined) refl

pub mark_plain : (v : ℕ → Verdict) (C : Set) (A : ℕ) → Plain (mark_word v C A)
unfolding all_bytes
mark_plain v C A = go (C A)
  where
    go : (b : Bool) → Plain (cond b contradictory_word (verdict_word (v A)))
    go true = word_plain contradictory_word refl
    go false = verdict_plain (v A)

digits_plain : (n : ℕ) → Plain (digits n)
digits_plain n b m = let h = (digit_bytes n b m).0 in omega arith

name_above : (b : ℕ) → NameByte b → comma < b
name_above b (inl (inl small)) = let h = small.0 in omega arith
name_above b (inl (inr capital)) = let h = capital.0 in omega arith
name_above b (inr (inl digit)) = let h = digit.0 in omega arith
name_above b (inr (inr underscore)) = omega arith

pub names_plain : (file : List ℕ) (names : List (List ℕ)) (rules : List Rule) → read_file EitherCase file ≡ accepted names rules → AllPlain names
names_plain file names rules e n m b i = name_above b (((name_is n).0 ((accepted_within file names rules e).names_fit n m)).bytes b i)

plain_at : (names : List (List ℕ)) → AllPlain names → (n : ℕ) → Plain (get_or names n [])
plain_at [] a n = λ b m. absurd (Memᴰ.not-nil m)
plain_at (name ∷ names) a zero = a name (Memᴰ.head refl)
plain_at (name ∷ names) a (suc n) = plain_at names (λ f m. a f (Memᴰ.tail m)) n

-- ---- the fields of a line

-- a line without its byte 10
unfoldable line_body : List ℕ → List (List ℕ) → List ℕ
line_body f [] = f
line_body f (g ∷ fs) = f ++ comma ∷ line_body g fs

line_body_lem : (f : List ℕ) (fs : List (List ℕ)) → line f fs ≡ line_body f fs ++ newline ∷ []
unfolding line line_body
line_body_lem f [] = refl
line_body_lem f (g ∷ fs) =
    append_assoc f (comma ∷ []) (line g fs) ∙ ap (λ (l : List ℕ). f ++ comma ∷ l) (line_body_lem g fs) ∙ sym (append_assoc f (comma ∷ line_body g fs) (newline ∷ []))

body_closed : (f : List ℕ) (fs : List (List ℕ)) → closed comma (f ∷ fs) ≡ line_body f fs ++ comma ∷ []
unfolding closed line_body
body_closed f [] = refl
body_closed f (g ∷ fs) = ap (λ (l : List ℕ). f ++ comma ∷ l) (body_closed g fs) ∙ sym (append_assoc f (comma ∷ line_body g fs) (comma ∷ []))

body_fields : (f : List ℕ) (fs : List (List ℕ)) → AllPlain (f ∷ fs) → fields (line_body f fs) ≡ f ∷ fs
body_fields f fs a = (fields_are (line_body f fs) (f ∷ fs)).1 (body_closed f fs, λ p m i. let h = a p m comma i in omega arith)

body_bytes : (f : List ℕ) (fs : List (List ℕ)) → AllPlain (f ∷ fs) → (b : ℕ) → b is_in line_body f fs → comma ≤ b
unfolding line_body
body_bytes f [] a b m = omega (arith, a f (Memᴰ.head refl) b m)
body_bytes f (g ∷ fs) a b m =
    ⊎_elim (λ i. omega (arith, a f (Memᴰ.head refl) b i))
    (λ i. ⊎_elim (λ e. omega arith) (body_bytes g fs (λ p k. a p (Memᴰ.tail k)) b) (Memᴰ.cases_cons i)) (Memᴰ.append_cases f m)

-- ---- lines

-- a line and the lines behind it
module _ (f : List ℕ) (fs ls : List (List ℕ)) where
  first_closed : closed newline (line_body f fs ∷ ls) ≡ line f fs ++ closed newline ls
  unfolding closed
  first_closed = sym (append_assoc (line_body f fs) (newline ∷ []) (closed newline ls)) ∙ ap (λ (l : List ℕ). l ++ closed newline ls) (sym (line_body_lem f fs))

  first_free : AllPlain (f ∷ fs) → FreeOf newline ls → FreeOf newline (line_body f fs ∷ ls)
  first_free a free p m i =
      ⊎_elim (λ e. let h = body_bytes f fs a newline (rw e at i) in omega arith) (λ k. free p k i) (Memᴰ.cases_cons m)

-- ---- the lines of the names

module _ (w : ℕ → List ℕ) (words : (A : ℕ) → Plain (w A)) where
  -- without their bytes 10, and the first has number k
  unfoldable bodies : ℕ → List (List ℕ) → List (List ℕ)
  bodies k [] = []
  bodies k (name ∷ names) = line_body (digits k) (name ∷ verdict_fields w k) ∷ bodies (suc k) names

  bodies_closed : (k : ℕ) (names : List (List ℕ)) → closed newline (bodies k names) ≡ name_lines w k names
  unfolding bodies name_lines closed
  bodies_closed k [] = refl
  bodies_closed k (name ∷ names) =
      let fs = name ∷ verdict_fields w k in
      first_closed (digits k) fs (bodies (suc k) names) ∙ ap (λ (l : List ℕ). line (digits k) fs ++ l) (bodies_closed (suc k) names)

  body_plain : (k : ℕ) {name : List ℕ} → Plain name → AllPlain (digits k ∷ name ∷ verdict_fields w k)
  body_plain k p = one_more (digits_plain k) (one_more p (one_more (words (2 * k)) (one_more (words (2 * k + 1)) no_fields)))

  bodies_free : (k : ℕ) (names : List (List ℕ)) → AllPlain names → FreeOf newline (bodies k names)
  unfolding bodies
  bodies_free k [] a = λ p m i. Memᴰ.not-nil m
  bodies_free k (name ∷ names) a =
      first_free (digits k) (name ∷ verdict_fields w k) (bodies (suc k) names) (body_plain k (a name (Memᴰ.head refl)))
      (bodies_free (suc k) names (λ f m. a f (Memᴰ.tail m)))

  bodies_fields : (k : ℕ) (names : List (List ℕ)) → AllPlain names → (i : ℕ) → i < length names
      → fields (get_or (bodies k names) i []) ≡ digits (k + i) ∷ get_or names i [] ∷ verdict_fields w (k + i)
  unfolding bodies
  bodies_fields k [] a i h = absurd (omega arith)
  bodies_fields k (name ∷ names) a zero h =
      rw (add-zero k) (body_fields (digits k) (name ∷ verdict_fields w k) (body_plain k (a name (Memᴰ.head refl))))
  bodies_fields k (name ∷ names) a (suc i) h =
      let next : suc k + i ≡ k + suc i = omega arith in
      rw (← next) (bodies_fields (suc k) names (λ f m. a f (Memᴰ.tail m)) i (omega arith))

-- ---- the fields of a listing

module _ (names : List (List ℕ)) (a : AllPlain names) (rules facts k : ℕ) (w : ℕ → List ℕ) (words : (A : ℕ) → Plain (w A)) where
  -- the word of a header, and the fields behind it
  abbrev header : Option ℕ → List ℕ
  header None = model_word
  header (Some n) = contradiction_word

  abbrev behind : Option ℕ → List (List ℕ)
  behind None = counts (length names) rules facts k
  behind (Some n) = counts (length names) rules facts k ++ (get_or names n [] ∷ [])

  header_is : (c : Option ℕ) → header_by names rules facts k c ≡ line (header c) (behind c)
  unfolding header_by
  header_is None = refl
  header_is (Some n) = refl

  counts_plain : {fs : List (List ℕ)} → AllPlain fs → AllPlain (counts (length names) rules facts k ++ fs)
  counts_plain p = one_more (digits_plain (length names)) (one_more (digits_plain rules) (one_more (digits_plain facts) (one_more (digits_plain k) p)))

  header_plain : (c : Option ℕ) → AllPlain (header c ∷ behind c)
  unfolding all_bytes
  header_plain None = one_more (word_plain model_word refl) (counts_plain no_fields)
  header_plain (Some n) = one_more (word_plain contradiction_word refl) (counts_plain (one_more (plain_at names a n) no_fields))

  module _ (c : Option ℕ) where
    listing_lines : lines_of (listing_by names rules facts k w c) ≡ line_body (header c) (behind c) ∷ bodies w words 0 names
    listing_lines =
        let parts = first_closed (header c) (behind c) (bodies w words 0 names) ∙ ap₂ (λ (l m : List ℕ). l ++ m) (sym (header_is c)) (bodies_closed w words 0 names) in
        ap lines_of (sym parts) ∙ lines_closed (line_body (header c) (behind c) ∷ bodies w words 0 names) (first_free (header c) (behind c) (bodies w words 0 names) (header_plain c) (bodies_free w words 0 names a))

    header_fields : fields (get_or (lines_of (listing_by names rules facts k w c)) 0 []) ≡ header c ∷ behind c
    header_fields = rw listing_lines (body_fields (header c) (behind c) (header_plain c))

    -- line i + 1 has name i, behind whichever header
    pub line_fields : (i : ℕ) → i < length names
        → fields (get_or (lines_of (listing_by names rules facts k w c)) (i + 1) []) ≡ digits i ∷ get_or names i [] ∷ verdict_fields w i
    line_fields i h = rw (listing_lines, add-one i) (rw (zero-add i) at (bodies_fields w words 0 names a i h))

    -- both headers have the rounds behind the count of facts
    pub rounds_in_header : field_at (listing_by names rules facts k w c) 0 4 ≡ digits k
    rounds_in_header = ap (λ (fs : List (List ℕ)). get_or fs 4 []) header_fields ∙ go c
      where
        go : (c : Option ℕ) → get_or (header c ∷ behind c) 4 [] ≡ digits k
        go None = refl
        go (Some n) = refl

  pub name_in_header : (n : ℕ) → field_at (listing_by names rules facts k w (Some n)) 0 5 ≡ get_or names n []
  name_in_header n = ap (λ (fs : List (List ℕ)). get_or fs 5 []) (header_fields (Some n))
