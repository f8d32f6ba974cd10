-- NAME in a listing is the field that declares the name. Only an accepted load changes the book, so the names that a list leaves are those of a file that it
-- loads, and they are the fields that declare them; the listing has each name as a field of its own.
use mathlib.Core.Path.{◌≡◌, refl, sym, ap, ap₂, ◌∙◌}
use mathlib.Core.Logic.{◌⊎◌, inl, inr, ⊎_elim}
use mathlib.Core.Bool.{true≢false}
use mathlib.Core.List.Memᴰ
use mathlib.Core.List.{List, [], ◌∷◌}
use Prim.Native.Nat.{ℕ, ◌+◌, ◌*◌, ◌<◌}
use native.Mathlib.Omega.{arith}
use lib.ListN.{length, get_or}
use Rattle.wfsx.specs.Sets.{◌is_in◌, members}
use Rattle.wfsx.specs.Program.{Rule}
use Rattle.wfsx.specs.Model.{M, verdict}
use Rattle.wfsx.specs.Rounds.{rounds}
use Rattle.wfsx.specs.Reach.{literals_of}
use Rattle.wfsx.specs.ContradictoryNames.{contradictory_names}
use Rattle.wfsx.proofs.Contradiction.{heads_in}
use Rattle.wfsx.proofs.Operators.{M-head}
use Rattle.litset.specs.Words.{capacity, clash_in}
use Rattle.std.specs.Prelude.{Some}
use Rattle.fixpoint.proofs.Published.{clash_name}
use Rattle.scan.specs.declared.Alphabet.TheVariants.{EitherCase}
use Rattle.scan.specs.Text.{fields}
use Rattle.reader.specs.File.{Outcome, accepted, lines_of, read_file}
use Rattle.reader.specs.File as reader
use Rattle.reader.proofs.Said.{names_as_declared}
use Rattle.lister.specs.Listing.{digits, words_of, verdict_fields, listing_by}
use Rattle.lesson.specs.State.{loaded_with, State, its_names, its_rules, none_loaded, in_force, program_in, in_book, listing_in}
use Rattle.lesson.proofs.Order.{name_inside}
use Rattle.lesson.proofs.Sound.{heads_in_book, heads_in_room}
use Rattle.lesson.proofs.Standing.{listing_is}
use Rattle.calls.specs.Lists.{after_all}
use Rattle.desk.specs.Runs.{Call, load, change, verdict as verdict-of, search_for, model, working_order, model_by_groups, listing, preview, check_sheet, make_sheet, nothing, after_load, spec_of, left}
use Rattle.desk.specs.Spelling.{field_at, declaring_field, Spelled}
use Rattle.desk.proofs.Exists.{left_sound}
use Rattle.desk.proofs.Parted.{Plain, AllPlain, mark_plain, names_plain, line_fields, rounds_in_header, name_in_header}

-- ---- the file

module _ (names : List (List ℕ)) (rules : List Rule) where
  -- the call loads a file with these names and rules
  abbrev LoadsBook : Call → Type 0
  LoadsBook c = (file : List ℕ) × (c ≡ load file) × (read_file EitherCase file ≡ accepted names rules)

  -- the book was there before the call, or the call loads it
  by_call : (d : State) (c : Call) → ((spec_of c).after d).book ≡ loaded_with names rules → (d.book ≡ loaded_with names rules) ⊎ LoadsBook c
  by_call d (load file) e = go (read_file EitherCase file) refl e
    where
      go : (o : Outcome) → read_file EitherCase file ≡ o → (after_load d o).book ≡ loaded_with names rules → (d.book ≡ loaded_with names rules) ⊎ LoadsBook (load file)
      go (accepted ns rs) q h = inr (file, refl, q ∙ ap₂ accepted (ap its_names h) (ap its_rules h))
      go (reader.refused number at) q h = inl h
  by_call d (change c) e = inl e
  by_call d (verdict-of A) e = inl e
  by_call d (search_for A default t) e = inl e
  by_call d model e = inl e
  by_call d working_order e = inl e
  by_call d model_by_groups e = inl e
  by_call d (listing buffer) e = inl e
  by_call d (preview c buffer) e = inl e
  by_call d (check_sheet A truth es) e = inl e
  by_call d (make_sheet A truth run) e = inl e

  -- the book was there before the list, or one of its calls loads it
  by_list : (d : State) (cs : List Call) → (after_all spec_of d cs).book ≡ loaded_with names rules
      → (d.book ≡ loaded_with names rules) ⊎ ((file : List ℕ) × (load file is_in cs) × (read_file EitherCase file ≡ accepted names rules))
  by_list d [] e = inl e
  by_list d (c ∷ cs) e =
      ⊎_elim (λ h. ⊎_elim (λ q. inl q) (λ l. inr (l.0, Memᴰ.head (sym l.1), l.2)) (by_call d c h)) (λ l. inr (l.0, Memᴰ.tail l.1, l.2))
      (by_list ((spec_of c).after d) cs e)

-- ---- the listing

-- the literals of M are literals of the book
clash_below : (cs : List Call) (n : ℕ) → clash_in (M (program_in (left cs))) ≡ Some n → n < length (its_names (left cs).book)
clash_below cs n e =
    let d = left cs in
    let base = in_book d.book in
    let over = heads_in_book d (left_sound cs) in
    let both = ((clash_name (program_in d) (heads_in_room d (left_sound cs)) base over n).0 e).1.0 in
    let inside = heads_in (program_in d) base over (2 * n) (M-head (program_in d) (2 * n) both.0) in
    omega (arith, name_inside d.book (2 * n) inside)

-- ---- its lines and fields

module _ (cs : List Call) (names : List (List ℕ)) (rules : List Rule) (e : (left cs).book ≡ loaded_with names rules) where
  abbrev d : State
  d = left cs

  -- the file that the names are read from
  from : (file : List ℕ) × (load file is_in cs) × (read_file EitherCase file ≡ accepted names rules)
  from = ⊎_elim (λ z. absurd (true≢false (ap none_loaded z))) (λ l. l) (by_list names rules nothing cs e)

  plain : AllPlain names
  plain = names_plain from.0 names rules from.2

  words : (A : ℕ) → Plain (words_of (program_in d) A)
  words = mark_plain (verdict (program_in d)) (literals_of (contradictory_names (program_in d)))

  abbrev facts : ℕ
  facts = length (members capacity (in_force d.own))

  listed : listing_in d ≡ listing_by names (length rules) facts (rounds (program_in d)) (words_of (program_in d)) (clash_in (M (program_in d)))
  listed = rw e at (listing_is d)

  pub rounds_listed : field_at (listing_in (left cs)) 0 4 ≡ digits (rounds (program_in (left cs)))
  rounds_listed = rw listed (rounds_in_header names plain (length rules) facts (rounds (program_in d)) (words_of (program_in d)) words (clash_in (M (program_in d))))

  -- line i + 1 is that of name i
  pub line_listed : (i : ℕ) → i < length names → fields (get_or (lines_of (listing_in (left cs))) (i + 1) []) ≡ digits i ∷ get_or names i [] ∷ verdict_fields (words_of (program_in (left cs))) i
  line_listed i h = rw listed (line_fields names plain (length rules) facts (rounds (program_in d)) (words_of (program_in d)) words (clash_in (M (program_in d))) i h)

  declared : (k : ℕ) → get_or names k [] ≡ declaring_field from.0 k
  declared k = ap (λ (ns : List (List ℕ)). get_or ns k []) (names_as_declared from.0 names rules from.2)

  -- NAME is the field that declares the name, byte for byte
  pub names_spelled : Spelled cs names rules
  names_spelled =
      record {
        file = from.0;
        is_loaded = from.1;
        read_as = from.2;
        in_its_line = λ i h. ap (λ (fs : List (List ℕ)). get_or fs 1 []) (line_listed i h) ∙ declared i;
        in_the_header = λ n q. (
          rw e at (clash_below cs n q),
          rw (listed, q) (name_in_header names plain (length rules) facts (rounds (program_in d)) (words_of (program_in d)) words n ∙ declared n),
        );
      }
