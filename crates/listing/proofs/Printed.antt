-- What a file was read to is what is printed: the program is a run of a load, and a listing after it.
use mathlib.Core.Path.{◌≡◌, refl, sym, ap, ◌∙◌}
use mathlib.Core.List.{List, [], ◌∷◌, ◌++◌}
use mathlib.Core.Bool.{true≢false}
use Prim.Native.Nat.{ℕ, ◌≤◌, ◌<◌}
use native.Mathlib.Omega.{arith}
use lib.ListN.{length, take, length-take}
use lib.Seq.{take-append_seam}
use Rattle.scan.specs.declared.Alphabet.TheVariants.{EitherCase}
use Rattle.reader.specs.File.{accepted, read_file}
use Rattle.reader.specs.Loading.{number_of}
use Rattle.reader.specs.declared.Refusal.{Refusal}
use Rattle.lister.specs.Listing.{refusal_of}
use Rattle.lister.specs.Buffer.{Writes}
use Rattle.lister.proofs.Calls.{was_written, length_answered}
use Rattle.lister.proofs.Lines.{refusal_room}
use Rattle.std.proofs.Common.{Fits, w64}
use Rattle.std.specs.Prelude.{Option, Result, Ok, Err}
use Rattle.std.specs.Option.{unwrap_or}
use Rattle.std.specs.Result.{result_unwrap_or}
use Rattle.lesson.specs.State as lesson
use Rattle.lesson.specs.State.{State, told, none_loaded, listing_in, gives}
use Rattle.lesson.specs.Calls.{Lists}
use Rattle.lesson.specs.Conditions.{NoBook}
use Rattle.lesson.specs.declared.Refusal as lesson_refusal
use Rattle.lesson.proofs.Order.{given_refused, given_same}
use Rattle.lesson.proofs.Standing.{listing_begun}
use Rattle.desk.specs.Calls.{Fresh, Loads}
use Rattle.desk.specs.Runs.{load, nothing, after_load, left, Run}
use Rattle.desk.specs.declared.Desk.{Desk}
use Rattle.desk.proofs.Answers.{listing_due, listing_most}
use Rattle.io.specs.Counts.{IsPrefixLen}
use Rattle.listing.specs.Printed.{printed}

-- the bytes at the start of a buffer
first_bytes : (bytes rest after : List ℕ) (n : ℕ) → n ≡ length bytes → after ≡ bytes ++ rest → IsPrefixLen n after × (take n after ≡ bytes)
first_bytes bytes rest after n size e =
    let first : take n after ≡ bytes = rw (size, e) (take-append_seam bytes rest) in
    ((omega (arith, ap length first, length-take n after), size ∙ sym (ap length first)), first)

length_in : (a : Result ℕ lesson_refusal.Refusal) (n : ℕ) → told a ≡ gives n → result_unwrap_or a 0 ≡ n
length_in (Ok m) n e = given_same m n e
length_in (Err f) n e = absurd (given_refused n (lesson.number_of f) (sym e))

module _ (file : List ℕ) (start end : Desk) {before after : List ℕ} (room : 65536 ≤ length before) (n : ℕ) where
  -- after a load, by what the listing call answers
  pub accepted_printed : Fresh start → Loads start file (Ok tt) end → (a : Result ℕ lesson_refusal.Refusal) → Lists end.shelf end.lesson before a after
      → n ≡ result_unwrap_or a 0 → IsPrefixLen n after × (take n after ≡ printed (read_file EitherCase file))
  unfolding printed
  accepted_printed f h a lists count =
      let was = h.1 in
      let cs = load file ∷ [] in
      let here : left cs ≡ after_load nothing (accepted was.names was.rules) = ap (after_load nothing) was.outcome in
      let bytes : listing_in (left cs) ≡ printed (read_file EitherCase file) = ap listing_in here ∙ listing_begun was.names was.rules ∙ ap printed (sym was.outcome) in
      let some : NoBook (left cs) → ⊥ = λ none. true≢false (sym (ap none_loaded (sym (ap (λ (d : State). d.book) here) ∙ none))) in
      let run : Run start cs end = ((Ok tt, end), h, refl) in
      let fits = listing_most cs start end f run some in
      let due = (listing_due cs start end f run some before a after lists).fitting (omega arith) in
      rw bytes at (first_bytes (listing_in (left cs)) _ after n (count ∙ length_in a _ due.0) due.1)

  -- after a refused file, by what the lister answers
  pub refused_printed : (r : Refusal) → Loads start file (Err r) end → (number : ℕ) → number ≡ number_of r.fault → number < 256 → Fits w64 r.line
      → (w : Option ℕ) → Writes (refusal_of number r.line) before w after → n ≡ unwrap_or w 0 → IsPrefixLen n after × (take n after ≡ printed (read_file EitherCase file))
  unfolding printed
  refused_printed r h number same few small w writes count =
      let room_for = refusal_room number r.line (omega arith) (omega arith) in
      let answered = length_answered writes (omega (arith, room_for.fits)) in
      let bytes : refusal_of number r.line ≡ printed (read_file EitherCase file) = ap (λ (k : ℕ). refusal_of k r.line) same ∙ ap printed (sym h.0) in
      rw bytes at (first_bytes (refusal_of number r.line) _ after n (count ∙ ap (λ (o : Option ℕ). unwrap_or o 0) answered) (was_written writes _ answered).2)
