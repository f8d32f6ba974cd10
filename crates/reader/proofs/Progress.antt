-- A loop over the lines of a file: what has been read is held, and the lines that are left decide. A line without a fault is added to it, and a faulty one gives
-- the outcome, as the end of the lines does.
use mathlib.Core.Path.{◌≡◌, sym, ap, ◌∙◌}
use mathlib.Core.Bool.{Bool, true, false, cond}
use mathlib.Core.List.{List}
use Prim.Native.Nat.{ℕ, ◌+◌, ◌-◌, ◌≤◌, ◌<◌, zero-le}
use lib.ListN.{length, take, drop}
use borrow.Author.Tests.{ne_eqb}
use Rattle.scan.specs.Text.{newline, split, len_to, rest, fields}
use Rattle.scan.proofs.Places.{rest_here, rest_step, rest_none}
use Rattle.scan.specs.declared.Alphabet.TheVariants.{EitherCase}
use Rattle.reader.specs.File.{Content, nothing_yet, line_fault, with_line, accepted, refused, read_lines}
use Rattle.reader.specs.Loading.{number_of, RefusedAs}
use Rattle.reader.specs.Tables.{Lists}
use Rattle.reader.specs.Steps.{no_counts, Holds, Stored, line_step, LineRead, FineFile}
use Rattle.reader.specs.declared.Counts.{Counts}
use Rattle.reader.specs.declared.Fault.{Fault}
use Rattle.reader.specs.declared.Fault.TheVariants.{EndNotLast}
use Rattle.keys.specs.Keyed.{no_names}
use Rattle.keys.specs.declared.Names.{Names}
use Rattle.reader.proofs.Answers.{faulty}
use Rattle.reader.proofs.Held.{nothing_held}
use Rattle.std.proofs.Common.{Ok, Err}

module _ (d : Content) (number : ℕ) (b : List ℕ) (at : ℕ) where
  module _ (e : ℕ) (h : at ≤ length b) (q : e ≡ at + len_to newline (drop at b)) where
    pub lines_go : line_fault EitherCase d (fields (take (e - at) (drop at b))) ≡ 0
        → read_lines EitherCase d number (rest newline b at) ≡ read_lines EitherCase (with_line EitherCase d (fields (take (e - at) (drop at b)))) (number + 1) (rest newline b (e + 1))
    unfolding read_lines
    lines_go f = ap (read_lines EitherCase d number) (rest_step newline b at e h q) ∙ rw f

    pub lines_stop : (k : ℕ) → line_fault EitherCase d (fields (take (e - at) (drop at b))) ≡ k → (k ≡ 0 → ⊥) → read_lines EitherCase d number (rest newline b at) ≡ refused k number
    unfolding read_lines
    lines_stop k f n = ap (read_lines EitherCase d number) (rest_step newline b at e h q) ∙ rw (f, ne_eqb k 0 n)

  pub lines_end : length b < at → read_lines EitherCase d number (rest newline b at) ≡ cond d.ended (accepted d.names d.rules) (refused 9 number)
  unfolding read_lines
  lines_end h = ap (read_lines EitherCase d number) (rest_none newline b at h)

-- what has been read up to place `at`, and that what is left decides
pub record ReadTo (b : List ℕ) (t : Counts) (at number : ℕ) (names : Names) (l l' : Lists) : Type 0 where
  pub content : Content
  pub held : Holds content t names
  pub stored : Stored nothing_yet l → Stored content l'
  pub same : read_lines EitherCase content number (rest newline b at) ≡ read_lines EitherCase nothing_yet 1 (split newline b)

pub read_none : (b : List ℕ) {t : Counts} {names : Names} {l : Lists} → t ≡ no_counts → names ≡ no_names → ReadTo b t 0 1 names l l
read_none b e q =
    record { content = nothing_yet; held = nothing_held e q; stored = λ s. s; same = ap (read_lines EitherCase nothing_yet 1) (rest_here newline b 0 zero-le) }

-- the line that ends at e is judged
module _ {b : List ℕ} {t : Counts} {at number : ℕ} {names : Names} {l l' : Lists} (read : ReadTo b t at number names l l')
    {e : ℕ} (h : at ≤ length b) (q : e ≡ at + len_to newline (drop at b)) {names' : Names} {l'' : Lists} where
  pub read_on : {u : Counts} → ((d : Content) → Holds d t names → LineRead (line_step d (fields (take (e - at) (drop at b)))) (Ok u) names' l' l'')
      → ReadTo b u (e + 1) (number + 1) names' l l''
  read_on line =
      let judged = line read.content read.held in
      record {
        content = with_line EitherCase read.content (fields (take (e - at) (drop at b)));
        held = judged.answer.1;
        stored = λ none. judged.stored judged.answer.0 (read.stored none);
        same = sym (lines_go read.content number b at e h q judged.answer.0) ∙ read.same;
      }

  pub read_fault : {f : Fault} → ((d : Content) → Holds d t names → LineRead (line_step d (fields (take (e - at) (drop at b)))) (Err f) names' l' l'')
      → RefusedAs (read_lines EitherCase nothing_yet 1 (split newline b)) (record { fault = f; line = number })
  read_fault {f} line =
      sym read.same ∙ lines_stop read.content number b at e h q (number_of f) (line read.content read.held).answer (faulty f)

module _ {b : List ℕ} {t : Counts} {at number : ℕ} {names : Names} {l l' : Lists} (read : ReadTo b t at number names l l') (none_left : length b < at) where
  outcome : (x : Bool) → t.ended ≡ x
      → read_lines EitherCase nothing_yet 1 (split newline b) ≡ cond x (accepted read.content.names read.content.rules) (refused 9 number)
  outcome x e =
      let d = read.content in
      sym read.same ∙ lines_end d number b at none_left ∙ ap (λ (z : Bool). cond z (accepted d.names d.rules) (refused 9 number)) (sym read.held.counted.ended_is ∙ e)

  pub read_last : t.ended ≡ true → FineFile (read_lines EitherCase nothing_yet 1 (split newline b)) t l l'
  read_last e = record { content = read.content; outcome = outcome true e; counted = read.held.counted; stored = read.stored }

  pub read_unended : t.ended ≡ false → RefusedAs (read_lines EitherCase nothing_yet 1 (split newline b)) (record { fault = EndNotLast; line = number })
  read_unended e = outcome false e
