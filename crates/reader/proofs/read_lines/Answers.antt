-- `read_lines`: a line without a fault is added to what is held, a faulty one decides, and so does the end of the lines.
use native.Mathlib.Omega.{arith}
use borrow.Author.Rules.{rules}
use mathlib.Core.Path.{◌≡◌}
use Rattle.scan.specs.Text.{newline, split}
use Rattle.scan.specs.declared.Alphabet.TheVariants.{EitherCase}
use Rattle.reader.specs.File.{nothing_yet, read_lines}
use Rattle.reader.specs.Loading.{RefusedAs}
use Rattle.reader.proofs.Answers.{same_ok, made_err}
use Rattle.reader.proofs.Progress.{read_none, read_on, read_fault, read_last, read_unended}
use Rattle.reader.proofs.read_lines.Goals as goal

pub loop-at-init : goal.loop-at-init
loop-at-init g c = (omega arith, omega arith, read_none c.args.b.now c.none_yet-t.ensures c.empty-names.ensures)

pub returns-in_err-t : goal.returns-in_err-t
returns-in_err-t g c =
    let told = made_err _ c.judge.result c.map_err.ensures.cases c.in_err-t.field-0.0 c.in_err-t.was in
    let refused = read_fault c.loop-at.invariant.2 c.loop-at-test.true c.end_of-e.ensures.0 (λ d h. rw told.1 at c.judge.ensures d h) in
    let same : c.in_err-t.field-0.0 ≡ record { fault = told.0; line = c.loop-at.number } = search (rules, told.2) in
    let here : RefusedAs (read_lines EitherCase nothing_yet 1 (split newline c.args.b.now)) c.in_err-t.field-0.0 = rw same refused in
    search rules

pub loop-at-preserved : goal.loop-at-preserved
loop-at-preserved g c =
    let inside = c.end_of-e.ensures.2 c.loop-at-test.true in
    let fine = same_ok _ c.judge.result c.map_err.ensures.cases c.in_ok-t.t c.in_ok-t.was in (
      omega arith,
      omega (arith, c.end_of-e.ensures.1, c.loop-at.invariant.1),
      read_on c.loop-at.invariant.2 c.loop-at-test.true c.end_of-e.ensures.0 (λ d h. rw fine at c.judge.ensures d h),
    )

pub returns-else-t : goal.returns-else-t
returns-else-t g c = read_unended c.loop-at.invariant.2 c.loop-at-test.false c.if-t.false

pub returns-then-t : goal.returns-then-t
returns-then-t g c = read_last c.loop-at.invariant.2 c.loop-at-test.false c.if-t.true
