-- `all_known`: a field whose name is not declared settles the answer; each other one passes, and its entry comes before those of what is left.
use mathlib.Core.Path.{sym, ap, ◌∙◌}
use mathlib.Core.Bool.{true≢false}
use mathlib.Core.List.{map}
use Prim.Native.Nat.{◌+◌, ◌*◌}
use native.Mathlib.Omega.{arith}
use Rattle.scan.specs.Text.{rest, comma}
use Rattle.scan.specs.declared.Alphabet.TheVariants.{EitherCase}
use Rattle.reader.specs.File.{is_known}
use Rattle.reader.specs.Steps.{field_code}
use Rattle.reader.specs.Tables.{Lists, with_entries}
use Rattle.reader.proofs.Fields.{fields_go, fields_stop, fields_end, not_declared, is_declared, code_is}
use Rattle.reader.proofs.Entries.{store_field, store_none}
use Rattle.reader.proofs.all_known.Goals as goal

pub returns-in_default : goal.returns-in_default
returns-in_default g c =
    λ names t e. let unknown = not_declared names _ (sym (c.known_of.ensures.known names t e) ∙ c.in_default.is) in
    record {
      answer_is = sym (fields_stop (is_known EitherCase names) c.args.line.now c.loop-p.p c.end_of-e.result c.loop-p-test.true c.end_of-e.ensures.0 unknown) ∙ (c.loop-p.invariant.2 names t e).0;
      entries_are = λ z. absurd (true≢false (sym z));
    }

pub loop-p-preserved : goal.loop-p-preserved
loop-p-preserved g c =
    let was = c.loop-p in
    let end = c.end_of-e in
    let line = c.args.line.now in
    let inside = end.ensures.2 c.loop-p-test.true in
    let known = c.in-Some.known in
    let code = 2 * known.literal + known.tildes in (
      omega arith,
      omega (arith, end.ensures.1, was.invariant.1),
      λ names k e. let entry = sym (c.known_of.ensures.known names k e) ∙ c.in-Some.is in (
        sym (fields_go (is_known EitherCase names) line was.p end.result c.loop-p-test.true end.ensures.0 (is_declared names _ known entry)) ∙ (was.invariant.2 names k e).0,
        ap (λ (x : Lists). with_entries x (was.k + 1) (map (field_code names) (rest comma line (end.result + 1)))) c.put_entry.ensures
            ∙ sym (store_field (g.T.Tables.lists was.tables) was.k (field_code names) line was.p end.result c.loop-p-test.true end.ensures.0 code (code_is names _ known entry))
            ∙ (was.invariant.2 names k e).1,
      ),
    )

pub returns : goal.returns
returns g c =
    λ names t e. record {
      answer_is = sym (fields_end (is_known EitherCase names) c.args.line.now c.loop-p.p c.loop-p-test.false) ∙ (c.loop-p.invariant.2 names t e).0;
      entries_are = λ z. sym (store_none (g.T.Tables.lists c.loop-p.tables) c.loop-p.k (field_code names) c.args.line.now c.loop-p.p c.loop-p-test.false) ∙ (c.loop-p.invariant.2 names t e).1;
    }
