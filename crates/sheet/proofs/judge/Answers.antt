use Rattle.std.proofs.Common.{◌≡◌, ◌≤◌, length, arith, rules}
use Rattle.sheet.specs.Sheet.{max_sheet}
use Rattle.sheet.proofs.Judged.{known_names, kind_byte, cut_fault, cut_among, not_following, claim_there, claim_missing}
use Rattle.sheet.proofs.judge.Goals as goal

pub returns-in-Err : goal.returns-in-Err
returns-in-Err c =
    let A = c.args in
    let size : length A.sheet.now.entries ≡ max_sheet = search rules in
    let room : A.n ≤ length A.sheet.now.entries = omega arith in
    let found = cut_fault A.sheet.now.entries A.n room (rw (known_names A.book.now c.name_count.ensures) at c.in-Err.ensures) in
    not_following _ _ _ _ _ _ _ c.if-n-eq0.false (omega arith) found

pub returns : goal.returns
returns c =
    let A = c.args in
    let size : length A.sheet.now.entries ≡ max_sheet = search rules in
    let room : A.n ≤ length A.sheet.now.entries = omega arith in
    let found = cut_fault A.sheet.now.entries A.n room (rw (known_names A.book.now c.name_count.ensures) at c.all_follow.ensures) in
    let asked = cut_among A.sheet.now.entries A.n room _ _ (rw (c.from.ensures, kind_byte A.truth) at c.has.ensures) in
    claim_there _ _ _ _ _ _ _ c.if-n-eq0.false (omega arith) c.in_default.not-Err found asked c.if-not-has.false

pub returns-then-not-has : goal.returns-then-not-has
returns-then-not-has c =
    let A = c.args in
    let size : length A.sheet.now.entries ≡ max_sheet = search rules in
    let room : A.n ≤ length A.sheet.now.entries = omega arith in
    let found = cut_fault A.sheet.now.entries A.n room (rw (known_names A.book.now c.name_count.ensures) at c.all_follow.ensures) in
    let asked = cut_among A.sheet.now.entries A.n room _ _ (rw (c.from.ensures, kind_byte A.truth) at c.has.ensures) in
    claim_missing _ _ _ _ _ _ _ c.if-n-eq0.false (omega arith) c.in_default.not-Err found asked c.if-not-has.true
