-- `put_digits`: the digits of the tenth are stored, and then one more.
use Rattle.std.proofs.Common.{arith, ◌≤◌}
use Rattle.lister.proofs.Stored.{put_byte, put_then}
use Rattle.lister.proofs.Digits.{digits_few, digits_more, digits_one_more}
use Rattle.lister.proofs.+put_digits.Goals as goal

pub returns-then-n-lt10 : goal.returns-then-n-lt10
returns-then-n-lt10 t c = rw (digits_few c.args.n c.if-n-lt10.true) (put_byte c.put8.ensures)

pub put_digits-p-requires : goal.put_digits-p-requires
put_digits-p-requires t c =
    let n = c.args.n in
    let big : 10 ≤ n = c.if-n-lt10.false in
    (omega arith, omega (arith, digits_one_more n big, c.requires))

pub overflow_add-result-2 : goal.overflow_add-result-2
overflow_add-result-2 t c =
    let big : 10 ≤ c.args.n = c.if-n-lt10.false in
    omega (arith, digits_one_more c.args.n big, c.requires, c.put_digits-p.ensures.place)

pub returns : goal.returns
returns t c = rw (digits_more c.args.n c.if-n-lt10.false) (put_then c.put_digits-p.ensures (put_byte c.put8-2.ensures))
