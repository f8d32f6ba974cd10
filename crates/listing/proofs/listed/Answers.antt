-- `listed`: the buffer is long enough for every listing and for every refusal, so it starts with what is printed for the file.
use Rattle.std.proofs.Common.{Fits, w64, rules}
use Rattle.listing.proofs.Printed.{accepted_printed, refused_printed}
use Rattle.listing.proofs.listed.Goals as goal

pub returns-in-Ok : goal.returns-in-Ok
returns-in-Ok c =
    let p = accepted_printed c.args.file.now _ _ c.requires _ c.fresh-d.ensures c.in-Ok.ensures c.listing.result c.listing.ensures c.unwrap_or.ensures in
    record { prefix_len = p.0; out_after = p.1 }

pub returns-in-Err : goal.returns-in-Err
returns-in-Err c =
    let line-fits : Fits w64 c.in-Err.refusal.line = search rules in
    let p = refused_printed c.args.file.now _ _ c.requires _ c.in-Err.refusal c.in-Err.ensures _ c.number-number.ensures c.number-number.type_inv line-fits c.write_refusal.result c.write_refusal.ensures c.unwrap_or-in-Err.ensures in
    record { prefix_len = p.0; out_after = p.1 }
