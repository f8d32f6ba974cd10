-- `write`: the length is known before the buffer is written.
use Rattle.lister.proofs.Calls.{writes_short, writes_whole}
use Rattle.lister.proofs.write.Goals as goal

pub returns-then-buffer-length : goal.returns-then-buffer-length
returns-then-buffer-length c = writes_short c.put_listing-length.ensures c.if-buffer-length.true

pub returns : goal.returns
returns c = writes_whole c.put_listing-length.ensures c.if-buffer-length.false c.put_listing.ensures
