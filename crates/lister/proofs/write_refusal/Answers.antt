-- `write_refusal`: the length is known before the buffer is written.
use Rattle.lister.proofs.Calls.{writes_short, writes_whole}
use Rattle.lister.proofs.write_refusal.Goals as goal

pub returns-then-buffer-n : goal.returns-then-buffer-n
returns-then-buffer-n c = writes_short c.put_refusal-n.ensures c.if-buffer-n.true

pub returns : goal.returns
returns c = writes_whole c.put_refusal-n.ensures c.if-buffer-n.false c.put_refusal.ensures
