-- `put_word`: the bytes of the word, and the byte behind them.
use Rattle.lister.proofs.Stored.{put_run, put_byte, put_then}
use Rattle.lister.proofs.put_word.Goals as goal

pub returns : goal.returns
returns c =
    put_then (put_run c.args.s.now c.put_all.ensures) (put_byte c.put8.ensures)
