-- `put_name` where nothing is stored: no run of bytes alters an empty list.
use mathlib.Core.Path.{sym, ap}
use mathlib.Core.List.{List, []}
use Prim.Native.Nat.{ℕ, ◌*◌, zero-le}
use Rattle.scan.specs.Text.{max_length}
use Rattle.store.proofs.Stored.{sets_out}
use Rattle.reader.specs.Tables.{no_lists}
use Rattle.reader.proofs.UnstoredTables.put_name.Goals as goal

pub returns : goal.returns
returns c = sym (ap (λ (x : List ℕ). record no_lists { text = x }) (sets_out [] (max_length * c.args._k) c.args._name.now zero-le))
