-- The measure is the number of places in the table from the row on, which falls with each step downstream.
use Prim.Native.Nat.{◌-◌}
use Rattle.records.proofs.network.RowsBelow.+on_path.Given as goal

abbrev pub decreases-on_path : goal.decreases-on_path
decreases-on_path l = 64 - l.row
