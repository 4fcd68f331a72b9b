-- The measure is the number of places in the table from the row on, which falls with each step downstream.
use Prim.Native.Nat.{◌-◌}
use Rattle.river.proofs.River.+walk.Given as goal

abbrev pub decreases-walk : goal.decreases-walk
decreases-walk g l = 64 - l.row
