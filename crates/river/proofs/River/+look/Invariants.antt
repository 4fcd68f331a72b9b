-- The measure is the number of places in the table from the row on, which falls with each step downstream.
use Prim.Native.Nat.{◌-◌}
use Rattle.river.proofs.River.+look.Given as goal

abbrev pub decreases-look : goal.decreases-look
decreases-look l = 64 - l.row
