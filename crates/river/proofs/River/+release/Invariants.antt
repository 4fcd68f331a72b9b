-- The measure is the number of places in the table from the row on, which falls with each step downstream.
use Prim.Native.Nat.{◌-◌}
use Rattle.river.proofs.River.+release.Given as goal

abbrev pub decreases-release : goal.decreases-release
decreases-release l = 64 - l.row
