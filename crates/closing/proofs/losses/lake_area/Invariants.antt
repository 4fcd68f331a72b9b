-- `closing::losses::lake_area` meets its contract. Assumes nothing.
use Rattle.closing.proofs.Surveyed.{Reached}
use Rattle.closing.proofs.losses.lake_area.Given as goal

abbrev pub invariant-loop-k : goal.invariant-loop-k
invariant-loop-k l = Reached l.reservoirs l.v l.storage l.k l.low
