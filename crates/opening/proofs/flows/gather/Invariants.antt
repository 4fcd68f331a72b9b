-- `opening::flows::gather` meets its contract. The loop's invariant: the rows passed have all that is theirs. Assumes nothing.
use Rattle.opening.proofs.Openings.{Gathering}
use Rattle.opening.proofs.flows.gather.Given as goal

abbrev pub invariant-loop-row : goal.invariant-loop-row
invariant-loop-row l = Gathering l.below.rows l.runoff l.board l.row l.river.flow l.river.available
