-- `years::run::run_rest` meets its contract. The loop's invariant: what the months to come leave is what all of them leave. Assumes nothing.
use lib.ListN.{length}
use Rattle.records.specs.Bodies.{basin_in}
use Rattle.years.proofs.Rest.{Going}
use Rattle.years.proofs.run.run_rest.Given as goal

abbrev pub invariant-loop-k : goal.invariant-loop-k
invariant-loop-k l =
    Going (basin_in l.bodies) (length l.initial.runoff) l.body l.first l.told l.initial.board l.initial.reports l.runoff l.board l.reports l.at l.k
