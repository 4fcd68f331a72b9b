-- `years::run::run_month` meets its contract. Assumes nothing.
use Rattle.records.specs.Bodies.{basin_in}
use Rattle.years.proofs.Rest.{can-run}
use Rattle.years.proofs.run.run_month.Goals as goal

pub run-requires : goal.run-requires
run-requires c =
    let s = c.args in
    can-run (basin_in s.bodies.now) s.body.now s.k s.runoff.now s.board.now s.report.now c.requires _ c.read_sheet.ensures
