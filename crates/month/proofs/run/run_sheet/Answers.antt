-- `month::run::run_sheet` meets its contract. Assumes nothing.
use borrow.Author.Rules.{rules}
use Rattle.records.specs.Bodies.{basin_in}
use Rattle.month.proofs.Going.{stays, may-run, goes}
use Rattle.month.proofs.run.run_sheet.Goals as goal

pub returns-in_err-judge_runoff : goal.returns-in_err-judge_runoff
returns-in_err-judge_runoff c = search (rules, stays)

pub run-requires : goal.run-requires
run-requires c =
    let s = c.args in
    may-run (basin_in s.bodies.now) s.runoff.now s.board.now s.report.now c.requires c.in_ok-judge_runoff.ensures

pub returns : goal.returns
returns c =
    let s = c.args in
    goes (basin_in s.bodies.now) s.runoff.now s.board.now s.report.now c.requires c.in_ok-judge_runoff.ensures _ _ _ c.run.ensures
