-- `years::run::run_through` meets its contract. Assumes nothing.
use native.Mathlib.Omega.{arith}
use Rattle.std.proofs.lemmas.Result.{err_from_is_err_and}
use Rattle.places.specs.Board.{month_at}
use Rattle.records.specs.Bodies.{basin_in}
use Rattle.years.proofs.Runs.{month-in, may_read, over-told, can-rest, run-told}
use Rattle.years.proofs.run.run_through.Goals as goal

pub judge_sheets-requires : goal.judge_sheets-requires
judge_sheets-requires c =
    let s = c.args in
    (may_read (basin_in s.bodies.now) s.body.now s.told s.runoff.now s.board.now s.reports.now c.requires, omega (arith, month-in (basin_in s.bodies.now) s.body.now s.told s.runoff.now s.board.now s.reports.now c.requires))

pub returns-in_err-judge_sheets : goal.returns-in_err-judge_sheets
returns-in_err-judge_sheets c =
    let s = c.args in
    let p = err_from_is_err_and c.from_residual.result c.from_residual.ensures.1 in
    rw (p.1, p.2) (over-told (basin_in s.bodies.now) s.body.now s.told s.runoff.now s.board.now s.reports.now c.requires _ (λ i. month_at s.board.now) _ c.in_err-judge_sheets.ensures)

pub run_rest-requires : goal.run_rest-requires
run_rest-requires c =
    let s = c.args in
    can-rest (basin_in s.bodies.now) s.body.now s.told s.runoff.now s.board.now s.reports.now c.requires _ (λ i. month_at s.board.now) c.in_ok-judge_sheets.ensures _ c.judge_sheets.auto.runoff

pub overflow_sub-result : goal.overflow_sub-result
overflow_sub-result c = let s = c.args in omega (arith, month-in (basin_in s.bodies.now) s.body.now s.told s.runoff.now s.board.now s.reports.now c.requires)

pub returns : goal.returns
returns c =
    let s = c.args in
    run-told (basin_in s.bodies.now) s.body.now s.told s.runoff.now s.board.now s.reports.now c.requires _ (λ i. month_at s.board.now) c.in_ok-judge_sheets.ensures _ _ c.judge_sheets.auto.runoff c.run_rest.ensures
