use Prim.Native.Nat.{◌+◌, ◌-◌}
use native.Mathlib.Omega.{arith}
use Rattle.records.specs.Bodies.{basin_in}
use Rattle.years.proofs.Rest.{can-month, goes_on_lem, ends}
use Rattle.years.proofs.run.run_rest.Goals as goal

pub run_month-requires : goal.run_month-requires
run_month-requires c = let s = c.args in can-month (basin_in s.bodies.now) s.body.now s.first s.told s.runoff.now s.board.now s.reports.now c.requires c.loop-k.runoff c.loop-k.board c.loop-k.reports c.loop-k.at c.loop-k.k c.loop-k.invariant (omega arith) (c.loop-k.at + s.told - c.loop-k.at) (omega arith)

pub loop-k-preserved : goal.loop-k-preserved
loop-k-preserved c =
    let s = c.args in
    goes_on_lem (basin_in s.bodies.now) s.body.now s.first s.told s.runoff.now s.board.now s.reports.now c.requires c.loop-k.runoff c.loop-k.board c.loop-k.reports c.loop-k.at c.loop-k.k c.loop-k.invariant (omega arith) _ _ _ (c.loop-k.at + s.told - c.loop-k.at) c.run_month.result (omega arith) c.run_month.auto.runoff c.run_month.auto.report c.run_month.ensures

pub returns : goal.returns
returns c = let s = c.args in ends (basin_in s.bodies.now) s.body.now s.first s.told s.runoff.now s.board.now s.reports.now c.requires c.loop-k.runoff c.loop-k.board c.loop-k.reports c.loop-k.at c.loop-k.k c.loop-k.invariant (omega arith)
