-- `month::run::run` meets its contract. Assumes nothing.
use mathlib.Core.Path.{refl}
use native.Mathlib.Omega.{arith}
use Rattle.records.specs.Bodies.{basin_in}
use Rattle.general.proofs.Lists.{get_d-zeros, get_d-falses}
use Rattle.month.proofs.Running.{run-rows, run-patterns, setting, can-gather, can-open, can-serve, can-end, ran}
use Rattle.month.proofs.run.run.Goals as goal

pub look_up-requires : goal.look_up-requires
look_up-requires c =
    let s = c.args in
    run-rows s.bodies.now s.runoff.now s.board.now s.report.now c.requires (omega arith)

pub add_up-requires-clause-few : goal.add_up-requires-clause-few
add_up-requires-clause-few c =
    let s = c.args in
    (run-patterns s.bodies.now s.runoff.now s.board.now s.report.now c.requires (omega arith)).0

pub add_up-requires-clause-sums : goal.add_up-requires-clause-sums
add_up-requires-clause-sums c =
    let s = c.args in
    (run-patterns s.bodies.now s.runoff.now s.board.now s.report.now c.requires (omega arith)).1

pub begin-requires : goal.begin-requires
begin-requires c =
    let s = c.args in (
      can-gather s.bodies.now s.runoff.now s.board.now s.report.now c.requires (omega arith) _ c.look_up.ensures _ c.add_up.ensures _ _ (get_d-zeros 64) (get_d-zeros 64),
      can-open s.bodies.now s.runoff.now s.board.now s.report.now c.requires (omega arith),
    )

pub serve_all-deep-requires : goal.serve_all-deep-requires
serve_all-deep-requires c =
    let s = c.args in
    can-serve s.bodies.now s.runoff.now s.board.now s.report.now c.requires (omega arith) _ c.look_up.ensures _ c.add_up.ensures _ _ c.begin.ensures.0 _ c.begin.ensures.1 _ refl refl refl refl

pub end-requires : goal.end-requires
end-requires c =
    let s = c.args in
    let b = basin_in s.bodies.now in
    let w = setting s.bodies.now s.runoff.now s.board.now s.report.now c.requires (omega arith) _ c.look_up.ensures _ c.add_up.ensures in
    can-end s.bodies.now s.runoff.now s.board.now s.report.now c.requires (omega arith) _ c.look_up.ensures _ c.add_up.ensures _ _ c.begin.ensures.0 _ c.begin.ensures.1 _ refl _ (get_d-falses 64) _ _ _ _ _ _ (c.serve_all-deep.ensures b w) refl refl

pub returns : goal.returns
returns c =
    let s = c.args in
    let b = basin_in s.bodies.now in
    let w = setting s.bodies.now s.runoff.now s.board.now s.report.now c.requires (omega arith) _ c.look_up.ensures _ c.add_up.ensures in
    ran s.bodies.now s.runoff.now s.board.now s.report.now c.requires (omega arith) _ c.look_up.ensures _ c.add_up.ensures _ _ c.begin.ensures.0 _ c.begin.ensures.1 _ refl _ (get_d-falses 64) _ _ _ _ _ _ (c.serve_all-deep.ensures b w) (omega arith) refl refl _ _ _ c.end.ensures
