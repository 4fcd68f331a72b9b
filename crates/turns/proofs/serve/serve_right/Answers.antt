-- `turns::serve::serve_right` meets its contract. Assumes nothing.
use native.Mathlib.Omega.{arith}
use Rattle.turns.proofs.Readying.{can-ask}
use Rattle.turns.proofs.AsRead.{turn_in, the-turn, see-ok, part-ok, take-ok, fill-ok, draw-ok, finish-ok, after_turn}
use Rattle.turns.proofs.Assembling.{turned}
use Rattle.turns.proofs.serve.serve_right.Goals as goal

pub demand_of-demand-requires : goal.demand_of-demand-requires
demand_of-demand-requires c =
    let t = the-turn c.args.short.now c.requires (omega arith) (omega arith) in
    (c.right_at-right.ensures, can-ask t)

pub river_part-seen-requires : goal.river_part-seen-requires
river_part-seen-requires c =
    let t = the-turn c.args.short.now c.requires (omega arith) (omega arith) in
    see-ok t c.right_at-right.ensures

pub take-requires : goal.take-requires
take-requires c =
    let t = the-turn c.args.short.now c.requires (omega arith) (omega arith) in
    take-ok t c.right_at-right.ensures c.demand_of-demand.ensures c.river_part-seen.ensures

pub fill-requires : goal.fill-requires
fill-requires c =
    let t = the-turn c.args.short.now c.requires (omega arith) (omega arith) in
    fill-ok t c.right_at-right.ensures c.demand_of-demand.ensures c.river_part-seen.ensures

pub overflow_sub-demand : goal.overflow_sub-demand
overflow_sub-demand c =
    let t = the-turn c.args.short.now c.requires (omega arith) (omega arith) in
    omega (arith, part-ok t c.right_at-right.ensures c.demand_of-demand.ensures c.river_part-seen.ensures)

pub draw-stored-requires : goal.draw-stored-requires
draw-stored-requires c =
    let t = the-turn c.args.short.now c.requires (omega arith) (omega arith) in
    draw-ok t c.right_at-right.ensures c.demand_of-demand.ensures c.river_part-seen.ensures c.take.ensures c.fill.ensures

pub finish-requires : goal.finish-requires
finish-requires c =
    let t = the-turn c.args.short.now c.requires (omega arith) (omega arith) in
    rw c.draw-stored.ensures.1
    (finish-ok t c.right_at-right.ensures c.demand_of-demand.ensures c.river_part-seen.ensures c.take.ensures c.fill.ensures c.draw-stored.ensures.0 c.short_reason-why.result)

pub returns : goal.returns
returns c =
    λ b w.
    let t = turn_in c.args.short.now c.requires (omega arith) (omega arith) b w in
    let finished = c.finish.ensures in
    turned t (after_turn t c.right_at-right.ensures c.demand_of-demand.ensures c.river_part-seen.ensures c.take.ensures c.fill.ensures c.draw-stored.ensures.0 c.short_reason-why.ensures
    (rw c.draw-stored.ensures.1 at finished))
