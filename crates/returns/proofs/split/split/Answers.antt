-- `returns::split::split` meets its contract. Assumes nothing.
use Rattle.std.proofs.Common.{arith, refl, ◌+◌, ◌-◌}
use Rattle.places.specs.Board.{dues_of}
use Rattle.returns.proofs.Shares.{split-nothing, split-placed}
use Rattle.returns.proofs.split.split.Goals as goal

pub returns-then-a-eq0 : goal.returns-then-a-eq0
returns-then-a-eq0 c =
    λ pattern s. split-nothing pattern c.args.a (dues_of c.args.row) c.args.board.now _ s.good.sum_most c.if-a-eq0.true refl refl

pub returns : goal.returns
returns c =
    let from = c.dues_of-from in
    λ pattern s. rw (← from.ensures) (split-placed pattern c.args.a from.result (from.result + 11 - from.result) c.args.board.now c.split_months.new.dues (omega arith) (omega arith) (omega (arith, c.split_months.auto.dues)) (c.split_months.ensures pattern s))
