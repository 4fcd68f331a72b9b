-- `opening::board::move_dues` meets its contract. Assumes nothing.
use native.Mathlib.Omega.{arith}
use Rattle.opening.proofs.OpenedBoard.{moved-block, moved-none}
use Rattle.opening.proofs.board.move_dues.Goals as goal

pub returns-then-n-gt0 : goal.returns-then-n-gt0
returns-then-n-gt0 c =
    let s = c.args in
    moved-block s.board.now _ s.n (omega (arith, c.copy_within.ensures.len)) _ c.dues_of.ensures c.if-n-gt0.true c.copy_within.ensures.by_index

pub returns-else-n-gt0 : goal.returns-else-n-gt0
returns-else-n-gt0 c = moved-none c.args.board.now c.args.n (omega arith) (omega (arith, c.if-n-gt0.false))
