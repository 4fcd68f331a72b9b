-- `opening::board::open_board` meets its contract. Assumes nothing.
use Rattle.opening.proofs.OpenedBoard.{opened-is}
use Rattle.opening.proofs.board.open_board.Goals as goal

pub returns : goal.returns
returns c =
    let s = c.args in
    opened-is s.n s.board.now _ _ _ c.requires s.october c.clear_year.ensures c.move_dues.ensures c.clear_last.ensures
