-- `boards::possible::words_ok` meets its contract. Assumes nothing.
use Rattle.std.proofs.Common.{◌≡◌, ◌-◌, arith}
use Rattle.general.specs.Tests.{◌and◌}
use Rattle.places.specs.Board.{words_from, board_length}
use Rattle.boards.proofs.Bodies.{words-parts}
use Rattle.boards.proofs.possible.words_ok.Goals as goal

-- the rights that there are, and what stands past them
pub returns : goal.returns
unfolding ◌and◌
returns c =
    let a = c.args in
    let end = c.word_place-end.result in
    let used : end - words_from ≡ a.n = omega arith in
    let past : board_length - end ≡ 256 - a.n = omega arith in
    cc (words-parts a.n a.board.now c.requires, c.joined-used.ensures 12, c.joined-unused.ensures 0, used, past)
