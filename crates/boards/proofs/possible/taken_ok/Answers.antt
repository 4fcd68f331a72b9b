-- `boards::possible::taken_ok` meets its contract. Assumes nothing.
use Rattle.std.proofs.Common.{◌≡◌, ◌-◌, arith}
use Rattle.general.specs.Tests.{◌and◌}
use Rattle.places.specs.Board.{dues_from}
use Rattle.records.specs.Records.{right_count}
use Rattle.boards.proofs.Bodies.{taken-parts}
use Rattle.boards.proofs.possible.taken_ok.Goals as goal

-- the rights that there are, and what stands past them
pub returns : goal.returns
unfolding ◌and◌
returns c =
    let a = c.args in
    let past : dues_from - c.taken_place.result ≡ 256 - right_count a.rights.now = omega arith in
    cc (taken-parts a.rights.now a.board.now c.requires, c.joined-unused.ensures 0, past)
