-- `boards::possible::is_possible` meets its contract. Assumes nothing.
use Rattle.general.specs.Tests.{◌and◌}
use Rattle.boards.proofs.Bodies.{possible-bodies}
use Rattle.boards.proofs.possible.is_possible.Goals as goal

pub returns : goal.returns
unfolding ◌and◌
returns c = let w = c.args.bodies.now in λ ps. cc (possible-bodies w.stations.now w.reservoirs.now ps w.rights.now c.args.board.now)
