-- `boards::possible::dues_ok` meets its contract. Assumes nothing.
use Rattle.general.specs.Tests.{◌and◌}
use Rattle.boards.proofs.Bodies.{dues-parts}
use Rattle.boards.proofs.possible.dues_ok.Goals as goal

-- the rows that there are, and what stands past them
pub returns : goal.returns
unfolding ◌and◌
returns c = cc (dues-parts c.args.n c.args.board.now c.requires, c.joined-unused.ensures 0)
