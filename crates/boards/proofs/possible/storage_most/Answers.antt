-- `boards::possible::storage_most` meets its contract. Assumes nothing.
use Rattle.std.proofs.Common.{◌∙◌, arith}
use Rattle.boards.proofs.Bodies.{no-storage, some-storage}
use Rattle.boards.proofs.possible.storage_most.Goals as goal

pub returns-then-reservoirs-v : goal.returns-then-reservoirs-v
returns-then-reservoirs-v c = no-storage _ _ c.if-reservoirs-v.true

pub returns : goal.returns
returns c = c.from.ensures ∙ c.le32.ensures ∙ some-storage c.args.reservoirs.now _ (omega arith)
