-- `turns::serve::finish` meets its contract. Assumes nothing.
use Rattle.turns.proofs.Ending.{finished-short, finished-met}
use Rattle.turns.proofs.serve.finish.Goals as goal

pub returns-then-d-share : goal.returns-then-d-share
returns-then-d-share c =
    finished-short c.requires c.from.ensures c.from-2.ensures c.from-3.ensures c.give_returns-deep.ensures c.from-row.ensures c.if-d-share.true

pub returns-else-d-share : goal.returns-else-d-share
returns-else-d-share c =
    finished-met c.requires c.from.ensures c.from-2.ensures c.from-3.ensures c.give_returns-deep.ensures c.if-d-share.false
