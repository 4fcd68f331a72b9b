-- `boards::possible::taken_most` meets its contract. Assumes nothing.
use Rattle.std.proofs.Common.{◌∙◌, arith}
use Rattle.boards.proofs.Bodies.{no-taken, some-taken}
use Rattle.boards.proofs.possible.taken_most.Goals as goal

pub returns-then-rights-i : goal.returns-then-rights-i
returns-then-rights-i c = no-taken _ _ c.if-rights-i.true

pub returns : goal.returns
returns c = c.from.ensures ∙ c.le32.ensures ∙ some-taken c.args.rights.now _ (omega arith)
