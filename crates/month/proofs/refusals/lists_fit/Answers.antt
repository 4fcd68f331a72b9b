-- `month::refusals::lists_fit` meets its contract. Assumes nothing.
use Rattle.general.specs.Tests.{◌and◌}
use Rattle.month.proofs.Settling.{lists-bodies}
use Rattle.month.proofs.refusals.lists_fit.Goals as goal

pub returns : goal.returns
unfolding ◌and◌
returns c = let a = c.args in cc (lists-bodies a.bodies.now a.runoff.now a.report.now)
