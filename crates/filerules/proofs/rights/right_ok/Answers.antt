-- `filerules::rights::right_ok` meets its contract. A good heading bounds the number of points. Assumes nothing.
use Rattle.std.proofs.Common.{sym, ◌∙◌}
use Rattle.filerules.proofs.Cases.{few_points}
use Rattle.filerules.proofs.rights.right_ok.Goals as goal

pub returns_ok-requires : goal.returns_ok-requires
returns_ok-requires c = (c.requires.0, few_points _ _ (sym c.heading_ok.ensures ∙ c.if-not-heading_ok.false))
