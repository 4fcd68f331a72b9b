-- `river::River::divert` meets its contract. Assumes nothing.
use Rattle.std.proofs.Common.{rules}
use Rattle.river.proofs.Walks.{walked-diverted}
use Rattle.river.proofs.River.divert.Goals as goal

pub returns : goal.returns
returns c = walked-diverted c.walk.ensures c.args.d (λ x y e. search rules) c.requires.flows c.requires.availables
