-- `river::River::put_back` meets its contract. Assumes nothing.
use Rattle.std.proofs.Common.{rules}
use Rattle.river.proofs.Walks.{walked-returned}
use Rattle.river.proofs.River.put_back.Goals as goal

pub returns : goal.returns
returns c = walked-returned c.walk.ensures c.args.d (λ x y e. search rules)
