-- `records::network::row_below` meets its contract. Assumes nothing.
use Rattle.std.proofs.Common.{◌∙◌, refl, rules, tests, arith, ◌+◌, Bool, ◌||◌, ℕ, eqb}
use Rattle.general.proofs.Search.{find-first}
use Rattle.records.specs.Network.{order_at}
use Rattle.records.proofs.Rows.{below-first}
use Rattle.records.proofs.network.row_below.Goals as goal

pub returns : goal.returns
returns c =
    let s = c.args.stations.now in
    let o = c.order_at-order.result in
    let t : ℕ → Bool = λ j. eqb (order_at s j) o || eqb (order_at s j + 1) o in
    find-first _ _ _ c.find.result c.find.ensures.ran t _ _ refl (λ x b q k. search (rules, tests)) ∙ below-first s c.args.row o (omega arith) c.order_at-order.ensures.0
