-- `boards::sums::storage_sum` meets its contract. Assumes nothing.
use Rattle.std.proofs.Common.{◌≡◌, ◌<◌, ◌∙◌, sum, take, drop, rules, arith}
use Rattle.general.proofs.Sums.{sum-part, sum_to-most}
use Rattle.places.specs.Board.{storage_at}
use Rattle.boards.proofs.sums.storage_sum.Goals as goal

pub sum-requires-clause-fits : goal.sum-requires-clause-fits
sum-requires-clause-fits c =
    let n = c.args.n in
    let l = c.args.board.now in
    let part = sum-part l 1 n (omega arith) in
    let most = sum_to-most n 2000000000 (storage_at l) (λ v h. c.requires.1.storages v (omega arith)) in
    let fits : sum (take n (drop 1 l)) < 18446744073709551616 = omega (arith, part, most) in
    search (rules, fits)

pub returns : goal.returns
returns c =
    let n = c.args.n in
    let l = c.args.board.now in
    let e : c.sum.result ≡ sum (take n (drop 1 l)) = search rules in
    e ∙ sum-part l 1 n (omega arith)
