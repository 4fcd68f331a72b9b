-- `numbers::bytes::byte_sum` meets its contract. Assumes nothing.
use Rattle.std.proofs.Common.{rules, tests, arith, ◌∙◌, ℕ, ◌+◌, ◌*◌, ◌<◌, map, sum}
use Rattle.std.specs.List.{range_with_len}
use Rattle.std.proofs.lemmas.Iterator.{YieldsList-from_range, YieldsList-from_map}
use Rattle.std.proofs.lemmas.Iterator.Consumers.{sum_from_yields_List, fits_from_yields_list}
use Rattle.general.proofs.Sums.{sum_to-most, sum-range}
use Rattle.numbers.specs.Bytes.{byte_at, byte_sum}
use Rattle.numbers.proofs.bytes.byte_sum.Goals as goal

pub sum-requires-clause-fits : goal.sum-requires-clause-fits
sum-requires-clause-fits c =
    let a = c.args in
    let f : ℕ → ℕ = λ k. byte_at a.s.now (a.at + a.step * k) in
    let low : sum (map f (range_with_len 0 a.n)) < 4294967296 = omega (arith, sum-range f a.n, sum_to-most a.n 255 f (λ k _. omega (arith, (c.type_inv.s (a.at + a.step * k)).fits))) in
    fits_from_yields_list c.map.result 4294967296 (YieldsList-from_map _ f (YieldsList-from_range 0 a.n a.n c.map.ensures.source (omega arith)) c.map.ensures.closure (λ x r q k. search (rules, tests))) low

pub returns : goal.returns
unfolding byte_sum
returns c =
    let a = c.args in
    let f : ℕ → ℕ = λ k. byte_at a.s.now (a.at + a.step * k) in
    sum_from_yields_List c.map.result c.sum.result c.sum.ensures.ran (YieldsList-from_map _ f (YieldsList-from_range 0 a.n a.n c.map.ensures.source (omega arith)) c.map.ensures.closure (λ x r q k. search (rules, tests))) ∙ sum-range f a.n
