-- `numbers::all_below` meets its contract. The loop's invariant: what was asked so far has passed, for every test that answers as this one. Assumes nothing.
use Rattle.std.proofs.Common.{◌≡◌, Bool, ℕ, ◌<◌}
use Rattle.general.specs.Tests.{all_to}
use Rattle.numbers.proofs.all_below.Given as goal

abbrev pub invariant-loop-k : goal.invariant-loop-k
invariant-loop-k g l = (t : ℕ → Bool) → ((k : ℕ) (b : Bool) → k < l.n → goal.F-post g l.test k b → b ≡ t k) → l.all ≡ all_to l.k t
