-- `records::patterns::running_sums` meets its contract. The loop's invariant: the first k places hold their sums, and the sum so far is that of k percents.
-- Assumes nothing.
use Rattle.std.proofs.Common.{◌≡◌, ℕ, suc, ◌<◌, get_or}
use Rattle.general.specs.Sums.{up_to}
use Rattle.records.specs.Records.{pattern_of}
use Rattle.records.proofs.patterns.running_sums.Given as goal

abbrev pub invariant-loop-k : goal.invariant-loop-k
invariant-loop-k l = (l.so_far ≡ up_to (pattern_of l.patterns l.p) l.k) × ((j : ℕ) → j < l.k → get_or l.sum-items j 0 ≡ up_to (pattern_of l.patterns l.p) (suc j))
