-- `records::patterns::add_up` meets its contract. The loop's invariant: the first places hold the sums of the file's patterns. Assumes nothing.
use Rattle.std.proofs.Common.{◌≡◌, ℕ, ◌<◌, get_or, []}
use Rattle.records.specs.Records.{pattern_of}
use Rattle.records.specs.Table.{sums_of}
use Rattle.records.proofs.patterns.add_up.Given as goal

abbrev pub invariant-loop-p : goal.invariant-loop-p
invariant-loop-p l = (k : ℕ) → k < l.p → get_or l.sums-items k [] ≡ sums_of (pattern_of l.patterns k)
