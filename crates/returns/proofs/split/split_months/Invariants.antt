-- `returns::split::split_months` meets its contract. Assumes nothing.
use Rattle.std.proofs.Common.{◌≡◌, ℕ, ◌*◌, ◌/◌, List, get_or}
use Rattle.returns.specs.Dues.{Sums, Lagged}
use Rattle.returns.proofs.split.split_months.Given as goal

abbrev pub invariant-loop-k : goal.invariant-loop-k
invariant-loop-k l = (l.before ≡ l.a * get_or l.sums l.k 0 / 100) × ((pattern : List ℕ) → Sums pattern l.sums → Lagged pattern l.a 0 l.k l.initial.due-items l.due-items)
