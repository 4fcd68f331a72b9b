-- `entries::copies::numbers_at` meets its contract. The loop's invariant: the numbers so far are those of the entry. Assumes nothing.
use Rattle.std.proofs.Common.{◌≡◌, ℕ, ◌+◌, ◌*◌, ◌<◌, get_or}
use Rattle.numbers.specs.Bytes.{le64_at}
use Rattle.entries.proofs.copies.numbers_at.Given as goal

abbrev pub invariant-loop-k : goal.invariant-loop-k
invariant-loop-k l = (k : ℕ) → k < l.k → get_or l.number-items k 0 ≡ le64_at l.store (l.start + 8 * k)
