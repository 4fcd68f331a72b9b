-- The loop's invariant: the first number and those passed are put. Assumes nothing.
use Prim.Native.Nat.{◌+◌, ◌*◌, ◌≤◌}
use mathlib.Core.Path.{◌≡◌}
use lib.ListN.{length, get_or}
use Rattle.lines.specs.Putting.{PutAt}
use Rattle.lines.proofs.Digits.{first_few}
use Rattle.lines.proofs.words.put_line.Given as goal

abbrev pub invariant-loop-n : goal.invariant-loop-n
invariant-loop-n l =
    (length l.out ≡ length l.fn.out) × (l.n-index ≤ length l.n-items) × (l.at + 1 ≤ l.from + 21 * (l.n-index + 1)) × PutAt l.from (first_few (get_or l.numbers 0 0) l.n-items l.n-index) l.fn.out l.out l.at
