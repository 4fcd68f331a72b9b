-- `years::judging::judge_sheets` meets its contract. The loop's invariant: the sheets not yet looked at give the answer. Assumes nothing.
use mathlib.Core.Path.{◌≡◌}
use Prim.Native.Nat.{◌≤◌}
use lib.ListN.{length}
use Rattle.years.proofs.Sheets.{over_in}
use Rattle.years.proofs.judging.judge_sheets.Given as goal

abbrev pub invariant-loop-k : goal.invariant-loop-k
invariant-loop-k l = (l.k ≤ 12) × (length l.runoff ≡ length l.initial.runoff) × (over_in (length l.initial.runoff) l.body l.k ≡ over_in (length l.initial.runoff) l.body l.first) × (l.first ≤ l.k)
