-- `opening::board::clear_last` meets its contract. The loop's invariant: the rows passed are done, the others as they were. Assumes nothing.
use Prim.Native.Nat.{◌≤◌}
use Rattle.places.specs.Board.{dues_of}
use Rattle.opening.specs.Opening.{ended_at}
use Rattle.opening.proofs.OpenedBoard.{Passed}
use Rattle.opening.proofs.board.clear_last.Given as goal

abbrev pub invariant-loop-w : goal.invariant-loop-w
invariant-loop-w l = (l.w ≤ l.n) × Passed (ended_at l.initial.board l.n) l.initial.board l.board (dues_of l.w)
