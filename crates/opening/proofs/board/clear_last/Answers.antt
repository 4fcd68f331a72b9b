use mathlib.Core.Path.{sym, subst}
use Prim.Native.Nat.{ℕ, ◌+◌}
use native.Mathlib.Omega.{arith}
use borrow.Author.Rules.{rules}
use lib.ListN.{set}
use Rattle.places.specs.Board.{dues_from, dues_of, due_place}
use Rattle.places.proofs.BoardPlaces.{last-due, before_last}
use Rattle.opening.specs.Opening.{ended_at}
use Rattle.opening.proofs.OpenedBoard.{Passed, passed-from, passed_to, passed-all, ended-before, ended_here, ended-else, ended-after}
use Rattle.opening.proofs.board.clear_last.Goals as goal

pub loop-w-init : goal.loop-w-init
loop-w-init c = (search rules, passed-from _ c.args.board.now dues_from (omega arith) (λ j h. ended-before _ c.args.n j h))

pub loop-w-preserved : goal.loop-w-preserved
loop-w-preserved c =
    let s = c.args in
    let bd = s.board.now in
    let l = c.loop-w in (
      omega arith,
      subst (λ (p : ℕ). Passed (ended_at bd s.n) bd (set l.board p 0) (dues_of (l.w + 1))) (sym c.due_place.ensures)
          (subst (λ (k : ℕ). Passed (ended_at bd s.n) bd (set l.board (due_place l.w 10) 0) k) (omega arith)
          (passed_to (ended_at bd s.n) bd l.board (dues_of l.w) (due_place l.w 10) 0 (omega arith) (omega arith) (ended_here bd s.n _ (omega arith) (omega arith) (last-due l.w)) (λ j h k. ended-else bd s.n j (omega arith) (omega arith) (before_last l.w j h k)) l.invariant.1)),
    )

pub returns : goal.returns
returns c =
    let s = c.args in
    let bd = s.board.now in
    let l = c.loop-w in
    passed-all (ended_at bd s.n) bd l.board (dues_of l.w) l.invariant.1 (λ j h k. ended-after bd s.n j (omega arith) (omega arith))
