-- `opening::board::clear_year` meets its contract. Assumes nothing.
use mathlib.Core.Path.{◌≡◌, sym, subst}
use mathlib.Core.Bool.{Bool}
use native.Mathlib.Omega.{arith}
use Rattle.std.proofs.Common.{rules}
use Rattle.general.specs.Tables.{tab}
use Rattle.places.specs.Board.{board_length}
use Rattle.opening.specs.Opening.{cleared_at}
use Rattle.opening.proofs.OpenedBoard.{cleared-none, cleared-october, zeros}
use Rattle.opening.proofs.board.clear_year.Goals as goal

pub returns-then-not-october : goal.returns-then-not-october
returns-then-not-october c =
    let bd = c.args.board.now in
    subst (λ (t : Bool). bd ≡ tab board_length (cleared_at bd t)) (sym (c.if-not-october.true)) (cleared-none bd (omega arith))

pub returns : goal.returns
returns c =
    let bd = c.args.board.now in
    cleared-october bd _ _ c.args.october (c.if-not-october.false)
    (zeros bd _ 9 257 (omega arith) (omega arith) (c.fill.ensures.after (λ y e. search rules)))
    (zeros _ _ 970 256 (search rules) (omega arith) (c.fill-2.ensures.after (λ y e. search rules)))
