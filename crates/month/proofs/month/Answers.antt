-- `month::month` meets its contract. Assumes nothing.
use mathlib.Core.Path.{sym}
use borrow.Author.Rules.{rules}
use Rattle.rules.specs.declared.Refusal.TheVariants.{Lists}
use Rattle.std.proofs.lemmas.Result.{err_from_is_err_and}
use Rattle.boards.proofs.Bodies.{counted}
use Rattle.answers.proofs.Answers.{lent-unfit, lent-clear}
use Rattle.filecheck.proofs.Accepted.{accepted-in}
use Rattle.month.proofs.Settling.{board-unfit, month-unchecked, month-refused, lent-told, can-go-at, month-went}
use Rattle.month.proofs.month.Goals as goal

pub returns-in_err-check : goal.returns-in_err-check
returns-in_err-check c = search (rules, month-unchecked)

pub returns-in_default : goal.returns-in_default
returns-in_default c =
    let a = c.args in
    month-refused a.file.now a.runoff.now a.board.now a.report.now Lists
    (lent-unfit a.file.now _ a.board.now (sym c.in_ok-check.ensures) (board-unfit _ a.runoff.now a.board.now a.report.now c.in_default.ensures.cases))

pub lists_fit-requires : goal.lists_fit-requires
lists_fit-requires c = counted _ (accepted-in c.args.file.now _ c.of-bodies.ensures (sym c.in_ok-check.ensures))

pub judge-requires : goal.judge-requires
judge-requires c = counted _ (accepted-in c.args.file.now _ c.of-bodies.ensures (sym c.in_ok-check.ensures))

pub returns-in_err-judge : goal.returns-in_err-judge
returns-in_err-judge c =
    let a = c.args in
    let o = c.in-Some.ensures.cases in
    let p = err_from_is_err_and c.from_residual-in_err-judge.result c.from_residual-in_err-judge.ensures.1 in
    let down = lent-told a.file.now a.runoff.now a.board.now a.report.now _ c.of-bodies.ensures (sym c.in_ok-check.ensures) o.long o.same c.lists_fit.ensures c.in_err-judge.ensures in
    rw (p.1, p.2, o.same) (month-refused a.file.now a.runoff.now a.board.now a.report.now _ down)

pub run_sheet-requires : goal.run_sheet-requires
run_sheet-requires c =
    let a = c.args in
    let o = c.in-Some.ensures.cases in
    let none = lent-told a.file.now a.runoff.now a.board.now a.report.now _ c.of-bodies.ensures (sym c.in_ok-check.ensures) o.long o.same c.lists_fit.ensures c.in_ok-judge.ensures in
    rw o.same (can-go-at a.file.now a.runoff.now a.board.now a.report.now (lent-clear _ _ _ (sym none)) _ c.of-bodies.ensures)

pub returns : goal.returns
returns c =
    let a = c.args in
    let o = c.in-Some.ensures.cases in
    let none = lent-told a.file.now a.runoff.now a.board.now a.report.now _ c.of-bodies.ensures (sym c.in_ok-check.ensures) o.long o.same c.lists_fit.ensures c.in_ok-judge.ensures in
    month-went a.file.now a.runoff.now a.board.now a.report.now (lent-clear _ _ _ (sym none)) _ c.of-bodies.ensures _ (rw o.same at c.run_sheet.ensures)
