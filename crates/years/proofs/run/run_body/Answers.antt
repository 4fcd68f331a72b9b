-- `years::run::run_body` meets its contract. Assumes nothing.
use mathlib.Core.Path.{sym, ◌∙◌}
use native.Mathlib.Omega.{arith}
use lib.Seq.{length-take-le}
use Rattle.std.proofs.lemmas.Result.{err_from_is_err_and}
use Rattle.places.specs.Report.{report_end}
use Rattle.rules.specs.declared.Refusal.TheVariants.{Lists}
use Rattle.filecheck.proofs.Accepted.{accepted-in}
use Rattle.boards.proofs.Bodies.{counted}
use Rattle.answers.proofs.Answers.{lent-unfit, lent-clear}
use Rattle.years.proofs.Runs.{board-unfit, body-unfit, lent-told, can-through, body-went}
use Rattle.years.proofs.run.run_body.Goals as goal

pub returns-in_default : goal.returns-in_default
returns-in_default c =
    let a = c.args in
    body-unfit a.file.now a.body.now a.board.now a.reports.now Lists (lent-unfit a.file.now _ a.board.now c.requires.0 (board-unfit _ a.board.now a.reports.now c.in_default.ensures.cases))

pub shape-requires : goal.shape-requires
shape-requires c = let n = counted c.of-bodies.result (accepted-in c.args.file.now _ c.of-bodies.ensures c.requires.0) in (n.rights_in, n.rows_in, n.reservoirs_in)

pub returns-in_err-judge : goal.returns-in_err-judge
returns-in_err-judge c =
    let a = c.args in
    let o = c.in-Some.ensures.cases in
    let e = c.shape.ensures in
    let p = err_from_is_err_and c.from_residual.result c.from_residual.ensures.1 in
    let told = c.report_end-told.ensures ∙ (λ z. report_end (e.0 z) (e.1 z) (e.2 z)) in
    rw (p.1, p.2, o.same) (body-unfit a.file.now a.body.now a.board.now a.reports.now _ (lent-told a.file.now a.body.now a.board.now a.reports.now _ c.of-bodies.ensures c.requires.0 o.long o.same told c.in_err-judge.ensures))

pub run_through-requires : goal.run_through-requires
run_through-requires c =
    let a = c.args in
    let o = c.in-Some.ensures.cases in
    let e = c.shape.ensures in
    let told = c.report_end-told.ensures ∙ (λ z. report_end (e.0 z) (e.1 z) (e.2 z)) in
    let k = lent-clear _ _ _ (sym (lent-told a.file.now a.body.now a.board.now a.reports.now _ c.of-bodies.ensures c.requires.0 o.long o.same told c.in_ok-judge.ensures)) in
    let rows = (counted c.of-bodies.result (accepted-in a.file.now _ c.of-bodies.ensures c.requires.0)).rows_in in
    rw o.same (can-through a.file.now a.body.now a.board.now a.reports.now k _ c.of-bodies.ensures _ c.rows-n.ensures told (length-take-le _ _ (omega (arith, rows, c.rows-n.ensures))) c.requires.1)

pub returns : goal.returns
returns c =
    let a = c.args in
    let o = c.in-Some.ensures.cases in
    let e = c.shape.ensures in
    let told = c.report_end-told.ensures ∙ (λ z. report_end (e.0 z) (e.1 z) (e.2 z)) in
    let k = lent-clear _ _ _ (sym (lent-told a.file.now a.body.now a.board.now a.reports.now _ c.of-bodies.ensures c.requires.0 o.long o.same told c.in_ok-judge.ensures)) in
    let rows = (counted c.of-bodies.result (accepted-in a.file.now _ c.of-bodies.ensures c.requires.0)).rows_in in
    body-went a.file.now a.body.now a.board.now a.reports.now k _ c.of-bodies.ensures c.rows-n.ensures (rw o.same at c.run_through.ensures) (length-take-le _ _ (omega (arith, rows, c.rows-n.ensures)))
