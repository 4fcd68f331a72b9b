-- `stock::judge_board` meets its contract, refusal by refusal. Assumes nothing.
use mathlib.Core.Path.{sym, ◌∙◌}
use Rattle.std.proofs.Common.{rules}
use Rattle.boards.proofs.Bodies.{counted, possible-told}
use Rattle.stock.proofs.Answers.{stock-file, stock-unfit, stock-impossible, clear_none}
use Rattle.filecheck.proofs.Accepted.{accepted-in}
use Rattle.stock.proofs.judge_board.Goals as goal

pub returns-in_err-check-clause-refused : goal.returns-in_err-check-clause-refused
returns-in_err-check-clause-refused c = search (rules, stock-file)

pub returns-in_default-clause-refused : goal.returns-in_default-clause-refused
returns-in_default-clause-refused c = stock-unfit c.args.file.now c.args.board.now (sym c.in_ok-check.ensures) c.in_default.ensures.cases

pub is_possible-requires : goal.is_possible-requires
is_possible-requires c = counted c.of.result (accepted-in c.args.file.now _ c.of.ensures (sym c.in_ok-check.ensures))

pub returns-then-not-is_possible-clause-refused : goal.returns-then-not-is_possible-clause-refused
returns-then-not-is_possible-clause-refused c =
    let f = c.args.file.now in
    let b = c.args.board.now in
    let p = possible-told f _ b c.of.ensures (rw c.in-Some.ensures.cases.same at c.is_possible.ensures c.of.result.patterns.now) in
    stock-impossible f b (sym c.in_ok-check.ensures) c.in-Some.ensures.cases.long (sym p ∙ c.if-not-is_possible.true)

pub returns-clause-refused : goal.returns-clause-refused
returns-clause-refused c =
    let f = c.args.file.now in
    let b = c.args.board.now in
    let p = possible-told f _ b c.of.ensures (rw c.in-Some.ensures.cases.same at c.is_possible.ensures c.of.result.patterns.now) in
    sym (clear_none f b (record { file-ok = sym c.in_ok-check.ensures; size = c.in-Some.ensures.cases.long; board-ok = sym p ∙ c.if-not-is_possible.false }))
