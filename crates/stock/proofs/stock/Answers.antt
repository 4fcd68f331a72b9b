-- `stock::stock` meets its contract. A possible board keeps the sums within bounds. Assumes nothing.
use mathlib.Core.Path.{sym, ◌∙◌}
use native.Mathlib.Omega.{arith}
use borrow.Author.Rules.{rules}
use Rattle.records.specs.Records.{basin_of}
use Rattle.filecheck.proofs.Accepted.{accepted-facts, accepted-in}
use Rattle.boards.proofs.Bodies.{counted, storage-told, due-told}
use Rattle.boards.proofs.Bounds.{bounded}
use Rattle.stock.proofs.Answers.{stock-refused, stock-clear, stock-made}
use Rattle.stock.proofs.stock.Goals as goal

pub returns-in_err-board : goal.returns-in_err-board
returns-in_err-board c = search (rules, stock-refused)

pub storage_sum-requires : goal.storage_sum-requires
storage_sum-requires c =
    let f = c.args.file.now in
    let b = c.args.board.now in
    let k = stock-clear f b (sym c.in_ok-board.ensures.refused) in
    let n = (counted c.of-bodies.result (accepted-in f _ c.of-bodies.ensures k.file-ok)).reservoirs_in in
    (omega (arith, n, c.reservoir_count.ensures), rw c.in_ok-board.ensures.same (bounded (basin_of f) (accepted-facts f k.file-ok) b k.board-ok))

pub due_sum-requires : goal.due_sum-requires
due_sum-requires c =
    let f = c.args.file.now in
    let b = c.args.board.now in
    let k = stock-clear f b (sym c.in_ok-board.ensures.refused) in
    let n = (counted c.of-bodies.result (accepted-in f _ c.of-bodies.ensures k.file-ok)).rows_in in
    (omega (arith, n, c.rows.ensures), rw c.in_ok-board.ensures.same (bounded (basin_of f) (accepted-facts f k.file-ok) b k.board-ok))

pub returns : goal.returns
returns c =
    let f = c.args.file.now in
    let b = c.args.board.now in
    stock-made f b _ c.in_ok-board.ensures.refused
    (rw c.in_ok-board.ensures.same at c.storage_sum.ensures ∙ storage-told f _ b c.of-bodies.ensures c.reservoir_count.ensures)
    (rw c.in_ok-board.ensures.same at c.due_sum.ensures ∙ due-told f _ b c.of-bodies.ensures c.rows.ensures)
