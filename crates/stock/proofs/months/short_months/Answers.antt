-- `stock::months::short_months` meets its contract. Assumes nothing.
use mathlib.Core.Path.{sym, ap}
use native.Mathlib.Omega.{arith}
use borrow.Author.Rules.{rules}
use lib.Count.{ones}
use Rattle.places.proofs.BoardPlaces.{place_read}
use Rattle.records.specs.Records.{right_count}
use Rattle.stock.proofs.Answers.{stock-clear}
use Rattle.stock.proofs.Counting.{months-refused, few_rights, no-right, counted-at}
use Rattle.stock.proofs.months.short_months.Goals as goal

pub returns-in_err-board : goal.returns-in_err-board
returns-in_err-board c = search (rules, months-refused)

pub returns-then-right_count-right : goal.returns-then-right_count-right
returns-then-right_count-right c =
    let s = c.args in
    let k = stock-clear s.file.now s.board.now (sym c.in_ok-board.ensures.refused) in
    no-right s.file.now s.board.now s.right k (omega (arith, c.right_count.ensures, ap right_count c.of.ensures.rights))

pub word_place-requires : goal.word_place-requires
word_place-requires c =
    let s = c.args in
    let k = stock-clear s.file.now s.board.now (sym c.in_ok-board.ensures.refused) in
    omega (arith, c.right_count.ensures, ap right_count c.of.ensures.rights, few_rights s.file.now s.board.now s.right k)

pub bounds-board-word_place : goal.bounds-board-word_place
bounds-board-word_place c =
    let s = c.args in
    let k = stock-clear s.file.now s.board.now (sym c.in_ok-board.ensures.refused) in
    omega (arith, c.right_count.ensures, ap right_count c.of.ensures.rights, few_rights s.file.now s.board.now s.right k, c.word_place.ensures)

pub returns : goal.returns
returns c =
    let s = c.args in
    let k = stock-clear s.file.now s.board.now (sym c.in_ok-board.ensures.refused) in
    counted-at s.file.now s.board.now s.right k (omega (arith, c.right_count.ensures, ap right_count c.of.ensures.rights)) _ (rw c.in_ok-board.ensures.same (ap ones (place_read s.board.now c.word_place.ensures)))
