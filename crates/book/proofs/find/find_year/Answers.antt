-- `book::find::find_year` meets its contract. Assumes nothing.
use mathlib.Core.Path.{sym}
use native.Mathlib.Omega.{arith}
use borrow.Author.Rules.{rules}
use Rattle.filecheck.proofs.Accepted.{accepted-facts}
use Rattle.book.proofs.LookUp.{file-refused, book-broken, looked-up}
use Rattle.book.proofs.find.find_year.Goals as goal

pub returns-in_err-check-clause-refused : goal.returns-in_err-check-clause-refused
returns-in_err-check-clause-refused c = search (rules, file-refused)

pub kept-requires : goal.kept-requires
kept-requires c = omega (arith, c.station_count.ensures, (accepted-facts c.args.file.now (sym c.in_ok-check.ensures)).few_rows)

pub returns-in_err-table-clause-refused : goal.returns-in_err-table-clause-refused
returns-in_err-table-clause-refused c =
    let a = c.args in
    let n = rw c.in_err-table.ensures.ok_part at c.kept.ensures in
    let r = book-broken a.file.now a.book.now a.year (sym c.in_ok-check.ensures) (rw (← c.station_count.ensures) n) in
    search (rules, r)

pub returns : goal.returns
returns c =
    let a = c.args in
    let h = rw c.in_ok-table.ensures.ok_part at c.kept.ensures in
    let l = rw (h.0, h.1, c.station_count.ensures) at c.listed_body.ensures in
    let k = looked-up a.file.now a.book.now a.year (sym c.in_ok-check.ensures) (rw (← c.station_count.ensures) h.2) c.listed_body.result l in
    rw c.ok_or-2.ensures.value (record { refused = k.0; part = k.1 })
