-- `book::contents::Table::listed_body` meets its contract. Assumes nothing.
use Rattle.std.proofs.Common.{sym, ◌∙◌, rules, tests}
use Prim.Native.Nat.{◌<◌}
use native.Mathlib.Omega.{arith}
use Rattle.book.specs.Book.{year_count}
use Rattle.book.proofs.Bodies.{listed, listed-within}
use Rattle.book.proofs.contents.Table.listed_body.Goals as goal

pub returns-in_err-i : goal.returns-in_err-i
returns-in_err-i c =
    let e = listed c.args.self.now.book.now c.args.year _ _ c.year_count.ensures c.find.ensures.ran (λ x q h. search (rules, tests)) (λ x q h. search (rules, tests)) in
    rw (← e, c.in_err-i.was, c.from_residual.ensures)

pub body_at-requires : goal.body_at-requires
body_at-requires c =
    let t = c.args.self.now in
    let e = listed t.book.now c.args.year _ _ c.year_count.ensures c.find.ensures.ran (λ x q h. search (rules, tests)) (λ x q h. search (rules, tests)) in
    let w : c.in_ok-i.i < year_count t.book.now = listed-within t.rows t.book.now c.args.year _ (sym e ∙ c.in_ok-i.was) in
    (c.requires, omega (arith, w))

pub returns : goal.returns
returns c =
    let e = listed c.args.self.now.book.now c.args.year _ _ c.year_count.ensures c.find.ensures.ran (λ x q h. search (rules, tests)) (λ x q h. search (rules, tests)) in
    rw (← e, c.in_ok-i.was, c.body_at.ensures)
