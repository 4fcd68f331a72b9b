-- `years::run::run_year` meets its contract. Assumes nothing.
use mathlib.Core.Path.{sym, ap, ◌∙◌}
use mathlib.Core.List.{List}
use Prim.Native.Nat.{ℕ}
use lib.ListN.{length}
use Rattle.std.proofs.lemmas.Result.{err_from_is_err_and}
use Rattle.book.proofs.LookUp.{found_none}
use Rattle.years.proofs.Runs.{year-refused, year-made}
use Rattle.years.proofs.run.run_year.Goals as goal

pub returns-in_err-body : goal.returns-in_err-body
returns-in_err-body c =
    let s = c.args in
    let p = err_from_is_err_and c.from_residual.result c.from_residual.ensures.1 in
    rw (p.1, p.2) (year-refused s.file.now s.book.now s.year s.board.now s.reports.now _ c.in_err-body.ensures.refused)

pub run_body-requires : goal.run_body-requires
run_body-requires c =
    let s = c.args in
    let g = found_none s.file.now s.book.now s.year (sym c.in_ok-body.ensures.refused) in
    (g.file, ap (λ (x : List ℕ). length x) c.in_ok-body.ensures.part ∙ g.size)

pub returns : goal.returns
returns c =
    let s = c.args in
    year-made s.file.now s.book.now s.year s.board.now s.reports.now _ _ c.in_ok-body.ensures.part (sym c.in_ok-body.ensures.refused) c.run_body.ensures
