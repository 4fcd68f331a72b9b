-- `years::run::judge_year` meets its contract. Assumes nothing.
use mathlib.Core.Path.{sym, ap, ◌∙◌}
use mathlib.Core.List.{List}
use Prim.Native.Nat.{ℕ}
use native.Mathlib.Omega.{arith}
use lib.ListN.{length}
use lib.Seq.{length-take-le}
use Rattle.std.proofs.lemmas.Result.{err_from_is_err_and}
use Rattle.places.specs.Board.{month_at}
use Rattle.records.specs.Records.{basin_of}
use Rattle.filecheck.proofs.Accepted.{accepted-facts}
use Rattle.boards.proofs.Bounds.{month-most}
use Rattle.book.proofs.LookUp.{found_none}
use Rattle.years.proofs.Sheets.{read_by}
use Rattle.years.proofs.Runs.{judged-missing, judged-found}
use Rattle.years.proofs.run.judge_year.Goals as goal

pub returns-in_err-body-clause-refused : goal.returns-in_err-body-clause-refused
returns-in_err-body-clause-refused c =
    let s = c.args in
    let p = err_from_is_err_and c.from_residual.result c.from_residual.ensures.1 in
    λ old room. rw (p.1, p.2) (judged-missing s.file.now s.book.now s.year s.board.now old _ c.in_err-body.ensures.refused)

pub slice_bounds-runoff-end : goal.slice_bounds-runoff-end
slice_bounds-runoff-end c = omega (arith, c.station_count-n.ensures, (accepted-facts c.args.file.now c.requires.accepted).few_rows)

pub slice_bounds-judge_sheets-end : goal.slice_bounds-judge_sheets-end
slice_bounds-judge_sheets-end c = sym (length-take-le _ _ (omega (arith, c.station_count-n.ensures, (accepted-facts c.args.file.now c.requires.accepted).few_rows)))

pub judge_sheets-requires : goal.judge_sheets-requires
judge_sheets-requires c =
    let s = c.args in
    let f = s.file.now in
    let e = ap (λ (x : List ℕ). length x) c.in_ok-body.ensures.part in
    let g = found_none f s.book.now s.year (sym c.in_ok-body.ensures.refused) in
    let few = (accepted-facts f c.requires.accepted).few_rows in (
      read_by c.station_count-n.result (length-take-le _ _ (omega (arith, c.station_count-n.ensures, few))) (omega (arith, c.station_count-n.ensures, few)) (omega (arith, e, g.size, c.station_count-n.ensures)),
      omega (arith, month-most (basin_of f) s.board.now c.requires.can),
    )

pub returns-in_err-judge_sheets-clause-refused : goal.returns-in_err-judge_sheets-clause-refused
returns-in_err-judge_sheets-clause-refused c =
    let s = c.args in
    let f = s.file.now in
    let p = err_from_is_err_and c.from_residual-in_err-judge_sheets.result c.from_residual-in_err-judge_sheets.ensures.1 in
    λ old room. rw (p.1, p.2) (judged-found f s.book.now s.year s.board.now old c.requires (omega arith) room _ c.in_ok-body.ensures.part (sym c.in_ok-body.ensures.refused)
    (length-take-le c.station_count-n.result _ (omega (arith, c.station_count-n.ensures, (accepted-facts f c.requires.accepted).few_rows)) ∙ c.station_count-n.ensures) (λ i. month_at s.board.now) c.in_err-judge_sheets.ensures)

pub returns-clause-refused : goal.returns-clause-refused
returns-clause-refused c =
    let s = c.args in
    let f = s.file.now in
    λ old room. judged-found f s.book.now s.year s.board.now old c.requires (omega arith) room _ c.in_ok-body.ensures.part (sym c.in_ok-body.ensures.refused)
    (length-take-le c.station_count-n.result _ (omega (arith, c.station_count-n.ensures, (accepted-facts f c.requires.accepted).few_rows)) ∙ c.station_count-n.ensures) (λ i. month_at s.board.now) c.in_ok-judge_sheets.ensures
