-- `lines::month_lines::put_month` meets its contract: the rights' lines and the end line. Assumes nothing.
use Rattle.lines.proofs.Texts.{few-lost, lost-at, month-put}
use mathlib.Core.Path.{◌∙◌}
use native.Mathlib.Omega.{arith}
use Rattle.lines.proofs.month_lines.put_month.Goals as goal

pub evaporation_sum-evaporation-requires : goal.evaporation_sum-evaporation-requires
evaporation_sum-evaporation-requires c =
    let e = c.shape-shape.ensures in
    rw (c.rows_end.ensures, c.deep_place.ensures, e.0, e.1, e.2)
    (few-lost c.args.report.now _ _ (omega (arith, c.requires.0.told)) c.requires.0.few_reservoirs c.requires.0.small)

pub returns : goal.returns
returns c =
    let s = c.args in
    let e = c.shape-shape.ensures in
    λ ps. month-put s.bodies.now ps s.report.now s.board.now s.month _ _ _ c.put_rights.ensures
    (c.evaporation_sum-evaporation.ensures ∙ rw (c.rows_end.ensures, c.deep_place.ensures, e.0, e.1, e.2) (lost-at s.report.now _ _ (omega (arith, c.requires.0.told))))
    (rw e.2 at c.storage_sum-storage.ensures) (rw e.1 at c.due_sum-pending.ensures)
    (rw (c.flow_place.ensures, e.0, e.1) at c.put_end.ensures)
