use native.Mathlib.Omega.{arith}
use Rattle.lines.proofs.Texts.{lines_none, lines_more}
use Rattle.lines.proofs.month_lines.put_rights.Goals as goal

pub loop-i-init : goal.loop-i-init
loop-i-init c = let s = c.args in (omega arith, lines_none s.month s.rights.now s.report.now s.text.now)

pub loop-i-preserved : goal.loop-i-preserved
loop-i-preserved c =
    let s = c.args in
    let l = c.loop-i in
    (omega arith, lines_more s.month s.rights.now s.report.now s.text.now l.i l.text _ (omega arith) l.invariant.1 c.put_right.ensures)
