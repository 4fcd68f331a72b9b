-- `turns::lines::serve_all` meets its contract. Assumes nothing.
use native.Mathlib.Omega.{arith}
use Rattle.turns.proofs.Facts.{rights-count}
use Rattle.turns.proofs.Lining.{served-more, served-all, line-ready}
use Rattle.turns.proofs.lines.serve_all.Goals as goal

pub serve_line-deep-requires : goal.serve_line-deep-requires
serve_line-deep-requires c =
    let q = c.requires in
    line-ready q (omega arith) (c.loop-i.invariant q.basin q.setting)

pub overflow_add-deep : goal.overflow_add-deep
overflow_add-deep c =
    let q = c.requires in
    let line = c.serve_line-deep.ensures q.basin q.setting in
    omega (arith, (c.loop-i.invariant q.basin q.setting).lost_most, line.lost, line.turned.deep_most, rights-count q.setting, q.setting.accepted.few_rights)

pub loop-i-preserved : goal.loop-i-preserved
loop-i-preserved c = λ b w.
    let p = c.loop-i.invariant b w in
    served-more w (omega arith) p (omega (arith, c.requires.lines, p.lines.size)) (c.serve_line-deep.ensures b w)

pub returns : goal.returns
returns c = λ b w. served-all w (c.loop-i.invariant b w) (omega arith)
