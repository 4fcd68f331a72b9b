-- `river::River::walk` meets its contract. Assumes nothing.
use mathlib.Core.Path.{sym, ◌∙◌}
use native.Mathlib.Omega.{arith}
use Rattle.std.proofs.Common.{rules}
use Rattle.records.proofs.Table.{downhill-later}
use Rattle.river.proofs.Walks.{can-flow, can-available, next-walk, changed-row, changed-end}
use Rattle.river.proofs.River.+walk.Goals as goal

pub change-requires : goal.change-requires
change-requires g t c = let h = can-flow c.args.below.now.downhill c.requires in search rules

pub change-requires-2 : goal.change-requires-2
change-requires-2 g t c = let h = can-available c.args.below.now.downhill c.requires in search rules

pub walk-requires : goal.walk-requires
walk-requires g t c κs within =
    let e = sym c.next.ensures ∙ c.in-Some.is in
    let w = downhill-later c.args.below.now.rows c.args.below.now.downhill c.args.row c.in-Some.next c.requires.on e in
    (omega (arith, c.decreases, w.0, w.1), (within, next-walk c.args.below.now.downhill c.requires _ _ c.in-Some.next e))

pub returns-in-Some : goal.returns-in-Some
returns-in-Some g t c = changed-row c.args.below.now.downhill c.requires _ _ _ c.change.ensures c.change-2.ensures (omega arith) (omega arith) _ _ _ (sym c.next.ensures ∙ c.in-Some.is) c.walk.ensures

pub returns-in_default : goal.returns-in_default
returns-in_default g t c = changed-end c.args.below.now.downhill c.requires _ _ _ c.change.ensures c.change-2.ensures (omega arith) (omega arith) (sym c.next.ensures ∙ c.in_default.is)
