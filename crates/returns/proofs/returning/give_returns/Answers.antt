-- `returns::returning::give_returns` meets its contract. Assumes nothing.
use Prim.Native.Nat.{ℕ}
use mathlib.Core.Path.{sym, subst}
use native.Mathlib.Omega.{arith}
use Rattle.returns.specs.Returning.{Gave}
use Rattle.returns.proofs.Points.{gave-none, gave-nothing}
use Rattle.returns.proofs.returning.give_returns.Goals as goal

pub returns-then-back-eq0 : goal.returns-then-back-eq0
returns-then-back-eq0 c =
    let t = c.args.setting.now.below.now.rows in
    let ri = c.args.setting.now.bodies.now.rights.now in
    let f = c.args.river.now.flow in
    let a = c.args.river.now.available in
    let bd = c.args.board.now in
    λ pattern s. subst (λ (k : ℕ). Gave t pattern ri c.args.back.right k c.args.back.amount f a bd f a bd 0) (sym c.if-back-eq0.true)
    (gave-none t pattern ri c.args.back.right c.args.back.amount f a bd c.requires.river.within)

pub returns-then-back-eq0-2 : goal.returns-then-back-eq0-2
returns-then-back-eq0-2 c =
    λ pattern s. gave-nothing c.args.setting.now.below.now.rows pattern c.args.setting.now.bodies.now.rights.now c.args.back.right c.args.back.amount c.args.river.now.flow c.args.river.now.available c.args.board.now c.if-back-eq0-2.true
    (s (omega arith)).good.sum_most c.requires.river.within c.args.back.points c.requires.points-ok.few c.requires.points-ok.rows
