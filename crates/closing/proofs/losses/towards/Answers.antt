-- `closing::losses::towards` meets its contract. Assumes nothing.
use mathlib.Core.Path.{sym}
use native.Mathlib.Omega.{arith}
use Prim.Native.Nat.{◌-◌}
use Rattle.rules.proofs.Areas.{towards-up, towards-down, part-le}
use Rattle.closing.proofs.losses.towards.Goals as goal

pub returns-then-a-b : goal.returns-then-a-b
returns-then-a-b c =
    let s = c.args in (
      sym (towards-up s.a s.b s.n s.d c.if-a-b.true),
      omega (arith, c.requires, c.if-a-b.true, part-le (s.b - s.a) s.n s.d (omega arith)),
    )

pub returns : goal.returns
returns c =
    let s = c.args in (
      sym (towards-down s.a s.b s.n s.d c.if-a-b.false),
      omega (arith, c.requires),
    )
