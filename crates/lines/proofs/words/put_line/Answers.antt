use Prim.Native.Nat.{suc, ◌-◌}
use mathlib.Core.Path.{◌∙◌}
use native.Mathlib.Omega.{arith}
use borrow.Author.Rules.{rules}
use lib.ListN.{length, get_or, take, drop, length-take, length-drop, length-set}
use Rattle.lines.proofs.Decimals.{at-most-twenty}
use Rattle.lines.proofs.Digits.{other-at, put-more-of, put-line-end}
use Rattle.lines.proofs.words.put_line.Goals as goal

pub put_decimal-at-requires : goal.put_decimal-at-requires
put_decimal-at-requires c = omega (arith, c.requires, at-most-twenty (get_or c.args.numbers.now 0 0) (c.type_inv.numbers 0).fits)

pub loop-n-init : goal.loop-n-init
loop-n-init c = (search rules, search rules, omega (arith, c.put_decimal-at.ensures.ends, at-most-twenty (get_or c.args.numbers.now 0 0) (c.type_inv.numbers 0).fits), c.put_decimal-at.ensures)

pub put_decimal-at-requires-in-loop-n : goal.put_decimal-at-requires-in-loop-n
put_decimal-at-requires-in-loop-n c =
    let l = c.loop-n in
    let numbers = c.args.numbers.now in
    omega (arith, c.requires.1, l.invariant.0, l.invariant.2, c.loop-n-test.true, length-take (length numbers - 1) (drop 1 numbers), length-drop 1 numbers, length-set l.out l.at 32, at-most-twenty (get_or (take (length numbers - 1) (drop 1 numbers)) l.n-index 0) c.type_inv.n.fits)

pub loop-n-preserved : goal.loop-n-preserved
loop-n-preserved c =
    let l = c.loop-n in
    let p = c.put_decimal-at-in-loop-n in
    let numbers = c.args.numbers.now in (
      p.auto.out ∙ length-set l.out l.at 32 ∙ l.invariant.0,
      omega (arith, c.loop-n-test.true),
      omega (arith, l.invariant.2, p.ensures.ends, at-most-twenty (get_or (take (length numbers - 1) (drop 1 numbers)) l.n-index 0) (omega (arith, (c.type_inv.numbers (suc l.n-index)).fits, other-at numbers c.requires.0 l.n-index))),
      put-more-of (get_or numbers 0 0) (take (length numbers - 1) (drop 1 numbers)) l.n-index c.loop-n-test.true
          (omega (arith, c.requires.1, l.invariant.0, l.invariant.2, c.loop-n-test.true, length-take (length numbers - 1) (drop 1 numbers), length-drop 1 numbers)) l.invariant.3 p.ensures,
    )

pub returns-clause-line : goal.returns-clause-line
returns-clause-line c =
    let l = c.loop-n in
    let numbers = c.args.numbers.now in
    put-line-end numbers l.n-index c.requires.0 (omega (arith, c.loop-n-test.false, l.invariant.1, length-take (length numbers - 1) (drop 1 numbers), length-drop 1 numbers))
    (omega (arith, c.requires, l.invariant.0, l.invariant.1, l.invariant.2, length-take (length numbers - 1) (drop 1 numbers), length-drop 1 numbers)) l.invariant.3
