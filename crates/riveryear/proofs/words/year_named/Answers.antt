-- An empty word, one digit more, a byte that ends the reading, and the end of the word.
use Rattle.std.proofs.Common.{arith, sym, ◌∙◌}
use Rattle.std.proofs.lemmas.Bool.Decides.{nat_tests}
use Rattle.riveryear.proofs.Digits.{none_named, some_named, from_end, from_other, from_digit}
use Rattle.riveryear.proofs.words.year_named.Goals as goal

pub returns-then-is_empty : goal.returns-then-is_empty
returns-then-is_empty c = sym (none_named c.args.word.now (grind (arith, nat_tests)))

pub loop-c-init : goal.loop-c-init
loop-c-init c = (omega arith, some_named c.args.word.now (λ e. grind (arith, nat_tests)))

pub returns-in_err-year : goal.returns-in_err-year
returns-in_err-year c =
    let l = c.loop-c in
    c.from_residual.ensures ∙ sym (from_other c.args.word.now l.year l.c-index c.loop-c-test.true c.in_err-year.ensures) ∙ l.invariant.1

pub loop-c-preserved : goal.loop-c-preserved
loop-c-preserved c =
    let l = c.loop-c in
    let (can, longer) = c.in_ok-year.ensures in
    rw longer (can.1, sym (from_digit c.args.word.now l.year l.c-index c.loop-c-test.true can.0) ∙ l.invariant.1)

pub returns : goal.returns
returns c = let l = c.loop-c in sym (from_end c.args.word.now l.year l.c-index c.loop-c-test.false l.invariant.0) ∙ l.invariant.1
