use mathlib.Core.Path.{ap, ◌∙◌}
use Prim.Native.Nat.{ℕ}
use native.Mathlib.Omega.{arith}
use lib.ListN.{length}
use borrow.Author.Rules.{rules}
use Rattle.std.proofs.lemmas.Result.{err_from_is_err_and}
use Rattle.rules.specs.Tally.{over_limit, over_answer}
use Rattle.sheets.specs.Sheets.{sheet_at}
use Rattle.years.proofs.Sheets.{over-here, over-next, over-end}
use Rattle.years.proofs.judging.judge_sheets.Goals as goal

pub returns-in_err-judge_sheet : goal.returns-in_err-judge_sheet
returns-in_err-judge_sheet c =
    let s = c.args in
    let k = c.loop-k.k in
    let p = err_from_is_err_and c.from_residual.result c.from_residual.ensures.1 in
    rw (p.1, p.2) (over-here (length s.runoff.now) s.body.now k _ (omega arith) (c.in_err-judge_sheet.ensures ∙ ap (λ (x : ℕ). over_answer (over_limit (sheet_at x s.body.now k))) c.loop-k.invariant.1) ∙ c.loop-k.invariant.2)

pub loop-k-preserved : goal.loop-k-preserved
loop-k-preserved c =
    let s = c.args in
    let k = c.loop-k.k in
    let e = c.in_ok-judge_sheet.ensures ∙ ap (λ (x : ℕ). over_answer (over_limit (sheet_at x s.body.now k))) c.loop-k.invariant.1 in
    (omega arith, search rules, over-next (length s.runoff.now) s.body.now k (omega arith) e ∙ c.loop-k.invariant.2, omega arith)

pub returns : goal.returns
returns c = let s = c.args in over-end (length s.runoff.now) s.body.now c.loop-k.k (omega arith) ∙ c.loop-k.invariant.2
