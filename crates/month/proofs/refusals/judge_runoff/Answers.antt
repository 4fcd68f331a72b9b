-- `month::refusals::judge_runoff` meets its contract. Assumes nothing.
use mathlib.Core.Path.{ap, ◌∙◌}
use Prim.Native.Nat.{◌≤◌, ◌<◌}
use borrow.Author.Tests.{tests}
use Rattle.std.proofs.Common.{rules}
use Rattle.std.proofs.lemmas.Iterator.{YieldsList-from_slice, IsFirst-from_position}
use Rattle.rules.specs.Tally.{most_runoff, over_answer}
use Rattle.month.proofs.Settling.{over-found, over-told}
use Rattle.month.proofs.refusals.judge_runoff.Goals as goal

pub returns : goal.returns
returns c =
    let e = over-found c.args.runoff.now c.position.result
    (IsFirst-from_position _ _ _ (λ x. most_runoff < x) (λ x. x ≤ most_runoff) c.position.ensures.ran (YieldsList-from_slice c.args.runoff.now cc) (λ x q h. search (rules, tests)) (λ x q h. search (rules, tests))) in
    over-told c.position.result c.map_or.result (λ i q. search rules) c.map_or.ensures ∙ ap over_answer e
