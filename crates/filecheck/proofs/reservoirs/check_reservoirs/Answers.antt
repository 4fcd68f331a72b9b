-- `filecheck::reservoirs::check_reservoirs` meets its contract. Assumes nothing.
use borrow.Author.Tests.{tests}
use Rattle.std.proofs.Common.{rules}
use Rattle.rules.specs.declared.Refusal.TheVariants.{Reservoir}
use Rattle.filerules.specs.FileRules.{reservoir_ok}
use Rattle.filecheck.specs.Check.{reservoirs_verdict}
use Rattle.filecheck.proofs.Faults.{fault-searched, verdict-found}
use Rattle.filecheck.proofs.reservoirs.check_reservoirs.Goals as goal

pub returns : goal.returns
unfolding reservoirs_verdict
returns c =
    let w = c.args.bodies.now in
    let e = fault-searched (reservoir_ok w.stations.now w.reservoirs.now) _ _ c.find.ensures.ran (λ x q h. search (rules, tests)) (λ x q h. search (rules, tests)) in
    rw (← c.reservoir_count-n.ensures, ← e) (verdict-found Reservoir _ c.map_or.ensures (λ i p. search rules))
