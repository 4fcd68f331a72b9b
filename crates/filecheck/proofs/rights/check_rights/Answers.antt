-- `filecheck::rights::check_rights` meets its contract. Assumes nothing.
use borrow.Author.Tests.{tests}
use Rattle.std.proofs.Common.{rules}
use Rattle.records.specs.Records.{pattern_count}
use Rattle.filerules.specs.FileRules.{right_ok}
use Rattle.filecheck.specs.Check.{fault_verdict, rights_verdict}
use Rattle.filecheck.proofs.Faults.{fault-searched}
use Rattle.filecheck.proofs.rights.check_rights.Goals as goal

pub returns-in-Some : goal.returns-in-Some
unfolding rights_verdict fault_verdict
returns-in-Some c =
    let w = c.args.bodies.now in
    let e = fault-searched (right_ok w.stations.now w.reservoirs.now (pattern_count w.patterns.now) w.rights.now) _ _ c.find.ensures.ran (λ x q h. search (rules, tests)) (λ x q h. search (rules, tests)) in
    rw (← c.right_count-n.ensures, ← e, c.in-Some.is)

pub returns-in-None : goal.returns-in-None
unfolding rights_verdict fault_verdict
returns-in-None c =
    let w = c.args.bodies.now in
    let e = fault-searched (right_ok w.stations.now w.reservoirs.now (pattern_count w.patterns.now) w.rights.now) _ _ c.find.ensures.ran (λ x q h. search (rules, tests)) (λ x q h. search (rules, tests)) in
    rw (← c.right_count-n.ensures, ← e, c.in-None.is)
