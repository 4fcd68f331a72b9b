-- `filecheck::patterns::check_patterns` meets its contract. Assumes nothing.
use borrow.Author.Tests.{tests}
use Rattle.std.proofs.Common.{rules}
use Rattle.rules.specs.declared.Refusal.TheVariants.{Pattern}
use Rattle.filerules.specs.FileRules.{pattern_ok}
use Rattle.filecheck.specs.Check.{patterns_verdict}
use Rattle.filecheck.proofs.Faults.{fault-searched, verdict-found}
use Rattle.filecheck.proofs.patterns.check_patterns.Goals as goal

pub returns : goal.returns
unfolding patterns_verdict pattern_ok
returns c =
    let e = fault-searched (pattern_ok c.args.patterns.now) _ _ c.find.ensures.ran (λ x q h. search (rules, tests)) (λ x q h. search (rules, tests)) in
    rw (← e) (verdict-found Pattern _ c.map_or.ensures (λ i p. search rules))
