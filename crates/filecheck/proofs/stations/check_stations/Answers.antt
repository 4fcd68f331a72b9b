use mathlib.Core.Path.{sym, ap, ◌∙◌}
use native.Mathlib.Omega.{arith}
use Rattle.rules.specs.declared.Refusal.TheVariants.{Station}
use Rattle.records.specs.Records.{rows_of}
use Rattle.filerules.specs.FileRules.{station_ok}
use Rattle.filecheck.specs.Check.{stations_verdict}
use Rattle.filecheck.proofs.Faults.{verdict_from, verdict-all, verdict-on, verdict-here, verdict-last}
use Rattle.filecheck.proofs.Found.{found_to, found_none, found-later, found-more, found_all}
use Rattle.filerules.proofs.RowRules.{plain-fails, row-lost, row-good}
use Rattle.filecheck.proofs.stations.check_stations.Goals as goal

pub loop-row-init : goal.loop-row-init
unfolding stations_verdict
loop-row-init c = (omega arith, omega arith, verdict-all _ _ _, c.requires.2 ∙ found_none _)

pub returns-then-not-plain_ok-clause-value : goal.returns-then-not-plain_ok-clause-value
returns-then-not-plain_ok-clause-value c =
    let s = c.args.stations.now in
    let row = c.loop-row.row in
    verdict-here Station (station_ok s) (rows_of s) row (omega arith) (plain-fails s row (sym c.plain_ok.ensures ∙ c.if-not-plain_ok.true)) ∙ c.loop-row.invariant.2

pub returns-in_default-clause-value : goal.returns-in_default-clause-value
returns-in_default-clause-value c =
    let s = c.args.stations.now in
    let row = c.loop-row.row in
    verdict-here Station (station_ok s) (rows_of s) row (omega arith) (row-lost s row (omega arith) _ c.row_below.ensures c.in_default.is) ∙ c.loop-row.invariant.2

pub lead-requires : goal.lead-requires
lead-requires c = found-later c.args.stations.now c.loop-row.row c.in-Some.next _ c.row_below.ensures c.in-Some.is c.requires.1

pub loop-row-preserved : goal.loop-row-preserved
loop-row-preserved c = let s = c.args.stations.now in let row = c.loop-row.row in let found = c.row_below.ensures in let told = c.in-Some.is in (
  omega arith,
  omega arith,
  verdict-on Station (station_ok s) (rows_of s) row (omega arith) (row-good s row (omega arith) _ found _ told (sym c.plain_ok.ensures ∙ c.if-not-plain_ok.false)) ∙ c.loop-row.invariant.2,
  c.lead.ensures ∙ found-more s row _ _ found told _ (omega arith) c.loop-row.invariant.3,
)

pub returns : goal.returns
returns c =
    let s = c.args.stations.now in
    let e = c.check_last.ensures ∙ verdict-last Station (station_ok s) (rows_of s) _ c.loop-row.invariant.0 in
    record { value = e ∙ ap (verdict_from Station (station_ok s) (rows_of s)) (omega arith) ∙ c.loop-row.invariant.2; table_for = λ _. found_all s _ c.loop-row.invariant.0 c.requires.1 _ (c.loop-row.invariant.3 ∙ ap (found_to s) (omega arith)) }
