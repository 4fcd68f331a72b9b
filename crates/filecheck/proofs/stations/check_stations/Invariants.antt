-- `filecheck::stations::check_stations` meets its contract. The loop's invariant: the rows not yet looked at give the verdict, and the table has the rows
-- below of the others. The last row has its own function. Assumes nothing.
use mathlib.Core.Path.{◌≡◌}
use Prim.Native.Nat.{◌+◌, ◌≤◌}
use Rattle.rules.specs.declared.Refusal.TheVariants.{Station}
use Rattle.records.specs.Records.{rows_of}
use Rattle.filerules.specs.FileRules.{station_ok}
use Rattle.filecheck.specs.Check.{stations_verdict}
use Rattle.filecheck.proofs.Faults.{verdict_from}
use Rattle.filecheck.proofs.Found.{found_to}
use Rattle.filecheck.proofs.stations.check_stations.Given as goal

abbrev pub invariant-loop-row : goal.invariant-loop-row
invariant-loop-row l = (l.last + 1 ≡ rows_of l.stations) × (l.row ≤ l.last) × (verdict_from Station (station_ok l.stations) (rows_of l.stations) l.row ≡ stations_verdict l.stations) × (l.below.rows ≡ found_to l.stations l.row)
