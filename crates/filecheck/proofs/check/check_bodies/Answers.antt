-- `filecheck::check::check_bodies` meets its contract. A refused body gives the verdict; an accepted one leaves it to the next. Assumes nothing.
use mathlib.Core.Path.{sym}
use Rattle.filecheck.proofs.Faults.{rows-good}
use Rattle.filecheck.proofs.check.check_bodies.Goals as goal

pub check_rights-requires : goal.check_rights-requires
check_rights-requires c = (c.check_stations.ensures.table_for c.in_ok-check_stations.was, rows-good _ _ (sym c.in_ok-check_reservoirs.ensures))
