-- What a look down the river gives a right, in the arrays' words.
use Rattle.std.specs.Prelude.{Bool, true, List, ◌≡◌, ℕ, ◌<◌, min, get_or}
use Rattle.general.specs.Tests.{has}
use Rattle.rules.specs.Turn.{number_at}
use Rattle.records.specs.declared.rights.Kind.{Kind}
use Rattle.records.specs.declared.rights.Kind.TheVariants.{Direct, Project, Instream, Storage}
use Rattle.records.specs.Records.{rows_of, stations_of}
use Rattle.river.specs.declared.Seen.{Seen}
use Rattle.river.specs.declared.Seen.TheVariants as seen
use Rattle.records.specs.Table.{path_by}
use Rattle.river.specs.Arrays.{seen_on}
use Rattle.grants.specs.declared.grants.Reason.{Reason}
use Rattle.grants.specs.declared.grants.Reason.TheVariants.{Met, Called, RiverLow, StorageOut}
use Rattle.grants.specs.declared.grants.RiverPart.{RiverPart}

-- 01's number of a reason
unfoldable pub why_of : Reason → ℕ
why_of Met = 0
why_of (Called s) = 1
why_of (RiverLow s) = 2
why_of StorageOut = 3

-- a row of the table, and a station at each row of its path
pub record CanSee (st t : List ℕ) (row : ℕ) : Type 0 where
  pub on : row < 64
  pub stationed : (q : ℕ) → has q (path_by t row) ≡ true → q < rows_of st

-- the row that decides: an instream right's own, else what is seen on the right's path
abbrev pub seen_by : Kind → List ℕ → List ℕ → List Bool → ℕ → Seen
seen_by Direct t a sh row = seen_on sh a row (path_by t row)
seen_by Project t a sh row = seen_on sh a row (path_by t row)
seen_by Instream t a sh row = seen.Low row
seen_by Storage t a sh row = seen_on sh a row (path_by t row)

unfoldable pub part_of : List ℕ → ℕ → Seen → ℕ
part_of a demand (seen.Called q) = 0
part_of a demand (seen.Low q) = min demand (get_or a q 0)

unfoldable pub reason_of : List ℕ → Seen → Reason
reason_of st (seen.Called q) = Called (number_at (stations_of st) q)
reason_of st (seen.Low q) = RiverLow (number_at (stations_of st) q)

pub record RiverGave (st t a : List ℕ) (sh : List Bool) (kind : Kind) (row demand : ℕ) (v : RiverPart) : Type 0 where
  pub part : v.part ≡ part_of a demand (seen_by kind t a sh row)
  pub reason : v.part < demand → v.reason ≡ reason_of st (seen_by kind t a sh row)
