-- The network as the program reads it off the body of stations.
use Rattle.std.specs.Prelude.{List, ℕ}
use Rattle.records.specs.Records.{station_record}

abbrev pub order_at : List ℕ → ℕ → ℕ
order_at s i = (station_record s i).order
