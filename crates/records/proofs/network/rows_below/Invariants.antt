-- `records::network::rows_below` meets its contract. The loop's invariant: the first places hold the rows below. Assumes nothing.
use Rattle.std.proofs.Common.{◌≡◌, ℕ, ◌<◌, get_or}
use Rattle.rules.specs.Path.{row_below}
use Rattle.records.specs.Records.{stations_of}
use Rattle.records.specs.Table.{below_code}
use Rattle.records.proofs.network.rows_below.Given as goal

abbrev pub invariant-loop-row : goal.invariant-loop-row
invariant-loop-row l = (k : ℕ) → k < l.row → get_or l.place-items k 0 ≡ below_code (row_below (stations_of l.stations) k)
