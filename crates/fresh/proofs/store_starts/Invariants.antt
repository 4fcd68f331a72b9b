-- `fresh::store_starts` meets its contract. The loop's invariant: the reservoirs passed hold their starting storages. Assumes nothing.
use Rattle.std.proofs.Common.{◌≡◌, ℕ, ◌<◌, get_or}
use Rattle.records.specs.Records.{reservoir_record}
use Rattle.fresh.proofs.store_starts.Given as goal

abbrev pub invariant-loop-v : goal.invariant-loop-v
invariant-loop-v l = (v : ℕ) → v < l.v → get_or l.place-items v 0 ≡ (reservoir_record l.reservoirs v).start
