-- The listing goes on, and its months can be counted as long as there are blocks.
use Rattle.std.proofs.Common.{◌≡◌, true, ◌*◌, ◌≤◌}
use Rattle.records.specs.Records.{basin_of}
use Rattle.listing.specs.Run.{sheet_bytes}
use Rattle.lister.specs.Lister.{Kept}
use Rattle.printing.specs.Going.{Going}
use Rattle.riverrun.proofs.blocks.list_all.Given as goal

abbrev pub invariant-loop : goal.invariant-loop
invariant-loop g l =
    Going l.listing × (l.size ≡ sheet_bytes (basin_of l.listing.file.now)) × (l.listing.more ≡ true) × (l.listing.months ≤ 65536 * l.counter) × (l.counter ≤ 140737488355328) × Kept l.initial.listing l.listing
