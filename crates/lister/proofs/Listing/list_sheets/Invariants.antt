-- The loop's invariant: the sheets before `used` are listed, and the rest of the block is left. Assumes nothing.
use mathlib.Core.Path.{◌≡◌}
use lib.ListN.{drop}
use Rattle.std.specs.Slice.Iter.{chunks_exact_rest, chunks_exact_size}
use Rattle.lister.proofs.Cutting.{Sofar}
use Rattle.lister.proofs.Listing.list_sheets.Given as goal

abbrev pub invariant-loop-sheet : goal.invariant-loop-sheet
invariant-loop-sheet l = (chunks_exact_size l.sheet-iterator ≡ l.size) × (chunks_exact_rest l.sheet-iterator ≡ drop l.used l.block) × Sofar l.block l.initial.self l.self l.used
