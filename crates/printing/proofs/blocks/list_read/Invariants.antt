-- The block is listed up to `rest`. A call that lists nothing is the last.
use Rattle.std.proofs.Common.{◌+◌, length, cond}
use Rattle.printing.proofs.Keeping.{Listed}
use Rattle.printing.proofs.blocks.list_read.Given as goal

abbrev pub invariant-loop-listing : goal.invariant-loop-listing
invariant-loop-listing g l = Listed l.block l.last l.rest l.fn.listing l.listing

abbrev pub decreases-loop-listing : goal.decreases-loop-listing
decreases-loop-listing g l = length l.rest + cond l.listing.more 1 0
