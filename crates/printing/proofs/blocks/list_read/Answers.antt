-- A call more is listed.
use Rattle.lister.proofs.Cutting.{part-rest}
use Rattle.printing.proofs.Keeping.{listed-more}
use Rattle.printing.proofs.blocks.list_read.Goals as goal

pub loop-listing-preserved : goal.loop-listing-preserved
loop-listing-preserved g c = listed-more c.loop-listing.invariant c.in_ok-room_for_month.ensures.made c.list_block-used.ensures.0 (part-rest c.loop-listing.rest.now c.list_block-used.result)
