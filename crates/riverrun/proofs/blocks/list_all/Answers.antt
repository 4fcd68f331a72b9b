-- A sheet has some bytes, and whole sheets fill the block.
use Rattle.riverrun.proofs.Keeping.{some-sheet}
use Rattle.riverrun.proofs.blocks.list_all.Goals as goal

pub nonzero_rem-full : goal.nonzero_rem-full
nonzero_rem-full g c = some-sheet c.requires.going.in_order c.sheet_size-size.ensures

pub read_block-got-requires : goal.read_block-got-requires
read_block-got-requires g c = some-sheet c.requires.going.in_order c.sheet_size-size.ensures
