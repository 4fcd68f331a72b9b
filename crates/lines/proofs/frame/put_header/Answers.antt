-- `lines::frame::put_header` meets its contract. Assumes nothing.
use Rattle.listing.specs.Listing.{header}
use Rattle.lines.proofs.frame.put_header.Goals as goal

pub returns : goal.returns
unfolding header
returns c = c.push.ensures
