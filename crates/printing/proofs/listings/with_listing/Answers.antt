-- A listing that goes on was opened on an accepted file.
use Rattle.std.proofs.Common.{rules}
use Rattle.printing.proofs.Keeping.{begun}
use Rattle.printing.proofs.listings.with_listing.Goals as goal

pub list-requires : goal.list-requires
list-requires g c = c.requires _ (begun c.open-listing.ensures.opened c.if-listing.true (search rules) (search rules))
