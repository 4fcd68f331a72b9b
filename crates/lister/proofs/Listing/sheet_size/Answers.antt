-- `lister::Listing::sheet_size` meets its contract. Assumes nothing.
use native.Mathlib.Omega.{arith}
use Rattle.records.proofs.Decoded.{file-rows}
use Rattle.lister.proofs.Listing.sheet_size.Goals as goal

pub returns : goal.returns
returns c = omega (arith, c.rows.ensures, file-rows c.args.self.now.file.now c.of.ensures.stations)
