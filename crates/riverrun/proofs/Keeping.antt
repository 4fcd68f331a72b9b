-- What the program keeps from block to block of a months file. Assumes nothing.
use mathlib.Core.Path.{◌≡◌}
use Prim.Native.Nat.{ℕ, ◌<◌}
use native.Mathlib.Omega.{arith}
use Rattle.filecheck.proofs.Accepted.{accepted-facts}
use Rattle.records.specs.Records.{basin_of}
use Rattle.listing.specs.Run.{sheet_bytes}
use Rattle.lister.specs.declared.Listing.{Listing}
use Rattle.lister.specs.Lister.{InOrder}

-- a sheet has some bytes
pub some-sheet : {sheet : ℕ} {l : Listing} → InOrder l → sheet ≡ sheet_bytes (basin_of l.file.now) → 0 < sheet
some-sheet {l} i e = omega (arith, e, (accepted-facts l.file.now i.accepted).connected.some_row)
