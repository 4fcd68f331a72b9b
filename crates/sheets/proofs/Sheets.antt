-- A sheet of runoff by its bytes. Assumes nothing.
use mathlib.Core.List.{List}
use mathlib.Core.Path.{◌≡◌}
use Prim.Native.Nat.{ℕ, ◌*◌}
use lib.ListN.{length}
use Rattle.general.proofs.Tables.{tab-length}
use Rattle.numbers.specs.Bytes.{le32_at}
use Rattle.sheets.specs.Sheets.{sheet_of}

pub sheet-length : (n : ℕ) (bytes : List ℕ) → length (sheet_of n bytes) ≡ n
unfolding sheet_of
sheet-length n bytes = tab-length (λ w. le32_at bytes (4 * w)) n
