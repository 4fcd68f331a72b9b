-- Sheets of runoff in bytes: a number of four bytes for each of n stations, sheet after sheet.
use Rattle.std.specs.Prelude.{List, ℕ, ◌*◌, take, drop}
use Rattle.general.specs.Tables.{tab}
use Rattle.numbers.specs.Bytes.{le32_at}

abbrev pub sheet_size : ℕ → ℕ
sheet_size n = 4 * n

unfoldable pub sheet_of : ℕ → List ℕ → List ℕ
sheet_of n bytes = tab n (λ w. le32_at bytes (4 * w))

-- the bytes of sheet k, counted from 0, and its numbers
abbrev pub sheet_part : ℕ → List ℕ → ℕ → List ℕ
sheet_part n bytes k = take (sheet_size n) (drop (sheet_size n * k) bytes)

abbrev pub sheet_at : ℕ → List ℕ → ℕ → List ℕ
sheet_at n bytes k = sheet_of n (sheet_part n bytes k)
