-- The call short_months (02, No. 6): in how many months of the present water year a right was short, for every file, list and place of a right, refusals
-- included. It is refused as stock is.
use Rattle.std.specs.Prelude.{List, ◌++◌, ℕ, ltb, length, Option, None, Some, Result, Ok, Err, codes, decimal}
use Rattle.general.specs.Sums.{only}
use Rattle.general.specs.Tests.{bits_set}
use Rattle.places.specs.Board.{word_at}
use Rattle.rules.specs.declared.Refusal.{Refusal}
use Rattle.rules.specs.Answers.{Answer, number_of, place_of}
use Rattle.rules.specs.Basin.{Basin}
use Rattle.records.specs.Records.{basin_of}
use Rattle.stock.specs.Stock.{stock_refusal}
use Rattle.stock.specs.declared.months.Months as program

pub record Months : Type 0 where
  pub number : ℕ
  pub place : ℕ
  pub months : ℕ

-- how many of the twelve bits of its word are set; none for a right that the basin lacks
unfoldable pub short_months : Basin → List ℕ → ℕ → ℕ
short_months b board i = only (ltb i (length b.rights)) (bits_set 12 (word_at board i))

unfoldable pub months_settled : Option Answer → Basin → List ℕ → ℕ → Months
months_settled None b board i = record { number = 0; place = 0; months = short_months b board i }
months_settled (Some a) b board i = record { number = a.number; place = a.place; months = 0 }

unfoldable pub short_months_of : List ℕ → List ℕ → ℕ → Months
short_months_of f board i = months_settled (stock_refusal f board) (basin_of f) board i

-- the same as the call gives it
abbrev pub counted_told : Result ℕ Refusal → Months
counted_told (Ok n) = record { number = 0; place = 0; months = n }
counted_told (Err r) = record { number = number_of r; place = place_of r; months = 0 }

-- and as C and the programs that print have it
abbrev pub months_told : program.Months → Months
months_told m = record { number = m.number; place = m.place; months = m.months }

-- and as it is printed
abbrev pub months_text : program.Months → List ℕ
months_text m = decimal m.number ++ codes " " ++ decimal m.place ++ codes " " ++ decimal m.months
