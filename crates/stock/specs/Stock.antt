-- The call stock: the sums of a board, for every file and every list, refusals included.
use Rattle.std.specs.Prelude.{List, ◌++◌, ℕ, Option, None, Some, Result, Ok, Err, codes, decimal}
use Rattle.rules.specs.declared.Refusal.{Refusal}
use Rattle.rules.specs.Answers.{Answer, number_of, place_of}
use Rattle.records.specs.Records.{basin_of}
use Rattle.boards.specs.Board.{board_fits, storage_sum, due_sum}
use Rattle.answers.specs.Answers.{lent_refusal}
use Rattle.stock.specs.declared.Totals.{Totals}
use Rattle.stock.specs.declared.Sums.{Sums}

unfoldable pub stock_refusal : List ℕ → List ℕ → Option Answer
stock_refusal f board = lent_refusal f (board_fits board) board

pub record Stock : Type 0 where
  pub number : ℕ
  pub place : ℕ
  pub storage : ℕ
  pub due : ℕ

unfoldable pub stock_settled : Option Answer → List ℕ → List ℕ → Stock
stock_settled None f board = record { number = 0; place = 0; storage = storage_sum (basin_of f) board; due = due_sum (basin_of f) board }
stock_settled (Some a) f board = record { number = a.number; place = a.place; storage = 0; due = 0 }

unfoldable pub stock_of : List ℕ → List ℕ → Stock
stock_of f board = stock_settled (stock_refusal f board) f board

-- the same as the call gives it
abbrev pub totals_told : Result Totals Refusal → Stock
totals_told (Ok t) = record { number = 0; place = 0; storage = t.storage; due = t.due }
totals_told (Err r) = record { number = number_of r; place = place_of r; storage = 0; due = 0 }

-- and as C and the programs that print have it
abbrev pub stock_told : Sums → Stock
stock_told s = record { number = s.number; place = s.place; storage = s.storage; due = s.due }

-- and as it is printed
abbrev pub stock_text : Sums → List ℕ
stock_text s = decimal s.number ++ codes " " ++ decimal s.place ++ codes " " ++ decimal s.storage ++ codes " " ++ decimal s.due
