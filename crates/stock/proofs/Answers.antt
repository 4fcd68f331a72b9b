-- Each answer of stock, case by case. Assumes nothing.
use Rattle.std.specs.Prelude.{Option, None, Some, Ok, Err}
use mathlib.Core.Path.{◌≡◌, refl, sym, ap}
use mathlib.Core.Logic.{◌≢◌}
use mathlib.Core.Bool.{true, false}
use mathlib.Core.List.{List}
use Prim.Native.Nat.{ℕ}
use lib.ListN.{length}
use Rattle.general.proofs.Tests.{eqb_same, eqb-other, eq_of}
use Rattle.places.specs.Board.{board_length}
use Rattle.rules.specs.declared.Refusal.{Refusal}
use Rattle.rules.specs.declared.Refusal.TheVariants.{Lists, Board}
use Rattle.rules.specs.Answers.{Answer, told}
use Rattle.records.specs.Records.{basin_of}
use Rattle.filecheck.specs.Check.{check_of}
use Rattle.boards.specs.Board.{possible, board_fits, storage_sum, due_sum}
use Rattle.answers.proofs.Numbered.{Numbered, lent-numbered}
use Rattle.answers.proofs.Answers.{lent-file, lent-unfit, lent-impossible, lent_none, lent-clear}
use Rattle.stock.specs.declared.Totals.{Totals}
use Rattle.stock.specs.Stock.{Stock, stock_refusal, stock_settled, stock_of, totals_told}

module _ (f board : List ℕ) where
  fits : length board ≡ board_length → board_fits board ≡ true
  fits size = rw size (eqb_same board_length)

  pub stock-file : (r : Refusal) → Err r ≡ check_of f → Some (told r) ≡ stock_refusal f board
  unfolding stock_refusal
  stock-file r e = lent-file f (board_fits board) board r e

  module _ (acc : check_of f ≡ Ok tt) where
    pub stock-unfit : length board ≢ board_length → Some (told Lists) ≡ stock_refusal f board
    unfolding stock_refusal
    stock-unfit n = lent-unfit f (board_fits board) board acc (eqb-other (length board) board_length n)

    pub stock-impossible : length board ≡ board_length → possible (basin_of f) board ≡ false → Some (told Board) ≡ stock_refusal f board
    unfolding stock_refusal
    stock-impossible size n = lent-impossible f (board_fits board) board acc (fits size) n

  -- nothing is turned down: the file is accepted, the board fits and is possible
  pub record Clear : Type 0 where
    pub file-ok : check_of f ≡ Ok tt
    pub size : length board ≡ board_length
    pub board-ok : possible (basin_of f) board ≡ true

  pub stock-clear : stock_refusal f board ≡ None → Clear
  unfolding stock_refusal
  stock-clear e = let k = lent-clear f (board_fits board) board e in record { file-ok = k.file-ok; size = eq_of k.lists-ok; board-ok = k.board-ok }

  pub clear_none : Clear → stock_refusal f board ≡ None
  unfolding stock_refusal
  clear_none k = lent_none f (board_fits board) board (record { file-ok = k.file-ok; lists-ok = fits k.size; board-ok = k.board-ok })

  pub stock-refused : (r : Refusal) → Some (told r) ≡ stock_refusal f board → totals_told (Err r) ≡ stock_of f board
  unfolding stock_of stock_settled
  stock-refused r e = rw (← e)

  pub stock-made : (t : Totals) → None ≡ stock_refusal f board → t.storage ≡ storage_sum (basin_of f) board → t.due ≡ due_sum (basin_of f) board → totals_told (Ok t) ≡ stock_of f board
  unfolding stock_of stock_settled
  stock-made t e es ed = rw (← e, es, ed)

  -- sums are those of a board that is not refused
  pub summed-clear : (t : Totals) → totals_told (Ok t) ≡ stock_of f board → Clear
  unfolding stock_of stock_refusal stock_settled
  summed-clear t e = stock-clear (go (stock_refusal f board) (lent-numbered f (board_fits board) board) e)
    where
      go : (v : Option Answer) → Numbered v → totals_told (Ok t) ≡ stock_settled v f board → v ≡ None
      go None n h = refl
      go (Some a) n h = absurd (n (ap (λ (s : Stock). s.number) (sym h)))
