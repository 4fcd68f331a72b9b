-- Each answer of fresh, case by case. Assumes nothing.
use Rattle.std.specs.Prelude.{Ok, Err}
use mathlib.Core.Path.{◌≡◌}
use mathlib.Core.Logic.{◌≢◌}
use mathlib.Core.List.{List}
use Prim.Native.Nat.{ℕ}
use lib.ListN.{length}
use Rattle.general.proofs.Tests.{eqb-other}
use Rattle.places.specs.Board.{board_length}
use Rattle.rules.specs.declared.Refusal.{Refusal}
use Rattle.rules.specs.declared.Refusal.TheVariants.{Lists}
use Rattle.rules.specs.Answers.{told, or_else, unless}
use Rattle.records.specs.Records.{basin_of}
use Rattle.filecheck.specs.Check.{check_of}
use Rattle.answers.specs.Answers.{accepted, file_refusal}
use Rattle.answers.proofs.Answers.{no-refusal}
use Rattle.fresh.specs.Fresh.{fresh_refusal, fresh_board, fresh_settled, fresh_told, fresh_of}

module _ (f board : List ℕ) where
  pub fresh-refused : (r : Refusal) → Err r ≡ check_of f → fresh_told (told r) board ≡ fresh_of f board
  unfolding fresh_of fresh_refusal fresh_settled file_refusal or_else
  fresh-refused r e = rw (← e)

  module _ (acc : check_of f ≡ Ok tt) where
    pub fresh-unfit : length board ≢ board_length → fresh_told (told Lists) board ≡ fresh_of f board
    unfolding fresh_of fresh_refusal fresh_settled or_else unless
    fresh-unfit n = rw (no-refusal f acc, eqb-other (length board) board_length n)

    pub fresh-made : (made : List ℕ) → length board ≡ board_length → made ≡ fresh_board (basin_of f) → fresh_told accepted made ≡ fresh_of f board
    unfolding fresh_of fresh_refusal fresh_settled or_else unless
    fresh-made made n e = rw (no-refusal f acc, n, e)
