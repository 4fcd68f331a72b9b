-- The call fresh: the board that a basin starts from, for every file and every list, refusals included.
use Rattle.std.specs.Prelude.{List, ◌≡◌, ℕ, ◌<◌, length, get_or, Option, None, Some}
use Rattle.places.specs.Board.{storage_place, storage_at}
use Rattle.rules.specs.declared.Refusal.TheVariants.{Lists}
use Rattle.rules.specs.Answers.{Answer, or_else, unless}
use Rattle.rules.specs.Basin.{Basin}
use Rattle.rules.specs.Tally.{fresh_carried}
use Rattle.records.specs.Records.{reservoir_record, basin_of}
use Rattle.boards.specs.Board.{board_of, board_fits}
use Rattle.answers.specs.Answers.{accepted, file_refusal}

-- the file, and the length of the board
unfoldable pub fresh_refusal : List ℕ → List ℕ → Option Answer
fresh_refusal f board = or_else (file_refusal f) (unless (board_fits board) Lists)

-- starting storages, all else 0
unfoldable pub fresh_board : Basin → List ℕ
fresh_board b = board_of b (fresh_carried b) (λ w k. 0)

pub record Fresh : Type 0 where
  pub answer : Answer
  pub board : List ℕ

unfoldable pub fresh_settled : Option Answer → List ℕ → List ℕ → Fresh
fresh_settled None f board = record { answer = accepted; board = fresh_board (basin_of f) }
fresh_settled (Some a) f board = record { answer = a; board = board }

unfoldable pub fresh_of : List ℕ → List ℕ → Fresh
fresh_of f board = fresh_settled (fresh_refusal f board) f board

-- the same as the call gives it: what it answers, and the board that it leaves
abbrev pub fresh_told : Answer → List ℕ → Fresh
fresh_told a board = record { answer = a; board = board }

-- ---- on the way: from bd to bd' the first k reservoirs hold their starting storages

pub record Started (rs : List ℕ) (k : ℕ) (bd bd' : List ℕ) : Type 0 where
  pub size : length bd' ≡ length bd
  pub storages : (v : ℕ) → v < k → storage_at bd' v ≡ (reservoir_record rs v).start
  pub kept : (p : ℕ) → ((v : ℕ) → v < k → p ≡ storage_place v → ⊥) → get_or bd' p 0 ≡ get_or bd p 0
