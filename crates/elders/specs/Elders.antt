-- Younger rights can't touch this month's elder ones (02, No. 8): of any two files, and any two month calls that are accepted. It cites only definitions;
-- proofs/Theorems.antt proves it. It is said of a month and not of a season: in specs/Season.antt a younger right's return helps an elder one a month later.
use Rattle.std.specs.Prelude.{◌≡◌, true, List, ℕ, ◌*◌, ◌≤◌, ◌<◌, length, get_or, take, Ok}
use Rattle.rules.specs.Tally.{report_length}
use Rattle.places.specs.Report.{from_river_place, from_storage_place, reason_place, station_place}
use Rattle.sections.specs.File.{width_of, section_of}
use Rattle.records.specs.Records.{right_count, basin_of}
use Rattle.filecheck.specs.Check.{check_of}
use Rattle.boards.specs.Board.{possible}
use Rattle.fresh.specs.Fresh.{fresh_board}
use Rattle.month.specs.Month.{Outcome, MonthMeets}

-- Two files with the same stations, reservoirs and patterns, byte for byte, and the same first k records of rights. Of the rights after these nothing is
-- asked, neither of what kind they are nor how many.
pub record SameElders (f g : List ℕ) (k : ℕ) : Type 0 where
  pub stations : section_of f 0 ≡ section_of g 0
  pub reservoirs : section_of f 1 ≡ section_of g 1
  pub patterns : section_of f 2 ≡ section_of g 2
  pub rights : take (width_of 3 * k) (section_of f 3) ≡ take (width_of 3 * k) (section_of g 3)
  pub first_has : k ≤ right_count (section_of f 3)
  pub second_has : k ≤ right_count (section_of g 3)

-- an accepted month call: it meets the month's contract, and its number is 0
pub record AcceptedCall (f runoff board report : List ℕ) (o : Outcome) : Type 0 where
  pub meets : MonthMeets f runoff board report o
  pub number : o.answer.number ≡ 0

-- what two reports tell of right i: the same two amounts, the same reason, the same station
pub record SameLine (x y : List ℕ) (i : ℕ) : Type 0 where
  pub from-river : get_or x (from_river_place i) 0 ≡ get_or y (from_river_place i) 0
  pub from-storage : get_or x (from_storage_place i) 0 ≡ get_or y (from_storage_place i) 0
  pub reason : get_or x (reason_place i) 0 ≡ get_or y (reason_place i) 0
  pub station : get_or x (station_place i) 0 ≡ get_or y (station_place i) 0

-- On one board and with one runoff the first k rights have the same lines in both reports. The lists lent for the reports may differ, in length too.
abbrev pub EldersSafe : Type 0
EldersSafe = (f g : List ℕ) (k : ℕ) → SameElders f g k → (runoff board lent lent' : List ℕ) (o p : Outcome)
    → AcceptedCall f runoff board lent o → AcceptedCall g runoff board lent' p
    → (i : ℕ) → i < k → SameLine o.report p.report i

-- ---- new permits: all rights of f, and any others after them

-- the month is accepted with them as it was without, and every right that was there has the line that it had
pub record Unharmed (f g runoff board lent : List ℕ) (o p : Outcome) : Type 0 where
  pub accepted : AcceptedCall g runoff board lent p
  pub lines : (i : ℕ) → i < right_count (section_of f 3) → SameLine o.report p.report i

-- It is so in every month that is accepted without them, on whatever board, if the file with them is accepted and the list for its report is long enough.
abbrev pub NewPermits : Type 0
NewPermits = (f g : List ℕ) → SameElders f g (right_count (section_of f 3)) → check_of g ≡ Ok tt → (runoff board lent lent' : List ℕ) (o p : Outcome)
    → AcceptedCall f runoff board lent o → report_length (basin_of g) ≤ length lent' → MonthMeets g runoff board lent' p
    → Unharmed f g runoff board lent' o p

-- ---- one board possible for both: there is always one, since fresh gives both files the same

abbrev pub OneFreshBoard : Type 0
OneFreshBoard = (f g : List ℕ) (k : ℕ) → SameElders f g k → fresh_board (basin_of f) ≡ fresh_board (basin_of g)

-- ---- what an accepted call says of what it was lent: the file is accepted, and the board possible for it

pub record GoodLent (f board : List ℕ) : Type 0 where
  pub file_accepted : check_of f ≡ Ok tt
  pub board_possible : possible (basin_of f) board ≡ true

abbrev pub AcceptedLent : Type 0
AcceptedLent = (f runoff board report : List ℕ) (o : Outcome) → AcceptedCall f runoff board report o → GoodLent f board
