-- Over a season younger rights do touch elder ones (02, No. 8): what one of them returns may help an elder one in a later month. Computed on 01's October
-- and on the file that has its first right and no other, call after call. It cites only definitions; proofs/Season.antt computes it.
use Rattle.std.specs.Prelude.{◌≡◌, List, [], ◌∷◌, ℕ, get_or, replicate}
use Rattle.places.specs.Board.{board_length}
use Rattle.places.specs.Report.{from_river_place, from_storage_place, reason_place, station_place}
use Rattle.rules.specs.Answers.{Answer}
use Rattle.filecheck.specs.October.{october_file, elder_alone_file}
use Rattle.fresh.specs.Fresh.{Fresh, fresh_of}
use Rattle.month.specs.Month.{Outcome, month_of}
use Rattle.elders.specs.Elders.{SameElders}

-- what is lent: a board, two sheets, a list that is long enough for the report of either file
abbrev pub lent_board : List ℕ
lent_board = replicate board_length 0

abbrev pub october_sheet : List ℕ
october_sheet = 2000 ∷ 700 ∷ 300 ∷ []

abbrev pub november_sheet : List ℕ
november_sheet = 0 ∷ 0 ∷ 300 ∷ []

abbrev pub lent_list : List ℕ
lent_list = replicate 28 0

-- the call fresh; then October's month call on its board; then that of a dry November on the board that October leaves
abbrev pub fresh_call : List ℕ → Fresh
fresh_call f = fresh_of f lent_board

abbrev pub october_call : List ℕ → Outcome
october_call f = month_of f october_sheet (fresh_call f).board lent_list

abbrev pub november_call : List ℕ → Outcome
november_call f = month_of f november_sheet (october_call f).board lent_list

-- accepted, with so many rights short
abbrev pub short_rights : ℕ → Answer
short_rights n = record { number = 0; place = n }

-- what a report tells of the first right
abbrev pub first_line : List ℕ → List ℕ
first_line l = get_or l (from_river_place 0) 0 ∷ get_or l (from_storage_place 0) 0 ∷ get_or l (reason_place 0) 0 ∷ get_or l (station_place 0) 0 ∷ []

pub record Season : Type 0 where
  -- the first right is the same in both files, and so is the board with which they begin
  pub elders : SameElders october_file elder_alone_file 1
  pub one_board : (fresh_call october_file).board ≡ (fresh_call elder_alone_file).board
  -- in October it has the same line, whether the other four are there or not
  pub october_answer : (october_call october_file).answer ≡ short_rights 2
  pub october-line : first_line (october_call october_file).report ≡ 1500 ∷ 0 ∷ 0 ∷ 0 ∷ []
  pub october_alone : (october_call elder_alone_file).answer ≡ short_rights 0
  pub october_line_alone : first_line (october_call elder_alone_file).report ≡ 1500 ∷ 0 ∷ 0 ∷ 0 ∷ []
  -- in November what the second right returns a month late arrives at its row: it has these 242 and the runoff of 300, where alone it has the runoff
  pub november_answer : (november_call october_file).answer ≡ short_rights 4
  pub november-line : first_line (november_call october_file).report ≡ 542 ∷ 0 ∷ 2 ∷ 300 ∷ []
  pub november_alone : (november_call elder_alone_file).answer ≡ short_rights 1
  pub november_line_alone : first_line (november_call elder_alone_file).report ≡ 300 ∷ 0 ∷ 2 ∷ 300 ∷ []
