-- What the laws of a turn are given: a record for the right, one for the turn, and one for what each stage has done. Their variables are, in
-- every law, R for the right, T for the turn as it begins, G for the river part that is given, D for what it left, S for what the part from storage left, A for the end.
use mathlib.Core.Bool.{Bool}
use mathlib.Core.List.{List, []}
use mathlib.Core.Path.{◌≡◌}
use Prim.Native.Nat.{ℕ, ◌-◌, ◌≤◌, ◌<◌}
use lib.ListN.{length, get_or}
use Rattle.rules.specs.Basin.{Right, Basin}
use Rattle.rules.specs.Turn.{State}
use Rattle.records.specs.declared.rights.Kind.{Kind}
use Rattle.records.specs.declared.rights.RightRecord.{RightRecord}
use Rattle.records.specs.Records.{right_count, right_record, right_of}
use Rattle.records.specs.Table.{path_by}
use Rattle.grants.specs.declared.grants.Grant.{Grant}
use Rattle.grants.specs.declared.grants.Reason.{Reason}
use Rattle.grants.specs.declared.grants.RiverPart.{RiverPart}
use Rattle.grants.specs.Grants.{RiverGave}
use Rattle.grants.specs.Stages.{ask_in, Taken, capacity_in, board_stored, Drawn}
use Rattle.river.specs.Arrays.{RiverOk}
use Rattle.places.specs.Board.{board_length, Roomy}
use Rattle.turns.specs.declared.serve.Share.{Share}
use Rattle.turns.specs.Finish.{Finished, short_reason}
use Rattle.river.specs.Setting.{SettingOf}
use Rattle.turns.specs.State.{state_of, Within}

-- ---- the right

-- a right by its place in the list, and the parts of a file that describe its basin
pub record RightAt : Type 0 where
  pub basin : Basin
  pub stations : List ℕ
  pub table : List ℕ
  pub reservoirs : List ℕ
  pub patterns : List (List ℕ)
  pub rights : List ℕ
  pub setting : SettingOf basin stations table reservoirs patterns rights
  pub place : ℕ
  pub in_list : place < right_count rights

abbrev pub the_record : RightAt → RightRecord
the_record R = right_record R.rights R.place

abbrev pub the_kind : RightAt → Kind
the_kind R = (the_record R).kind

abbrev pub the_row : RightAt → ℕ
the_row R = (the_record R).row

abbrev pub the_reservoir : RightAt → ℕ
the_reservoir R = (the_record R).reservoir

abbrev pub the_path : RightAt → List ℕ
the_path R = path_by R.table (the_row R)

-- how many points it has, and the running sums of the pattern that they share
abbrev pub the_points : RightAt → ℕ
the_points R = (the_record R).points

abbrev pub the_sums : RightAt → List ℕ
the_sums R = get_or R.patterns (the_record R).pattern []

-- the same right as the rules have it
abbrev pub the_right : RightAt → Right
the_right R = right_of R.rights R.place

-- ---- the turn

-- what the arrays hold as the turn begins, with room for what it adds
pub record BeforeTurn : Type 0 where
  pub right : RightAt
  pub month : ℕ
  pub in-year : month < 12
  pub flow : List ℕ
  pub available : List ℕ
  pub short : List Bool
  pub board : List ℕ
  pub river-ok : RiverOk flow available 4000000000000000000
  pub board-size : length board ≡ board_length
  pub board-ok : Roomy board 4000000000000000000
  pub marks : 64 ≤ length short
  pub within : Within right.basin board

abbrev pub the_state : BeforeTurn → State
the_state T = state_of T.right.basin T.flow T.available T.short T.board

-- the demand, and what the river gives of it
pub record RiverGiven (T : BeforeTurn) : Type 0 where
  pub demand : ℕ
  pub asked : demand ≡ ask_in (the_kind T.right) T.right.reservoirs T.right.rights T.right.place T.month T.board
  pub river : RiverPart
  pub gave : RiverGave T.right.stations T.right.table T.available T.short (the_kind T.right) (the_row T.right) demand river

-- the river part is taken, and stored where the right is a storage right
pub record AfterRiver (T : BeforeTurn) : Type 0 where
  pub given : RiverGiven T
  pub flow : List ℕ
  pub available : List ℕ
  pub board : List ℕ
  pub took : Taken (the_kind T.right) T.right.table (the_row T.right) given.river.part T.flow T.available flow available
  pub stored : board ≡ board_stored (the_kind T.right) (capacity_in T.right.reservoirs (the_reservoir T.right)) (the_reservoir T.right) T.right.place given.river.part T.board

abbrev pub the_demand : {T : BeforeTurn} → AfterRiver T → ℕ
the_demand D = D.given.demand

abbrev pub the_part : {T : BeforeTurn} → AfterRiver T → ℕ
the_part D = D.given.river.part

-- what the river lacked is drawn from storage, where the right is a project right
pub record AfterStorage (T : BeforeTurn) : Type 0 where
  pub river : AfterRiver T
  pub drawn : ℕ
  pub flow : List ℕ
  pub board : List ℕ
  pub drew : Drawn (the_kind T.right) T.right.table T.right.reservoirs (the_reservoir T.right) (the_row T.right) (the_demand river - the_part river) river.flow river.board flow board drawn

-- what the right asked for and got
abbrev pub share_of : ℕ → ℕ → ℕ → Reason → Share
share_of ask d x y = record { demand = ask; from_river = d; from_storage = x; reason = y }

abbrev pub the_share : {T : BeforeTurn} → AfterStorage T → Reason → Share
the_share S y = share_of (the_demand S.river) (the_part S.river) S.drawn y

-- the returns are given, a short row marked, the grant made
pub record AfterTurn (T : BeforeTurn) : Type 0 where
  pub storage : AfterStorage T
  pub flow : List ℕ
  pub available : List ℕ
  pub short : List Bool
  pub board : List ℕ
  pub grant : Grant
  pub finished : Finished T.right.table T.right.patterns T.right.rights T.right.place (the_record T.right) (the_share storage (short_reason (the_kind T.right) storage.river.given.river.reason)) storage.flow storage.river.available T.short storage.board flow available short board grant
