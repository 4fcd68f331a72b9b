-- The stages of a turn in the arrays' words, by the kind of the right.
use Rattle.std.specs.Prelude.{Bool, true, false, not, cond, ◌&&◌, List, [], ◌∷◌, ◌≡◌, ℕ, ◌+◌, ◌-◌, ◌^◌, ◌≤◌, ◌<◌, min, ltb, eqb, get_or, set}
use Rattle.general.specs.Sums.{only}
use Rattle.places.specs.Board.{storage_place, marks_place, taken_place, storage_at, marks_at, taken_at, Roomy}
use Rattle.rules.specs.Path.{until_row}
use Rattle.rules.specs.River.{Level, along, diverted, reserved, released}
use Rattle.general.specs.Tests.{bit}
use Rattle.records.specs.declared.rights.Kind.{Kind}
use Rattle.records.specs.declared.rights.Kind.TheVariants.{Direct, Project, Instream, Storage}
use Rattle.records.specs.declared.rights.RightRecord.{RightRecord}
use Rattle.records.specs.Records.{reservoir_count, reservoir_record, right_count, right_record, amount_at}
use Rattle.records.specs.Table.{path_by}
use Rattle.river.specs.Arrays.{levels_of, CanDivert, CanRelease}
use Rattle.rules.specs.Accepted.{most_amount}

-- an instream right leaves its water in the river; the others divert or store it
abbrev pub is_instream : Kind → Bool
is_instream Direct = false
is_instream Project = false
is_instream Instream = true
is_instream Storage = false

-- ---- the demand

unfoldable pub amount_in : List ℕ → ℕ → ℕ → ℕ
amount_in ri i m = only (bit (right_record ri i).months m) (amount_at ri i m)

abbrev pub behind : List ℕ → ℕ → ℕ
behind ri i = (right_record ri i).reservoir

abbrev pub capacity_in : List ℕ → ℕ → ℕ
capacity_in rs v = (reservoir_record rs v).capacity

-- what a storage right asks for, of an amount scheduled
abbrev pub ask_of : List ℕ → RightRecord → ℕ → ℕ → List ℕ → ℕ
ask_of rs r i amount bd =
    only (not (bit (marks_at bd) r.reservoir)) (min amount (min (r.limit - taken_at bd i) (capacity_in rs r.reservoir - storage_at bd r.reservoir)))

unfoldable pub ask_in : Kind → List ℕ → List ℕ → ℕ → ℕ → List ℕ → ℕ
ask_in Direct rs ri i m bd = amount_in ri i m
ask_in Project rs ri i m bd = amount_in ri i m
ask_in Instream rs ri i m bd = amount_in ri i m
ask_in Storage rs ri i m bd = ask_of rs (right_record ri i) i (amount_in ri i m) bd

-- what a storage right's reservoir and limit must be for that
pub record RoomLeft (rs : List ℕ) (r : RightRecord) (i : ℕ) (bd : List ℕ) : Type 0 where
  pub there : r.reservoir < reservoir_count rs
  pub eight : r.reservoir < 8
  pub taken : taken_at bd i ≤ r.limit
  pub held : storage_at bd r.reservoir ≤ capacity_in rs r.reservoir

pub record CanAsk (rs ri : List ℕ) (i m : ℕ) (bd : List ℕ) : Type 0 where
  pub place : i < right_count ri
  pub most : i < 256
  pub in-year : m < 12
  pub stores : (right_record ri i).kind ≡ Storage → RoomLeft rs (right_record ri i) i bd

-- ---- the river part

unfoldable pub levels_taken : Kind → ℕ → List ℕ → ℕ → List Level → List Level
levels_taken Direct d t row l = along (diverted d) (path_by t row) l
levels_taken Project d t row l = along (diverted d) (path_by t row) l
levels_taken Instream d t row l = along (reserved d) (row ∷ []) l
levels_taken Storage d t row l = along (diverted d) (path_by t row) l

pub record CanTake (kind : Kind) (t : List ℕ) (row d : ℕ) (f a : List ℕ) : Type 0 where
  pub on : row < 64
  pub divert_ok : is_instream kind ≡ false → CanDivert t row d f a
  pub enough : d ≤ get_or a row 0

-- f, a before and f', a' after; the levels however many rows are asked after
pub record Taken (kind : Kind) (t : List ℕ) (row d : ℕ) (f a f' a' : List ℕ) : Type 0 where
  pub levels : (n : ℕ) → levels_of n f' a' ≡ levels_taken kind d t row (levels_of n f a)

abbrev pub marked_board : Bool → List ℕ → ℕ → List ℕ
marked_board t bd v = cond t (set bd marks_place (marks_at bd + 2 ^ v)) bd

-- d more in reservoir v, by right i
abbrev pub poured : ℕ → ℕ → ℕ → ℕ → List ℕ → List ℕ
poured capacity v i d bd =
    marked_board (ltb 0 d && eqb (storage_at bd v + d) capacity) (set (set bd (storage_place v) (storage_at bd v + d)) (taken_place i) (taken_at bd i + d)) v

unfoldable pub board_stored : Kind → ℕ → ℕ → ℕ → ℕ → List ℕ → List ℕ
board_stored Direct capacity v i d bd = bd
board_stored Project capacity v i d bd = bd
board_stored Instream capacity v i d bd = bd
board_stored Storage capacity v i d bd = poured capacity v i d bd

pub record CanPour (rs : List ℕ) (v i d : ℕ) (bd : List ℕ) : Type 0 where
  pub most : i < 256
  pub small : d ≤ most_amount
  pub board : Roomy bd 4000000000000000000
  pub eight : v < 8
  pub there : v < reservoir_count rs

pub record CanFill (kind : Kind) (rs : List ℕ) (v i d : ℕ) (bd : List ℕ) : Type 0 where
  pub most : i < 256
  pub small : d ≤ most_amount
  pub board : Roomy bd 4000000000000000000
  pub there : kind ≡ Storage → (v < 8) × (v < reservoir_count rs)

-- ---- the part from storage

unfoldable pub drawn_in : Kind → ℕ → ℕ → List ℕ → ℕ
drawn_in Direct lacking v bd = 0
drawn_in Project lacking v bd = min lacking (storage_at bd v)
drawn_in Instream lacking v bd = 0
drawn_in Storage lacking v bd = 0

unfoldable pub board_drawn : Kind → ℕ → ℕ → List ℕ → List ℕ
board_drawn Direct x v bd = bd
board_drawn Project x v bd = set bd (storage_place v) (storage_at bd v - x)
board_drawn Instream x v bd = bd
board_drawn Storage x v bd = bd

unfoldable pub levels_released : Kind → ℕ → List ℕ → ℕ → ℕ → List Level → List Level
levels_released Direct x t home row l = l
levels_released Project x t home row l = along (released x) (until_row row (path_by t home)) l
levels_released Instream x t home row l = l
levels_released Storage x t home row l = l

abbrev pub home_row : List ℕ → ℕ → ℕ
home_row rs v = (reservoir_record rs v).row

pub record CanDraw (kind : Kind) (t rs : List ℕ) (v lacking : ℕ) (f bd : List ℕ) : Type 0 where
  pub there : kind ≡ Project → (v < reservoir_count rs) × (v < 8)
  pub release_ok : kind ≡ Project → (x : ℕ) → x ≤ lacking → CanRelease t (home_row rs v) x f

-- f, bd before and f', bd' after; x is what was drawn
pub record Drawn (kind : Kind) (t rs : List ℕ) (v row lacking : ℕ) (f bd f' bd' : List ℕ) (x : ℕ) : Type 0 where
  pub amount : x ≡ drawn_in kind lacking v bd
  pub board : bd' ≡ board_drawn kind x v bd
  pub levels : (n : ℕ) (a : List ℕ) → levels_of n f' a ≡ levels_released kind x t (home_row rs v) row (levels_of n f a)
