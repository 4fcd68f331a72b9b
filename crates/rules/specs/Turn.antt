-- The turn of one right in a month (01, "The board and one month", step 3), in three stages: its river part, its part from storage, its returns.
use Rattle.std.specs.Prelude.{Bool, true, false, not, cond, ◌&&◌, ◌||◌, List, [], ◌∷◌, ℕ, ◌+◌, ◌-◌, min, ltb, eqb, get_or, set}
use Rattle.std.specs.Int.Signed.{le_z}
use Rattle.general.specs.Sums.{only}
use Rattle.general.specs.Tests.{bit}
use Rattle.rules.specs.Basin.{Station, Kind, direct, project, instream, storage, Right, Basin, station_at, reservoir_of, pattern_of}
use Rattle.rules.specs.Path.{path, until_row}
use Rattle.rules.specs.River.{Level, available_at, diverted, reserved, released, along, lowest, lesser}
use Rattle.rules.specs.Returns.{parts_of, return_now}

-- What a month changes. A right's shortage is kept at its row: short says at which rows a right served this month is short.
pub record State : Type 0 where
  pub levels : List Level
  pub storages : List ℕ
  pub marks : List Bool
  pub taken : List ℕ
  pub short : List Bool

abbrev pub path_of : Basin → Right → List ℕ
path_of b r = path b.stations r.row

-- the present storage of the reservoir that a right names, and its one-fill mark
abbrev pub storage_of : Right → State → ℕ
storage_of r s = get_or s.storages r.reservoir 0

abbrev pub mark_of : Right → State → Bool
mark_of r s = get_or s.marks r.reservoir false

-- ---- the demand, which 01 calls ask

-- what the diversion schedule has for month m; nothing in a month that the right does not use
unfoldable pub scheduled : ℕ → Right → ℕ
scheduled m r = only (bit r.months m) (get_or r.amounts m 0)

-- A storage right wants no more than its yearly limit and its reservoir have room for, and nothing once the reservoir was filled this year.
unfoldable pub demand : Kind → Basin → ℕ → ℕ → Right → State → ℕ
demand direct b m i r s = scheduled m r
demand project b m i r s = scheduled m r
demand instream b m i r s = scheduled m r
demand storage b m i r s =
    let limit_left : ℕ = r.limit - get_or s.taken i 0 in
    let capacity_left : ℕ = (reservoir_of b r).capacity - storage_of r s in
    only (not (mark_of r s)) (min (scheduled m r) (min limit_left capacity_left))

-- ---- the river part

-- whether a row of the path is marked
unfoldable pub any_on : List Bool → List ℕ → Bool
any_on f [] = false
any_on f (q ∷ p) = get_or f q false || any_on f p

-- Called out: at its own row or downstream, a right served before it this month went short.
unfoldable pub called : Basin → Right → State → Bool
called b r s = any_on s.short (path_of b r)

-- A right that is called out diverts nothing; any other up to its demand, as far as every row downstream can spare it.
unfoldable pub divertible : Basin → Right → State → ℕ → ℕ
divertible b r s a = only (not (called b r s)) (lesser a (lowest s.levels (path_of b r)))

-- An instream right takes no water away, so that it is not called out and looks at its own row alone.
unfoldable pub river_part : Kind → Basin → Right → State → ℕ → ℕ
river_part direct b r s a = divertible b r s a
river_part project b r s a = divertible b r s a
river_part instream b r s a = lesser a (available_at s.levels r.row)
river_part storage b r s a = divertible b r s a

unfoldable pub with_levels : State → List Level → State
with_levels s l = record { levels = l; storages = s.storages; marks = s.marks; taken = s.taken; short = s.short }

-- the levels once d is diverted: every row downstream lacks it
unfoldable pub after_diversion : Basin → Right → ℕ → State → List Level
after_diversion b r d s = along (diverted d) (path_of b r) s.levels

-- What an instream right is granted stays in the river and is spoken for at its row. What a storage right is granted is stored, and counts against its
-- yearly limit; if it fills the reservoir, the year's one fill is done. A right that got nothing fills nothing.
unfoldable pub river_stage : Kind → Basin → ℕ → Right → ℕ → State → State
river_stage direct b i r d s = with_levels s (after_diversion b r d s)
river_stage project b i r d s = with_levels s (after_diversion b r d s)
river_stage instream b i r d s = with_levels s (along (reserved d) (r.row ∷ []) s.levels)
river_stage storage b i r d s = record {
  levels = after_diversion b r d s;
  storages = set s.storages r.reservoir (storage_of r s + d);
  marks = cond (ltb 0 d && eqb (storage_of r s + d) (reservoir_of b r).capacity) (set s.marks r.reservoir true) s.marks;
  taken = set s.taken i (get_or s.taken i 0 + d);
  short = s.short;
}

-- ---- the part from storage

-- What the river did not give, a project right draws from its reservoir while there is water in it.
unfoldable pub storage_part : Kind → Right → State → ℕ → ℕ
storage_part direct r s a = 0
storage_part project r s a = min a (storage_of r s)
storage_part instream r s a = 0
storage_part storage r s a = 0

-- The release x is in the river from the reservoir's row (which 002 leaves out) to the last row above the right's, which diverts it.
unfoldable pub storage_stage : Kind → Basin → Right → ℕ → State → State
storage_stage direct b r x s = s
storage_stage project b r x s = record {
  levels = along (released x) (until_row r.row (path b.stations (reservoir_of b r).row)) s.levels;
  storages = set s.storages r.reservoir (storage_of r s - x);
  marks = s.marks;
  taken = s.taken;
  short = s.short;
}
storage_stage instream b r x s = s
storage_stage storage b r x s = s

-- ---- the returns

-- Returns of later months are read off the grant when they fall due. A short right is remembered by its row.
unfoldable pub return_stage : Kind → Basin → Right → ℕ → Bool → State → State
return_stage k b r d is_short s = record {
  levels = return_now b.stations (pattern_of b r) (parts_of k r d) s.levels;
  storages = s.storages;
  marks = s.marks;
  taken = s.taken;
  short = cond is_short (set s.short r.row true) s.short;
}

-- ---- the reason, and the controlling station (02, No. 2)

-- 01's reasons 0, 1, 2, 3
pub data Reason : Type 0 where
  met called_out river_low storage_out : Reason

-- why a right is short: a project right because its storage ran out, an instream right because its river is low, another because it is called out or else
-- because its river is low
unfoldable pub shortage : Kind → Bool → Reason
shortage direct is_called = cond is_called called_out river_low
shortage project is_called = storage_out
shortage instream is_called = river_low
shortage storage is_called = cond is_called called_out river_low

unfoldable pub reason_of : Basin → Right → State → Bool → Reason
reason_of b r s is_short = cond is_short (shortage r.kind (called b r s)) met

-- the first row of a path that passes a test; 0 where none does
unfoldable pub first_on : (ℕ → Bool) → List ℕ → ℕ
first_on t [] = 0
first_on t (q ∷ p) = cond (t q) q (first_on t p)

-- whether a right served before is short at row q, and the first such row
abbrev pub is_short_at : State → ℕ → Bool
is_short_at s q = get_or s.short q false

abbrev pub first_short : State → List ℕ → ℕ
first_short s p = first_on (is_short_at s) p

-- whether no row of the path can spare less than row q, and the first such row
abbrev pub is_lowest : State → List ℕ → ℕ → Bool
is_lowest s p q = le_z (available_at s.levels q) (lowest s.levels p)

abbrev pub first_lowest : State → List ℕ → ℕ
first_lowest s p = first_on (is_lowest s p) p

-- where the river is low: an instream right looks at its own row alone
unfoldable pub low_row : Kind → Basin → Right → State → ℕ
low_row direct b r s = first_lowest s (path_of b r)
low_row project b r s = first_lowest s (path_of b r)
low_row instream b r s = r.row
low_row storage b r s = first_lowest s (path_of b r)

unfoldable pub number_at : List Station → ℕ → ℕ
number_at st r = (station_at st r).number

-- The station that holds a right back: where it is called out, that of the first short row on its path; where the river is low, that of the first row that
-- can spare least; where storage ran out, the reservoir's. A right that is not short has station 0. State s is that before the grant, so that a right's
-- own shortage does not count.
unfoldable pub controlling : Basin → Right → State → Reason → ℕ
controlling b r s met = 0
controlling b r s called_out = number_at b.stations (first_short s (path_of b r))
controlling b r s river_low = number_at b.stations (low_row r.kind b r s)
controlling b r s storage_out = number_at b.stations (reservoir_of b r).row

-- ---- the turn

-- What a right is given from the river and from storage, why no more, and the station that holds it back.
pub record Grant : Type 0 where
  pub from_river : ℕ
  pub from_storage : ℕ
  pub reason : Reason
  pub station : ℕ

abbrev pub granted : Grant → ℕ
granted g = g.from_river + g.from_storage

-- The right served, its demand and grant, and the state at each checkpoint of its turn.
pub record Turn : Type 0 where
  pub right : Right
  pub asked : ℕ
  pub grant : Grant
  pub after_river : State
  pub after_storage : State
  pub after_returns : State

-- The turn of right r, the i-th of the list, in month m. It is short when river and storage together gave less than it asked.
unfoldable pub turn : Basin → ℕ → ℕ → Right → State → Turn
turn b m i r s =
    let k : Kind = r.kind in
    let a : ℕ = demand k b m i r s in
    let d : ℕ = river_part k b r s a in
    let s₁ : State = river_stage k b i r d s in
    let x : ℕ = storage_part k r s₁ (a - d) in
    let s₂ : State = storage_stage k b r x s₁ in
    let is_short : Bool = ltb (d + x) a in
    let why : Reason = reason_of b r s is_short in
    record {
      right = r;
      asked = a;
      grant = record { from_river = d; from_storage = x; reason = why; station = controlling b r s why };
      after_river = s₁;
      after_storage = s₂;
      after_returns = return_stage k b r (d + x) is_short s₂;
    }
