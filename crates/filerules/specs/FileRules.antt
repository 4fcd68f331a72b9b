-- What a record has to be (01, "The basin file" and "The path of a row"): one test for each kind of record, a line for each rule.
-- st, rs, ps and s are bodies; i, v and p number the records of one.
use Rattle.std.specs.Prelude.{Bool, cond, ◌||◌, List, ℕ, suc, ◌+◌, ◌-◌, ◌*◌, leb, ltb, eqb, is_some}
use Rattle.general.specs.Sums.{sum, sum_to}
use Rattle.general.specs.Tests.{◌and◌, between, has, all_to}
use Rattle.rules.specs.Path.{row_below, path}
use Rattle.records.specs.declared.rights.Kind.{Kind}
use Rattle.records.specs.declared.rights.Kind.TheVariants.{Direct, Project, Instream, Storage}
use Rattle.records.specs.declared.rights.RightRecord.{RightRecord}
use Rattle.numbers.specs.Bytes.{three_zeros}
use Rattle.records.specs.Records.{rows_of, station_record, stations_of, reservoir_count, reservoir_record, content_at, area_at, depth_at, pattern_of, kind_byte, right_record, amount_at, return_row, return_percent}

-- ---- stations

-- a higher number than the station before it has; asked at the later of the two, so that this one is blamed
unfoldable pub number_rises : List ℕ → ℕ → Bool
number_rises s i = eqb i 0 || ltb (station_record s (i - 1)).number (station_record s i).number

-- Water goes on from each row to a row below, and out of the basin at the last. Orders are taken as the file has them, even one that is itself at fault.
unfoldable pub way_down : List ℕ → ℕ → Bool
way_down s i = cond (eqb (suc i) (rows_of s)) (eqb (station_record s i).order 1) (is_some (row_below (stations_of s) i))

-- what a station must show apart from its way down
unfoldable pub station_plain : List ℕ → ℕ → Bool
station_plain s i =
    between 1 (station_record s i).number 999_999
    and number_rises s i
    and between 1 (station_record s i).order 8
    and three_zeros s (8 * i + 5)

-- all rules of a row
unfoldable pub station_ok : List ℕ → ℕ → Bool
station_ok s i = station_plain s i and way_down s i

-- ---- reservoirs

-- each pair of the area-capacity table is of more water than the one before
unfoldable pub contents_rise : List ℕ → ℕ → Bool
contents_rise s v = all_to 3 (λ k. ltb (content_at s v k) (content_at s v (k + 1)))

-- no area above a million acres
unfoldable pub areas_ok : List ℕ → ℕ → Bool
areas_ok s v = all_to 4 (λ k. leb (area_at s v k) 1_000_000)

-- in no month more than ten feet of evaporation
unfoldable pub depths_ok : List ℕ → ℕ → Bool
depths_ok s v = all_to 12 (λ m. leb (depth_at s v m) 1000)

-- the area-capacity table begins at the empty reservoir
unfoldable pub surveys_ok : List ℕ → ℕ → Bool
surveys_ok s v =
    eqb (content_at s v 0) 0
    and contents_rise s v
    and areas_ok s v

-- It stands at a station, can hold water, and starts no more than full.
unfoldable pub reservoir_plain : List ℕ → List ℕ → ℕ → Bool
reservoir_plain st s v =
    ltb (reservoir_record s v).row (rows_of st)
    and three_zeros s (68 * v + 1)
    and between 1 (reservoir_record s v).capacity 2_000_000_000
    and leb (reservoir_record s v).start (reservoir_record s v).capacity

-- all rules of a reservoir
unfoldable pub reservoir_ok : List ℕ → List ℕ → ℕ → Bool
reservoir_ok st s v =
    reservoir_plain st s v
    and surveys_ok s v
    and depths_ok s v

-- ---- patterns

-- Over its twelve months a pattern gives back the whole or less; the rest goes deep (02, No. 5).
unfoldable pub pattern_ok : List ℕ → ℕ → Bool
pattern_ok s p = leb (sum (pattern_of s p)) 100

-- ---- rights

-- A number in the range of dates, though the calendar may have no such day, or the one number above them that says undated.
unfoldable pub date_ok : ℕ → Bool
date_ok d = between 18000101 d 20991231 || eqb d 99999999

-- The byte of a right's kind is one of four. A record has a kind whatever that byte is, so that this is asked of the file itself.
unfoldable pub kind_known : List ℕ → ℕ → Bool
kind_known s i = between 1 (kind_byte s i) 4

-- a yearly limit for storage rights, and for them alone
unfoldable pub limit_ok : Kind → ℕ → Bool
limit_ok Direct x = eqb x 0
limit_ok Project x = eqb x 0
limit_ok Instream x = eqb x 0
limit_ok Storage x = between 1 x 2_000_000_000

-- What the record shows by itself, in a basin of n rows. The months word has a bit for each of twelve months and no other.
unfoldable pub heading_ok : ℕ → RightRecord → Bool
heading_ok n r =
    between 1 r.permit 999_999_999
    and date_ok r.date
    and ltb r.row n
    and leb r.points 4
    and ltb r.months 4096
    and limit_ok r.kind r.limit

-- the row is on the path of reservoir v
unfoldable pub below_reservoir : List ℕ → List ℕ → ℕ → ℕ → Bool
below_reservoir st rs v row = ltb v (reservoir_count rs) and has row (path (stations_of st) (reservoir_record rs v).row)

-- the row is that of reservoir v
unfoldable pub at_reservoir : List ℕ → ℕ → ℕ → Bool
at_reservoir rs v row = ltb v (reservoir_count rs) and eqb row (reservoir_record rs v).row

-- Direct and instream rights name no reservoir. A storage right stands where its reservoir does, a project right on that reservoir's path.
unfoldable pub source_ok : Kind → List ℕ → List ℕ → RightRecord → Bool
source_ok Direct st rs r = eqb r.reservoir 255
source_ok Project st rs r = below_reservoir st rs r.reservoir r.row
source_ok Instream st rs r = eqb r.reservoir 255
source_ok Storage st rs r = at_reservoir rs r.reservoir r.row

-- Water comes back at a station that is not listed before the right's own, and each point gets some of it.
unfoldable pub point_ok : ℕ → ℕ → ℕ → ℕ → Bool
point_ok n from row percent =
    leb from row
    and ltb row n
    and between 1 percent 100

-- the points are the first pairs
unfoldable pub each_point_ok : ℕ → ℕ → List ℕ → ℕ → ℕ → Bool
each_point_ok n from s i points = all_to points (λ k. point_ok n from (return_row s i k) (return_percent s i k))

-- Water that comes back needs a pattern for its months and points that share out the whole.
unfoldable pub points_ok : ℕ → ℕ → List ℕ → ℕ → RightRecord → Bool
points_ok n np s i r =
    leb r.efficiency 100
    and ltb r.pattern np
    and each_point_ok n r.row s i r.points
    and eqb (sum_to r.points (return_percent s i)) 100

-- A diversion without points consumes all: a rest would have nowhere to return to.
unfoldable pub diversion_ok : ℕ → ℕ → List ℕ → ℕ → RightRecord → Bool
diversion_ok n np s i r =
    cond (eqb r.points 0)
    (eqb r.efficiency 100 and eqb r.pattern 255)
    (points_ok n np s i r)

-- no diversion: nothing to consume or return
unfoldable pub undiverted_ok : RightRecord → Bool
undiverted_ok r = eqb r.efficiency 0 and eqb r.pattern 255 and eqb r.points 0

-- Direct and project rights divert. Instream rights leave the water in the river, and storage rights put it in a reservoir.
unfoldable pub returns_ok : Kind → ℕ → ℕ → List ℕ → ℕ → RightRecord → Bool
returns_ok Direct n np s i r = diversion_ok n np s i r
returns_ok Project n np s i r = diversion_ok n np s i r
returns_ok Instream n np s i r = undiverted_ok r
returns_ok Storage n np s i r = undiverted_ok r

-- the pairs after the points are blank
unfoldable pub unused_ok : List ℕ → ℕ → ℕ → Bool
unused_ok s i points = all_to 4 (λ k. ltb k points || (eqb (return_row s i k) 0 and eqb (return_percent s i k) 0))

-- the amounts of months not in use too
unfoldable pub amounts_ok : List ℕ → ℕ → Bool
amounts_ok s i = all_to 12 (λ m. leb (amount_at s i m) 1_000_000_000)

-- The senior of two rights, by date and then by permit. Undated rights have the highest date, and so come after all others.
unfoldable pub earlier : RightRecord → RightRecord → Bool
earlier a b = ltb a.date b.date || (eqb a.date b.date and ltb a.permit b.permit)

-- junior to the right before it; the later of the two is blamed, as of stations
unfoldable pub right_rises : List ℕ → ℕ → Bool
right_rises s i = eqb i 0 || earlier (right_record s (i - 1)) (right_record s i)

-- all rules of a right; np is the number of patterns
unfoldable pub right_ok : List ℕ → List ℕ → ℕ → List ℕ → ℕ → Bool
right_ok st rs np s i =
    kind_known s i
    and heading_ok (rows_of st) (right_record s i)
    and source_ok (right_record s i).kind st rs (right_record s i)
    and returns_ok (right_record s i).kind (rows_of st) np s i (right_record s i)
    and unused_ok s i (right_record s i).points
    and amounts_ok s i
    and right_rises s i
