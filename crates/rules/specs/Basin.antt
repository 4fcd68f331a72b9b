-- A basin as plain records, once its file is decoded (01, "The basin file"). A unit is 1/100 acre-foot; month 0 is October.
-- Here and in all other files "01" is the rules document that this engine follows, cited by its sections, "02" the list of changes asked for since,
-- cited by number, and "002" the reference manual of the program WIRSOS, which 01 follows in turn and from which it departs in a few named places.
use Rattle.std.specs.Prelude.{List, [], ℕ, length, get_or}

-- A gauging station: its number and its stream order. Its place in the list is its row, counted from 0.
pub record Station : Type 0 where
  pub number : ℕ
  pub order : ℕ

-- A pair of the area-capacity table: a storage in units and the lake's area there in acres.
pub record Survey : Type 0 where
  pub content : ℕ
  pub area : ℕ

-- A reservoir: its row, capacity and starting storage; the area-capacity table; for each month the depth that evaporates, in hundredths of a foot.
pub record Reservoir : Type 0 where
  pub row : ℕ
  pub capacity : ℕ
  pub start : ℕ
  pub surveys : List Survey
  pub depths : List ℕ

-- A return point: the row where part of a diversion comes back, and its percent of what returns.
pub record Point : Type 0 where
  pub row : ℕ
  pub percent : ℕ

-- 01's kinds 1 to 4: direct flow; project, with a reservoir behind it; instream flow; storage right.
pub data Kind : Type 0 where
  direct project instream storage : Kind

-- A water right. The months word has a bit for each month of the year, 1 where the right is used; amounts are the diversion schedule, one a month.
pub record Right : Type 0 where
  pub permit : ℕ
  pub date : ℕ
  pub kind : Kind
  pub row : ℕ
  pub reservoir : ℕ
  pub efficiency : ℕ
  pub pattern : ℕ
  pub months : ℕ
  pub limit : ℕ
  pub amounts : List ℕ
  pub points : List Point

-- A delay pattern is a list of percents: the share returned 0, 1, .. months after the diversion.
pub record Basin : Type 0 where
  pub stations : List Station
  pub reservoirs : List Reservoir
  pub patterns : List (List ℕ)
  pub rights : List Right

-- ---- what stands past the end of a list, where a place is asked that it does not have

abbrev pub no_station : Station
no_station = record { number = 0; order = 0 }

abbrev pub no_survey : Survey
no_survey = record { content = 0; area = 0 }

abbrev pub no_reservoir : Reservoir
no_reservoir = record { row = 0; capacity = 0; start = 0; surveys = []; depths = [] }

abbrev pub no_right : Right
no_right = record { permit = 0; date = 0; kind = direct; row = 0; reservoir = 255; efficiency = 100; pattern = 255; months = 0; limit = 0; amounts = []; points = [] }

-- ---- places

abbrev pub rows : Basin → ℕ
rows b = length b.stations

abbrev pub station_at : List Station → ℕ → Station
station_at st r = get_or st r no_station

abbrev pub survey_at : Reservoir → ℕ → Survey
survey_at v k = get_or v.surveys k no_survey

abbrev pub reservoir_at : Basin → ℕ → Reservoir
reservoir_at b v = get_or b.reservoirs v no_reservoir

abbrev pub right_at : Basin → ℕ → Right
right_at b i = get_or b.rights i no_right

-- the reservoir and the delay pattern that a right names
abbrev pub reservoir_of : Basin → Right → Reservoir
reservoir_of b r = reservoir_at b r.reservoir

abbrev pub pattern_of : Basin → Right → List ℕ
pattern_of b r = get_or b.patterns r.pattern []
