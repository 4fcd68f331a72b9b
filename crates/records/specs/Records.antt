-- The records of the four bodies: where each field stands (01, "The basin file"), and the basin that they describe in the rules' words.
-- A body holds as many records as fill it.
use Rattle.std.specs.Prelude.{cond, List, ℕ, ◌+◌, ◌*◌, ◌/◌, eqb, length}
use Rattle.general.specs.Tables.{tab}
use Rattle.rules.specs.Basin.{Station, Survey, Reservoir, direct, project, instream, storage, Right, Basin}
use Rattle.rules.specs.Basin as rules
use Rattle.records.specs.declared.stations.StationRecord.{StationRecord}
use Rattle.records.specs.declared.reservoirs.ReservoirRecord.{ReservoirRecord}
use Rattle.records.specs.declared.rights.Kind.{Kind}
use Rattle.records.specs.declared.rights.Kind.TheVariants.{Direct, Project, Instream, Storage}
use Rattle.records.specs.declared.rights.RightRecord.{RightRecord}
use Rattle.numbers.specs.Bytes.{byte_at, le16_at, le32_at}
use Rattle.sections.specs.File.{section_of}

-- ---- stations, 8 bytes each

abbrev pub rows_of : List ℕ → ℕ
rows_of s = length s / 8

unfoldable pub station_record : List ℕ → ℕ → StationRecord
station_record s i = record { number = le32_at s (8 * i); order = byte_at s (8 * i + 4) }

unfoldable pub station_of : List ℕ → ℕ → Station
station_of s i = record { number = (station_record s i).number; order = (station_record s i).order }

unfoldable pub stations_of : List ℕ → List Station
stations_of s = tab (rows_of s) (station_of s)

-- ---- reservoirs, 68 bytes each: the plain fields, then the area-capacity table, then a depth for each month

abbrev pub reservoir_count : List ℕ → ℕ
reservoir_count s = length s / 68

unfoldable pub reservoir_record : List ℕ → ℕ → ReservoirRecord
reservoir_record s v = record { row = byte_at s (68 * v); capacity = le32_at s (68 * v + 4); start = le32_at s (68 * v + 8) }

unfoldable pub content_at : List ℕ → ℕ → ℕ → ℕ
content_at s v k = le32_at s (68 * v + 12 + 8 * k)

unfoldable pub area_at : List ℕ → ℕ → ℕ → ℕ
area_at s v k = le32_at s (68 * v + 16 + 8 * k)

unfoldable pub depth_at : List ℕ → ℕ → ℕ → ℕ
depth_at s v m = le16_at s (68 * v + 44 + 2 * m)

abbrev pub survey_of : List ℕ → ℕ → ℕ → Survey
survey_of s v k = record { content = content_at s v k; area = area_at s v k }

unfoldable pub reservoir_of : List ℕ → ℕ → Reservoir
reservoir_of s v = record {
  row = (reservoir_record s v).row;
  capacity = (reservoir_record s v).capacity;
  start = (reservoir_record s v).start;
  surveys = tab 4 (survey_of s v);
  depths = tab 12 (depth_at s v);
}

unfoldable pub reservoirs_of : List ℕ → List Reservoir
reservoirs_of s = tab (reservoir_count s) (reservoir_of s)

-- ---- patterns, 12 bytes each: a percent for each month of delay

abbrev pub pattern_count : List ℕ → ℕ
pattern_count s = length s / 12

unfoldable pub percent_at : List ℕ → ℕ → ℕ → ℕ
percent_at s p k = byte_at s (12 * p + k)

unfoldable pub pattern_of : List ℕ → ℕ → List ℕ
pattern_of s p = tab 12 (percent_at s p)

unfoldable pub patterns_of : List ℕ → List (List ℕ)
patterns_of s = tab (pattern_count s) (pattern_of s)

-- ---- rights, 76 bytes each: the plain fields, then an amount for each month, then room for four return points

abbrev pub right_count : List ℕ → ℕ
right_count s = length s / 76

-- the byte of a right's kind
unfoldable pub kind_byte : List ℕ → ℕ → ℕ
kind_byte s i = byte_at s (76 * i + 8)

-- the kind that a byte stands for; the rules of the file let no byte through but 1 to 4
unfoldable pub kind_named : ℕ → Kind
kind_named x = cond (eqb x 1) Direct (cond (eqb x 2) Project (cond (eqb x 3) Instream Storage))

unfoldable pub right_record : List ℕ → ℕ → RightRecord
right_record s i = record {
  permit = le32_at s (76 * i);
  date = le32_at s (76 * i + 4);
  kind = kind_named (kind_byte s i);
  row = byte_at s (76 * i + 9);
  reservoir = byte_at s (76 * i + 10);
  efficiency = byte_at s (76 * i + 11);
  pattern = byte_at s (76 * i + 12);
  points = byte_at s (76 * i + 13);
  months = le16_at s (76 * i + 14);
  limit = le32_at s (76 * i + 16);
}

unfoldable pub amount_at : List ℕ → ℕ → ℕ → ℕ
amount_at s i m = le32_at s (76 * i + 20 + 4 * m)

unfoldable pub return_row : List ℕ → ℕ → ℕ → ℕ
return_row s i k = byte_at s (76 * i + 68 + 2 * k)

unfoldable pub return_percent : List ℕ → ℕ → ℕ → ℕ
return_percent s i k = byte_at s (76 * i + 69 + 2 * k)

-- a kind as the rules have it
abbrev pub kind_of : Kind → rules.Kind
kind_of Direct = direct
kind_of Project = project
kind_of Instream = instream
kind_of Storage = storage

-- its return points are the first pairs, as many as the record says
unfoldable pub right_of : List ℕ → ℕ → Right
right_of s i = record {
  permit = (right_record s i).permit;
  date = (right_record s i).date;
  kind = kind_of (right_record s i).kind;
  row = (right_record s i).row;
  reservoir = (right_record s i).reservoir;
  efficiency = (right_record s i).efficiency;
  pattern = (right_record s i).pattern;
  months = (right_record s i).months;
  limit = (right_record s i).limit;
  amounts = tab 12 (amount_at s i);
  points = tab (right_record s i).points (λ k. record { row = return_row s i k; percent = return_percent s i k });
}

unfoldable pub rights_of : List ℕ → List Right
rights_of s = tab (right_count s) (right_of s)

-- ---- the basin of four bodies, and that of a file

unfoldable pub bodies : List ℕ → List ℕ → List ℕ → List ℕ → Basin
bodies st rs ps ri = record { stations = stations_of st; reservoirs = reservoirs_of rs; patterns = patterns_of ps; rights = rights_of ri }

unfoldable pub basin_of : List ℕ → Basin
basin_of f = bodies (section_of f 0) (section_of f 1) (section_of f 2) (section_of f 3)
