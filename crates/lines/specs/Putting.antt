-- What the functions that put lines into a text ask and promise.
use Rattle.std.specs.Prelude.{List, ◌++◌, ◌≡◌, ℕ, ◌+◌, ◌≤◌, ◌<◌, length, get_or, take}
use Rattle.places.specs.Report.{evaporation_place, report_end}
use Rattle.records.specs.declared.bodies.Bodies.{Bodies}
use Rattle.records.specs.Records.{rows_of, reservoir_count, right_count}
use Rattle.boards.specs.Bodies.{Bounded}
use Rattle.lines.specs.declared.text.Text.{Text}
use Rattle.lines.specs.Texts.{bytes_of, room_of}

-- A line was added, in the list that was lent: what stood before it is kept, and of the room at most `most` bytes are taken.
pub record Put (most : ℕ) (line : List ℕ) (t t' : Text) : Type 0 where
  pub bytes : bytes_of t' ≡ bytes_of t ++ line
  pub room : room_of t' + length line ≡ room_of t
  pub within : length line ≤ most
  pub same_list : t'.list.ghost_name ≡ t.list.ghost_name

-- The same in the list of a text: its bytes go from a place on, and what stands before it is kept. It ends at the place r.
pub record PutAt (at : ℕ) (text o o' : List ℕ) (r : ℕ) : Type 0 where
  pub put : take r o' ≡ take at o ++ text
  pub ends : r ≡ at + length text

-- A line of a right has at most six numbers of at most 20 digits, and six bytes after them: 126 bytes. The end line has at most 109.
-- So the text of a month of 256 rights has at most:
abbrev pub most_text : ℕ
most_text = 32_365

-- what the text of a month asks for, of the bodies of an accepted file, the board that the month left and its report
pub record CanList (w : Bodies) (board report : List ℕ) : Type 0 where
  pub few : right_count w.rights.now ≤ 256
  pub some_row : 0 < rows_of w.stations.now
  pub few_rows : rows_of w.stations.now ≤ 64
  pub few_reservoirs : reservoir_count w.reservoirs.now ≤ 8
  pub told : report_end (right_count w.rights.now) (rows_of w.stations.now) (reservoir_count w.reservoirs.now) ≤ length report
  pub small : (v : ℕ) → v < reservoir_count w.reservoirs.now → get_or report (evaporation_place (right_count w.rights.now) (rows_of w.stations.now) v) 0 ≤ 2_000_000_000
  pub bounded : Bounded board
