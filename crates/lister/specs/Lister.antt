-- What the steps of a listing ask for and promise.
use Rattle.std.specs.Prelude.{Bool, true, false, List, ◌++◌, ◌≡◌, ℕ, ◌+◌, ◌≤◌, ◌<◌, length, drop, Option, None, Some, Ok}
use Rattle.rules.specs.Basin.{Basin}
use Rattle.rules.specs.Answers.{Answer}
use Rattle.rules.specs.Tally.{report_length}
use Rattle.filecheck.specs.Check.{check_of}
use Rattle.records.specs.Records.{basin_of}
use Rattle.boards.specs.Board.{possible}
use Rattle.answers.specs.Answers.{file_refusal}
use Rattle.listing.specs.Listing.{refusal_line, header}
use Rattle.lines.specs.declared.text.Text.{Text}
use Rattle.lines.specs.Texts.{bytes_of, room_of}
use Rattle.lines.specs.Putting.{most_text, Put}
use Rattle.listing.specs.Run.{sheet_bytes, Standing, Step, begin}
use Rattle.listing.specs.Steps.{StepMeets, Place, Walk, texts_of}
use Rattle.lister.specs.declared.Listing.{Listing}

-- how a run stands, by the listing's months and its board
abbrev pub standing : Listing → Standing
standing l = record { months = l.months; board = l.board.now }

-- its text
abbrev pub text_of : Listing → Text
text_of l = record { list = l.list; len = l.written; within = l.within }

-- What every step leaves as it was: the file, which lists are lent, and how long those are whose types do not say it.
pub record Kept (l l' : Listing) : Type 0 where
  pub file : l'.file.now ≡ l.file.now
  pub same_board : l'.board.ghost_name ≡ l.board.ghost_name
  pub same_report : l'.report.ghost_name ≡ l.report.ghost_name
  pub same_list : l'.list.ghost_name ≡ l.list.ghost_name
  pub report : length l'.report.now ≡ length l.report.now
  pub text : length (bytes_of (text_of l')) + room_of (text_of l') ≡ length (bytes_of (text_of l)) + room_of (text_of l)

-- ---- the start of a listing

-- The header, and the fresh board; of a file that is turned down the refusal, and the board as it was.
unfoldable pub opening : Option Answer → Basin → List ℕ → Step
opening None b board = record { text = header; standing = begin b; more = true }
opening (Some a) b board = record { text = header ++ refusal_line a; standing = record { months = 0; board = board }; more = false }

-- a listing that was opened, with its text at the start of the list out; the list for a report is as it was
pub record Opened (f board report out : List ℕ) (l : Listing) : Type 0 where
  pub equation : record { text = bytes_of (text_of l); standing = standing l; more = l.more } ≡ opening (file_refusal f) (basin_of f) board
  pub within : length (bytes_of (text_of l)) ≤ 82
  pub list : length (bytes_of (text_of l)) + room_of (text_of l) ≡ length out
  pub of_file : l.file.now ≡ f
  pub report_kept : l.report.now ≡ report

-- ---- a step

-- what is in order from step to step of a listing: an accepted file, a possible board, room for the report
pub record InOrder (l : Listing) : Type 0 where
  pub accepted : check_of l.file.now ≡ Ok tt
  pub can : possible (basin_of l.file.now) l.board.now ≡ true
  pub told : report_length (basin_of l.file.now) ≤ length l.report.now

-- with it room for a month's text, and a month that can be counted
pub record CanStep (l : Listing) : Type 0 where
  pub in_order : InOrder l
  pub room : most_text ≤ room_of (text_of l)
  pub counted : l.months < 18_446_744_073_709_551_615

-- A text is added, and all that the step tells is what the rules define. The listing stays in order, so that the next step may follow, and no
-- more months are counted than the part has bytes.
pub record Stepped (part : List ℕ) (l l' : Listing) : Type 0 where
  pub added : List ℕ
  pub put : Put most_text added (text_of l) (text_of l')
  pub meets : StepMeets (basin_of l.file.now) (standing l) part (record { text = added; standing = standing l'; more = l'.more })
  pub in_order : InOrder l'
  pub counted : l'.months ≤ l.months + length part
  pub kept : Kept l l'

-- the line of a refusal is added, and the listing ends; nothing else has changed
pub record Refused (a : Answer) (l l' : Listing) : Type 0 where
  pub put : Put most_text (refusal_line a) (text_of l) (text_of l')
  pub months : l'.months ≡ l.months
  pub board : l'.board.now ≡ l.board.now
  pub report : l'.report.now ≡ l.report.now
  pub more : l'.more ≡ false
  pub kept : Kept l l'

-- ---- a block

-- the place of a run, by its listing and what of a block is listed
abbrev pub place_in : List ℕ → Listing → ℕ → Place
place_in block l used = record { standing = standing l; left = drop used block; more = l.more }

-- The parts of a block from place u on were listed, up to the place v: their texts were added. The months are counted by the bytes, of which
-- each takes some.
pub record BlockListed (block : List ℕ) (last : Bool) (u : ℕ) (l l' : Listing) (v : ℕ) : Type 0 where
  pub steps : List Step
  pub walk : Walk (basin_of l.file.now) last (place_in block l u) steps (place_in block l' v)
  pub put : bytes_of (text_of l') ≡ bytes_of (text_of l) ++ texts_of steps
  pub in_order : InOrder l'
  pub used : v ≤ length block
  pub counted : l'.months + u ≤ l.months + v
  pub kept : Kept l l'

-- as a step, for a run that goes on and whose months can be counted to the end of the block
pub record CanListBlock (block : List ℕ) (l : Listing) : Type 0 where
  pub step : CanStep l
  pub going : l.more ≡ true
  pub counted : l.months + length block < 18_446_744_073_709_551_615

-- A block that holds a whole sheet, or is the last, brings the run on.
pub record Moves (b : Basin) (block : List ℕ) (last : Bool) (l : Listing) (used : ℕ) : Type 0 where
  pub sheet : sheet_bytes b ≤ length block → 0 < used
  pub end : last ≡ true → used ≡ 0 → l.more ≡ false

-- the whole sheets of a block; where none was listed there is as much room as before
pub record SheetsListed (block : List ℕ) (l l' : Listing) (used : ℕ) : Type 0 where
  pub listed : BlockListed block false 0 l l' used
  pub sheet : sheet_bytes (basin_of l.file.now) ≤ length block → 0 < used
  pub none : used ≡ 0 → room_of (text_of l') ≡ room_of (text_of l)

-- How far a block is listed, by what is left of it: steps lead over the bytes before.
pub record Passed (block : List ℕ) (last : Bool) (left : List ℕ) (l l' : Listing) : Type 0 where
  pub steps : List Step
  pub walk : Walk (basin_of l.file.now) last (place_in block l 0) steps (record { standing = standing l'; left = left; more = l'.more })

-- As far as it can be: where the listing goes on, so does the file, and less than a sheet is left.
pub record PassedAll (block : List ℕ) (last : Bool) (l l' : Listing) : Type 0 where
  pub left : List ℕ
  pub passed : Passed block last left l l'
  pub end : l'.more ≡ true → (last ≡ false) × (length left < sheet_bytes (basin_of l.file.now))
