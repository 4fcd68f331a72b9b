-- The listing of two files (01, "One October, whole"): the bytes of a basin file and of a file of runoff sheets.
use Rattle.std.specs.Prelude.{Bool, true, false, List, [], ◌∷◌, ◌++◌, ℕ, zero, suc, eqb, length, take, drop, Option, None, Some}
use Rattle.rules.specs.Basin.{Basin, rows}
use Rattle.rules.specs.declared.Refusal.TheVariants.{Lists}
use Rattle.rules.specs.Answers.{Answer, or_else, unless}
use Rattle.rules.specs.Tally.{over_limit, over_answer}
use Rattle.sheets.specs.Sheets.{sheet_size, sheet_of}
use Rattle.records.specs.Records.{basin_of}
use Rattle.boards.specs.Report.{report_of}
use Rattle.answers.specs.Answers.{file_refusal}
use Rattle.fresh.specs.Fresh.{fresh_board}
use Rattle.month.specs.Month.{run_of, board_after}
use Rattle.listing.specs.Listing.{month_text, refusal_line, header}

-- ---- the file of months

-- The file is read sheet by sheet, so a part of it is a sheet's bytes, or what is left of them at its end.
abbrev pub sheet_bytes : Basin → ℕ
sheet_bytes b = sheet_size (rows b)

-- 6 where a part is no whole sheet, 8 at the first row whose runoff is over its limit
unfoldable pub part_refusal : Basin → List ℕ → Option Answer
part_refusal b part = or_else (unless (eqb (length part) (sheet_bytes b)) Lists) (over_answer (over_limit (sheet_of (rows b) part)))

-- ---- what one part adds

-- how a run stands: the months that it has listed, and its board
pub record Standing : Type 0 where
  pub months : ℕ
  pub board : List ℕ

-- the text that a part adds, how the run stands after it, and whether it goes on
pub record Step : Type 0 where
  pub text : List ℕ
  pub standing : Standing
  pub more : Bool

-- A sheet that is turned down ends the run with its refusal. Any other is a month: its lines are added, and the run stands one month on,
-- with the board that the month leaves.
unfoldable pub sheet_step : Option Answer → Basin → Standing → List ℕ → Step
sheet_step (Some a) b s runoff = record { text = refusal_line a; standing = s; more = false }
sheet_step None b s runoff =
    let after : List ℕ = board_after b runoff s.board in
    record {
      text = month_text b s.months (report_of b (run_of b runoff s.board) []) after;
      standing = record { months = suc s.months; board = after };
      more = true;
    }

-- Where nothing is left of the file the run ends, and nothing is added.
unfoldable pub step_of : Basin → Standing → List ℕ → Step
step_of b s [] = record { text = []; standing = s; more = false }
step_of b s (x ∷ part) = sheet_step (part_refusal b (x ∷ part)) b s (sheet_of (rows b) (x ∷ part))

-- ---- part after part

-- the step that the first part of what is left of the file makes
unfoldable pub next_step : Basin → Standing → List ℕ → Step
next_step b s rest = step_of b s (take (sheet_bytes b) rest)

-- what the rest of a file adds; k is the most steps that are made
unfoldable pub steps_text : ℕ → Basin → Standing → List ℕ → List ℕ
steps_text zero b s rest = []
steps_text (suc k) b s rest =
    let t : Step = next_step b s rest in
    t.text ++ elim t.more [ true ↦ steps_text k b t.standing (drop (sheet_bytes b) rest) | false ↦ [] ]

-- ---- the listing

-- A run begins with the fresh board, no month listed.
unfoldable pub begin : Basin → Standing
begin b = record { months = 0; board = fresh_board b }

-- Each step but the last uses up some bytes, so that a file has at most one step more than bytes, and none is left out.
unfoldable pub months_text : Basin → List ℕ → List ℕ
months_text b months = steps_text (suc (length months)) b (begin b) months

-- A basin that is turned down ends the listing with its refusal.
unfoldable pub after_header : Option Answer → Basin → List ℕ → List ℕ
after_header (Some a) b months = refusal_line a
after_header None b months = months_text b months

-- The listing: the header, then the basin's refusal or its months.
unfoldable pub listing_of : List ℕ → List ℕ → List ℕ
listing_of f months = header ++ after_header (file_refusal f) (basin_of f) months
