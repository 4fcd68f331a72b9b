-- The listing computed on 01's October. Assumes nothing.
use mathlib.Core.Path.{◌≡◌, refl, ◌∙◌}
use mathlib.Core.List.{List, [], ◌++◌}
use Prim.Native.Nat.{ℕ}
use lib.ListN.{take}
use Rattle.general.specs.Sums.{sum_over, sum_to}
use Rattle.general.specs.Tables.{tab}
use Rattle.general.specs.Routes.{follow}
use Rattle.general.specs.Tests.{◌and◌, has, first_at, bit}
use Rattle.rules.specs.Answers.{or_else, unless}
use Rattle.rules.specs.Path.{carries_on, row_below, path, until_row}
use Rattle.rules.specs.River.{diverted, reserved, released, returned, along, lowest, lesser}
use Rattle.rules.specs.Returns.{consumption, returning, shares_from, shares, parts_at, parts_of, lagged, return_now, returned_at}
use Rattle.rules.specs.Turn.{scheduled, demand, any_on, called, divertible, river_part, with_levels, after_diversion, river_stage, storage_part, storage_stage, return_stage, shortage, reason_of, first_on, low_row, number_at, controlling, turn}
use Rattle.rules.specs.Month.{gathered, opening_levels, opening, turns, after_turns, consumed_by, returned_by, returns_at, towards, area_from, area_by, area_at, evaporation, evaporations, evaporated, next_month, month, reason_number}
use Rattle.rules.specs.Tally.{over_limit, over_answer, fresh_carried}
use Rattle.numbers.specs.Bytes.{le32_at}
use Rattle.boards.specs.Board.{carried_of, word_of, board_parts, board_of, storage_sum, due_sum}
use Rattle.places.specs.Board.{board_by}
use Rattle.places.specs.Board as board
use Rattle.places.specs.Report as report
use Rattle.boards.specs.Report.{grant_number, level_number, report_parts, report_of}
use Rattle.answers.specs.Answers.{file_refusal}
use Rattle.fresh.specs.Fresh.{fresh_board}
use Rattle.month.specs.Month.{run_of, due_after, board_after}
use Rattle.rules.specs.October.{october}
use Rattle.filecheck.specs.October.{october_file}
use Rattle.filecheck.proofs.October.{october-checked}
use Rattle.filecheck.specs.Check.{check_of}
use Rattle.sections.specs.File.{layout_ok}
use Rattle.answers.proofs.Answers.{no-refusal}
use Rattle.listing.specs.Listing.{decimal_in, decimal_text, right_line, right_lines, end_line, outflow_in, evaporation_in, month_text, refusal_line, header}
use Rattle.sheets.specs.Sheets.{sheet_of}
use Rattle.listing.specs.Run.{part_refusal, sheet_step, step_of, next_step, steps_text, begin, months_text, after_header, listing_of}
use Rattle.listing.specs.October.{october_months, head_line, seven_lines, over_months, refused_line, Listed}

-- by the basin that the file describes
listing-is : (months : List ℕ) → listing_of october_file months ≡ header ++ months_text october months
unfolding listing_of after_header
listing-is months = rw (no-refusal october_file october-checked.accepted, october-checked.decoded)

seven-lines : header ++ months_text october october_months ≡ seven_lines
unfolding header decimal_in decimal_text end_line sum_over sum_to tab ◌and◌ has first_at follow carries_on row_below path until_row diverted reserved released returned along lowest lesser consumption returning shares_from shares parts_at parts_of lagged return_now returned_at bit scheduled demand any_on called divertible river_part with_levels after_diversion river_stage storage_part storage_stage return_stage shortage reason_of first_on low_row number_at controlling turn gathered opening_levels opening turns after_turns consumed_by returned_by returns_at towards area_from area_by area_at evaporation evaporations evaporated next_month month reason_number over_limit over_answer fresh_carried carried_of word_of board.part_at board_by board_parts board_of storage_sum due_sum grant_number level_number report.part_at report_parts report_of or_else unless fresh_board run_of due_after board_after le32_at sheet_of part_refusal sheet_step step_of next_step steps_text begin months_text month_text right_lines right_line outflow_in evaporation_in
seven-lines = refl

-- ---- listings that end at once

no-months-so : header ++ months_text october [] ≡ head_line
unfolding header next_step step_of steps_text begin months_text
no-months-so = refl

cut-short-so : header ++ months_text october (take 11 october_months) ≡ head_line ++ refused_line 6 0
unfolding header decimal_in decimal_text refusal_line or_else unless part_refusal sheet_step step_of next_step steps_text begin months_text
cut-short-so = refl

over-so : header ++ months_text october over_months ≡ head_line ++ refused_line 8 1
unfolding header decimal_in decimal_text refusal_line first_at tab over_limit over_answer le32_at sheet_of or_else unless part_refusal sheet_step step_of next_step steps_text begin months_text
over-so = refl

no-basin-so : (months : List ℕ) → listing_of [] months ≡ head_line ++ refused_line 1 0
unfolding listing_of after_header file_refusal check_of layout_ok header decimal_in decimal_text refusal_line ◌and◌
no-basin-so months = refl

pub listed : Listed
unfolding decimal_in decimal_text
listed = record {
  zero = refl;
  ten = refl;
  fifteen_hundred = refl;
  october = listing-is october_months ∙ seven-lines;
  no_months = listing-is [] ∙ no-months-so;
  cut_short = listing-is (take 11 october_months) ∙ cut-short-so;
  over = listing-is over_months ∙ over-so;
  no_basin = no-basin-so;
}
