-- The end of a month on the arrays: what each step asks for, and what it leaves (01, steps 4 and 5; 02, Nos. 5 and 6). A basin of n rights and h rows.
use Rattle.std.specs.Prelude.{List, ◌≡◌, ℕ, ◌≤◌, ◌<◌, length, get_or, set}
use Rattle.places.specs.Board.{month_place, month_at, word_at}
use Rattle.places.specs.Report.{lines_end, flow_place, available_place, rows_end, deep_place, report_end}
use Rattle.rules.specs.Month.{next_month}
use Rattle.records.specs.Records.{reservoir_count}
use Rattle.closing.specs.Losses.{Lost}
use Rattle.closing.specs.Noting.{reasons_in, WordsNoted}

-- ---- flow and available flow of the rows, told in the report

pub record CanTell (n h : ℕ) (rp : List ℕ) : Type 0 where
  pub few_rights : n ≤ 256
  pub few : h ≤ 64
  pub places : rows_end n h ≤ length rp

-- from rp to rp' the first k rows have been told
pub record RowsTold (n k : ℕ) (f a rp rp' : List ℕ) : Type 0 where
  pub flow : (w : ℕ) → w < k → get_or rp' (flow_place n w) 0 ≡ get_or f w 0
  pub available : (w : ℕ) → w < k → get_or rp' (available_place n w) 0 ≡ get_or a w 0
  pub front : (p : ℕ) → p < lines_end n → get_or rp' p 0 ≡ get_or rp p 0
  pub beyond : (p : ℕ) → rows_end n k ≤ p → get_or rp' p 0 ≡ get_or rp p 0
  pub size : length rp' ≡ length rp

-- ---- the end of a month: who was short is noted, the rows are told, the reservoirs lose their evaporation, what went deep is told, m goes on

pub record CanEnd (rs : List ℕ) (n h : ℕ) (bd rp : List ℕ) : Type 0 where
  pub few : reservoir_count rs ≤ 8
  pub in-year : month_at bd < 12
  pub tell : CanTell n h rp
  pub words : (i : ℕ) → i < n → word_at bd i < 4096
  pub places : report_end n h (reservoir_count rs) ≤ length rp

pub record Ended (rs : List ℕ) (n h : ℕ) (f a : List ℕ) (deep : ℕ) (bd rp bd' rp' : List ℕ) (shorts : ℕ) : Type 0 where
  pub counted : shorts ≡ reasons_in n rp
  pub noted : List ℕ
  pub words_noted : WordsNoted (month_at bd) n rp bd noted
  pub told : List ℕ
  pub rows_told : RowsTold n h f a rp told
  pub lowered : List ℕ
  pub losses_told : List ℕ
  pub lost : Lost rs (month_at bd) (reservoir_count rs) noted told (rows_end n h) lowered losses_told
  pub deep_told : rp' ≡ set losses_told (deep_place n h (reservoir_count rs)) deep
  pub gone_on : bd' ≡ set lowered month_place (next_month (month_at bd))
