-- The report of a month: a list of numbers of which a month writes the first, and keeps the rest (01, "The board and one month"; 02, No. 5).
use Rattle.std.specs.Prelude.{cond, List, ◌++◌, ℕ, eqb, length, get_or, drop, nat_abs}
use Rattle.general.specs.Tables.{tab}
use Rattle.places.specs.Report.{Parts, part_at}
use Rattle.rules.specs.Basin.{Basin, rows}
use Rattle.rules.specs.River.{Level, level_at}
use Rattle.rules.specs.Turn.{Grant}
use Rattle.rules.specs.Month.{grant_at, deep_of, MonthRun, reason_number}
use Rattle.rules.specs.Tally.{report_length}

-- the four numbers of a right: its two amounts, the reason's number, the station that holds it back
unfoldable pub grant_number : Grant → ℕ → ℕ
grant_number g q = cond (eqb q 0) g.from_river (cond (eqb q 1) g.from_storage (cond (eqb q 2) (reason_number g.reason) g.station))

-- per row: flow, available flow. The rules reckon them with a sign. In a month from a possible board neither is negative (theorem `Checkpoints` of
-- `account/specs/Claim`), so that the number told is the flow itself, as the claim says there (`Tells`).
unfoldable pub level_number : Level → ℕ → ℕ
level_number x q = cond (eqb q 0) (nat_abs x.flow) (nat_abs x.available)

-- what a month run has to tell
unfoldable pub report_parts : Basin → MonthRun → Parts
report_parts b h = record {
  line = λ i q. grant_number (grant_at h.turns i) q;
  row = λ w q. level_number (level_at h.closed.levels w) q;
  evaporation = λ v. get_or h.evaporation v 0;
  deep = deep_of b h.turns;
}

-- Places beyond the report keep their content.
unfoldable pub report_of : Basin → MonthRun → List ℕ → List ℕ
report_of b h old = tab (report_length b) (part_at (length b.rights) (rows b) (length b.reservoirs) (report_parts b h)) ++ drop (report_length b) old
