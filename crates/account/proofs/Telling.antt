-- The report of a month: told number by number it is told whole, and an accepted call tells it. Assumes nothing.
use Rattle.std.specs.Prelude.{None}
use mathlib.Core.Path.{◌≡◌, sym, ap, ◌∙◌}
use mathlib.Core.List.{List}
use Prim.Native.Nat.{ℕ, ◌+◌, ◌-◌, ◌≤◌}
use native.Mathlib.Omega.{arith}
use lib.ListN.{length, get_or, drop}
use lib.Seq.{get_or-drop}
use lib.IntN.{ℤ, pos, nat_abs}
use Rattle.general.proofs.Signed.{le-trans_ℤ}
use Rattle.general.proofs.Tests.{le_of, both_of}
use Rattle.rules.specs.Basin.{Basin, rows}
use Rattle.rules.specs.River.{Sound, level_at}
use Rattle.rules.specs.Month.{MonthRun}
use Rattle.rules.specs.Tally.{Call, report_length, lists_fit, refusal, Tally, arriving, next_run, standing}
use Rattle.rules.specs.Accepted.{Accepted}
use Rattle.rules.specs.Theorems.{Possible}
use Rattle.rules.proofs.Months.{month-ok}
use Rattle.boards.specs.Report.{report_of}
use Rattle.places.specs.Report.{from_river_place, from_storage_place, reason_place, station_place, flow_place, available_place, evaporation_place, deep_place}
use Rattle.account.specs.Reports.{Tells}
use Rattle.boards.proofs.Report.{report-by-parts, made-size, own-number, river-place, storage-place, reason-place, station-place, flow-place, available-place, evaporation-place, deep-place, places-beyond}
use Rattle.rules.proofs.Sums.{accepted-fits}

-- ---- nothing is left untold

number_of : (n : ℕ) (z : ℤ) → pos n ≡ z → n ≡ nat_abs z
number_of n z e = ap nat_abs e

pub all_told : (b : Basin) (h : MonthRun) (before after : List ℕ) → Tells b h before after → report_length b ≤ length before → after ≡ report_of b h before
all_told b h before after t n = report-by-parts b h before n after (record {
  size = t.size;
  river = t.from-river;
  storage = t.from-storage;
  reason = t.reason;
  station = t.station;
  flow = λ w l. number_of _ _ (t.flow w l);
  available = λ w l. number_of _ _ (t.available w l);
  losses = t.evaporation;
  deep = t.deep;
  beyond = λ p o.
      let k : ℕ = p - report_length b in
      let e : p ≡ report_length b + k = omega (arith, o) in
      ap (λ (x : ℕ). get_or after x 0) e ∙ sym (get_or-drop (report_length b) after k 0) ∙ ap (λ (x : List ℕ). get_or x k 0) t.beyond ∙ get_or-drop (report_length b) before k 0 ∙ ap (λ (x : ℕ). get_or before x 0) (sym e);
})

-- ---- told by an accepted month

-- an accepted call lends a report that is long enough
report-fits : (b : Basin) (c : Call) → refusal b c ≡ None → report_length b ≤ c.report
unfolding lists_fit
report-fits b c e = le_of (both_of (accepted-fits b c e)).1

module _ (b : Basin) (acc : Accepted b) (t : Tally) (p : Possible b (standing b t)) (c : Call) (accepted : refusal b c ≡ None) where
  -- after the last right nothing is negative
  closed-sound : (w : ℕ) → Sound (level_at (next_run b t c).closed.levels w)
  unfolding next_run standing
  closed-sound w = (month-ok b acc t.carried p.storages_count c.runoff (arriving b t.start t.months)).closed-good.sound w

  pub tells : (before after : List ℕ) → length before ≡ c.report → after ≡ report_of b (next_run b t c) before → Tells b (next_run b t c) before after
  tells before after n e =
      let r : MonthRun = next_run b t c in
      let read : (q : ℕ) → get_or after q 0 ≡ get_or (report_of b r before) q 0 = λ q. ap (λ (x : List ℕ). get_or x q 0) e in
      record {
        from-river = λ i l. read (from_river_place i) ∙ river-place b r before i l;
        from-storage = λ i l. read (from_storage_place i) ∙ storage-place b r before i l;
        reason = λ i l. read (reason_place i) ∙ reason-place b r before i l;
        station = λ i l. read (station_place i) ∙ station-place b r before i l;
        flow = λ w l. ap pos (read (flow_place (length b.rights) w) ∙ flow-place b r before w l) ∙ own-number _ (le-trans_ℤ (closed-sound w).not_negative (closed-sound w).within_flow);
        available = λ w l. ap pos (read (available_place (length b.rights) w) ∙ available-place b r before w l) ∙ own-number _ (closed-sound w).not_negative;
        evaporation = λ v l. read (evaporation_place (length b.rights) (rows b) v) ∙ evaporation-place b r before v l;
        deep = read (deep_place (length b.rights) (rows b) (length b.reservoirs)) ∙ deep-place b r before;
        beyond = ap (drop (report_length b)) e ∙ places-beyond b r before;
        size = ap (λ (x : List ℕ). length x) e ∙ made-size b r before (omega (arith, report-fits b c accepted));
      }
