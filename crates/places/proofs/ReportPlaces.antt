-- Every place of a report is one of those named, and none has two names. Assumes nothing.
use mathlib.Core.Path.{◌≡◌, ap, subst}
use Prim.Native.Nat.{ℕ, ◌+◌, ◌-◌, ◌/◌, ◌%◌, ◌≤◌, ◌<◌}
use native.Mathlib.Decide.{dec_lt}
use native.Mathlib.Omega.{arith}
use Rattle.general.proofs.Tests.{ltb_yes, ltb_no}
use Rattle.places.specs.Report.{from_river_place, from_storage_place, reason_place, station_place, lines_end, flow_place, available_place, rows_end, evaporation_place, deep_place, report_end, most_report, Parts, part_at}

-- the longest report is that of the largest basin
pub most-report : (n h v : ℕ) → n ≤ 256 → h ≤ 64 → v ≤ 8 → report_end n h v ≤ most_report
most-report n h v a b c = omega arith

-- ---- which place is which: what holds at each named place holds at every place of a report

by-line : (P : ℕ → Type 0) (i p : ℕ) → p ≡ from_river_place i + p % 4 → P (from_river_place i) → P (from_storage_place i) → P (reason_place i) → P (station_place i) → P p
by-line P i p e river storage reason station = pick (dec_lt (p % 4) 1) (dec_lt (p % 4) 2) (dec_lt (p % 4) 3)
  where
    is : {q : ℕ} → q ≡ p → P q → P p
    is e x = subst P e x

    pick : Dec (p % 4 < 1) → Dec (p % 4 < 2) → Dec (p % 4 < 3) → P p
    pick (yes a) _ _ = is (omega (arith, e, a)) river
    pick (no a) (yes b) _ = is (omega (arith, e, a, b)) storage
    pick (no a) (no b) (yes c) = is (omega (arith, e, b, c)) reason
    pick (no a) (no b) (no c) = is (omega (arith, e, c)) station

pub by-places : (n h v : ℕ) (P : ℕ → Type 0)
    → ((i : ℕ) → i < n → P (from_river_place i)) → ((i : ℕ) → i < n → P (from_storage_place i)) → ((i : ℕ) → i < n → P (reason_place i)) → ((i : ℕ) → i < n → P (station_place i))
    → ((w : ℕ) → w < h → P (flow_place n w)) → ((w : ℕ) → w < h → P (available_place n w)) → ((u : ℕ) → u < v → P (evaporation_place n h u)) → P (deep_place n h v)
    → (p : ℕ) → p < report_end n h v → P p
by-places n h v P river storage reason station flow available evaporation deep p l = pick (dec_lt p (lines_end n)) (dec_lt p (rows_end n h)) (dec_lt ((p - lines_end n) % 2) 1) (dec_lt p (deep_place n h v))
  where
    is : {q : ℕ} → q ≡ p → P q → P p
    is e x = subst P e x

    pick : Dec (p < lines_end n) → Dec (p < rows_end n h) → Dec ((p - lines_end n) % 2 < 1) → Dec (p < deep_place n h v) → P p
    pick (yes a) _ _ _ = let i : ℕ = p / 4 in let m : i < n = omega arith in by-line P i p (omega arith) (river i m) (storage i m) (reason i m) (station i m)
    pick (no a) (yes b) (yes c) _ = is (omega (arith, a, c)) (flow ((p - lines_end n) / 2) (omega (arith, a, b)))
    pick (no a) (yes b) (no c) _ = is (omega (arith, a, c)) (available ((p - lines_end n) / 2) (omega (arith, a, b)))
    pick (no a) (no b) _ (yes d) = is (omega (arith, b)) (evaporation (p - rows_end n h) (omega (arith, b, d)))
    pick (no a) (no b) _ (no d) = is (omega (arith, d, l)) deep

-- ---- what stands at each place: so no two parts meet

module _ (n h v : ℕ) (x : Parts) where
  pub line-part : (i q : ℕ) → i < n → q < 4 → part_at n h v x (from_river_place i + q) ≡ x.line i q
  unfolding part_at
  line-part i q l m =
      let p : ℕ = from_river_place i + q in
      let e : p / 4 ≡ i = omega arith in
      let f : p % 4 ≡ q = omega arith in
      rw (ltb_yes p (lines_end n) (omega arith), e, f)

  pub row-part : (w q : ℕ) → w < h → q < 2 → part_at n h v x (flow_place n w + q) ≡ x.row w q
  unfolding part_at
  row-part w q l m =
      let p : ℕ = flow_place n w + q in
      let e : (p - lines_end n) / 2 ≡ w = omega arith in
      let f : (p - lines_end n) % 2 ≡ q = omega arith in
      rw (ltb_no p (lines_end n) (omega arith), ltb_yes p (rows_end n h) (omega arith), e, f)

  pub evaporation-part : (u : ℕ) → u < v → part_at n h v x (evaporation_place n h u) ≡ x.evaporation u
  unfolding part_at
  evaporation-part u l =
      let p : ℕ = evaporation_place n h u in
      rw (ltb_no p (lines_end n) (omega arith), ltb_no p (rows_end n h) (omega arith), ltb_yes p (deep_place n h v) (omega arith)) (ap (λ (j : ℕ). x.evaporation j) (omega arith))

  pub deep-part : part_at n h v x (deep_place n h v) ≡ x.deep
  unfolding part_at
  deep-part =
      let p : ℕ = deep_place n h v in
      rw (ltb_no p (lines_end n) (omega arith), ltb_no p (rows_end n h) (omega arith), ltb_no p (deep_place n h v) (omega arith))
