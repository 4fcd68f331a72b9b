-- What stands at each place of a report, and that a report is known by its parts. Assumes nothing.
use mathlib.Core.Path.{◌≡◌, refl, sym, ap, ◌∙◌}
use mathlib.Core.List.{List}
use Prim.Native.Nat.{ℕ, ◌+◌, ◌-◌, ◌≤◌, ◌<◌}
use native.Mathlib.Decide.{dec_lt}
use native.Mathlib.Omega.{arith}
use lib.ListN.{length, get_or, drop, length-append, length-drop, get_or-append}
use lib.Seq.{drop_at, ext_get_or, get_or-drop}
use lib.IntN.{ℤ, pos, negsuc, nat_abs}
use lib.Signed.{◌≤ℤ◌}
use Rattle.general.specs.Tables.{tab}
use Rattle.general.proofs.Tables.{tab-length, tab-at}
use Rattle.places.specs.Report.{from_river_place, from_storage_place, reason_place, station_place, flow_place, available_place, evaporation_place, deep_place, Parts, part_at}
use Rattle.places.proofs.ReportPlaces.{by-places, line-part, row-part, evaporation-part, deep-part}
use Rattle.rules.specs.Basin.{Basin, rows}
use Rattle.rules.specs.River.{level_at}
use Rattle.rules.specs.Month.{grant_at, deep_of, MonthRun, reason_number}
use Rattle.rules.specs.Tally.{report_length}
use Rattle.boards.specs.Report.{grant_number, level_number, report_parts, report_of}

-- what is not negative is its own number
pub own-number : (z : ℤ) → pos 0 ≤ℤ z → pos (nat_abs z) ≡ z
own-number (pos n) h = refl
own-number (negsuc n) h = absurd h.le

module _ (b : Basin) (h : MonthRun) (old : List ℕ) where
  abbrev n : ℕ
  n = length b.rights

  abbrev v : ℕ
  v = length b.reservoirs

  abbrev parts : Parts
  parts = report_parts b h

  abbrev told : ℕ → ℕ
  told = part_at n (rows b) v parts

  abbrev made : List ℕ
  made = report_of b h old

  at : (p : ℕ) → p < report_length b → get_or made p 0 ≡ told p
  unfolding report_of
  at p l = get_or-append (tab (report_length b) told) (drop (report_length b) old) 0 p (rw (tab-length told (report_length b)) l) ∙ tab-at told (report_length b) p 0 l

  -- the q-th number of right i, and of row w
  grant-at : (i q : ℕ) → i < n → q < 4 → get_or made (from_river_place i + q) 0 ≡ grant_number (grant_at h.turns i) q
  unfolding report_parts
  grant-at i q l m = at (from_river_place i + q) (omega arith) ∙ line-part n (rows b) v parts i q l m

  level-at : (w q : ℕ) → w < rows b → q < 2 → get_or made (flow_place n w + q) 0 ≡ level_number (level_at h.closed.levels w) q
  unfolding report_parts
  level-at w q l m = at (flow_place n w + q) (omega arith) ∙ row-part n (rows b) v parts w q l m

  pub river-place : (i : ℕ) → i < n → get_or made (from_river_place i) 0 ≡ (grant_at h.turns i).from_river
  unfolding grant_number
  river-place i l = ap (λ (p : ℕ). get_or made p 0) (omega arith) ∙ grant-at i 0 l (omega arith)

  pub storage-place : (i : ℕ) → i < n → get_or made (from_storage_place i) 0 ≡ (grant_at h.turns i).from_storage
  unfolding grant_number
  storage-place i l = grant-at i 1 l (omega arith)

  pub reason-place : (i : ℕ) → i < n → get_or made (reason_place i) 0 ≡ reason_number (grant_at h.turns i).reason
  unfolding grant_number
  reason-place i l = grant-at i 2 l (omega arith)

  pub station-place : (i : ℕ) → i < n → get_or made (station_place i) 0 ≡ (grant_at h.turns i).station
  unfolding grant_number
  station-place i l = grant-at i 3 l (omega arith)

  pub flow-place : (w : ℕ) → w < rows b → get_or made (flow_place n w) 0 ≡ nat_abs (level_at h.closed.levels w).flow
  unfolding level_number
  flow-place w l = ap (λ (p : ℕ). get_or made p 0) (omega arith) ∙ level-at w 0 l (omega arith)

  pub available-place : (w : ℕ) → w < rows b → get_or made (available_place n w) 0 ≡ nat_abs (level_at h.closed.levels w).available
  unfolding level_number
  available-place w l = level-at w 1 l (omega arith)

  pub evaporation-place : (u : ℕ) → u < v → get_or made (evaporation_place n (rows b) u) 0 ≡ get_or h.evaporation u 0
  unfolding report_parts
  evaporation-place u l = at (evaporation_place n (rows b) u) (omega arith) ∙ evaporation-part n (rows b) v parts u l

  pub deep-place : get_or made (deep_place n (rows b) v) 0 ≡ deep_of b h.turns
  unfolding report_parts
  deep-place = at (deep_place n (rows b) v) (omega arith) ∙ deep-part n (rows b) v parts

  pub places-beyond : drop (report_length b) made ≡ drop (report_length b) old
  unfolding report_of
  places-beyond = drop_at (tab (report_length b) told) (drop (report_length b) old) (report_length b) (tab-length told (report_length b))

  -- ---- a list with the same parts is the report

  pub record SameParts (l : List ℕ) : Type 0 where
    pub size : length l ≡ length old
    pub river : (i : ℕ) → i < n → get_or l (from_river_place i) 0 ≡ (grant_at h.turns i).from_river
    pub storage : (i : ℕ) → i < n → get_or l (from_storage_place i) 0 ≡ (grant_at h.turns i).from_storage
    pub reason : (i : ℕ) → i < n → get_or l (reason_place i) 0 ≡ reason_number (grant_at h.turns i).reason
    pub station : (i : ℕ) → i < n → get_or l (station_place i) 0 ≡ (grant_at h.turns i).station
    pub flow : (w : ℕ) → w < rows b → get_or l (flow_place n w) 0 ≡ nat_abs (level_at h.closed.levels w).flow
    pub available : (w : ℕ) → w < rows b → get_or l (available_place n w) 0 ≡ nat_abs (level_at h.closed.levels w).available
    pub losses : (u : ℕ) → u < v → get_or l (evaporation_place n (rows b) u) 0 ≡ get_or h.evaporation u 0
    pub deep : get_or l (deep_place n (rows b) v) 0 ≡ deep_of b h.turns
    pub beyond : (p : ℕ) → report_length b ≤ p → get_or l p 0 ≡ get_or old p 0

  module _ (room : report_length b ≤ length old) where
    pub made-size : length made ≡ length old
    unfolding report_of
    made-size = length-append (tab (report_length b) told) (drop (report_length b) old) ∙ omega (arith, tab-length told (report_length b), length-drop (report_length b) old, room)

    made-beyond : (p : ℕ) → report_length b ≤ p → get_or made p 0 ≡ get_or old p 0
    made-beyond p o =
        let k : ℕ = p - report_length b in
        let e : p ≡ report_length b + k = omega (arith, o) in
        ap (λ (x : ℕ). get_or made x 0) e ∙ sym (get_or-drop (report_length b) made k 0) ∙ ap (λ (x : List ℕ). get_or x k 0) places-beyond ∙ get_or-drop (report_length b) old k 0 ∙ ap (λ (x : ℕ). get_or old x 0) (sym e)

    module _ (l : List ℕ) (t : SameParts l) where
      same-told : (p : ℕ) → p < report_length b → get_or l p 0 ≡ get_or made p 0
      same-told p o = by-places n (rows b) v (λ p. get_or l p 0 ≡ get_or made p 0)
          (λ i m. t.river i m ∙ sym (river-place i m))
          (λ i m. t.storage i m ∙ sym (storage-place i m))
          (λ i m. t.reason i m ∙ sym (reason-place i m))
          (λ i m. t.station i m ∙ sym (station-place i m))
          (λ w m. t.flow w m ∙ sym (flow-place w m))
          (λ w m. t.available w m ∙ sym (available-place w m))
          (λ u m. t.losses u m ∙ sym (evaporation-place u m))
          (t.deep ∙ sym deep-place)
          p o

      same_at : (p : ℕ) → get_or l p 0 ≡ get_or made p 0
      same_at p = pick (dec_lt p (report_length b))
        where
          pick : Dec (p < report_length b) → get_or l p 0 ≡ get_or made p 0
          pick (yes x) = same-told p x
          pick (no x) = t.beyond p (omega (arith, x)) ∙ sym (made-beyond p (omega (arith, x)))

      pub report-by-parts : l ≡ made
      report-by-parts = ext_get_or 0 l made (t.size ∙ sym made-size) (λ p o. same_at p)
