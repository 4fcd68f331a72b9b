-- What an accepted file gives to the rules. Assumes nothing.
use Rattle.std.specs.Prelude.{Ok, is_some}
use mathlib.Core.Path.{◌≡◌, refl, sym, ap, ◌∙◌, subst}
use mathlib.Core.Logic.{◌⊎◌, inl, inr}
use mathlib.Core.Bool.{Bool, true, false, cond}
use mathlib.Core.List.{List, [], map}
use Prim.Native.Nat.{ℕ, suc, ◌+◌, ◌≤◌, ◌<◌}
use native.Mathlib.Omega.{arith}
use lib.Dec.{eqb}
use lib.ListN.{length, get_or}
use Rattle.general.specs.Sums.{sum, sum_to}
use Rattle.general.specs.Tables.{tab, All, Rising}
use Rattle.general.specs.Tests.{◌and◌, has}
use Rattle.general.proofs.Tests.{by_eqb, eqb-other, both_of, between-of, eq_of, le_of, lt_of}
use Rattle.general.proofs.Search.{some_of, all-at}
use Rattle.general.proofs.Tables.{tab-length, sum-tab}
use Rattle.general.proofs.Entries.{all-tab, tab-most, tab-none, map-tab}
use Rattle.rules.specs.Basin.{Survey, Reservoir, Point, Right, Basin, no_reservoir, reservoir_at}
use Rattle.rules.specs.Path.{row_below, path}
use Rattle.rules.specs.Accepted.{Connected, GoodReservoir, GoodPattern, ReservoirOk, Unreturned, Returned, ReturnsOk, GoodRight, Accepted}
use Rattle.rules.specs.Theorems.{AreaFacts}
use Rattle.rules.proofs.Theorems.{areas}
use Rattle.records.specs.declared.rights.Kind.{Kind}
use Rattle.records.specs.declared.rights.Kind.TheVariants.{Direct, Project, Instream, Storage}
use Rattle.records.specs.declared.rights.RightRecord.{RightRecord}
use Rattle.sections.specs.File.{layout_ok, section_of}
use Rattle.records.specs.declared.bodies.Bodies.{Bodies}
use Rattle.records.specs.Bodies.{basin_in, BodiesOf}
use Rattle.records.specs.Records.{rows_of, stations_of, reservoir_count, reservoir_record, content_at, depth_at, reservoir_of, reservoirs_of, pattern_count, pattern_of, percent_at, patterns_of, right_count, right_record, amount_at, return_row, return_percent, kind_of, right_of, rights_of, bodies, basin_of}
use Rattle.filerules.specs.FileRules.{way_down, station_ok, contents_rise, areas_ok, depths_ok, surveys_ok, reservoir_plain, reservoir_ok, pattern_ok, limit_ok, heading_ok, below_reservoir, at_reservoir, source_ok, point_ok, each_point_ok, points_ok, diversion_ok, undiverted_ok, returns_ok, amounts_ok, right_ok}
use Rattle.filecheck.specs.Check.{bodies_verdict, check_of}
use Rattle.filecheck.specs.Theorems.{AcceptedFacts, LakeAreas}
use Rattle.sections.proofs.Parts.{laid}
use Rattle.records.proofs.Counted.{rows-counted, reservoirs-counted, patterns-counted, rights-counted}
use Rattle.records.proofs.Decoded.{basin-same, reservoirs-are, reservoir-is, patterns-are, rights-are}
use Rattle.records.proofs.Rows.{rows_are}
use Rattle.filecheck.proofs.Faults.{check-refuses, check-goes-on, and-clear, stations-clear, reservoirs-clear, patterns-clear, rights-clear}
use Rattle.filerules.proofs.Cases.{all-consumed, returns-shared, few_points}

-- ---- each record of an accepted file keeps its rules

record Clear (st rs ps s : List ℕ) : Type 0 where
  stations : (i : ℕ) → i < rows_of st → station_ok st i ≡ true
  reservoirs : (v : ℕ) → v < reservoir_count rs → reservoir_ok st rs v ≡ true
  patterns : (p : ℕ) → p < pattern_count ps → pattern_ok ps p ≡ true
  rights : (i : ℕ) → i < right_count s → right_ok st rs (pattern_count ps) s i ≡ true

bodies-clear : (st rs ps s : List ℕ) → bodies_verdict st rs ps s ≡ Ok tt → Clear st rs ps s
unfolding bodies_verdict
bodies-clear st rs ps s e =
    let a = and-clear _ _ e in
    let b = and-clear _ _ a.1 in
    let c = and-clear _ _ b.1 in
    record { stations = stations-clear st a.0; reservoirs = reservoirs-clear st rs b.0; patterns = patterns-clear ps c.0; rights = rights-clear st rs ps s c.1 }

layout-clear : (f : List ℕ) → check_of f ≡ Ok tt → layout_ok f ≡ true
layout-clear f e = go (layout_ok f) refl
  where
    go : (b : Bool) → layout_ok f ≡ b → layout_ok f ≡ true
    go true l = l
    go false l = cc (check-refuses f l)

-- ---- stations

way_of : (st : List ℕ) (i : ℕ) → suc i < rows_of st → station_ok st i ≡ true → is_some (row_below (stations_of st) i) ≡ true
unfolding station_ok way_down
way_of st i h e =
    let w = (both_of e).1 in
    let n : eqb (suc i) (rows_of st) ≡ false = eqb-other (suc i) (rows_of st) (omega arith) in
    rw n at w

-- ---- the rules of one record, at the bodies of a basin

module _ (st rs ps s : List ℕ) (k : Clear st rs ps s) where
  abbrev basin : Basin
  basin = record { stations = stations_of st; reservoirs = reservoirs_of rs; patterns = patterns_of ps; rights = rights_of s }

  connected : 0 < rows_of st → Connected basin
  connected h = record {
    some_row = rw (rows_are st) h;
    has_below = λ r l. let n = rows_are st in some_of (row_below (stations_of st) r) (way_of st r (omega arith) (k.stations r (omega arith)));
  }

  -- the storages of an area-capacity table rise
  rising-of : (v : ℕ) → reservoir_ok st rs v ≡ true → Rising (map (λ (p : Survey). p.content) (reservoir_of rs v).surveys)
  unfolding reservoir_ok surveys_ok contents_rise reservoir_of tab
  rising-of v e =
      let c = (both_of (both_of (both_of (both_of e).0).1).0).1 in
      let up : (j : ℕ) → j < 3 → content_at rs v j < content_at rs v (j + 1) = λ j l. lt_of (all-at 3 _ c j l) in
      (up 0 (omega arith), (up 1 (omega arith), (up 2 (omega arith), tt)))

  lake-areas-of : (v : ℕ) → v < length (reservoirs_of rs) → AreaFacts (reservoir_at basin v)
  lake-areas-of v h =
      let l : v < reservoir_count rs = omega (arith, h, reservoirs-are rs) in
      subst AreaFacts (sym (reservoir-is rs v l)) (areas (reservoir_of rs v) (rising-of v (k.reservoirs v l)))

  plain_of : (v : ℕ) → reservoir_ok st rs v ≡ true → (reservoir_plain st rs v ≡ true) × (areas_ok rs v ≡ true) × (depths_ok rs v ≡ true)
  unfolding reservoir_ok surveys_ok
  plain_of v e = let a = both_of e in let b = both_of a.0 in (b.0, (both_of b.1).1, a.1)

  good-reservoir : (v : ℕ) → reservoir_ok st rs v ≡ true → GoodReservoir basin (reservoir_of rs v)
  unfolding reservoir_of reservoir_plain areas_ok depths_ok
  good-reservoir v e =
      let p = plain_of v e in
      let a = both_of p.0 in
      let b = both_of a.0 in
      let c = both_of b.0 in
      record {
        row_in = rw (rows_are st) (lt_of c.0);
        capacity_most = (between-of b.1).1;
        start_most = le_of a.1;
        areas_most = all-tab (λ (q : Survey). q.area ≤ 1_000_000) 4 _ (λ i l. le_of (all-at 4 _ p.1 i l));
        depths_most = tab-most 12 (depth_at rs v) 1000 (λ m l. le_of (all-at 12 _ p.2 m l));
      }

  -- ---- the records that a right names

  reservoir-row : (v : ℕ) → v < reservoir_count rs → (get_or (reservoirs_of rs) v no_reservoir).row ≡ (reservoir_record rs v).row
  unfolding reservoir_of
  reservoir-row v h = ap (λ (x : Reservoir). x.row) (reservoir-is rs v h)

  good-pattern : (p : ℕ) → p < pattern_count ps → GoodPattern (pattern_of ps p)
  unfolding pattern_ok pattern_of
  good-pattern p h = record { twelve = tab-length (percent_at ps p) 12; sum_most = le_of (k.patterns p h) }

  good-patterns : All GoodPattern (patterns_of ps)
  unfolding patterns_of
  good-patterns = all-tab GoodPattern (pattern_count ps) (pattern_of ps) good-pattern

  -- ---- one right

  module _ (i : ℕ) where
    abbrev r : RightRecord
    r = right_record s i

    abbrev right : Right
    right = right_of s i

    -- the reservoir behind it, by its kind
    behind : (c : Kind) → source_ok c st rs r ≡ true → ReservoirOk (kind_of c) basin right
    unfolding source_ok below_reservoir at_reservoir right_of
    behind Direct o = tt
    behind Project o =
        let a = both_of o in
        (rw (reservoirs-are rs) (lt_of a.0), ap (λ (x : ℕ). has r.row (path (stations_of st) x)) (reservoir-row r.reservoir (lt_of a.0)) ∙ a.1)
    behind Instream o = tt
    behind Storage o = let a = both_of o in (rw (reservoirs-are rs) (lt_of a.0), eq_of a.1 ∙ sym (reservoir-row r.reservoir (lt_of a.0)))

    -- without points
    no_points : r.points ≡ 0 → right.points ≡ []
    unfolding right_of
    no_points e = rw e (tab-none _)

    -- with points
    module _ (few : r.points ≤ 4) (o : points_ok (rows_of st) (pattern_count ps) s i r ≡ true) where
      parts : (r.efficiency ≤ 100) × (r.pattern < pattern_count ps) × (each_point_ok (rows_of st) r.row s i r.points ≡ true) × (sum_to r.points (return_percent s i) ≡ 100)
      unfolding points_ok
      parts = let a = both_of o in let b = both_of a.0 in let c = both_of b.0 in (le_of c.0, lt_of c.1, b.1, eq_of a.1)

      point-in : (n : ℕ) → n < r.points → return_row s i n < rows_of st
      unfolding each_point_ok point_ok
      point-in n l = lt_of (both_of (both_of (all-at r.points _ parts.2 n l)).0).1

      shared : Returned basin right
      unfolding right_of
      shared = record {
        efficiency_most = parts.0;
        whole = ap sum (map-tab (λ (q : Point). q.percent) r.points _) ∙ sum-tab r.points (return_percent s i) ∙ parts.3;
        pattern_in = rw (patterns-are ps) parts.1;
        rows_in = all-tab (λ (q : Point). q.row < length (stations_of st)) r.points _ (λ n l. rw (rows_are st) (point-in n l));
        few_points = let l : length right.points ≡ r.points = tab-length _ r.points in omega arith;
      }

    returned : r.points ≤ 4 → diversion_ok (rows_of st) (pattern_count ps) s i r ≡ true → Unreturned right ⊎ Returned basin right
    unfolding right_of
    returned few o = by_eqb r.points 0 (λ _. Unreturned right ⊎ Returned basin right)
        (λ z. inl (record { no_points = no_points z; all_used = eq_of (both_of (sym (all-consumed (rows_of st) (pattern_count ps) s i r z) ∙ o)).0 }))
        (λ n. inr (shared few (sym (returns-shared (rows_of st) (pattern_count ps) s i r n) ∙ o)))

    unreturning : undiverted_ok r ≡ true → right.points ≡ []
    unfolding undiverted_ok
    unreturning o = no_points (eq_of (both_of o).1)

    -- what returns, by its kind
    returning : (c : Kind) → r.points ≤ 4 → returns_ok c (rows_of st) (pattern_count ps) s i r ≡ true → ReturnsOk (kind_of c) basin right
    unfolding returns_ok
    returning Direct few o = returned few o
    returning Project few o = returned few o
    returning Instream few o = unreturning o
    returning Storage few o = unreturning o

    -- whatever its kind, no more is consumed than diverted
    divert : (z : Bool) → cond z (eqb r.efficiency 100 and eqb r.pattern 255) (points_ok (rows_of st) (pattern_count ps) s i r) ≡ true → r.efficiency ≤ 100
    unfolding points_ok
    divert true e = omega (arith, eq_of {m = r.efficiency} {n = 100} (both_of e).0)
    divert false e = le_of (both_of (both_of (both_of e).0).0).0

    efficient : (c : Kind) → returns_ok c (rows_of st) (pattern_count ps) s i r ≡ true → r.efficiency ≤ 100
    unfolding returns_ok diversion_ok undiverted_ok points_ok
    efficient Direct o = divert (eqb r.points 0) o
    efficient Project o = divert (eqb r.points 0) o
    efficient Instream o = omega (arith, eq_of {m = r.efficiency} {n = 0} (both_of (both_of o).0).0)
    efficient Storage o = omega (arith, eq_of {m = r.efficiency} {n = 0} (both_of (both_of o).0).0)

    limit-of : (c : Kind) → limit_ok c r.limit ≡ true → r.limit ≤ 2_000_000_000
    unfolding limit_ok
    limit-of Direct e = omega (arith, eq_of {m = r.limit} {n = 0} e)
    limit-of Project e = omega (arith, eq_of {m = r.limit} {n = 0} e)
    limit-of Instream e = omega (arith, eq_of {m = r.limit} {n = 0} e)
    limit-of Storage e = (between-of e).1

    heading-of : heading_ok (rows_of st) r ≡ true → (r.row < rows_of st) × (r.limit ≤ 2_000_000_000)
    unfolding heading_ok
    heading-of e =
        let a = both_of e in
        (lt_of (both_of (both_of (both_of a.0).0).0).1, limit-of r.kind a.1)

    good_right : right_ok st rs (pattern_count ps) s i ≡ true → GoodRight basin right
    unfolding right_ok right_of amounts_ok
    good_right e =
        let a = both_of (both_of e).0 in
        let b = both_of (both_of a.0).0 in
        let c = both_of b.0 in
        let h : heading_ok (rows_of st) r ≡ true = (both_of c.0).1 in
        let g = heading-of h in
        record {
          row_in = rw (rows_are st) g.0;
          reservoir-ok = behind r.kind c.1;
          returns-ok = returning r.kind (few_points (rows_of st) r h) b.1;
          amounts_most = tab-most 12 (amount_at s i) 1_000_000_000 (λ m l. le_of (all-at 12 _ a.1 m l));
          limit_most = g.1;
          efficiency_most = efficient r.kind b.1;
        }

  -- ---- the whole basin

  module _ (few : (1 ≤ rows_of st) × (rows_of st ≤ 64)) (few-rs : reservoir_count rs ≤ 8) (few-ps : pattern_count ps ≤ 16) (few-s : right_count s ≤ 256) where
    acceptable : Accepted basin
    unfolding reservoirs_of rights_of
    acceptable = record {
      few_rows = rw (rows_are st) few.1;
      few_reservoirs = rw (reservoirs-are rs) few-rs;
      few_patterns = rw (patterns-are ps) few-ps;
      few_rights = rw (rights-are s) few-s;
      connected = connected few.0;
      reservoirs_good = all-tab (GoodReservoir basin) (reservoir_count rs) (reservoir_of rs) (λ v h. good-reservoir v (k.reservoirs v h));
      patterns_good = good-patterns;
      rights_good = all-tab (GoodRight basin) (right_count s) (right_of s) (λ i h. good_right i (k.rights i h));
    }

clear_of : (f : List ℕ) → check_of f ≡ Ok tt → Clear (section_of f 0) (section_of f 1) (section_of f 2) (section_of f 3)
clear_of f e = bodies-clear (section_of f 0) (section_of f 1) (section_of f 2) (section_of f 3) (sym (check-goes-on f (layout-clear f e)) ∙ e)

pub accepted-facts : AcceptedFacts
unfolding basin_of bodies
accepted-facts f e =
    let l = layout-clear f e in
    let d = laid f l in
    acceptable (section_of f 0) (section_of f 1) (section_of f 2) (section_of f 3)
    (clear_of f e)
    (rw (rows-counted f l) d.stations)
    (rw (reservoirs-counted f l) d.reservoirs)
    (rw (patterns-counted f l) d.patterns)
    (rw (rights-counted f l) d.rights)

pub lake-areas : LakeAreas
unfolding basin_of bodies
lake-areas f e v h = lake-areas-of (section_of f 0) (section_of f 1) (section_of f 2) (section_of f 3) (clear_of f e) v h

-- the same of its bodies as the code has them
pub accepted-in : (f : List ℕ) (w : Bodies) → BodiesOf f w → check_of f ≡ Ok tt → Accepted (basin_in w)
accepted-in f w o e = subst Accepted (sym (basin-same f w o)) (accepted-facts f e)
