-- What is known of the right whose turn it is. Assumes nothing.
use mathlib.Core.List.{List, [], map}
use mathlib.Core.Logic.{◌⊎◌, inl, inr}
use mathlib.Core.Path.{◌≡◌, refl, sym, ap, ◌∙◌, subst}
use Prim.Native.Nat.{ℕ, ◌<◌}
use native.Mathlib.Omega.{arith}
use lib.ListN.{length, get_or, length-map}
use Rattle.general.specs.Sums.{sum, sum_to}
use Rattle.general.specs.Tables.{tab}
use Rattle.general.proofs.Lists.{all-at-place, get_d-map-in}
use Rattle.general.proofs.Sums.{sum_to-same, sum_to-list}
use Rattle.general.proofs.Tables.{tab-length, tab-at}
use Rattle.rules.specs.Basin.{Point, Kind, direct, project, instream, storage, no_right, rows, pattern_of}
use Rattle.rules.specs.Returns.{percents}
use Rattle.rules.specs.Accepted.{GoodPattern, GoodRight, ReservoirOk, ReturnsOk, Unreturned, Returned}
use Rattle.records.specs.declared.rights.Kind.TheVariants.{Project, Storage}
use Rattle.records.specs.Records.{reservoir_count, return_row, return_percent, kind_of, right_of}
use Rattle.records.specs.Table.{sums_of}
use Rattle.returns.specs.Dues.{Sums}
use Rattle.returns.specs.Returning.{points_up_to, PointsOk}
use Rattle.turns.proofs.Given.{RightAt, the_record, the_points, the_sums, the_right}
use Rattle.turns.proofs.Facts.{few, reservoirs-count, rights-count, right_is}

module _ (R : RightAt) where
  pub right-good : GoodRight R.basin (the_right R)
  right-good = subst (GoodRight R.basin) (right_is R.setting R.place R.in_list) (all-at-place (GoodRight R.basin) R.basin.rights no_right R.setting.accepted.rights_good R.place (omega (arith, rights-count R.setting, R.in_list)))

  pub place-most : R.place < 256
  place-most = omega (arith, R.in_list, rights-count R.setting, R.setting.accepted.few_rights)

  -- fields of the right, as its record has them
  pub kind-is : (the_right R).kind ≡ kind_of (the_record R).kind
  unfolding right_of
  kind-is = refl

  pub row_is : (the_right R).row ≡ (the_record R).row
  unfolding right_of
  row_is = refl

  pub reservoir-of : (the_right R).reservoir ≡ (the_record R).reservoir
  unfolding right_of
  reservoir-of = refl

  pub limit_is : (the_right R).limit ≡ (the_record R).limit
  unfolding right_of
  limit_is = refl

  pub efficiency-is : (the_right R).efficiency ≡ (the_record R).efficiency
  unfolding right_of
  efficiency-is = refl

  pub pattern-is : (the_right R).pattern ≡ (the_record R).pattern
  unfolding right_of
  pattern-is = refl

  pub row_in : (the_record R).row < rows R.basin
  row_in = omega (arith, right-good.row_in, row_is)

  pub row_on : (the_record R).row < 64
  row_on = omega (arith, row_in, few R.setting)

  -- ---- its return (the_points R)

  abbrev pub point_at : ℕ → Point
  point_at k = record { row = return_row R.rights R.place k; percent = return_percent R.rights R.place k }

  pub points-are : (the_right R).points ≡ tab (the_points R) point_at
  unfolding right_of
  points-are = refl

  pub points-count : length (the_right R).points ≡ the_points R
  points-count = ap length points-are ∙ tab-length point_at (the_points R)

  -- either it has none, or they are as accepted
  by-points : (P : Type 0) → ((the_right R).points ≡ [] → P) → (Returned R.basin (the_right R) → P) → P
  by-points P none some = go (the_right R).kind right-good.returns-ok
    where
      either : Unreturned (the_right R) ⊎ Returned R.basin (the_right R) → P
      either (inl u) = none u.no_points
      either (inr p) = some p

      go : (k : Kind) → ReturnsOk k R.basin (the_right R) → P
      go direct o = either o
      go project o = either o
      go instream o = none o
      go storage o = none o

  pub point-in : (k : ℕ) → k < the_points R → return_row R.rights R.place k < rows R.basin
  point-in k h = by-points (return_row R.rights R.place k < rows R.basin)
      (λ e. let z : the_points R ≡ 0 = sym points-count ∙ ap length e in absurd (omega arith))
      (λ p.
      let e : get_or (the_right R).points k (point_at k) ≡ point_at k = ap (λ (x : List Point). get_or x k (point_at k)) points-are ∙ tab-at point_at (the_points R) k (point_at k) h in
      omega (arith, all-at-place (λ (q : Point). q.row < rows R.basin) (the_right R).points (point_at k) p.rows_in k (omega (arith, points-count)), ap (λ (q : Point). q.row) e))

  no_points : (the_right R).points ≡ [] → PointsOk R.patterns R.rights R.place (the_points R) (the_record R).pattern
  unfolding sum_to
  no_points e =
      let z : the_points R ≡ 0 = sym points-count ∙ ap length e in
      record {
        right_in = R.in_list;
        few = omega arith;
        rows = λ k h. absurd (omega arith);
        percents = rw z (omega arith);
        known = λ h. absurd (omega arith);
        by_sums = λ h. absurd (omega arith);
      }

  pub percent-at : (k : ℕ) → k < the_points R → get_or (percents (the_right R)) k 0 ≡ return_percent R.rights R.place k
  percent-at k h = ap (λ (l : List Point). get_or (map (λ (q : Point). q.percent) l) k 0) points-are ∙ at (the_points R) h
    where
      at : (n : ℕ) → k < n → get_or (map (λ (q : Point). q.percent) (tab n point_at)) k 0 ≡ return_percent R.rights R.place k
      at n l = get_d-map-in (λ (q : Point). q.percent) (tab n point_at) k 0 (point_at k) (rw (tab-length point_at n) l) ∙ ap (λ (q : Point). q.percent) (tab-at point_at n k (point_at k) l)

  pub percents-count : length (percents (the_right R)) ≡ the_points R
  percents-count = length-map (the_right R).points (λ (q : Point). q.percent) ∙ points-count

  percent-sum : sum (percents (the_right R)) ≡ points_up_to R.rights R.place (the_points R)
  percent-sum =
      sym (sum_to-list (percents (the_right R))) ∙ ap (λ (k : ℕ). sum_to k (λ j. get_or (percents (the_right R)) j 0)) percents-count ∙ sum_to-same (the_points R) _ _ (λ k h. percent-at k h)

  -- the sums that its points share are those of the rules' pattern
  sums-known : Returned R.basin (the_right R) → Sums (pattern_of R.basin (the_right R)) (the_sums R)
  sums-known p = record {
    good = all-at-place GoodPattern R.basin.patterns [] R.setting.accepted.patterns_good (the_right R).pattern p.pattern_in;
    running = R.setting.patterns (the_record R).pattern (omega (arith, p.pattern_in, pattern-is)) ∙ ap (λ (k : ℕ). sums_of (get_or R.basin.patterns k [])) (sym pattern-is);
  }

  some-points : Returned R.basin (the_right R) → PointsOk R.patterns R.rights R.place (the_points R) (the_record R).pattern
  some-points p = record {
    right_in = R.in_list;
    few = omega (arith, p.few_points, points-count);
    rows = λ k h. omega (arith, point-in k h, few R.setting);
    percents = omega (arith, percent-sum, p.whole);
    known = λ h. omega (arith, p.pattern_in, pattern-is, R.setting.accepted.few_patterns);
    by_sums = λ h. (pattern_of R.basin (the_right R), sums-known p);
  }

  pub points-ok : PointsOk R.patterns R.rights R.place (the_points R) (the_record R).pattern
  points-ok = by-points _ no_points some-points

  pub sums-are : 0 < the_points R → Sums (pattern_of R.basin (the_right R)) (the_sums R)
  sums-are h = by-points (Sums (pattern_of R.basin (the_right R)) (the_sums R)) (λ e. let z : the_points R ≡ 0 = sym points-count ∙ ap length e in absurd (omega arith)) sums-known

  -- ---- its reservoir

  pub project-behind : (the_record R).kind ≡ Project → (the_record R).reservoir < reservoir_count R.reservoirs
  project-behind e =
      let o : ReservoirOk project R.basin (the_right R) = subst (λ (k : Kind). ReservoirOk k R.basin (the_right R)) (kind-is ∙ ap kind_of e) right-good.reservoir-ok in
      omega (arith, o.0, reservoirs-count R.setting, reservoir-of)

  pub storage-behind : (the_record R).kind ≡ Storage → (the_record R).reservoir < reservoir_count R.reservoirs
  storage-behind e =
      let o : ReservoirOk storage R.basin (the_right R) = subst (λ (k : Kind). ReservoirOk k R.basin (the_right R)) (kind-is ∙ ap kind_of e) right-good.reservoir-ok in
      omega (arith, o.0, reservoirs-count R.setting, reservoir-of)
