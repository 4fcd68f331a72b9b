-- Laws of shares and deep loss, and of a diversion's parts over rows and months. Assumes nothing.
use mathlib.Core.Path.{◌≡◌, refl, sym, ap, ◌∙◌}
use mathlib.Core.Logic.{◌⊎◌, inl, inr}
use mathlib.Core.List.{List, [], ◌∷◌}
use Prim.Native.Nat.{ℕ, suc, ◌+◌, ◌*◌, ◌/◌, ◌≤◌, ◌<◌}
use native.Mathlib.Nat.{mul-le-mul_left}
use native.Mathlib.Omega.{arith}
use lib.Dec.{eqb}
use lib.ListN.{length, get_or, length-map}
use Rattle.general.specs.Sums.{sum_over, sum, sum_to, only}
use Rattle.general.specs.Tables.{All}
use Rattle.general.proofs.Tests.{only-le}
use Rattle.general.proofs.Lists.{all-at-place}
use Rattle.general.proofs.Sums.{at-le-sum, sum_to-same, sum_to-add, sum_to-only, sum_to-front, sum_to-list, sum_to-one, sum_to-zero₂}
use Rattle.rules.specs.Basin.{Point, Kind, direct, project, instream, storage, Right, Basin, rows, pattern_of}
use Rattle.rules.specs.Returns.{consumption, returning, shares_from, shares, deep_loss, Part, parts_at, percents, parts_of, lagged, returned_at, lost_deep}
use Rattle.rules.specs.Accepted.{GoodPattern, Unreturned, Returned, ReturnsOk}

-- ---- shares

pub shares-length : (a : ℕ) (ps : List ℕ) → length (shares a ps) ≡ length ps
unfolding shares shares_from
shares-length a ps = go 0 ps
  where
    go : (k : ℕ) (qs : List ℕ) → length (shares_from a k qs) ≡ length qs
    go k [] = refl
    go k (q ∷ qs) = ap suc (go (k + q) qs)

shares-from : (a c : ℕ) (ps : List ℕ) → sum (shares_from a c ps) + a * c / 100 ≡ a * (c + sum ps) / 100
unfolding sum_over shares_from
shares-from a c [] = omega arith
shares-from a c (p ∷ ps) = omega (arith, shares-from a (c + p) ps)

-- shares of percents that sum to at most 100, with what goes deep, sum to the amount
pub shares-deep : (a : ℕ) (ps : List ℕ) → sum ps ≤ 100 → sum (shares a ps) + deep_loss a ps ≡ a
unfolding shares deep_loss
shares-deep a ps h = omega (arith, shares-from a 0 ps, mul-le-mul_left a h)

pub deep_none : (a : ℕ) (ps : List ℕ) → sum ps ≡ 100 → deep_loss a ps ≡ 0
unfolding deep_loss
deep_none a ps h = rw h (omega arith)

pub deep-all : (a : ℕ) (ps : List ℕ) → sum ps ≡ 0 → deep_loss a ps ≡ a
unfolding deep_loss
deep-all a ps h = rw h (omega arith)

pub deep-le : (a : ℕ) (ps : List ℕ) → deep_loss a ps ≤ a
unfolding deep_loss
deep-le a ps = omega arith

-- so do those of percents that sum to 100, without it
shares_sum : (a : ℕ) (ps : List ℕ) → sum ps ≡ 100 → sum (shares a ps) ≡ a
shares_sum a ps h = omega (arith, shares-deep a ps (omega (arith, h)), deep_none a ps h)

-- ---- parts

unfoldable pub total_parts : List Part → ℕ
total_parts qs = sum_over (λ (q : Part). q.amount) qs

-- what returns at once
unfoldable pub at_once : List ℕ → List Part → ℕ
at_once pattern qs = sum_over (λ (q : Part). lagged pattern 0 q) qs

-- what returns later: over all rows, 1 to 11 months after
unfoldable pub later : Basin → List ℕ → List Part → ℕ
later b pattern qs = sum_to (rows b) (λ w. sum_to 11 (λ k. returned_at pattern w (suc k) qs))

abbrev pub PartsIn : Basin → List Part → Type 0
PartsIn b qs = All (λ (q : Part). q.row < rows b) qs

module _ (b : Basin) (pattern : List ℕ) where
  later-cons : (q : Part) (qs : List Part) → q.row < rows b → later b pattern (q ∷ qs) ≡ sum_to 11 (λ k. lagged pattern (suc k) q) + later b pattern qs
  unfolding later returned_at sum_over
  later-cons q qs h =
      let x : ℕ = sum_to 11 (λ k. lagged pattern (suc k) q) in
      let others : ℕ → ℕ = λ w. sum_to 11 (λ k. returned_at pattern w (suc k) qs) in
      sum_to-same (rows b) _ (λ w. only (eqb q.row w) x + others w)
      (λ w _. sum_to-add 11 (λ k. only (eqb q.row w) (lagged pattern (suc k) q)) (λ k. returned_at pattern w (suc k) qs)
      ∙ ap (λ (y : ℕ). y + others w) (sum_to-only 11 (eqb q.row w) (λ k. lagged pattern (suc k) q)))
      ∙ sum_to-add (rows b) (λ w. only (eqb q.row w) x) others
      ∙ ap (λ (y : ℕ). y + sum_to (rows b) others) (sum_to-one (rows b) q.row x h)

  later-none : later b pattern [] ≡ 0
  unfolding later returned_at sum_over
  later-none = sum_to-zero₂ (rows b) 11

  -- one part over its twelve months
  one-part : (q : Part) → GoodPattern pattern → lagged pattern 0 q + sum_to 11 (λ k. lagged pattern (suc k) q) + deep_loss q.amount pattern ≡ q.amount
  unfolding lagged
  one-part q g =
      let all : ℕ → ℕ = λ k. get_or (shares q.amount pattern) k 0 in
      let twelve : sum_to 12 all ≡ sum (shares q.amount pattern) = ap (λ (y : ℕ). sum_to y all) (sym (shares-length q.amount pattern ∙ g.twelve)) ∙ sum_to-list (shares q.amount pattern) in
      omega (arith, sum_to-front 11 all, twelve, shares-deep q.amount pattern g.sum_most)

  all-parts : (qs : List Part) → GoodPattern pattern → PartsIn b qs → at_once pattern qs + later b pattern qs + lost_deep pattern qs ≡ total_parts qs
  unfolding at_once total_parts lost_deep deep_loss sum_over
  all-parts [] g h = omega (arith, later-none)
  all-parts (q ∷ qs) g h = omega (arith, later-cons q qs h.0, one-part q g, all-parts qs g h.1)

-- no share of a part is above its amount
lagged-le : (pattern : List ℕ) (s : ℕ) (q : Part) → sum pattern ≤ 100 → lagged pattern s q ≤ q.amount
unfolding lagged
lagged-le pattern s q e = omega (arith, at-le-sum (shares q.amount pattern) s, shares-deep q.amount pattern e)

returned-at-le : (pattern : List ℕ) (w s : ℕ) (qs : List Part) → sum pattern ≤ 100 → returned_at pattern w s qs ≤ total_parts qs
unfolding returned_at total_parts sum_over
returned-at-le pattern w s [] e = omega arith
returned-at-le pattern w s (q ∷ qs) e = omega (arith, only-le (eqb q.row w) (lagged pattern s q), lagged-le pattern s q e, returned-at-le pattern w s qs e)

-- ---- the parts of a right's diversion

no-parts : (k : Kind) (r : Right) (d : ℕ) → r.points ≡ [] → parts_of k r d ≡ []
unfolding parts_of parts_at
no-parts k r d e = rw e

parts-at-rows : (b : Basin) (qs : List Point) (xs : List ℕ) → All (λ (q : Point). q.row < rows b) qs → PartsIn b (parts_at qs xs)
unfolding parts_at
parts-at-rows b [] xs h = tt
parts-at-rows b (q ∷ qs) [] h = tt
parts-at-rows b (q ∷ qs) (x ∷ xs) h = (h.0, parts-at-rows b qs xs h.1)

parts-at-total : (qs : List Point) (xs : List ℕ) → length xs ≡ length qs → total_parts (parts_at qs xs) ≡ sum xs
unfolding parts_at total_parts sum_over
parts-at-total [] [] e = refl
parts-at-total [] (x ∷ xs) e = absurd (omega arith)
parts-at-total (q ∷ qs) [] e = refl
parts-at-total (q ∷ qs) (x ∷ xs) e = omega (arith, parts-at-total qs xs (omega arith))

returning-le : (k : Kind) (r : Right) (d : ℕ) → returning k r d ≤ d
unfolding returning
returning-le direct r d = omega arith
returning-le project r d = omega arith
returning-le instream r d = omega arith
returning-le storage r d = omega arith

-- the pattern of a right with return points
pattern-good : (b : Basin) (r : Right) → All GoodPattern b.patterns → Returned b r → GoodPattern (pattern_of b r)
pattern-good b r g p = all-at-place GoodPattern b.patterns [] g r.pattern p.pattern_in

module _ (b : Basin) (r : Right) where
  none_in : (k : Kind) (d : ℕ) → r.points ≡ [] → PartsIn b (parts_of k r d)
  none_in k d e = rw (no-parts k r d e) tt

  some_in : (k : Kind) (d : ℕ) → Unreturned r ⊎ Returned b r → PartsIn b (parts_of k r d)
  unfolding parts_of
  some_in k d (inl p) = none_in k d p.no_points
  some_in k d (inr p) = parts-at-rows b r.points _ p.rows_in

  pub parts_in : (k : Kind) (d : ℕ) → ReturnsOk k b r → PartsIn b (parts_of k r d)
  parts_in direct d o = some_in direct d o
  parts_in project d o = some_in project d o
  parts_in instream d o = none_in instream d o
  parts_in storage d o = none_in storage d o

  parts-total : (k : Kind) (d : ℕ) → sum (percents r) ≡ 100 → total_parts (parts_of k r d) ≡ returning k r d
  unfolding parts_of
  parts-total k d e = parts-at-total r.points _ (shares-length (returning k r d) (percents r) ∙ length-map r.points (λ (q : Point). q.percent)) ∙ shares_sum (returning k r d) (percents r) e

  -- ---- what a diversion d comes to: consumed, returned at once, returned later, gone deep

  abbrev pub spent : Kind → ℕ → ℕ
  spent k d = consumption k r d + (at_once (pattern_of b r) (parts_of k r d) + later b (pattern_of b r) (parts_of k r d) + lost_deep (pattern_of b r) (parts_of k r d))

  at-once-none : (pattern : List ℕ) → at_once pattern [] ≡ 0
  unfolding at_once sum_over
  at-once-none pattern = refl

  deep-in-none : (pattern : List ℕ) → lost_deep pattern [] ≡ 0
  unfolding lost_deep deep_loss sum_over
  deep-in-none pattern = omega arith

  none-spent : (k : Kind) (d : ℕ) → r.points ≡ [] → spent k d ≡ consumption k r d
  none-spent k d e = rw (no-parts k r d e) (omega (arith, at-once-none (pattern_of b r), later-none b (pattern_of b r), deep-in-none (pattern_of b r)))

  some-spent : All GoodPattern b.patterns → (k : Kind) (d : ℕ) → Returned b r → spent k d ≡ consumption k r d + returning k r d
  some-spent g k d p = omega (arith, all-parts b (pattern_of b r) (parts_of k r d) (pattern-good b r g p) (some_in k d (inr p)), parts-total k d p.whole)

  direct-spent : All GoodPattern b.patterns → (d : ℕ) → Unreturned r ⊎ Returned b r → spent direct d ≡ d
  unfolding consumption returning
  direct-spent g d (inl p) = none-spent direct d p.no_points ∙ rw p.all_used (omega arith)
  direct-spent g d (inr p) = some-spent g direct d p ∙ omega (arith, mul-le-mul_left d p.efficiency_most)

  project-spent : All GoodPattern b.patterns → (d : ℕ) → Unreturned r ⊎ Returned b r → spent project d ≡ d
  unfolding consumption returning
  project-spent g d (inl p) = none-spent project d p.no_points ∙ rw p.all_used (omega arith)
  project-spent g d (inr p) = some-spent g project d p ∙ omega (arith, mul-le-mul_left d p.efficiency_most)

  -- all of a diversion of kinds 1 and 2 is consumed, returns or goes deep; of kinds 3 and 4 nothing does
  abbrev pub used : Kind → ℕ → ℕ
  used direct d = d
  used project d = d
  used instream d = 0
  used storage d = 0

  pub all-spent : All GoodPattern b.patterns → (k : Kind) (d : ℕ) → ReturnsOk k b r → spent k d ≡ used k d
  unfolding consumption
  all-spent g direct d o = direct-spent g d o
  all-spent g project d o = project-spent g d o
  all-spent g instream d o = none-spent instream d o
  all-spent g storage d o = none-spent storage d o

  -- ---- what returns at one row and month is at most the diversion

  none-returned : (k : Kind) (w s d : ℕ) → r.points ≡ [] → returned_at (pattern_of b r) w s (parts_of k r d) ≤ d
  unfolding returned_at sum_over
  none-returned k w s d e = rw (no-parts k r d e) (omega arith)

  some-returned : All GoodPattern b.patterns → (k : Kind) (w s d : ℕ) → Unreturned r ⊎ Returned b r → returned_at (pattern_of b r) w s (parts_of k r d) ≤ d
  some-returned g k w s d (inl p) = none-returned k w s d p.no_points
  some-returned g k w s d (inr p) = omega (arith, returned-at-le (pattern_of b r) w s (parts_of k r d) (pattern-good b r g p).sum_most, parts-total k d p.whole, returning-le k r d)

  pub returned-le : All GoodPattern b.patterns → (k : Kind) (w s d : ℕ) → ReturnsOk k b r → returned_at (pattern_of b r) w s (parts_of k r d) ≤ d
  returned-le g direct w s d o = some-returned g direct w s d o
  returned-le g project w s d o = some-returned g project w s d o
  returned-le g instream w s d o = none-returned instream w s d o
  returned-le g storage w s d o = none-returned storage w s d o
