-- The rules of a right, case by case. Assumes nothing.
use mathlib.Core.Path.{◌≡◌}
use mathlib.Core.Bool.{true}
use mathlib.Core.List.{List}
use Prim.Native.Nat.{ℕ, ◌≤◌}
use borrow.Author.Tests.{eq-eqb, ne_eqb}
use lib.Dec.{eqb}
use Rattle.general.specs.Tests.{◌and◌}
use Rattle.general.proofs.Tests.{both_of, le_of}
use Rattle.records.specs.declared.rights.RightRecord.{RightRecord}
use Rattle.filerules.specs.FileRules.{heading_ok, points_ok, diversion_ok}

-- ---- what a diversion returns

module _ (n np : ℕ) (s : List ℕ) (i : ℕ) (r : RightRecord) where
  pub all-consumed : r.points ≡ 0 → diversion_ok n np s i r ≡ (eqb r.efficiency 100 and eqb r.pattern 255)
  unfolding diversion_ok
  all-consumed h = rw (eq-eqb r.points 0 h)

  pub returns-shared : (r.points ≡ 0 → ⊥) → diversion_ok n np s i r ≡ points_ok n np s i r
  unfolding diversion_ok
  returns-shared h = rw (ne_eqb r.points 0 h)

-- ---- what a good heading says

pub few_points : (n : ℕ) (r : RightRecord) → heading_ok n r ≡ true → r.points ≤ 4
unfolding heading_ok
few_points n r e = le_of (both_of (both_of (both_of e).0).0).1
