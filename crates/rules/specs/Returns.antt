-- What a diversion consumes, where and when the rest returns (01, "The board and one month", step 3), and what of it goes deep (02, No. 5).
use Rattle.std.specs.Prelude.{List, [], ◌∷◌, map, ℕ, ◌+◌, ◌-◌, ◌*◌, ◌/◌, eqb, get_or}
use Rattle.general.specs.Sums.{sum_over, sum, only}
use Rattle.rules.specs.Basin.{Station, Point, Kind, direct, project, instream, storage, Right}
use Rattle.rules.specs.Path.{path}
use Rattle.rules.specs.River.{Level, along, returned}

-- what a diversion d consumes at efficiency e, in whole units
abbrev pub consumed_at : ℕ → ℕ → ℕ
consumed_at d e = d * e / 100

-- Direct and project rights use water up and return the rest; instream and storage rights do neither.
unfoldable pub consumption : Kind → Right → ℕ → ℕ
consumption direct r d = consumed_at d r.efficiency
consumption project r d = consumed_at d r.efficiency
consumption instream r d = 0
consumption storage r d = 0

unfoldable pub returning : Kind → Right → ℕ → ℕ
returning direct r d = d - consumption direct r d
returning project r d = d - consumption project r d
returning instream r d = 0
returning storage r d = 0

-- ---- splitting by percents

-- The shares of an amount a. Floored are not the shares but their running totals, so that no unit is lost on the way: a share is what its percent adds to
-- the floored total, c being the percents of all shares before it.
unfoldable pub shares_from : ℕ → ℕ → List ℕ → List ℕ
shares_from a c [] = []
shares_from a c (p ∷ ps) = (a * (c + p) / 100 - a * c / 100) ∷ shares_from a (c + p) ps

unfoldable pub shares : ℕ → List ℕ → List ℕ
shares a ps = shares_from a 0 ps

-- What no share gets, where the percents sum to less than 100: it seeps below the river for good.
unfoldable pub deep_loss : ℕ → List ℕ → ℕ
deep_loss a ps = a - a * sum ps / 100

-- ---- over the return points, then over the months

-- the part of a diversion that comes back at a row
pub record Part : Type 0 where
  pub row : ℕ
  pub amount : ℕ

unfoldable pub parts_at : List Point → List ℕ → List Part
parts_at [] xs = []
parts_at (q ∷ qs) [] = []
parts_at (q ∷ qs) (x ∷ xs) = record { row = q.row; amount = x } ∷ parts_at qs xs

abbrev pub percents : Right → List ℕ
percents r = map (λ (q : Point). q.percent) r.points

-- what of a diversion d returns at each point of the right
unfoldable pub parts_of : Kind → Right → ℕ → List Part
parts_of k r d = parts_at r.points (shares (returning k r d) (percents r))

-- the share of a part that returns s months after the diversion
unfoldable pub lagged : List ℕ → ℕ → Part → ℕ
lagged pattern s q = get_or (shares q.amount pattern) s 0

-- What returns in the month of the diversion is in the river for the next right: it runs down from each return point.
unfoldable pub return_now : List Station → List ℕ → List Part → List Level → List Level
return_now st pattern [] l = l
return_now st pattern (q ∷ qs) l = return_now st pattern qs (along (returned (lagged pattern 0 q)) (path st q.row) l)

-- of these parts: what returns at row w, s months after the diversion
unfoldable pub returned_at : List ℕ → ℕ → ℕ → List Part → ℕ
returned_at pattern w s qs = sum_over (λ (q : Part). only (eqb q.row w) (lagged pattern s q)) qs

-- of these parts: what goes deep, each part by itself
unfoldable pub lost_deep : List ℕ → List Part → ℕ
lost_deep pattern qs = sum_over (λ (q : Part). deep_loss q.amount pattern) qs
