-- How often a right was short in the present water year, by the grants (02, No. 6). The year that September ends is the present one until October is run.
use Rattle.std.specs.Prelude.{Bool, false, not, cond, ◌||◌, List, [], ◌∷◌, ℕ, ◌+◌, leb, ltb, eqb, length, get_or}
use Rattle.general.specs.Sums.{sum_over, sum_to, only}
use Rattle.general.specs.Tests.{◌and◌}
use Rattle.rules.specs.Month.{Carried, grant_at, is_short, MonthRun}
use Rattle.rules.specs.Tally.{Start}

-- how many of a list of marks are set
unfoldable pub how_many : List Bool → ℕ
how_many ms = sum_over (λ t. only t 1) ms

-- the marks of right i
abbrev pub shorts_of : Carried → ℕ → List Bool
shorts_of c i = get_or c.shorts i []

-- ---- the months of the present water year

-- after October comes November
unfoldable pub is_october : MonthRun → Bool
is_october h = eqb h.carried.m 1

unfoldable pub any_october : List MonthRun → Bool
any_october [] = false
any_october (h ∷ hs) = is_october h || any_october hs

-- of the months run since a start those from the last October on; where there was none, all
unfoldable pub since_october : List MonthRun → List MonthRun
since_october [] = []
since_october (h ∷ hs) = cond (any_october hs) (since_october hs) (h ∷ hs)

-- ---- in how many of them right i was short

unfoldable pub short_in : ℕ → List MonthRun → ℕ
short_in i hs = sum_over (λ (h : MonthRun). only (is_short (grant_at h.turns i)) 1) hs

-- whether month k of the year is one of the n months from m on
abbrev pub among : ℕ → ℕ → ℕ → Bool
among m n k = leb m k and ltb k (m + n)

-- What the start tells of the same year: months that it has as short and that were not run since. Once an October was run, nothing.
unfoldable pub short_before : Start → List MonthRun → ℕ → ℕ
short_before s hs i = only (not (any_october hs)) (sum_to 12 (λ k. only (get_or (shorts_of s.carried i) k false and not (among s.carried.m (length hs) k)) 1))

-- the short months of right i, after the months hs since the start s
unfoldable pub short_now : Start → List MonthRun → ℕ → ℕ
short_now s hs i = short_before s hs i + short_in i (since_october hs)
