-- What is proved of the rules, each statement on its own. The proofs stand in proofs/Theorems.antt under the same names, in small letters.
use Rattle.std.specs.Prelude.{◌≡◌, Bool, true, false, List, [], ◌∷◌, ◌++◌, map, ℕ, suc, ◌+◌, ◌-◌, ◌*◌, ◌≤◌, ◌<◌, min, max, length, get_or, pos}
use Rattle.general.specs.Sums.{sum_over, sum}
use Rattle.general.specs.Tables.{tab, Rising}
use Rattle.general.specs.Tests.{has}
use Rattle.rules.specs.Basin.{Survey, Reservoir, Right, Basin, rows, survey_at, reservoir_at, right_at}
use Rattle.rules.specs.Path.{path, until_row, last_row}
use Rattle.rules.specs.River.{available_at, lower, lowest, lesser}
use Rattle.rules.specs.Returns.{shares, deep_loss}
use Rattle.rules.specs.Turn.{State, path_of, called, is_short_at, first_short, is_lowest, first_lowest}
use Rattle.rules.specs.Month.{returns_at, on_line, area_at, MonthRun, month}
use Rattle.rules.specs.Tally.{Start, fresh_start, Tally, begun, standing, after_calls, pending}
use Rattle.rules.specs.Years.{Entry, after_entries, all_calls}
use Rattle.rules.specs.Water.{starting_storage, starting_dues, Checkpoint, MonthSound, WaterKept}
use Rattle.rules.specs.Shortness.{how_many, shorts_of, since_october, short_in, short_now}
use Rattle.rules.specs.Accepted.{Connected, Accepted}
use Rattle.rules.specs.October.{october}

-- ---- splitting: of any amount nothing is lost but what goes deep, by whatever percents, as long as they sum to at most 100

abbrev pub Splitting : Type 0
Splitting = (a : ℕ) (ps : List ℕ) → sum ps ≤ 100 → sum (shares a ps) + deep_loss a ps ≡ a

-- where they sum to 100 nothing goes deep, and where they sum to 0 everything does
pub record DeepFacts (a : ℕ) (ps : List ℕ) : Type 0 where
  pub none : sum ps ≡ 100 → deep_loss a ps ≡ 0
  pub all : sum ps ≡ 0 → deep_loss a ps ≡ a

abbrev pub DeepBounds : Type 0
DeepBounds = (a : ℕ) (ps : List ℕ) → DeepFacts a ps

-- ---- paths

-- A path ends at the last row, holds it once, and its rows rise.
pub record PathFacts (b : Basin) (r : ℕ) : Type 0 where
  pub ends : path b.stations r ≡ until_row (last_row b) (path b.stations r) ++ (last_row b ∷ [])
  pub once : has (last_row b) (until_row (last_row b) (path b.stations r)) ≡ false
  pub rising : Rising (path b.stations r)

abbrev pub Paths : Type 0
Paths = (b : Basin) → Connected b → (r : ℕ) → r < rows b → PathFacts b r

-- ---- the tight spot that holds a right back

-- Row q is the first of a path to pass a test: it is on the path and passes, and none above it does.
pub record IsFirst (t : ℕ → Bool) (p : List ℕ) (q : ℕ) : Type 0 where
  pub on : has q p ≡ true
  pub passes : t q ≡ true
  pub none_above : (k : ℕ) → has k (until_row q p) ≡ true → t k ≡ false

-- In any state there is such a row for reason 1, if the right is called out, and for reason 2; it is the one whose station is named.
pub record TightSpot (b : Basin) (r : Right) (s : State) : Type 0 where
  pub called-out : called b r s ≡ true → IsFirst (is_short_at s) (path_of b r) (first_short s (path_of b r))
  pub river-low : IsFirst (is_lowest s (path_of b r)) (path_of b r) (first_lowest s (path_of b r))

abbrev pub TightSpots : Type 0
TightSpots = (b : Basin) (r : Right) → r.row < rows b → (s : State) → TightSpot b r s

-- ---- the area of a lake, by any area-capacity table whose storages rise

-- from pair k on, but not yet at the next
pub record Past (v : Reservoir) (k x : ℕ) : Type 0 where
  pub has_next : suc k < length v.surveys
  pub reached : (survey_at v k).content ≤ x
  pub not_next : x < (survey_at v (suc k)).content

pub record AreaFacts (v : Reservoir) : Type 0 where
  -- at a pair it is the pair's area
  pub at_pair : (k : ℕ) → k < length v.surveys → area_at v (survey_at v k).content ≡ (survey_at v k).area
  -- past a pair it is on the line to the next, and between their areas, be the next the larger or the smaller
  pub on_line_lem : (k x : ℕ) → Past v k x → area_at v x ≡ on_line (survey_at v k) (survey_at v (suc k)) x
  pub not_below : (k x : ℕ) → Past v k x → min (survey_at v k).area (survey_at v (suc k)).area ≤ area_at v x
  pub not_above : (k x : ℕ) → Past v k x → area_at v x ≤ max (survey_at v k).area (survey_at v (suc k)).area
  -- from the last pair on it stays
  pub stays : (k x : ℕ) → suc k ≡ length v.surveys → (survey_at v k).content ≤ x → area_at v x ≡ (survey_at v k).area

abbrev pub Areas : Type 0
Areas = (v : Reservoir) → Rising (map (λ (p : Survey). p.content) v.surveys) → AreaFacts v

-- ---- what a list of calls may start from: what is asked of a possible board (01, "The board and one month")

-- The most that can be due k months on: shares of 12 − k past months come due then, each month with up to 256 grants of the largest amount.
abbrev pub most_due : ℕ → ℕ
most_due k = (12 - k) * 256_000_000_000

pub record Possible (b : Basin) (s : Start) : Type 0 where
  pub month_in_year : s.carried.m < 12
  pub storages_count : length s.carried.storages ≡ length b.reservoirs
  pub storages_most : (v : ℕ) → get_or s.carried.storages v 0 ≤ (reservoir_at b v).capacity
  pub marks_count : length s.carried.marks ≡ length b.reservoirs
  pub taken_count : length s.carried.taken ≡ length b.rights
  pub taken-most : (i : ℕ) → get_or s.carried.taken i 0 ≤ (right_at b i).limit
  pub due_most : (w k : ℕ) → 1 ≤ k → k < 12 → s.due w k ≤ most_due k
  pub shorts_count : length s.carried.shorts ≡ length b.rights
  pub shorts_months : (i : ℕ) → i < length b.rights → length (shorts_of s.carried i) ≡ 12

-- The fresh start is one; its storages sum to the starting storages, nothing is due, and nobody has been short before it.
pub record FreshFacts (b : Basin) : Type 0 where
  pub is_possible : Possible b (fresh_start b)
  pub storage : starting_storage (fresh_start b) ≡ sum_over (λ (v : Reservoir). v.start) b.reservoirs
  pub dues : starting_dues b (fresh_start b) ≡ 0
  pub none_short : (hs : List MonthRun) (i : ℕ) → short_now (fresh_start b) hs i ≡ short_in i (since_october hs)

abbrev pub Fresh : Type 0
Fresh = (b : Basin) → Accepted b → FreshFacts b

-- ---- a list of month calls and year runs leaves the tally as the month calls do that it counts as

abbrev pub CountsAsCalls : Type 0
CountsAsCalls = (b : Basin) (t : Tally) (xs : List Entry) → after_entries b t xs ≡ after_calls b t (all_calls b t xs)

-- ---- the water sum, each reservoir's storage and the checkpoints, after every list of month calls and year runs from any possible start, accepted and
-- refused in any mix

abbrev pub Water : Type 0
Water = (b : Basin) → Accepted b → (s : Start) → Possible b s → (xs : List Entry) → WaterKept b (after_entries b (begun s) xs)

-- the sum is counted from that start
abbrev pub StartKept : Type 0
StartKept = (b : Basin) (s : Start) (xs : List Entry) → (after_entries b (begun s) xs).start ≡ s

-- ---- short months: what the tally has noted for a right are the months of the present water year in which its grants were short

abbrev pub ShortMonths : Type 0
ShortMonths = (b : Basin) (s : Start) → Possible b s → (xs : List Entry) (i : ℕ) → i < length b.rights
    → how_many (shorts_of (after_entries b (begun s) xs).carried i) ≡ short_now s (after_entries b (begun s) xs).months i

-- ---- checkpoints: in no month does a row have negative flow, or more available flow than flow

-- For any basin with the facts of an accepted one, any possible start and any runoff, within its limit or not: at the checkpoint before the first right and
-- at the three of each turn.
abbrev pub Checkpoints : Type 0
Checkpoints = (b : Basin) → Accepted b → (s : Start) → Possible b s → (runoff : List ℕ) → MonthSound b (month b s.carried runoff (tab (rows b) (λ w. s.due w 1)))

-- Of a right that asks a in state s: the lesser of a and an available flow is their lesser as signed numbers, with nothing cut off at 0.
pub record SignedLesser (b : Basin) (r : Right) (s : State) (a : ℕ) : Type 0 where
  -- against the lowest available flow on the path, as direct, project and storage rights take it
  pub on_path : pos (lesser a (lowest s.levels (path_of b r))) ≡ lower (pos a) (lowest s.levels (path_of b r))
  -- against the available flow at the right's own row, as an instream right takes it
  pub at_row : pos (lesser a (available_at s.levels r.row)) ≡ lower (pos a) (available_at s.levels r.row)

-- It is so wherever a checkpoint holds; each right has its turn at one, before the first right or after the returns of the right before it.
abbrev pub Unclipped : Type 0
Unclipped = (b : Basin) (r : Right) (s : State) (a : ℕ) → Checkpoint b s → SignedLesser b r s a

-- ---- pending, one month on: what was pending at k + 1, and what the grants of the new month return after k months

abbrev pub PendingOn : Type 0
PendingOn = (b : Basin) (s : Start) (hs : List MonthRun) (h : MonthRun) (w k : ℕ) → k < 12 → pending b s (hs ++ (h ∷ [])) w k ≡ pending b s hs w (suc k) + returns_at b h.turns w k

-- a share, or what the start had due, is used up after eleven months
abbrev pub PendingEnds : Type 0
PendingEnds = (b : Basin) (s : Start) (hs : List MonthRun) (w k : ℕ) → 12 ≤ k → pending b s hs w k ≡ 0

-- before the first month it is what the start has due
abbrev pub PendingBegins : Type 0
PendingBegins = (b : Basin) (s : Start) (w k : ℕ) → k < 12 → pending b s [] w k ≡ s.due w k

-- ---- what the tally keeps is always possible, and may be started from

abbrev pub AlwaysPossible : Type 0
AlwaysPossible = (b : Basin) → Accepted b → (s : Start) → Possible b s → (xs : List Entry) → Possible b (standing b (after_entries b (begun s) xs))

-- ---- a list that starts where a tally stands goes on as that tally would

pub record SameStanding (b : Basin) (t u : Tally) : Type 0 where
  pub carried_same : t.carried ≡ u.carried
  pub pending_same : (w k : ℕ) → k < 12 → pending b t.start t.months w k ≡ pending b u.start u.months w k

abbrev pub Resumed : Type 0
Resumed = (b : Basin) (t : Tally) (xs : List Entry) → SameStanding b (after_entries b (begun (standing b t)) xs) (after_entries b t xs)

-- ---- the facts asked of a basin are met: by the basin of 01, "One October, whole"

abbrev pub OctoberAccepted : Type 0
OctoberAccepted = Accepted october
