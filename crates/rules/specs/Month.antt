-- One month (01, "The board and one month"), step by step.
use Rattle.std.specs.Prelude.{Bool, false, not, cond, List, [], ◌∷◌, map, ℕ, suc, ◌+◌, ◌-◌, ◌*◌, ◌/◌, min, leb, eqb, length, get_or, set, replicate, ℤ, pos}
use Rattle.general.specs.Sums.{sum_over, sum_to, only}
use Rattle.general.specs.Tables.{tab}
use Rattle.general.specs.Tests.{has}
use Rattle.rules.specs.Basin.{Survey, Reservoir, Right, Basin, rows, reservoir_at, pattern_of}
use Rattle.rules.specs.Path.{path}
use Rattle.rules.specs.River.{Level}
use Rattle.rules.specs.Returns.{consumption, parts_of, returned_at, lost_deep}
use Rattle.rules.specs.Turn.{State, Reason, met, called_out, river_low, storage_out, Grant, granted, Turn, turn}

-- What is carried from month to month, but for the returns on their way: the next month m, storages, filled marks, water taken this year, and for each
-- right in which of the twelve months of this year it was short (02, No. 6).
pub record Carried : Type 0 where
  pub m : ℕ
  pub storages : List ℕ
  pub marks : List Bool
  pub taken : List ℕ
  pub shorts : List (List Bool)

-- ---- steps 1 and 2: the river before the first right

-- Through row i flows what enters at it and above it: of every row upstream of it, and of its own, the runoff and the returns that arrive.
unfoldable pub gathered : Basin → List ℕ → List ℕ → ℕ → ℕ
gathered b runoff arriving i = sum_to (rows b) (λ j. only (has i (path b.stations j)) (get_or runoff j 0 + get_or arriving j 0))

-- Before the first right all of the flow is available.
unfoldable pub opening_levels : Basin → List ℕ → List ℕ → List Level
opening_levels b runoff arriving = tab (rows b) (λ i. let z : ℤ = pos (gathered b runoff arriving i) in record { flow = z; available = z })

-- In October a new water year begins, without water taken and without filled marks. Nobody is short yet.
unfoldable pub opening : Basin → Carried → List ℕ → List ℕ → State
opening b c runoff arriving = record {
  levels = opening_levels b runoff arriving;
  storages = c.storages;
  marks = cond (eqb c.m 0) (replicate (length b.reservoirs) false) c.marks;
  taken = cond (eqb c.m 0) (replicate (length b.rights) 0) c.taken;
  short = replicate (rows b) false;
}

-- ---- step 3: the rights, in the order of the list

-- the turns of the rights rs, which stand from place i on
unfoldable pub turns : Basin → ℕ → ℕ → List Right → State → List Turn
turns b m i [] s = []
turns b m i (r ∷ rs) s = let t : Turn = turn b m i r s in t ∷ turns b m (suc i) rs t.after_returns

unfoldable pub after_turns : List Turn → State → State
after_turns [] s = s
after_turns (t ∷ ts) s = after_turns ts t.after_returns

abbrev pub grants_of : List Turn → List Grant
grants_of ts = map (λ (t : Turn). t.grant) ts

-- the grant of right i, and what stands past the last
abbrev pub no_grant : Grant
no_grant = record { from_river = 0; from_storage = 0; reason = met; station = 0 }

abbrev pub grant_at : List Turn → ℕ → Grant
grant_at ts i = get_or (grants_of ts) i no_grant

-- of a turn: its consumption, and what of it returns at row w, s months after
unfoldable pub consumed_by : Turn → ℕ
consumed_by t = consumption t.right.kind t.right (granted t.grant)

unfoldable pub returned_by : Basin → ℕ → ℕ → Turn → ℕ
returned_by b w s t = returned_at (pattern_of b t.right) w s (parts_of t.right.kind t.right (granted t.grant))

unfoldable pub returns_at : Basin → List Turn → ℕ → ℕ → ℕ
returns_at b ts w s = sum_over (returned_by b w s) ts

-- of a turn what goes deep, and of all turns of a month
unfoldable pub deep_by : Basin → Turn → ℕ
deep_by b t = lost_deep (pattern_of b t.right) (parts_of t.right.kind t.right (granted t.grant))

unfoldable pub deep_of : Basin → List Turn → ℕ
deep_of b ts = sum_over (deep_by b) ts

-- ---- step 4: evaporation (areas as 02, No. 1)

-- from a towards b, n of d equal steps along; the distance from a is floored, be b the larger or the smaller
unfoldable pub towards : ℕ → ℕ → ℕ → ℕ → ℕ
towards a b n d = cond (leb a b) (a + (b - a) * n / d) (a - (a - b) * n / d)

-- the area at a storage x between two pairs of the area-capacity table, p the lower: on the straight line from p's area to q's
abbrev pub on_line : Survey → Survey → ℕ → ℕ
on_line p q x = towards p.area q.area (x - p.content) (q.content - p.content)

-- the area at a storage x that reaches p, the pairs above p being qs; from the last pair on it stays
unfoldable pub area_from : Survey → List Survey → ℕ → ℕ
area_from p [] x = p.area
area_from p (q ∷ qs) x = cond (leb q.content x) (area_from q qs x) (on_line p q x)

-- A storage that reaches no pair has no area. An accepted file has none such: its tables begin at 0.
unfoldable pub area_by : List Survey → ℕ → ℕ
area_by [] x = 0
area_by (p ∷ ps) x = cond (leb p.content x) (area_from p ps x) 0

unfoldable pub area_at : Reservoir → ℕ → ℕ
area_at v x = area_by v.surveys x

-- what month m takes off that area, as far as there is water
unfoldable pub evaporation : ℕ → Reservoir → ℕ → ℕ
evaporation m v x = min x (area_at v x * get_or v.depths m 0)

unfoldable pub evaporations : Basin → ℕ → List ℕ → List ℕ
evaporations b m storages = tab (length b.reservoirs) (λ v. evaporation m (reservoir_at b v) (get_or storages v 0))

unfoldable pub evaporated : Basin → List ℕ → List ℕ → List ℕ
evaporated b storages losses = tab (length b.reservoirs) (λ v. get_or storages v 0 - get_or losses v 0)

-- ---- who was short (02, No. 6)

unfoldable pub reason_number : Reason → ℕ
reason_number met = 0
reason_number called_out = 1
reason_number river_low = 2
reason_number storage_out = 3

-- a grant that is less than was asked for has a reason
unfoldable pub is_short : Grant → Bool
is_short g = not (eqb (reason_number g.reason) 0)

-- a year in which nobody has been short
abbrev pub nobody_short : Basin → List (List Bool)
nobody_short b = replicate (length b.rights) (replicate 12 false)

-- Such a year begins in October.
unfoldable pub opening_shorts : Basin → Carried → List (List Bool)
opening_shorts b c = cond (eqb c.m 0) (nobody_short b) c.shorts

-- Month m is noted for each right, short or not; what was noted for other months stays.
unfoldable pub noted : Basin → ℕ → List Turn → List (List Bool) → List (List Bool)
noted b m ts shorts = tab (length b.rights) (λ i. set (get_or shorts i []) m (is_short (grant_at ts i)))

-- ---- the whole month

-- A month run: its runoff; the river before the first right; the turns; the state that step 3 leaves; what evaporates; what is carried on.
pub record MonthRun : Type 0 where
  pub runoff : List ℕ
  pub opened : State
  pub turns : List Turn
  pub closed : State
  pub evaporation : List ℕ
  pub carried : Carried

-- Step 5: the next month; after September comes October.
unfoldable pub next_month : ℕ → ℕ
next_month m = cond (eqb m 11) 0 (suc m)

-- with runoff and with the returns that arrive this month, one of each to a row
unfoldable pub month : Basin → Carried → List ℕ → List ℕ → MonthRun
month b c runoff arriving =
    let s : State = opening b c runoff arriving in
    let ts : List Turn = turns b c.m 0 b.rights s in
    let e : State = after_turns ts s in
    let losses : List ℕ = evaporations b c.m e.storages in
    record {
      runoff = runoff;
      opened = s;
      turns = ts;
      closed = e;
      evaporation = losses;
      carried = record {
        m = next_month c.m;
        storages = evaporated b e.storages losses;
        marks = e.marks;
        taken = e.taken;
        shorts = noted b c.m ts (opening_shorts b c);
      };
    }

-- the number of rights short, which is its answer
unfoldable pub short_count : List Turn → ℕ
short_count ts = sum_over (λ (t : Turn). only (is_short t.grant) 1) ts
