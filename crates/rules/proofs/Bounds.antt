-- Bounds of a month: grants within amounts, storages within capacities, water taken within limits, returns within grants. Assumes nothing.
use mathlib.Core.Path.{◌≡◌, ap, ◌∙◌}
use mathlib.Core.Bool.{Bool, true, false, not, cond, ◌&&◌}
use mathlib.Core.List.{List, [], ◌∷◌}
use Prim.Native.Nat.{ℕ, suc, ◌+◌, ◌-◌, ◌*◌, ◌≤◌, ◌<◌, min}
use native.Mathlib.Nat.{le_trans, zero-add}
use native.Mathlib.Omega.{arith}
use native.Mathlib.Decide.{dec_lt}
use lib.Dec.{eqb, ltb}
use lib.ListN.{length, get_or, set, replicate, length-set, length-replicate}
use Rattle.general.specs.Sums.{sum_over, only}
use Rattle.general.specs.Tables.{tab, All}
use Rattle.general.proofs.Tests.{by_eqb, only-le}
use Rattle.general.proofs.Lists.{set-within, get_d-zeros, length-cond}
use Rattle.general.proofs.Tables.{tab-at, tab-past}
use Rattle.rules.specs.Basin.{Kind, direct, project, instream, storage, Right, Basin, no_right, reservoir_at, right_at, reservoir_of}
use Rattle.rules.specs.River.{available_at, lowest, lesser}
use Rattle.rules.specs.Turn.{State, path_of, storage_of, mark_of, scheduled, demand, called, divertible, river_part, with_levels, river_stage, storage_part, storage_stage, return_stage, granted, Turn, turn}
use Rattle.general.specs.Tests.{bit}
use Rattle.rules.specs.Month.{Carried, opening, turns, after_turns, returned_by, returns_at, evaporations, evaporated, next_month, month}
use Rattle.rules.specs.Accepted.{GoodPattern, GoodRight, Accepted, most_amount}
use Rattle.rules.proofs.River.{lesser-le}
use Rattle.rules.proofs.Splits.{returned-le}
use Rattle.rules.proofs.Months.{turns-length, evaporated-length}

-- ---- a grant is at most its demand, and a demand at most the amount

module _ (b : Basin) (r : Right) (s : State) where
  -- a storage right asks for no more than its limit and its reservoir leave
  storage-demand : (m i : ℕ) → (demand storage b m i r s ≤ scheduled m r) × (demand storage b m i r s ≤ r.limit - get_or s.taken i 0) × (demand storage b m i r s ≤ (reservoir_of b r).capacity - storage_of r s)
  unfolding demand
  storage-demand m i =
      let x : ℕ = min (scheduled m r) (min (r.limit - get_or s.taken i 0) ((reservoir_of b r).capacity - storage_of r s)) in
      let h : only (not (mark_of r s)) x ≤ x = only-le (not (mark_of r s)) x in
      (le_trans h (omega arith), le_trans h (omega arith), le_trans h (omega arith))

  pub demand-le : (k : Kind) (m i : ℕ) → demand k b m i r s ≤ scheduled m r
  unfolding demand
  demand-le direct m i = omega arith
  demand-le project m i = omega arith
  demand-le instream m i = omega arith
  demand-le storage m i = (storage-demand m i).0

  divertible-le : (a : ℕ) → divertible b r s a ≤ a
  unfolding divertible
  divertible-le a = le_trans (only-le (not (called b r s)) (lesser a (lowest s.levels (path_of b r)))) (lesser-le a (lowest s.levels (path_of b r)))

  river-le : (k : Kind) (a : ℕ) → river_part k b r s a ≤ a
  unfolding river_part
  river-le direct a = divertible-le a
  river-le project a = divertible-le a
  river-le instream a = lesser-le a (available_at s.levels r.row)
  river-le storage a = divertible-le a

storage-le : (k : Kind) (r : Right) (s : State) (a : ℕ) → storage_part k r s a ≤ a
unfolding storage_part
storage-le direct r s a = omega arith
storage-le project r s a = omega arith
storage-le instream r s a = omega arith
storage-le storage r s a = omega arith

grant-le : (b : Basin) (m i : ℕ) (r : Right) (s : State) → granted (turn b m i r s).grant ≤ scheduled m r
unfolding turn
grant-le b m i r s =
    let k : Kind = r.kind in
    let a : ℕ = demand k b m i r s in
    let d : ℕ = river_part k b r s a in
    omega (arith, demand-le b r s k m i, river-le b r s k a, storage-le k r (river_stage k b i r d s) (a - d))

scheduled-le : (b : Basin) (m : ℕ) (r : Right) → GoodRight b r → scheduled m r ≤ most_amount
unfolding scheduled
scheduled-le b m r h = le_trans (only-le (bit r.months m) (get_or r.amounts m 0)) (h.amounts_most m)

-- ---- what returns at a row and a month is at most the grants

-- a turn of an accepted right, with a grant of at most the largest amount
pub record Small (b : Basin) (t : Turn) : Type 0 where
  pub good : GoodRight b t.right
  pub grant-most : granted t.grant ≤ most_amount

returns-le : (b : Basin) → All GoodPattern b.patterns → (ts : List Turn) (w s : ℕ) → All (Small b) ts → returns_at b ts w s ≤ length ts * most_amount
unfolding returns_at sum_over returned_by
returns-le b g [] w s h = omega arith
returns-le b g (t ∷ ts) w s h = omega (arith, returned-le b t.right g t.right.kind w s (granted t.grant) h.0.good.returns-ok, h.0.grant-most, returns-le b g ts w s h.1)

turn_small : (b : Basin) (m i : ℕ) (r : Right) (s : State) → GoodRight b r → Small b (turn b m i r s)
unfolding turn
turn_small b m i r s h = record { good = h; grant-most = le_trans (grant-le b m i r s) (scheduled-le b m r h) }

turns-small : (b : Basin) (m i : ℕ) (rs : List Right) (s : State) → All (GoodRight b) rs → All (Small b) (turns b m i rs s)
unfolding turns
turns-small b m i [] s h = tt
turns-small b m i (r ∷ rs) s h = (turn_small b m i r s h.0, turns-small b m (suc i) rs (turn b m i r s).after_returns h.1)

pub month-returns-le : (b : Basin) → Accepted b → (c : Carried) (runoff arrived : List ℕ) (w s : ℕ) → returns_at b (month b c runoff arrived).turns w s ≤ 256 * most_amount
unfolding month
month-returns-le b acc c runoff arrived w s =
    let o : State = opening b c runoff arrived in
    omega (
      arith,
      returns-le b acc.patterns_good (turns b c.m 0 b.rights o) w s (turns-small b c.m 0 b.rights o acc.rights_good),
      turns-length b c.m 0 b.rights o,
      acc.few_rights,
    )

-- ---- storages within capacities, water taken within limits; and a mark to each reservoir

abbrev capacity_of : Basin → ℕ → ℕ
capacity_of b v = (reservoir_at b v).capacity

abbrev limit_of : Basin → ℕ → ℕ
limit_of b i = (right_at b i).limit

pub record Capped (b : Basin) (storages taken : List ℕ) (marks : List Bool) : Type 0 where
  pub storages_most : (v : ℕ) → get_or storages v 0 ≤ capacity_of b v
  pub taken-most : (i : ℕ) → get_or taken i 0 ≤ limit_of b i
  pub taken_count : length taken ≡ length b.rights
  pub marks_count : length marks ≡ length b.reservoirs

abbrev pub StateCapped : Basin → State → Type 0
StateCapped b s = Capped b s.storages s.taken s.marks

abbrev pub CarriedCapped : Basin → Carried → Type 0
CarriedCapped b c = Capped b c.storages c.taken c.marks

-- the river part of a storage right fits its limit and its reservoir
abbrev Room : Kind → Basin → ℕ → Right → ℕ → State → Type 0
Room direct b i r d s = Unit {0}
Room project b i r d s = Unit {0}
Room instream b i r d s = Unit {0}
Room storage b i r d s = (get_or s.taken i 0 + d ≤ limit_of b i) × (storage_of r s + d ≤ capacity_of b r.reservoir)

room : (k : Kind) (b : Basin) (m i : ℕ) (r : Right) (s : State) → right_at b i ≡ r → StateCapped b s → Room k b i r (river_part k b r s (demand k b m i r s)) s
room direct b m i r s e h = tt
room project b m i r s e h = tt
room instream b m i r s e h = tt
room storage b m i r s e h =
    let a = storage-demand b r s m i in
    let l : limit_of b i ≡ r.limit = ap (λ (x : Right). x.limit) e in
    let d : river_part storage b r s (demand storage b m i r s) ≤ demand storage b m i r s = river-le b r s storage (demand storage b m i r s) in
    let q = a.1 in
    let z = a.2 in
    let y = h.taken-most i in
    let x = h.storages_most r.reservoir in
    (omega arith, omega arith)

river-capped : (k : Kind) (b : Basin) (i : ℕ) (r : Right) (d : ℕ) (s : State) → Room k b i r d s → StateCapped b s → StateCapped b (river_stage k b i r d s)
unfolding river_stage with_levels
river-capped direct b i r d s o h = h
river-capped project b i r d s o h = h
river-capped instream b i r d s o h = h
river-capped storage b i r d s o h = record {
  storages_most = set-within (capacity_of b) s.storages r.reservoir (storage_of r s + d) o.1 h.storages_most;
  taken-most = set-within (limit_of b) s.taken i (get_or s.taken i 0 + d) o.0 h.taken-most;
  taken_count = length-set s.taken i _ ∙ h.taken_count;
  marks_count = length-cond (ltb 0 d && eqb (storage_of r s + d) (reservoir_of b r).capacity) (set s.marks r.reservoir true) s.marks _
      (length-set s.marks r.reservoir true ∙ h.marks_count) h.marks_count;
}

storage-capped : (k : Kind) (b : Basin) (r : Right) (x : ℕ) (s : State) → StateCapped b s → StateCapped b (storage_stage k b r x s)
unfolding storage_stage
storage-capped direct b r x s h = h
storage-capped project b r x s h = record {
  storages_most = set-within (capacity_of b) s.storages r.reservoir (storage_of r s - x) (omega (arith, h.storages_most r.reservoir)) h.storages_most;
  taken-most = h.taken-most;
  taken_count = h.taken_count;
  marks_count = h.marks_count;
}
storage-capped instream b r x s h = h
storage-capped storage b r x s h = h

pub turn-capped : (b : Basin) (m i : ℕ) (r : Right) (s : State) → right_at b i ≡ r → StateCapped b s → StateCapped b (turn b m i r s).after_returns
unfolding turn return_stage
turn-capped b m i r s e h =
    let k : Kind = r.kind in
    let a : ℕ = demand k b m i r s in
    let d : ℕ = river_part k b r s a in
    let s₁ : State = river_stage k b i r d s in
    let x : ℕ = storage_part k r s₁ (a - d) in
    let z : StateCapped b (storage_stage k b r x s₁) = storage-capped k b r x s₁ (river-capped k b i r d s (room k b m i r s e h) h) in
    record { storages_most = z.storages_most; taken-most = z.taken-most; taken_count = z.taken_count; marks_count = z.marks_count }

turns-capped : (b : Basin) (m i : ℕ) (rs : List Right) (s : State) → ((j : ℕ) → j < length rs → right_at b (i + j) ≡ get_or rs j no_right) → StateCapped b s → StateCapped b (after_turns (turns b m i rs s) s)
unfolding turns after_turns
turns-capped b m i [] s f h = h
turns-capped b m i (r ∷ rs) s f h =
    turns-capped b m (suc i) rs (turn b m i r s).after_returns (λ j l. ap (λ (n : ℕ). right_at b n) (omega arith) ∙ f (suc j) (omega arith))
    (turn-capped b m i r s (ap (λ (n : ℕ). right_at b n) (omega arith) ∙ f 0 (omega arith)) h)

-- the water taken as a month opens
opening-taken : (b : Basin) (c : Carried) (t : Bool) → CarriedCapped b c → (i : ℕ) → get_or (cond t (replicate (length b.rights) 0) c.taken) i 0 ≤ limit_of b i
opening-taken b c true h i = omega (arith, get_d-zeros (length b.rights) i)
opening-taken b c false h i = h.taken-most i

opening-capped : (b : Basin) (c : Carried) (runoff arrived : List ℕ) → CarriedCapped b c → StateCapped b (opening b c runoff arrived)
unfolding opening
opening-capped b c runoff arrived h = record {
  storages_most = h.storages_most;
  taken-most = opening-taken b c (eqb c.m 0) h;
  taken_count = length-cond (eqb c.m 0) (replicate (length b.rights) 0) c.taken _ (length-replicate (length b.rights) 0) h.taken_count;
  marks_count = length-cond (eqb c.m 0) (replicate (length b.reservoirs) false) c.marks _ (length-replicate (length b.reservoirs) false) h.marks_count;
}

-- evaporation raises no storage
evaporated-le : (b : Basin) (ss losses : List ℕ) (v : ℕ) → get_or (evaporated b ss losses) v 0 ≤ get_or ss v 0
unfolding evaporated
evaporated-le b ss losses v = pick (dec_lt v (length b.reservoirs))
  where
    left : ℕ → ℕ
    left i = get_or ss i 0 - get_or losses i 0

    pick : Dec (v < length b.reservoirs) → get_or (tab (length b.reservoirs) left) v 0 ≤ get_or ss v 0
    pick (yes h) = rw (tab-at left (length b.reservoirs) v 0 h) (omega arith)
    pick (no h) = omega (arith, tab-past left (length b.reservoirs) v 0 (omega arith))

pub month-capped : (b : Basin) (c : Carried) (runoff arrived : List ℕ) → CarriedCapped b c → CarriedCapped b (month b c runoff arrived).carried
unfolding month
month-capped b c runoff arrived h =
    let s : State = opening b c runoff arrived in
    let e : State = after_turns (turns b c.m 0 b.rights s) s in
    let z : StateCapped b e = turns-capped b c.m 0 b.rights s (λ j l. rw (zero-add j)) (opening-capped b c runoff arrived h) in
    record {
      storages_most = λ v. le_trans (evaporated-le b e.storages (evaporations b c.m e.storages) v) (z.storages_most v);
      taken-most = z.taken-most;
      taken_count = z.taken_count;
      marks_count = z.marks_count;
    }

pub month_in_year : (b : Basin) (c : Carried) (runoff arrived : List ℕ) → c.m < 12 → (month b c runoff arrived).carried.m < 12
unfolding month next_month
month_in_year b c runoff arrived h = by_eqb c.m 11 (λ t. cond t 0 (suc c.m) < 12) (λ e. omega arith) (λ e. omega arith)

pub month-count : (b : Basin) (c : Carried) (runoff arrived : List ℕ) → length (month b c runoff arrived).carried.storages ≡ length b.reservoirs
unfolding month
month-count b c runoff arrived = evaporated-length b c.m _
