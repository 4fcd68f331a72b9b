-- The water of a turn, of a list of turns, of a month. Assumes nothing.
use mathlib.Core.Path.{◌≡◌, refl, ap, ◌∙◌}
use mathlib.Core.Bool.{Bool}
use mathlib.Core.List.{List, [], ◌∷◌}
use Prim.Native.Nat.{ℕ, suc, ◌+◌, ◌-◌, ◌≤◌, ◌<◌}
use native.Mathlib.Omega.{arith}
use native.Mathlib.Decide.{dec_lt}
use lib.Dec.{ltb}
use lib.ListN.{length, get_or}
use lib.IntN.{pos}
use lib.Signed.{≤ℤ_refl}
use Rattle.general.specs.Sums.{sum_over, sum, sum_to}
use Rattle.general.specs.Tables.{All}
use Rattle.general.proofs.Signed.{up, dn, signed}
use Rattle.general.proofs.Lists.{all-at-place}
use Rattle.general.proofs.Sums.{sum_to-same, sum_to-add, sum_to-list, sum_to-add₂, sum_to-zero₂}
use Rattle.general.proofs.Tables.{tab-length, tab-at, tab-past}
use Rattle.rules.specs.Basin.{Kind, direct, project, instream, storage, Right, Basin, no_reservoir, rows, reservoir_at, pattern_of}
use Rattle.rules.specs.Path.{last_row}
use Rattle.rules.specs.River.{Level, dry, level_at, flow_at, Sound}
use Rattle.rules.specs.Returns.{parts_of, returned_at}
use Rattle.rules.specs.Turn.{State, demand, river_part, river_stage, storage_part, storage_stage, return_stage, granted, Turn, turn}
use Rattle.rules.specs.Month.{Carried, gathered, opening_levels, opening, turns, after_turns, consumed_by, returned_by, returns_at, deep_by, deep_of, evaporation, evaporations, evaporated, MonthRun, month}
use Rattle.rules.specs.Water.{Checkpoint, TurnSound, MonthSound}
use Rattle.rules.specs.Accepted.{Connected, GoodReservoir, GoodPattern, GoodRight, Accepted}
use Rattle.rules.proofs.Path.{path-last}
use Rattle.rules.proofs.River.{AllSound}
use Rattle.rules.proofs.Splits.{later, parts_in, used, all-spent}
use Rattle.rules.proofs.Stages.{Good, outflow, Balance, Lasts, leaves, RowsIn, river-good, river-fits, river-balance, storage-lasts, storage-good, storage-balance, returns-good, returns-balance}

checkpoint : (b : Basin) (s : State) → Good b s → Checkpoint b s
checkpoint b s g = record { size = g.size; sound = g.sound }

-- all that leaves the river and its reservoirs is consumed, returns or goes deep
leaves-used : (b : Basin) (c : Connected b) (r : Right) (k : Kind) (d x : ℕ) (s : State) → Lasts b c k r x s → leaves b c k d + x ≡ used b r k (d + x)
leaves-used b c r direct d x s h = refl
leaves-used b c r project d x s h = refl
leaves-used b c r instream d x s h = omega arith
leaves-used b c r storage d x s h = omega arith

-- what a turn returns later: over all rows, 1 to 11 months after
abbrev pub later_by : Basin → Turn → ℕ
later_by b t = later b (pattern_of b t.right) (parts_of t.right.kind t.right (granted t.grant))

pub record TurnOk (b : Basin) (s : State) (t : Turn) : Type 0 where
  pub sound : TurnSound b t
  pub good : Good b t.after_returns
  pub balance : Balance b s t.after_returns 0 (consumed_by t + later_by b t + deep_by b t)

module _ (b : Basin) (c : Connected b) (rows_in : RowsIn b c) (patterns_good : All GoodPattern b.patterns) where
  pub turn-ok : (m i : ℕ) (r : Right) (s : State) → GoodRight b r → Good b s → TurnOk b s (turn b m i r s)
  unfolding turn consumed_by deep_by
  turn-ok m i r s h g =
      let k : Kind = r.kind in
      let a : ℕ = demand k b m i r s in
      let d : ℕ = river_part k b r s a in
      let s₁ : State = river_stage k b i r d s in
      let x : ℕ = storage_part k r s₁ (a - d) in
      let s₂ : State = storage_stage k b r x s₁ in
      let is_short : Bool = ltb (d + x) a in
      let g₁ : Good b s₁ = river-good b c k i r d s (river-fits b c k r s a g) g in
      let g₂ : Good b s₂ = storage-good b c k r x s₁ g₁ in
      let g₃ : Good b (return_stage k b r (d + x) is_short s₂) = returns-good b c k r (d + x) is_short s₂ g₂ in
      let lasts : Lasts b c k r x s₁ = storage-lasts b c k r s₁ (a - d) in
      record {
        sound = record { after_river = checkpoint b s₁ g₁; after_storage = checkpoint b s₂ g₂; after_returns = checkpoint b _ g₃ };
        good = g₃;
        balance = omega (
          arith,
          river-balance b c k i r d s h.row_in h.reservoir-ok g,
          storage-balance b c rows_in k r x s₁ h.reservoir-ok lasts g₁,
          returns-balance b c k r (d + x) is_short s₂ (parts_in b r k (d + x) h.returns-ok) g₂,
          leaves-used b c r k d x s₁ lasts,
          all-spent b r patterns_good k (d + x) h.returns-ok,
        );
      }

-- what a list of turns returns later
unfoldable pub later_all : Basin → List Turn → ℕ
later_all b ts = sum_to (rows b) (λ w. sum_to 11 (λ k. returns_at b ts w (suc k)))

later-all-none : (b : Basin) → later_all b [] ≡ 0
unfolding later_all returns_at sum_over
later-all-none b = sum_to-zero₂ (rows b) 11

later-all-cons : (b : Basin) (t : Turn) (ts : List Turn) → later_all b (t ∷ ts) ≡ later_by b t + later_all b ts
unfolding later_all later returns_at returned_by sum_over
later-all-cons b t ts =
    sum_to-add₂ (rows b) 11 (λ w k. returned_at (pattern_of b t.right) w (suc k) (parts_of t.right.kind t.right (granted t.grant))) (λ w k. returns_at b ts w (suc k))

pub record TurnsOk (b : Basin) (s : State) (ts : List Turn) : Type 0 where
  pub sound : All (TurnSound b) ts
  pub good : Good b (after_turns ts s)
  pub balance : Balance b s (after_turns ts s) 0 (sum_over consumed_by ts + later_all b ts + deep_of b ts)

pub turns-ok : (b : Basin) (c : Connected b) → RowsIn b c → All GoodPattern b.patterns → (m i : ℕ) (rs : List Right) (s : State) → All (GoodRight b) rs → Good b s → TurnsOk b s (turns b m i rs s)
unfolding turns after_turns deep_of sum_over
turns-ok b c n p m i [] s h g = record { sound = tt; good = g; balance = omega (arith, later-all-none b) }
turns-ok b c n p m i (r ∷ rs) s h g =
    let t : Turn = turn b m i r s in
    let o : TurnOk b s t = turn-ok b c n p m i r s h.0 g in
    let ts : List Turn = turns b m (suc i) rs t.after_returns in
    let os : TurnsOk b t.after_returns ts = turns-ok b c n p m (suc i) rs t.after_returns h.1 o.good in
    record {
      sound = (o.sound, os.sound);
      good = os.good;
      balance = omega (arith, o.balance, os.balance, later-all-cons b t ts);
    }

-- a turn for each right
pub turns-length : (b : Basin) (m i : ℕ) (rs : List Right) (s : State) → length (turns b m i rs s) ≡ length rs
unfolding turns
turns-length b m i [] s = refl
turns-length b m i (r ∷ rs) s = ap suc (turns-length b m (suc i) rs (turn b m i r s).after_returns)

-- ---- before the first right

module _ (b : Basin) (c : Connected b) (runoff arriving : List ℕ) where
  opening-sound : AllSound (opening_levels b runoff arriving)
  unfolding opening_levels
  opening-sound i = pick (dec_lt i (rows b))
    where
      pick : Dec (i < rows b) → Sound (level_at (opening_levels b runoff arriving) i)
      pick (yes h) = rw (tab-at _ (rows b) i dry h) (record { not_negative = omega signed; within_flow = ≤ℤ_refl _ })
      pick (no h) = rw (tab-past _ (rows b) i dry (omega arith)) (record { not_negative = ≤ℤ_refl _; within_flow = ≤ℤ_refl _ })

  opening-length : length (opening_levels b runoff arriving) ≡ rows b
  unfolding opening_levels
  opening-length = tab-length _ (rows b)

  -- all the water that arises or returns passes the last row
  gathered-last : gathered b runoff arriving (last_row b) ≡ sum_to (rows b) (λ j. get_or runoff j 0 + get_or arriving j 0)
  unfolding gathered
  gathered-last = sum_to-same (rows b) _ _ (λ j h. rw (path-last b c j h))

  opening-last : flow_at (opening_levels b runoff arriving) (last_row b) ≡ pos (sum_to (rows b) (λ j. get_or runoff j 0 + get_or arriving j 0))
  unfolding opening_levels
  opening-last = ap (λ (x : Level). x.flow) (tab-at _ (rows b) (last_row b) dry (omega (arith, c.some_row))) ∙ ap pos gathered-last

-- ---- evaporation

module _ (b : Basin) (m : ℕ) (ss : List ℕ) where
  pub evaporations-length : length (evaporations b m ss) ≡ length b.reservoirs
  unfolding evaporations
  evaporations-length = tab-length _ (length b.reservoirs)

  pub evaporated-length : length (evaporated b ss (evaporations b m ss)) ≡ length b.reservoirs
  unfolding evaporated
  evaporated-length = tab-length _ (length b.reservoirs)

  evaporation-at : (v : ℕ) → v < length b.reservoirs → get_or (evaporations b m ss) v 0 ≡ evaporation m (reservoir_at b v) (get_or ss v 0)
  unfolding evaporations
  evaporation-at v h = tab-at _ (length b.reservoirs) v 0 h

  evaporation-le : (v : ℕ) → evaporation m (reservoir_at b v) (get_or ss v 0) ≤ get_or ss v 0
  unfolding evaporation
  evaporation-le v = omega arith

  -- storage and evaporation together are the storage before
  pub evaporated-at : (v : ℕ) → v < length b.reservoirs → get_or (evaporated b ss (evaporations b m ss)) v 0 + get_or (evaporations b m ss) v 0 ≡ get_or ss v 0
  unfolding evaporated
  evaporated-at v h = omega (arith, tab-at (λ i. get_or ss i 0 - get_or (evaporations b m ss) i 0) (length b.reservoirs) v 0 h, evaporation-at v h, evaporation-le v)

  pub evaporated-sum : length ss ≡ length b.reservoirs → sum (evaporated b ss (evaporations b m ss)) + sum (evaporations b m ss) ≡ sum ss
  evaporated-sum e =
      let n : ℕ = length b.reservoirs in
      let x : List ℕ = evaporated b ss (evaporations b m ss) in
      let y : List ℕ = evaporations b m ss in
      omega (
        arith,
        sum_to-same n (λ v. get_or x v 0 + get_or y v 0) (λ v. get_or ss v 0) (λ v h. evaporated-at v h),
        sum_to-add n (λ v. get_or x v 0) (λ v. get_or y v 0),
        rw evaporated-length at (sum_to-list x),
        rw evaporations-length at (sum_to-list y),
        rw e at (sum_to-list ss),
      )

-- ---- the month

pub record MonthOk (b : Basin) (c : Carried) (runoff arriving : List ℕ) (h : MonthRun) : Type 0 where
  pub sound : MonthSound b h
  pub opened-good : Good b h.opened
  pub closed-good : Good b h.closed
  pub storages : length h.carried.storages ≡ length b.reservoirs
  pub water : up (outflow b h.closed) + sum_over consumed_by h.turns + sum h.evaporation + deep_of b h.turns + later_all b h.turns + sum h.carried.storages
      ≡ dn (outflow b h.closed) + sum_to (rows b) (λ j. get_or runoff j 0 + get_or arriving j 0) + sum c.storages

-- a reservoir that exists stands at a row
pub reservoir-rows : (b : Basin) (acc : Accepted b) → RowsIn b acc.connected
reservoir-rows b acc r h = (all-at-place (GoodReservoir b) b.reservoirs no_reservoir acc.reservoirs_good r.reservoir h).row_in

pub month-ok : (b : Basin) → Accepted b → (c : Carried) → length c.storages ≡ length b.reservoirs → (runoff arriving : List ℕ) → MonthOk b c runoff arriving (month b c runoff arriving)
unfolding month opening
month-ok b acc c n runoff arriving =
    let con : Connected b = acc.connected in
    let s : State = opening b c runoff arriving in
    let g : Good b s = record { size = opening-length b con runoff arriving; storages = n; sound = opening-sound b con runoff arriving } in
    let o : TurnsOk b s (turns b c.m 0 b.rights s) = turns-ok b con (reservoir-rows b acc) acc.patterns_good c.m 0 b.rights s acc.rights_good g in
    let e : State = after_turns (turns b c.m 0 b.rights s) s in
    record {
      sound = record { before_first = checkpoint b s g; each_turn = o.sound };
      opened-good = g;
      closed-good = o.good;
      storages = evaporated-length b c.m e.storages;
      water = omega (arith, rw (opening-last b con runoff arriving) at o.balance, evaporated-sum b c.m e.storages o.good.storages);
    }
