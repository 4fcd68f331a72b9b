-- A reservoir's storage, by the grants. Assumes nothing.
use mathlib.Core.Path.{◌≡◌}
use mathlib.Core.List.{List, [], ◌∷◌}
use Prim.Native.Nat.{ℕ, suc, ◌+◌, ◌-◌, ◌≤◌, ◌<◌}
use native.Mathlib.Omega.{arith}
use native.Mathlib.Decide.{dec_lt}
use lib.ListN.{length, get_or, get_or-eq_default}
use Rattle.general.specs.Sums.{sum_over}
use Rattle.general.specs.Tables.{All}
use Rattle.general.proofs.Lists.{set-raised, set-lowered}
use Rattle.rules.specs.Basin.{Kind, direct, project, instream, storage, Right, Basin}
use Rattle.rules.specs.Turn.{State, demand, river_part, with_levels, river_stage, storage_stage, return_stage, Turn, turn}
use Rattle.rules.specs.Month.{Carried, opening, turns, after_turns, evaporations, evaporated, month}
use Rattle.rules.specs.Water.{stored_by, drawn_by, stored_in, drawn_from}
use Rattle.rules.specs.Accepted.{Connected, ReservoirOk, GoodPattern, GoodRight, Accepted}
use Rattle.rules.proofs.Stages.{Good, Lasts, RowsIn, river-good, river-fits, storage-lasts}
use Rattle.rules.proofs.Months.{turn-ok, MonthOk, month-ok, evaporated-at, evaporations-length, evaporated-length, reservoir-rows}

module _ (b : Basin) (c : Connected b) (v : ℕ) where
  river-entry : (k : Kind) (i : ℕ) (t : Turn) (s : State) → ReservoirOk k b t.right → Good b s
      → get_or (river_stage k b i t.right t.grant.from_river s).storages v 0 ≡ get_or s.storages v 0 + stored_by k v t
  unfolding river_stage with_levels stored_by
  river-entry direct i t s o g = omega arith
  river-entry project i t s o g = omega arith
  river-entry instream i t s o g = omega arith
  river-entry storage i t s o g = set-raised s.storages t.right.reservoir t.grant.from_river v (rw g.storages o.0)

  storage-entry : (k : Kind) (t : Turn) (s : State) → ReservoirOk k b t.right → Lasts b c k t.right t.grant.from_storage s → Good b s
      → get_or (storage_stage k b t.right t.grant.from_storage s).storages v 0 + drawn_by k v t ≡ get_or s.storages v 0
  unfolding storage_stage drawn_by
  storage-entry direct t s o l g = omega arith
  storage-entry project t s o l g = set-lowered s.storages t.right.reservoir t.grant.from_storage v (rw g.storages o.0) l
  storage-entry instream t s o l g = omega arith
  storage-entry storage t s o l g = omega arith

  turn-entry : (m i : ℕ) (r : Right) (s : State) → GoodRight b r → Good b s
      → get_or (turn b m i r s).after_returns.storages v 0 + drawn_by (turn b m i r s).right.kind v (turn b m i r s)
      ≡ get_or s.storages v 0 + stored_by (turn b m i r s).right.kind v (turn b m i r s)
  unfolding turn return_stage
  turn-entry m i r s h g =
      let k : Kind = r.kind in
      let a : ℕ = demand k b m i r s in
      let d : ℕ = river_part k b r s a in
      let s₁ : State = river_stage k b i r d s in
      let t : Turn = turn b m i r s in
      omega (
        arith,
        river-entry k i t s h.reservoir-ok g,
        storage-entry k t s₁ h.reservoir-ok (storage-lasts b c k r s₁ (a - d)) (river-good b c k i r d s (river-fits b c k r s a g) g),
      )

  turns-entry : RowsIn b c → All GoodPattern b.patterns → (m i : ℕ) (rs : List Right) (s : State) → All (GoodRight b) rs → Good b s
      → get_or (after_turns (turns b m i rs s) s).storages v 0 + drawn_from v (turns b m i rs s) ≡ get_or s.storages v 0 + stored_in v (turns b m i rs s)
  unfolding turns after_turns drawn_from stored_in sum_over
  turns-entry n p m i [] s h g = omega arith
  turns-entry n p m i (r ∷ rs) s h g =
      omega (arith, turn-entry m i r s h.0 g, turns-entry n p m (suc i) rs (turn b m i r s).after_returns h.1 (turn-ok b c n p m i r s h.0 g).good)

-- past the last reservoir nothing is stored
evaporated-past : (b : Basin) (m : ℕ) (ss : List ℕ) (v : ℕ) → length ss ≡ length b.reservoirs → length b.reservoirs ≤ v
    → get_or (evaporated b ss (evaporations b m ss)) v 0 + get_or (evaporations b m ss) v 0 ≡ get_or ss v 0
evaporated-past b m ss v e h = omega (
  arith,
  get_or-eq_default (evaporated b ss (evaporations b m ss)) 0 {n = v} (rw (evaporated-length b m ss) h),
  get_or-eq_default (evaporations b m ss) 0 {n = v} (rw (evaporations-length b m ss) h),
  get_or-eq_default ss 0 {n = v} (rw e h),
)

pub month-entry : (b : Basin) → Accepted b → (c : Carried) → length c.storages ≡ length b.reservoirs → (runoff arriving : List ℕ) (v : ℕ)
    → get_or (month b c runoff arriving).carried.storages v 0 + drawn_from v (month b c runoff arriving).turns + get_or (month b c runoff arriving).evaporation v 0
    ≡ get_or c.storages v 0 + stored_in v (month b c runoff arriving).turns
unfolding month opening
month-entry b acc c n runoff arriving v =
    let s : State = opening b c runoff arriving in
    let k : MonthOk b c runoff arriving (month b c runoff arriving) = month-ok b acc c n runoff arriving in
    let e : State = after_turns (turns b c.m 0 b.rights s) s in
    omega (
      arith,
      turns-entry b acc.connected v (reservoir-rows b acc) acc.patterns_good c.m 0 b.rights s acc.rights_good k.opened-good,
      lost (dec_lt v (length b.reservoirs)) e.storages k.closed-good.storages,
    )
  where
    lost : Dec (v < length b.reservoirs) → (ss : List ℕ) → length ss ≡ length b.reservoirs
        → get_or (evaporated b ss (evaporations b c.m ss)) v 0 + get_or (evaporations b c.m ss) v 0 ≡ get_or ss v 0
    lost (yes h) ss f = evaporated-at b c.m ss v h
    lost (no h) ss f = evaporated-past b c.m ss v f (omega arith)
