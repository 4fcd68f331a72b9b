-- What each stage of a right's turn does to the water. Assumes nothing.
use mathlib.Core.Path.{◌≡◌, refl, ap, ◌∙◌}
use mathlib.Core.Bool.{Bool, true, false, not, cond}
use mathlib.Core.List.{List, [], ◌∷◌}
use Prim.Native.Nat.{ℕ, ◌+◌, ◌-◌, ◌≤◌, ◌<◌}
use native.Mathlib.Omega.{arith}
use lib.ListN.{length, length-set}
use lib.IntN.{ℤ, pos, ◌-ℤ◌}
use lib.Signed.{◌≤ℤ◌}
use Rattle.general.specs.Sums.{sum_over, sum, only}
use Rattle.general.specs.Tests.{has}
use Rattle.general.proofs.Signed.{up, dn, lower-law, raise-law}
use Rattle.general.proofs.Tests.{by_eqb, absurd-bool}
use Rattle.general.proofs.Search.{has-single}
use Rattle.general.proofs.Sums.{sum-set}
use Rattle.rules.specs.Basin.{Kind, direct, project, instream, storage, Right, Basin, rows, reservoir_of, pattern_of}
use Rattle.rules.specs.Path.{path, until_row, last_row}
use Rattle.rules.specs.River.{Level, level_at, flow_at, available_at, diverted, reserved, released, returned, along, lowest, lesser}
use Rattle.rules.specs.Returns.{Part, parts_of, lagged, return_now}
use Rattle.rules.specs.Turn.{State, path_of, storage_of, called, divertible, river_part, with_levels, after_diversion, river_stage, storage_part, storage_stage, return_stage}
use Rattle.rules.specs.Accepted.{Connected, ReservoirOk}
use Rattle.rules.proofs.Path.{path-last, path-until}
use Rattle.rules.proofs.River.{along-at, along-length, AllSound, diverted-along, reserved-along, released-along, returned-along, lesser-fits, diversion-fits}
use Rattle.rules.proofs.Splits.{at_once, PartsIn}

-- a state of a month on basin b: a sound level for each row, a storage for each reservoir
pub record Good (b : Basin) (s : State) : Type 0 where
  pub size : length s.levels ≡ rows b
  pub storages : length s.storages ≡ length b.reservoirs
  pub sound : AllSound s.levels

abbrev pub outflow : Basin → State → ℤ
outflow b s = flow_at s.levels (last_row b)

abbrev pub stored : State → ℕ
stored s = sum s.storages

-- from s to t, outflow and storage together gain the one amount and lose the other
abbrev pub Balance : Basin → State → State → ℕ → ℕ → Type 0
Balance b s t gain loss = up (outflow b t) + dn (outflow b s) + stored t + loss ≡ dn (outflow b t) + up (outflow b s) + stored s + gain

module _ (b : Basin) (c : Connected b) where
  last-in : (l : List Level) → length l ≡ rows b → last_row b < length l
  last-in l e = omega (arith, c.some_row)

  -- the outflow, changed along a path that holds the outlet, and along one that does not
  flow-on : (f : Level → Level) (p : List ℕ) (l : List Level) → length l ≡ rows b → has (last_row b) p ≡ true → flow_at (along f p l) (last_row b) ≡ (f (level_at l (last_row b))).flow
  flow-on f p l n e = ap (λ (x : Level). x.flow) (along-at f p l (last_row b) (last-in l n)) ∙ rw e

  flow-off : (f : Level → Level) (p : List ℕ) (l : List Level) → length l ≡ rows b → has (last_row b) p ≡ false → flow_at (along f p l) (last_row b) ≡ flow_at l (last_row b)
  flow-off f p l n e = ap (λ (x : Level). x.flow) (along-at f p l (last_row b) (last-in l n)) ∙ rw e

  levels-good : (f : Level → Level) (p : List ℕ) (s : State) → Good b s → AllSound (along f p s.levels) → Good b (with_levels s (along f p s.levels))
  unfolding with_levels
  levels-good f p s g h = record { size = along-length f p s.levels ∙ g.size; storages = g.storages; sound = h }

  -- ---- the river part

  abbrev pub OnPath : Right → ℕ → State → Type 0
  OnPath r d s = (i : ℕ) → has i (path_of b r) ≡ true → pos d ≤ℤ available_at s.levels i

  abbrev pub Fits : Kind → Right → ℕ → State → Type 0
  Fits direct r d s = OnPath r d s
  Fits project r d s = OnPath r d s
  Fits instream r d s = pos d ≤ℤ available_at s.levels r.row
  Fits storage r d s = OnPath r d s

  divertible-fits : (r : Right) (s : State) (a : ℕ) → Good b s → OnPath r (divertible b r s a) s
  unfolding divertible
  divertible-fits r s a g i e = go (not (called b r s))
    where
      go : (t : Bool) → pos (only t (lesser a (lowest s.levels (path_of b r)))) ≤ℤ available_at s.levels i
      go true = diversion-fits a s.levels (path_of b r) g.sound i e
      go false = (g.sound i).not_negative

  pub river-fits : (k : Kind) (r : Right) (s : State) (a : ℕ) → Good b s → Fits k r (river_part k b r s a) s
  unfolding river_part
  river-fits direct r s a g = divertible-fits r s a g
  river-fits project r s a g = divertible-fits r s a g
  river-fits instream r s a g = lesser-fits a (available_at s.levels r.row) (g.sound r.row).not_negative
  river-fits storage r s a g = divertible-fits r s a g

  single-fits : (r : Right) (d : ℕ) (s : State) → pos d ≤ℤ available_at s.levels r.row → (i : ℕ) → has i (r.row ∷ []) ≡ true → pos d ≤ℤ available_at s.levels i
  single-fits r d s h i e = by_eqb i r.row (λ _. pos d ≤ℤ available_at s.levels i) (λ f. rw f h) (λ f. absurd-bool e (has-single i r.row f))

  pub river-good : (k : Kind) (i : ℕ) (r : Right) (d : ℕ) (s : State) → Fits k r d s → Good b s → Good b (river_stage k b i r d s)
  unfolding river_stage after_diversion
  river-good direct i r d s h g = levels-good (diverted d) (path_of b r) s g (diverted-along d _ _ h g.sound)
  river-good project i r d s h g = levels-good (diverted d) (path_of b r) s g (diverted-along d _ _ h g.sound)
  river-good instream i r d s h g = levels-good (reserved d) (r.row ∷ []) s g (reserved-along d _ _ (single-fits r d s h) g.sound)
  river-good storage i r d s h g = record {
    size = along-length (diverted d) (path_of b r) s.levels ∙ g.size;
    storages = length-set s.storages r.reservoir (storage_of r s + d) ∙ g.storages;
    sound = diverted-along d _ _ h g.sound;
  }

  -- what of a river part leaves the river and its reservoirs
  abbrev pub leaves : Kind → ℕ → ℕ
  leaves direct d = d
  leaves project d = d
  leaves instream d = 0
  leaves storage d = 0

  diverted-flow : (d : ℕ) (x : Level) → (diverted d x).flow ≡ x.flow -ℤ pos d
  unfolding diverted
  diverted-flow d x = refl

  diverted-last : (r : Right) (d : ℕ) (s : State) → r.row < rows b → Good b s
      → up (flow_at (after_diversion b r d s) (last_row b)) + dn (outflow b s) + d ≡ dn (flow_at (after_diversion b r d s) (last_row b)) + up (outflow b s)
  unfolding after_diversion
  diverted-last r d s h g =
      rw (flow-on (diverted d) (path_of b r) s.levels g.size (path-last b c r.row h), diverted-flow d (level_at s.levels (last_row b))) (lower-law (outflow b s) d)

  reserved-last : (d : ℕ) (p : List ℕ) (s : State) → Good b s → flow_at (along (reserved d) p s.levels) (last_row b) ≡ outflow b s
  unfolding reserved
  reserved-last d p s g = ap (λ (x : Level). x.flow) (along-at (reserved d) p s.levels (last_row b) (last-in s.levels g.size)) ∙ go (has (last_row b) p)
    where
      go : (t : Bool) → (cond t (reserved d (level_at s.levels (last_row b))) (level_at s.levels (last_row b))).flow ≡ outflow b s
      go true = refl
      go false = refl

  pub river-balance : (k : Kind) (i : ℕ) (r : Right) (d : ℕ) (s : State) → r.row < rows b → ReservoirOk k b r → Good b s → Balance b s (river_stage k b i r d s) 0 (leaves k d)
  unfolding river_stage with_levels
  river-balance direct i r d s h o g = omega (arith, diverted-last r d s h g)
  river-balance project i r d s h o g = omega (arith, diverted-last r d s h g)
  river-balance instream i r d s h o g = rw (reserved-last d (r.row ∷ []) s g) (omega arith)
  river-balance storage i r d s h o g = omega (arith, diverted-last r d s h g, sum-set s.storages r.reservoir (storage_of r s + d) (rw g.storages o.0))

  -- ---- the part from storage

  abbrev pub Lasts : Kind → Right → ℕ → State → Type 0
  Lasts direct r x s = x ≡ 0
  Lasts project r x s = x ≤ storage_of r s
  Lasts instream r x s = x ≡ 0
  Lasts storage r x s = x ≡ 0

  pub storage-lasts : (k : Kind) (r : Right) (s : State) (a : ℕ) → Lasts k r (storage_part k r s a) s
  unfolding storage_part
  storage-lasts direct r s a = refl
  storage-lasts project r s a = omega arith
  storage-lasts instream r s a = refl
  storage-lasts storage r s a = refl

  pub storage-good : (k : Kind) (r : Right) (x : ℕ) (s : State) → Good b s → Good b (storage_stage k b r x s)
  unfolding storage_stage
  storage-good direct r x s g = g
  storage-good project r x s g = record {
    size = along-length _ _ _ ∙ g.size;
    storages = length-set s.storages r.reservoir (storage_of r s - x) ∙ g.storages;
    sound = released-along x _ _ g.sound;
  }
  storage-good instream r x s g = g
  storage-good storage r x s g = g

  -- a reservoir that exists stands at a row of the basin
  abbrev pub RowsIn : Type 0
  RowsIn = (r : Right) → r.reservoir < length b.reservoirs → (reservoir_of b r).row < rows b

  pub storage-balance : RowsIn → (k : Kind) (r : Right) (x : ℕ) (s : State) → ReservoirOk k b r → Lasts k r x s → Good b s → Balance b s (storage_stage k b r x s) 0 x
  unfolding storage_stage
  storage-balance i direct r x s o h g = omega arith
  storage-balance i project r x s o h g =
      rw (flow-off (released x) (until_row r.row (path b.stations (reservoir_of b r).row)) s.levels g.size (path-until b c (reservoir_of b r).row r.row (i r o.0) o.1))
      (omega (arith, sum-set s.storages r.reservoir (storage_of r s - x) (rw g.storages o.0)))
  storage-balance i instream r x s o h g = omega arith
  storage-balance i storage r x s o h g = omega arith

  -- ---- the returns

  return-length : (pattern : List ℕ) (qs : List Part) (l : List Level) → length (return_now b.stations pattern qs l) ≡ length l
  unfolding return_now
  return-length pattern [] l = refl
  return-length pattern (q ∷ qs) l = return-length pattern qs _ ∙ along-length _ _ l

  return-sound : (pattern : List ℕ) (qs : List Part) (l : List Level) → AllSound l → AllSound (return_now b.stations pattern qs l)
  unfolding return_now
  return-sound pattern [] l h = h
  return-sound pattern (q ∷ qs) l h = return-sound pattern qs _ (returned-along _ _ l h)

  returned-last : (d w : ℕ) (l : List Level) → length l ≡ rows b → w < rows b
      → up (flow_at (along (returned d) (path b.stations w) l) (last_row b)) + dn (flow_at l (last_row b))
      ≡ dn (flow_at (along (returned d) (path b.stations w) l) (last_row b)) + up (flow_at l (last_row b)) + d
  unfolding returned
  returned-last d w l e h = rw (flow-on (returned d) (path b.stations w) l e (path-last b c w h)) (raise-law (flow_at l (last_row b)) d)

  return-last : (pattern : List ℕ) (qs : List Part) (l : List Level) → length l ≡ rows b → PartsIn b qs
      → up (flow_at (return_now b.stations pattern qs l) (last_row b)) + dn (flow_at l (last_row b))
      ≡ dn (flow_at (return_now b.stations pattern qs l) (last_row b)) + up (flow_at l (last_row b)) + at_once pattern qs
  unfolding return_now at_once sum_over
  return-last pattern [] l e h = omega arith
  return-last pattern (q ∷ qs) l e h =
      let l' : List Level = along (returned (lagged pattern 0 q)) (path b.stations q.row) l in
      omega (arith, return-last pattern qs l' (along-length _ _ l ∙ e) h.1, returned-last (lagged pattern 0 q) q.row l e h.0)

  pub returns-good : (k : Kind) (r : Right) (d : ℕ) (t : Bool) (s : State) → Good b s → Good b (return_stage k b r d t s)
  unfolding return_stage
  returns-good k r d t s g = record {
    size = return-length (pattern_of b r) (parts_of k r d) s.levels ∙ g.size;
    storages = g.storages;
    sound = return-sound (pattern_of b r) (parts_of k r d) s.levels g.sound;
  }

  pub returns-balance : (k : Kind) (r : Right) (d : ℕ) (t : Bool) (s : State) → PartsIn b (parts_of k r d) → Good b s
      → Balance b s (return_stage k b r d t s) (at_once (pattern_of b r) (parts_of k r d)) 0
  unfolding return_stage
  returns-balance k r d t s h g = omega (arith, return-last (pattern_of b r) (parts_of k r d) s.levels g.size h)
