-- The turns of the first rights read nothing of the later ones. Assumes nothing.
use mathlib.Core.Path.{◌≡◌, refl, sym, ap, ◌∙◌}
use mathlib.Core.Logic.{◌≢◌}
use mathlib.Core.Bool.{Bool, not}
use mathlib.Core.List.{List, [], ◌∷◌, map}
use Prim.Native.Nat.{ℕ, zero, suc, ◌+◌, ◌-◌, min}
use native.Mathlib.Omega.{arith}
use lib.Dec.{ltb}
use lib.ListN.{length, get_or, take, drop}
use lib.Seq.{get_or-set_other}
use Rattle.general.specs.Sums.{only}
use Rattle.rules.specs.Basin.{Station, Reservoir, Kind, direct, project, instream, storage, Right, Basin, reservoir_of}
use Rattle.rules.specs.River.{Level}
use Rattle.rules.specs.Turn.{State, storage_of, mark_of, scheduled, demand, called, divertible, river_part, with_levels, after_diversion, river_stage, storage_part, storage_stage, return_stage, Reason, met, called_out, river_low, storage_out, reason_of, low_row, number_at, controlling, Turn, turn}
use Rattle.rules.specs.Month.{turns}
use Rattle.rules.specs.Elders.{SameRiver, without_taken, turn_without_taken, AlikeFrom, FirstTurns}

-- a turn once its demand is known
unfoldable given : Kind → Basin → ℕ → Right → State → ℕ → Turn
given k b i r s a =
    let d : ℕ = river_part k b r s a in
    let s₁ : State = river_stage k b i r d s in
    let x : ℕ = storage_part k r s₁ (a - d) in
    let s₂ : State = storage_stage k b r x s₁ in
    let is_short : Bool = ltb (d + x) a in
    let why : Reason = reason_of b r s is_short in
    record {
      right = r;
      asked = a;
      grant = record { from_river = d; from_storage = x; reason = why; station = controlling b r s why };
      after_river = s₁;
      after_storage = s₂;
      after_returns = return_stage k b r (d + x) is_short s₂;
    }

turn-given : (b : Basin) (m i : ℕ) (r : Right) (s : State) → turn b m i r s ≡ given r.kind b i r s (demand r.kind b m i r s)
unfolding turn given
turn-given b m i r s = refl

-- a turn with another station
unfoldable naming : Turn → ℕ → Turn
naming t n = record {
  right = t.right;
  asked = t.asked;
  grant = record { from_river = t.grant.from_river; from_storage = t.grant.from_storage; reason = t.grant.reason; station = n };
  after_river = t.after_river;
  after_storage = t.after_storage;
  after_returns = t.after_returns;
}

-- ---- two basins that differ in rights, two states that differ in water taken

module _ (st : List Station) (vs : List Reservoir) (ps : List (List ℕ)) (ra rb : List Right) (l : List Level) (ss : List ℕ) (ms : List Bool) (x y : List ℕ) (h : List Bool) where
  abbrev A : Basin
  A = record { stations = st; reservoirs = vs; patterns = ps; rights = ra }

  abbrev B : Basin
  B = record { stations = st; reservoirs = vs; patterns = ps; rights = rb }

  abbrev S : State
  S = record { levels = l; storages = ss; marks = ms; taken = x; short = h }

  abbrev T : State
  T = record { levels = l; storages = ss; marks = ms; taken = y; short = h }

  -- the demand reads of water taken its own place alone
  demand-same : (k : Kind) (m i : ℕ) (r : Right) → get_or x i 0 ≡ get_or y i 0 → demand k A m i r S ≡ demand k B m i r T
  unfolding demand
  demand-same direct m i r e = refl
  demand-same project m i r e = refl
  demand-same instream m i r e = refl
  demand-same storage m i r e = ap (λ (q : ℕ). only (not (mark_of r S)) (min (scheduled m r) (min (r.limit - q) ((reservoir_of A r).capacity - storage_of r S)))) e

  low_same : (k : Kind) (r : Right) → low_row k A r S ≡ low_row k B r T
  unfolding low_row
  low_same direct r = refl
  low_same project r = refl
  low_same instream r = refl
  low_same storage r = refl

  station-same : (r : Right) (w : Reason) → controlling A r S w ≡ controlling B r T w
  unfolding controlling
  station-same r met = refl
  station-same r called_out = refl
  station-same r river_low = ap (number_at st) (low_same r.kind r)
  station-same r storage_out = refl

  given-same : (k : Kind) (i : ℕ) (r : Right) (a : ℕ) → turn_without_taken (given k A i r S a) ≡ turn_without_taken (given k B i r T a)
  unfolding given turn_without_taken without_taken naming called divertible river_part with_levels after_diversion river_stage storage_part storage_stage return_stage reason_of
  given-same direct i r a = ap (naming (turn_without_taken (given direct A i r S a))) (station-same r (given direct A i r S a).grant.reason)
  given-same project i r a = ap (naming (turn_without_taken (given project A i r S a))) (station-same r (given project A i r S a).grant.reason)
  given-same instream i r a = ap (naming (turn_without_taken (given instream A i r S a))) (station-same r (given instream A i r S a).grant.reason)
  given-same storage i r a = ap (naming (turn_without_taken (given storage A i r S a))) (station-same r (given storage A i r S a).grant.reason)

  turn-same : (m i : ℕ) (r : Right) → get_or x i 0 ≡ get_or y i 0 → turn_without_taken (turn A m i r S) ≡ turn_without_taken (turn B m i r T)
  turn-same m i r e =
      ap turn_without_taken (turn-given A m i r S)
      ∙ ap (λ (a : ℕ). turn_without_taken (given r.kind A i r S a)) (demand-same r.kind m i r e)
      ∙ given-same r.kind i r (demand r.kind B m i r T)
      ∙ ap turn_without_taken (sym (turn-given B m i r T))

same_turn : (a b : Basin) → SameRiver a b → (m i : ℕ) (r : Right) (s t : State) → without_taken s ≡ without_taken t → get_or s.taken i 0 ≡ get_or t.taken i 0
    → turn_without_taken (turn a m i r s) ≡ turn_without_taken (turn b m i r t)
unfolding without_taken
same_turn a b e m i r s t q o =
    turn-same a.stations a.reservoirs a.patterns a.rights b.rights s.levels s.storages s.marks s.taken t.taken s.short m i r o
    ∙ (λ z. turn_without_taken (turn (record { stations = e.stations z; reservoirs = e.reservoirs z; patterns = e.patterns z; rights = b.rights }) m i r
    (record { levels = (q z).levels; storages = (q z).storages; marks = (q z).marks; taken = t.taken; short = (q z).short })))

-- ---- a turn changes of water taken its own place alone

module _ (b : Basin) (i j : ℕ) (n : j ≢ i) where
  river-kept : (k : Kind) (r : Right) (d : ℕ) (s : State) → get_or (river_stage k b i r d s).taken j 0 ≡ get_or s.taken j 0
  unfolding river_stage with_levels
  river-kept direct r d s = refl
  river-kept project r d s = refl
  river-kept instream r d s = refl
  river-kept storage r d s = get_or-set_other s.taken i j (get_or s.taken i 0 + d) 0 n

  storage-kept : (k : Kind) (r : Right) (x : ℕ) (s : State) → (storage_stage k b r x s).taken ≡ s.taken
  unfolding storage_stage
  storage-kept direct r x s = refl
  storage-kept project r x s = refl
  storage-kept instream r x s = refl
  storage-kept storage r x s = refl

  taken-kept : (m : ℕ) (r : Right) (s : State) → get_or (turn b m i r s).after_returns.taken j 0 ≡ get_or s.taken j 0
  unfolding turn return_stage
  taken-kept m r s = ap (λ (x : List ℕ). get_or x j 0) (storage-kept r.kind r _ _) ∙ river-kept r.kind r _ s

-- ---- one after another

pub first-turns : FirstTurns
unfolding turns turn_without_taken
first-turns a b e m i zero rs qs h s t w = refl
first-turns a b e m i (suc k) [] [] h s t w = refl
first-turns a b e m i (suc k) [] (q ∷ qs) h s t w = absurd (let z : 0 ≡ suc (length (take k qs)) = ap length h in omega arith)
first-turns a b e m i (suc k) (r ∷ rs) [] h s t w = absurd (let z : suc (length (take k rs)) ≡ 0 = ap length h in omega arith)
first-turns a b e m i (suc k) (r ∷ rs) (q ∷ qs) h s t w =
    let er : r ≡ q = ap (λ (l : List Right). get_or l 0 r) h in
    let et : take k rs ≡ take k qs = ap (drop 1) h in
    let here : turn_without_taken (turn a m i r s) ≡ turn_without_taken (turn b m i q t) = same_turn a b e m i r s t w.same (w.own i (omega arith) (omega arith)) ∙ ap (λ (z : Right). turn_without_taken (turn b m i z t)) er in
    let later : AlikeFrom (suc i) k (turn a m i r s).after_returns (turn b m i q t).after_returns = record {
      same = ap (λ (z : Turn). z.after_returns) here;
      own = λ j g u. taken-kept a i j (omega arith) m r s ∙ w.own j (omega arith) (omega arith) ∙ sym (taken-kept b i j (omega arith) m q t);
    } in
    let rest : take k (map turn_without_taken (turns a m (suc i) rs (turn a m i r s).after_returns)) ≡ take k (map turn_without_taken (turns b m (suc i) qs (turn b m i q t).after_returns))
    = first-turns a b e m (suc i) k rs qs et _ _ later in
    λ z. here z ∷ rest z
