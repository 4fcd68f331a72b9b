-- The station that a grant names: a right whose storage gave out has a reservoir, and that stands at a station.
use mathlib.Core.Bool.{Bool, true, false, cond}
use mathlib.Core.List.{List}
use mathlib.Core.Path.{◌≡◌, refl, sym, ap, ◌∙◌}
use Prim.Native.Nat.{ℕ, ◌<◌}
use native.Mathlib.Omega.{arith}
use lib.Dec.{ltb}
use lib.ListN.{length}
use Rattle.rules.specs.Basin.{Station, Kind, direct, project, instream, storage, Right, Basin, reservoir_at}
use Rattle.rules.specs.Turn.{State, called, met, shortage, reason_of, number_at, granted, turn}
use Rattle.rules.specs.Month.{reason_number}
use Rattle.rules.specs.Accepted.{ReservoirOk}
use Rattle.records.specs.Records.{reservoir_count}
use Rattle.grants.specs.declared.grants.Reason.{Reason as ReasonMade}
use Rattle.grants.specs.declared.grants.Reason.TheVariants.{Met, Called, RiverLow, StorageOut}
use Rattle.grants.specs.declared.grants.Grant.{Grant as GrantMade}
use Rattle.grants.specs.Stages.{home_row}
use Rattle.grants.specs.Grants.{why_of}
use Rattle.turns.specs.State.{named_by, home_of, Tells}
use Rattle.turns.specs.Lines.{reservoir_station, CanName}
use Rattle.turns.proofs.Given.{RightAt, the_reservoir, the_right}
use Rattle.turns.proofs.Facts.{rows-st, reservoirs-count, home-is, home-in}
use Rattle.turns.proofs.RightFacts.{right-good, reservoir-of}

-- only a project right is short of storage
reservoir-there : (k : Kind) (b : Basin) (r : Right) (c z : Bool) → ReservoirOk k b r → reason_number (cond z (shortage k c) met) ≡ 3 → r.reservoir < length b.reservoirs
unfolding reason_number shortage
reservoir-there k b r c false o e = omega (arith, e)
reservoir-there direct b r true true o e = omega (arith, e)
reservoir-there direct b r false true o e = omega (arith, e)
reservoir-there project b r c true o e = o.0
reservoir-there instream b r c true o e = omega (arith, e)
reservoir-there storage b r c true o e = o.0

module _ (R : RightAt) where
  abbrev r : Right
  r = the_right R

  abbrev v : ℕ
  v = the_reservoir R

  storage-given-out : (m : ℕ) (s : State) → reason_number (turn R.basin m R.place r s).grant.reason ≡ 3 → r.reservoir < length R.basin.reservoirs
  unfolding turn reason_of
  storage-given-out m s e = reservoir-there r.kind R.basin r (called R.basin r s) (ltb (granted (turn R.basin m R.place r s).grant) (turn R.basin m R.place r s).asked) (right-good R).reservoir-ok e

  pub can-name : (m : ℕ) (s : State) (made : GrantMade) → Tells (turn R.basin m R.place r s).grant (home_of R.basin r) made → CanName R.stations R.reservoirs v made.reason
  can-name m s made t₀ e =
      let h : v < reservoir_count R.reservoirs = omega (arith, storage-given-out m s (sym t₀.reason ∙ e), reservoirs-count R.setting, reservoir-of R) in
      (h, omega (arith, home-in R.setting v h, rows-st R.setting))

  reservoir-station : v < reservoir_count R.reservoirs → reservoir_station R.stations R.reservoirs v ≡ home_of R.basin r
  reservoir-station h =
      ap (λ (l : List Station). number_at l (home_row R.reservoirs v)) (sym R.setting.stations)
      ∙ ap (number_at R.basin.stations) (sym (home-is R.setting v h) ∙ ap (λ (q : ℕ). (reservoir_at R.basin q).row) (sym (reservoir-of R)))

  -- named from the bytes, or by the rules' basin
  pub name-same : (why : ReasonMade) → CanName R.stations R.reservoirs v why → named_by (reservoir_station R.stations R.reservoirs v) why ≡ named_by (home_of R.basin r) why
  unfolding named_by why_of
  name-same Met c = refl
  name-same (Called s) c = refl
  name-same (RiverLow s) c = refl
  name-same StorageOut c = reservoir-station (c refl).0
