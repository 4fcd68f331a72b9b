-- A whole turn, from its stages. Assumes nothing.
use mathlib.Core.Bool.{Bool, true, false, cond}
use mathlib.Core.List.{List}
use mathlib.Core.Path.{◌≡◌, refl, sym, ap, ◌∙◌, subst}
use Prim.Native.Nat.{ℕ, ◌+◌, ◌-◌, ◌<◌}
use native.Mathlib.Omega.{arith}
use lib.Dec.{ltb}
use lib.ListN.{get_or}
use Rattle.general.specs.Tests.{has}
use Rattle.general.proofs.Tests.{lt_of}
use Rattle.rules.specs.Basin as rules
use Rattle.rules.specs.Basin.{Station, direct, project, instream, storage, Right, Basin, rows}
use Rattle.rules.specs.Turn.{State, path_of, demand, called, river_part, river_stage, storage_part, storage_stage, return_stage, met, called_out, river_low, shortage, reason_of, is_short_at, first_short, first_lowest, low_row, number_at, controlling, turn}
use Rattle.rules.proofs.Tight.{first-same}
use Rattle.rules.specs.Month.{reason_number}
use Rattle.records.specs.declared.rights.Kind.{Kind}
use Rattle.records.specs.declared.rights.Kind.TheVariants.{Direct, Project, Instream, Storage}
use Rattle.records.specs.Records.{stations_of, kind_of}
use Rattle.river.specs.declared.Seen.{Seen}
use Rattle.river.specs.declared.Seen.TheVariants as seen
use Rattle.river.specs.Arrays.{seen_on}
use Rattle.grants.specs.declared.grants.Grant as program
use Rattle.grants.specs.declared.grants.Reason.{Reason as ReasonMade}
use Rattle.grants.specs.declared.grants.Reason.TheVariants.{Met, StorageOut}
use Rattle.grants.specs.declared.grants.RiverPart.{RiverPart}
use Rattle.grants.specs.Grants as grants
use Rattle.grants.specs.Grants.{seen_by, RiverGave}
use Rattle.turns.specs.Finish.{short_reason}
use Rattle.grants.specs.Grants.{why_of}
use Rattle.turns.specs.State.{state_of, named_by, home_of, Tells}
use Rattle.turns.proofs.Given.{RightAt, the_kind, the_row, the_path, the_right, BeforeTurn, the_state}
use Rattle.turns.proofs.Facts.{path-in}
use Rattle.turns.proofs.RightFacts.{kind-is, row_is, row_in}
use Rattle.grants.proofs.Looks.{seen-called}
use Rattle.turns.proofs.Demands.{path-of, called_is, not-called, low_first, short-at}

-- ---- the turn by its stages

-- what each stage of a turn gave, and the state that it left
pub record Staged (b : Basin) (m i : ℕ) (r : Right) (s : State) : Type 0 where
  pub ask : ℕ
  pub part : ℕ
  pub drawn : ℕ
  pub after_river : State
  pub after_storage : State
  pub ask-is : ask ≡ demand r.kind b m i r s
  pub part-is : part ≡ river_part r.kind b r s ask
  pub river-is : after_river ≡ river_stage r.kind b i r part s
  pub drawn-is : drawn ≡ storage_part r.kind r after_river (ask - part)
  pub storage-is : after_storage ≡ storage_stage r.kind b r drawn after_river

module _ (b : Basin) (m i : ℕ) (r : Right) (s : State) (g : Staged b m i r s) where
  abbrev is_short : Bool
  is_short = ltb (g.part + g.drawn) g.ask

  pub turn-after : (turn b m i r s).after_returns ≡ return_stage r.kind b r (g.part + g.drawn) is_short g.after_storage
  unfolding turn
  turn-after = sym (rw (g.storage-is, g.drawn-is, g.river-is, g.part-is, g.ask-is))

  pub turn-river : (turn b m i r s).grant.from_river ≡ g.part
  unfolding turn
  turn-river = sym (rw (g.part-is, g.ask-is))

  pub turn-storage : (turn b m i r s).grant.from_storage ≡ g.drawn
  unfolding turn
  turn-storage = sym (rw (g.drawn-is, g.river-is, g.part-is, g.ask-is))

  pub turn-reason : (turn b m i r s).grant.reason ≡ reason_of b r s is_short
  unfolding turn
  turn-reason = sym (rw (g.drawn-is, g.river-is, g.part-is, g.ask-is))

  pub turn-station : (turn b m i r s).grant.station ≡ controlling b r s (reason_of b r s is_short)
  unfolding turn
  turn-station = sym (rw (g.drawn-is, g.river-is, g.part-is, g.ask-is))

-- ---- the reason and the station of a short right

module _ (T : BeforeTurn) where
  abbrev R : RightAt
  R = T.right

  abbrev r : Right
  r = the_right R

  abbrev p : List ℕ
  p = the_path R

  abbrev s : State
  s = the_state T

  on_path : (q : ℕ) → has q p ≡ true → q < rows R.basin
  on_path = path-in R.setting (the_row R) (row_in R)

  numbers : (q : ℕ) → number_at (stations_of R.stations) q ≡ number_at R.basin.stations q
  numbers q = ap (λ (l : List Station). number_at l q) (sym R.setting.stations)

  none-met : why_of Met ≡ reason_number met
  unfolding why_of reason_number
  none-met = refl

  none_named : named_by (home_of R.basin r) Met ≡ controlling R.basin r s met
  unfolding named_by controlling
  none_named = refl

  -- called out: the row seen is the first at which a right is short
  called-named : (q : ℕ) → seen_on T.short T.available (the_row R) p ≡ seen.Called q → (called R.basin r s ≡ true) × (number_at (stations_of R.stations) q ≡ controlling R.basin r s called_out)
  unfolding controlling state_of
  called-named q e =
      let c = seen-called T.short T.available (the_row R) p q e in
      let first : first_short s p ≡ q = first-same (is_short_at s) (λ k. get_or T.short k false) p (λ k h. short-at (rows R.basin) T.short k (on_path k h)) ∙ c.1 in
      (called_is T ∙ c.2, numbers q ∙ ap (number_at R.basin.stations) (sym (rw (path-of R) first)))

  -- else it is the first that can spare least
  low-named : (q : ℕ) → seen_on T.short T.available (the_row R) p ≡ seen.Low q → low_row r.kind R.basin r s ≡ first_lowest s (path_of R.basin r)
      → number_at (stations_of R.stations) q ≡ controlling R.basin r s river_low
  unfolding controlling
  low-named q e lo = numbers q ∙ ap (number_at R.basin.stations) (sym (lo ∙ rw (path-of R) (low_first T q e)))

  -- what the code names, of a right that looks down its path
  pub record Named (k : rules.Kind) (y : ReasonMade) : Type 0 where
    pub number : why_of y ≡ reason_number (shortage k (called R.basin r s))
    pub station : named_by (home_of R.basin r) y ≡ controlling R.basin r s (shortage k (called R.basin r s))

  looks : (k : rules.Kind) → (shortage k true ≡ called_out) → (shortage k false ≡ river_low) → low_row r.kind R.basin r s ≡ first_lowest s (path_of R.basin r) → (y : Seen) → seen_on T.short T.available (the_row R) p ≡ y → Named k (grants.reason_of R.stations y)
  unfolding grants.reason_of why_of named_by reason_number
  looks k c l lo (seen.Called q) e =
      let o = called-named q e in
      record { number = rw (o.0, c); station = rw (o.0, c) o.1 }
  looks k c l lo (seen.Low q) e =
      let o : called R.basin r s ≡ false = called_is T ∙ not-called T q e in
      record { number = rw (o, l); station = rw (o, l) (low-named q e lo) }

  -- an instream right names its own row
  own-named : r.kind ≡ instream → number_at (stations_of R.stations) (the_row R) ≡ controlling R.basin r s river_low
  unfolding controlling low_row
  own-named z = numbers (the_row R) ∙ ap (number_at R.basin.stations) (sym (rw z (row_is R)))

  instream-named : r.kind ≡ instream → Named instream (grants.reason_of R.stations (seen.Low (the_row R)))
  unfolding grants.reason_of why_of named_by reason_number shortage
  instream-named z = record { number = refl; station = own-named z }

  storage-named : Named project StorageOut
  unfolding why_of named_by reason_number shortage controlling
  storage-named = record { number = refl; station = refl }

  direct-named : r.kind ≡ direct → Named direct (grants.reason_of R.stations (seen_on T.short T.available (the_row R) p))
  unfolding shortage low_row
  direct-named z = looks direct refl refl (rw z) (seen_on T.short T.available (the_row R) p) refl

  stored-named : r.kind ≡ storage → Named storage (grants.reason_of R.stations (seen_on T.short T.available (the_row R) p))
  unfolding shortage low_row
  stored-named z = looks storage refl refl (rw z) (seen_on T.short T.available (the_row R) p) refl

  abbrev the_reason : ReasonMade
  the_reason = short_reason (the_kind R) (grants.reason_of R.stations (seen_by (the_kind R) R.table T.available T.short (the_row R)))

  named : (k : Kind) → r.kind ≡ kind_of k → Named (kind_of k) (short_reason k (grants.reason_of R.stations (seen_by k R.table T.available T.short (the_row R))))
  named Direct z = direct-named z
  named Project z = storage-named
  named Instream z = instream-named z
  named Storage z = stored-named z

  pub short-named : Named r.kind the_reason
  short-named = let e = kind-is R in subst (λ (k : rules.Kind). Named k the_reason) (sym e) (named (the_kind R) e)

  -- ---- the grant

  module _ (g : Staged R.basin T.month R.place r s) (v : RiverPart) (gave : RiverGave R.stations R.table T.available T.short (the_kind R) (the_row R) g.ask v) (ev : v.part ≡ g.part) (deep : ℕ) where
    abbrev why : ReasonMade
    why = short_reason (the_kind R) v.reason

    abbrev pub made : program.Grant
    made = record { from_river = g.part; from_storage = g.drawn; reason = cond (ltb (g.part + g.drawn) g.ask) why Met; deep = deep }

    why-is : (c : Bool) → ltb (g.part + g.drawn) g.ask ≡ c → (why_of (cond c why Met) ≡ reason_number (reason_of R.basin r s c)) × (named_by (home_of R.basin r) (cond c why Met) ≡ controlling R.basin r s (reason_of R.basin r s c))
    unfolding reason_of
    why-is true z =
        let l : g.part + g.drawn < g.ask = lt_of z in
        let e : v.reason ≡ grants.reason_of R.stations (seen_by (the_kind R) R.table T.available T.short (the_row R)) = gave.reason (omega (arith, ev)) in
        let n : Named r.kind the_reason = short-named in
        (rw e n.number, rw e n.station)
    why-is false z = (none-met, none_named)

    pub tells : Tells (turn R.basin T.month R.place r s).grant (home_of R.basin r) made
    tells =
        let y = why-is (ltb (g.part + g.drawn) g.ask) refl in
        record {
          from-river = sym (turn-river R.basin T.month R.place r s g);
          from-storage = sym (turn-storage R.basin T.month R.place r s g);
          reason = y.0 ∙ ap reason_number (sym (turn-reason R.basin T.month R.place r s g));
          station = y.1 ∙ sym (turn-station R.basin T.month R.place r s g);
        }
