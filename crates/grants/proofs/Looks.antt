-- What a look down the river says. Assumes nothing.
use mathlib.Core.Bool.{Bool, true, false, cond, ◌||◌}
use mathlib.Core.List.{List, [], ◌∷◌}
use mathlib.Core.Logic.{◌≢◌}
use mathlib.Core.Path.{◌≡◌, refl, sym, ap, ◌∙◌}
use Prim.Native.Nat.{ℕ, ◌≤◌, ◌<◌, min}
use native.Mathlib.Nat.{le_refl}
use native.Mathlib.Decide.{dec_lt}
use native.Mathlib.Omega.{arith}
use lib.Dec.{leb, ltb}
use lib.ListN.{get_or}
use Rattle.general.specs.Tests.{has}
use Rattle.general.proofs.Search.{has-head, has-tail, has_other, has-single, has-once}
use Rattle.general.proofs.Tables.{tab-at}
use Rattle.general.proofs.Tests.{absurd-bool, by_eqb, leb_yes, leb_no, lt_of, not-lt-of}
use Rattle.rules.specs.Basin.{Station, no_station}
use Rattle.rules.specs.Turn.{any_on, first_on, number_at}
use Rattle.rules.proofs.Tight.{first-here, first-later}
use Rattle.records.specs.declared.rights.Kind.{Kind}
use Rattle.records.specs.declared.rights.Kind.TheVariants.{Direct, Project, Instream, Storage}
use Rattle.records.specs.Records.{rows_of, station_record, station_of, stations_of}
use Rattle.river.specs.declared.Seen.{Seen}
use Rattle.river.specs.declared.Seen.TheVariants as seen
use Rattle.records.specs.Table.{path_by, Downhill}
use Rattle.river.specs.Arrays.{seen_on}
use Rattle.records.proofs.Table.{by-self}
use Rattle.river.proofs.Table.{by_in}
use Rattle.records.specs.declared.stations.StationRecord.{StationRecord}
use Rattle.grants.specs.declared.grants.Reason.TheVariants.{Called, RiverLow}
use Rattle.grants.specs.Grants.{CanSee, seen_by, part_of, reason_of, RiverGave}
use Rattle.grants.specs.Stages.{is_instream}

pub number_is : (s : List ℕ) (row : ℕ) → row < rows_of s → (station_record s row).number ≡ number_at (stations_of s) row
unfolding number_at stations_of station_of
number_is s row h = sym (ap (λ (x : Station). x.number) (tab-at (station_of s) (rows_of s) row no_station h))

-- ---- a short right on the path

-- the row that is told is the first such row
pub seen-called : (sh : List Bool) (a : List ℕ) (low : ℕ) (p : List ℕ) (q : ℕ) → seen_on sh a low p ≡ seen.Called q → (has q p ≡ true) × (first_on (λ k. get_or sh k false) p ≡ q) × (any_on sh p ≡ true)
unfolding seen_on any_on first_on
seen-called sh a low [] q e = let z : ◌≡◌ {A = ℕ} 0 1 = cc in absurd (omega arith)
seen-called sh a low (x ∷ p) q e = go (get_or sh x false) (seen-called sh a (cond (ltb (get_or a x 0) (get_or a low 0)) x low) p q) e
  where
    first : ℕ
    first = first_on (λ k. get_or sh k false) p

    rest : Seen
    rest = seen_on sh a (cond (ltb (get_or a x 0) (get_or a low 0)) x low) p

    go : (b : Bool) → (rest ≡ seen.Called q → (has q p ≡ true) × (first ≡ q) × (any_on sh p ≡ true)) → cond b (seen.Called x) rest ≡ seen.Called q
        → (has q (x ∷ p) ≡ true) × (cond b x first ≡ q) × ((b || any_on sh p) ≡ true)
    go true ih g = let z : x ≡ q = cc in (has-head q x p (sym z), z, refl)
    go false ih g = let w = ih g in (has-tail q x p w.0, w.1, w.2)

-- ---- none: the lowest number

-- Of low, the lowest so far, and the rows of p, the row q is the first with the lowest number.
pub record LowSeen (sh : List Bool) (a : List ℕ) (low : ℕ) (p : List ℕ) (q : ℕ) : Type 0 where
  pub open-path : any_on sh p ≡ false
  pub on : has q (low ∷ p) ≡ true
  pub least : (k : ℕ) → has k (low ∷ p) ≡ true → get_or a q 0 ≤ get_or a k 0
  pub first : first_on (λ k. leb (get_or a k 0) (get_or a q 0)) (low ∷ p) ≡ q

pub seen_low : (sh : List Bool) (a : List ℕ) (low : ℕ) (p : List ℕ) (q : ℕ) → seen_on sh a low p ≡ seen.Low q → LowSeen sh a low p q
unfolding seen_on any_on
seen_low sh a low [] q e =
    let z : low ≡ q = cc in
    rw (← z) (record {
      open-path = refl;
      on = has-head low low [] refl;
      least = λ k h. by_eqb k low (λ _. get_or a low 0 ≤ get_or a k 0) (λ y. rw y (le_refl _)) (λ y. absurd-bool h (has-single k low y));
      first = first-here (λ k. leb (get_or a k 0) (get_or a low 0)) low [] (leb_yes (get_or a low 0) (get_or a low 0) (le_refl (get_or a low 0)));
    })
seen_low sh a low (x ∷ p) q e = go (get_or sh x false) refl (λ l. seen_low sh a l p q) e
  where
    low' : ℕ
    low' = cond (ltb (get_or a x 0) (get_or a low 0)) x low

    t : ℕ → Bool
    t k = leb (get_or a k 0) (get_or a q 0)

    lower : (b : Bool) → ltb (get_or a x 0) (get_or a low 0) ≡ b → LowSeen sh a (cond b x low) p q → get_or sh x false ≡ false → LowSeen sh a low (x ∷ p) q
    lower true f w g =
        let l : get_or a x 0 < get_or a low 0 = lt_of f in
        let m : get_or a q 0 ≤ get_or a x 0 = w.least x (has-head x x p refl) in
        record {
          open-path = rw g w.open-path;
          on = has-tail q low (x ∷ p) w.on;
          least = λ k h. by_eqb k low (λ _. get_or a q 0 ≤ get_or a k 0) (λ z. rw z (omega arith)) (λ z. w.least k (sym (has_other k low (x ∷ p) z) ∙ h));
          first = first-later t low (x ∷ p) (leb_no (get_or a low 0) (get_or a q 0) (omega arith)) ∙ w.first;
        }
    lower false f w g =
        let l : get_or a low 0 ≤ get_or a x 0 = not-lt-of f in
        let m : get_or a q 0 ≤ get_or a low 0 = w.least low (has-head low low p refl) in
        record {
          open-path = rw g w.open-path;
          on = by_eqb q low (λ _. has q (low ∷ x ∷ p) ≡ true) (λ z. has-head q low (x ∷ p) z) (λ z. has-tail q low (x ∷ p) (has-tail q x p (sym (has_other q low p z) ∙ w.on)));
          least = λ k h. by_eqb k x (λ _. get_or a q 0 ≤ get_or a k 0) (λ z. rw z (omega arith)) (λ z. w.least k (skip k z h));
          first = between (dec_lt (get_or a q 0) (get_or a low 0)) w.first;
        }
      where
        skip : (k : ℕ) → k ≢ x → has k (low ∷ x ∷ p) ≡ true → has k (low ∷ p) ≡ true
        skip k n h = by_eqb k low (λ _. has k (low ∷ p) ≡ true) (λ z. has-head k low p z) (λ z. has-tail k low p (sym (has_other k x p n) ∙ sym (has_other k low (x ∷ p) z) ∙ h))

        between : Dec (get_or a q 0 < get_or a low 0) → first_on t (low ∷ p) ≡ q → first_on t (low ∷ x ∷ p) ≡ q
        between (yes h) i =
            let n : t low ≡ false = leb_no (get_or a low 0) (get_or a q 0) h in
            first-later t low (x ∷ p) n ∙ first-later t x p (leb_no (get_or a x 0) (get_or a q 0) (omega (arith, h, not-lt-of {m = get_or a x 0} {n = get_or a low 0} f))) ∙ sym (first-later t low p n) ∙ i
        between (no h) i =
            let y : t low ≡ true = leb_yes (get_or a low 0) (get_or a q 0) (omega (arith, h)) in
            first-here t low (x ∷ p) y ∙ sym (first-here t low p y) ∙ i

    go : (b : Bool) → get_or sh x false ≡ b → ((l : ℕ) → seen_on sh a l p ≡ seen.Low q → LowSeen sh a l p q) → cond b (seen.Called x) (seen_on sh a low' p) ≡ seen.Low q → LowSeen sh a low (x ∷ p) q
    go true f ih g = let z : ◌≡◌ {A = ℕ} 0 1 = cc in absurd (omega arith)
    go false f ih g = lower (ltb (get_or a x 0) (get_or a low 0)) refl (ih low' g) f

-- ---- at the right's own row, which the code has as i, and at the row q that the look found

module _ {st t : List ℕ} {row i : ℕ} (down : Downhill t) (o : CanSee st t row) (e : i ≡ row) where
  pub own_in : i < rows_of st
  own_in = rw e (o.stationed row (by-self t down row o.on))

  module _ (a : List ℕ) (sh : List Bool) {x : Seen} (q : ℕ) (s : x ≡ seen_on sh a i (path_by t i)) where
    found : {y : Seen} → x ≡ y → seen_on sh a row (path_by t row) ≡ y
    found f = sym (rw (← e) s) ∙ f

    pub called_in : x ≡ seen.Called q → q < rows_of st
    called_in f = o.stationed q (seen-called sh a row (path_by t row) q (found f)).0

    low-path : x ≡ seen.Low q → has q (path_by t row) ≡ true
    low-path f = has-once q row (path_by t row) (by-self t down row o.on) (seen_low sh a row (path_by t row) q (found f)).on

    pub low_in : x ≡ seen.Low q → q < rows_of st
    low_in f = o.stationed q (low-path f)

    pub low_on : x ≡ seen.Low q → q < 64
    low_on f = by_in t down row o.on q (low-path f)

-- ---- what the code answers

-- a right that is not instream looks down its path
pub seen-along : (k : Kind) (t a : List ℕ) (sh : List Bool) (row : ℕ) → is_instream k ≡ false → seen_by k t a sh row ≡ seen_on sh a row (path_by t row)
seen-along Direct t a sh row e = refl
seen-along Project t a sh row e = refl
seen-along Instream t a sh row e = absurd-bool refl e
seen-along Storage t a sh row e = refl

others : (k : Kind) → (k ≡ Instream → ⊥) → is_instream k ≡ false
others Direct n = refl
others Project n = refl
others Instream n = absurd (n refl)
others Storage n = refl

-- y is the record of the station that is named
module _ {st t : List ℕ} (a : List ℕ) (sh : List Bool) (k : Kind) {row i : ℕ} (ask : ℕ) {y : StationRecord} (down : Downhill t) (o : CanSee st t row) (e : i ≡ row) where
  pub gave_own : {x : ℕ} → k ≡ Instream → x ≡ min ask (get_or a i 0) → y ≡ station_record st i → RiverGave st t a sh k row ask (record { part = x; reason = RiverLow y.number })
  unfolding part_of reason_of
  gave_own z p n = rw (z, ← e) (record { part = p; reason = λ l. ap RiverLow (ap (λ (s : StationRecord). s.number) n ∙ number_is st i (own_in down o e)) })

  module _ {x : Seen} (q : ℕ) (u : k ≡ Instream → ⊥) (s : x ≡ seen_on sh a i (path_by t i)) (n : y ≡ station_record st q) where
    seen-is : {z : Seen} → x ≡ z → seen_by k t a sh row ≡ z
    seen-is f = seen-along k t a sh row (others k u) ∙ found down o e a sh q s f

    pub gave_called : x ≡ seen.Called q → RiverGave st t a sh k row ask (record { part = 0; reason = Called y.number })
    unfolding part_of reason_of
    gave_called f = record {
      part = sym (ap (part_of a ask) (seen-is f));
      reason = λ l. ap Called (ap (λ (s : StationRecord). s.number) n ∙ number_is st q (called_in down o e a sh q s f)) ∙ sym (ap (reason_of st) (seen-is f));
    }

    pub gave_low : {d : ℕ} → x ≡ seen.Low q → d ≡ min ask (get_or a q 0) → RiverGave st t a sh k row ask (record { part = d; reason = RiverLow y.number })
    unfolding part_of reason_of
    gave_low f p = record {
      part = p ∙ sym (ap (part_of a ask) (seen-is f));
      reason = λ l. ap RiverLow (ap (λ (s : StationRecord). s.number) n ∙ number_is st q (low_in down o e a sh q s f)) ∙ sym (ap (reason_of st) (seen-is f));
    }
