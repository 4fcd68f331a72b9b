-- The demand and the river part in the rules' words. Assumes nothing.
use mathlib.Core.Bool.{Bool, true, false, not, cond}
use mathlib.Core.List.{List, [], ◌∷◌}
use mathlib.Core.Path.{◌≡◌, refl, sym, ap, ◌∙◌}
use Prim.Native.Nat.{ℕ, ◌+◌, ◌-◌, ◌≤◌, ◌<◌, min}
use native.Mathlib.Nat.{le_trans}
use native.Mathlib.Omega.{arith}
use lib.Dec.{leb}
use lib.ListN.{length, get_or}
use lib.IntN.{ℤ, pos}
use lib.Signed.{le_z, ◌≤ℤ◌, le_z_yes}
use Rattle.general.specs.Sums.{only}
use Rattle.general.specs.Tests.{has, bit}
use Rattle.general.proofs.Search.{has-none, has-head, has-tail, has_other, has-once}
use Rattle.general.proofs.Signed.{le-make, eq-make, signed}
use Rattle.general.proofs.Tables.{tab-at}
use Rattle.general.proofs.Tests.{absurd-bool, true_of, only-le, by_eqb, T_of}
use Rattle.places.specs.Board.{storage_at, marks_at}
use Rattle.rules.specs.Basin as rules
use Rattle.rules.specs.Basin.{Right, rows, reservoir_at, reservoir_of}
use Rattle.rules.specs.Path.{path}
use Rattle.rules.specs.River.{Level, available_at, lower, lowest, lesser}
use Rattle.rules.specs.Turn.{State, path_of, storage_of, mark_of, scheduled, demand, any_on, called, divertible, river_part, is_lowest, first_lowest}
use Rattle.rules.proofs.Path.{path-head}
use Rattle.rules.proofs.Tight.{first-same, first-twice}
use Rattle.records.specs.declared.rights.Kind.{Kind}
use Rattle.records.specs.declared.rights.Kind.TheVariants.{Direct, Project, Instream, Storage}
use Rattle.records.specs.Records.{reservoir_count, amount_at, kind_of, right_of}
use Rattle.river.specs.declared.Seen.{Seen}
use Rattle.river.specs.declared.Seen.TheVariants as seen
use Rattle.river.specs.Arrays.{seen_on}
use Rattle.river.proofs.Levels.{levels-at}
use Rattle.records.proofs.Table.{by-self}
use Rattle.rules.specs.Accepted.{most_amount}
use Rattle.grants.specs.Grants.{seen_by, part_of}
use Rattle.turns.specs.State.{storages_of, marks_of, short_of, state_of}
use Rattle.grants.specs.Stages.{amount_in, ask_in, capacity_in}
use Rattle.turns.proofs.Given.{RightAt, the_record, the_kind, the_row, the_reservoir, the_path, the_right, BeforeTurn, the_state}
use Rattle.turns.proofs.Facts.{downhill, path-is, path-in, reservoirs-count, rights-count, capacity-is}
use Rattle.turns.proofs.RightFacts.{right-good, kind-is, row_is, reservoir-of, limit_is, row_in, row_on, storage-behind}
use Rattle.grants.proofs.Looks.{seen-called, LowSeen, seen_low}
use Rattle.turns.proofs.Places.{storage-at, taken_at_lem, mark-at}

-- ---- the lowest available flow, as a natural number

lower-left : (x : ℕ) (z : ℤ) → pos x ≤ℤ z → lower (pos x) z ≡ pos x
lower-left x z h = ap (λ (t : Bool). cond t (pos x) z) (true_of {b = le_z (pos x) z} h.le)

lower-right : (x y : ℕ) → y ≤ x → lower (pos x) (pos y) ≡ pos y
lower-right x y h = go (le_z (pos x) (pos y)) refl
  where
    go : (t : Bool) → le_z (pos x) (pos y) ≡ t → cond t (pos x) (pos y) ≡ pos y
    go true e = let k : pos x ≤ℤ pos y = le_z_yes (T_of e) in eq-make (omega signed)
    go false e = refl

-- every row of the path has at least x, and one has x
pub lowest-nat : (l : List Level) (a : List ℕ) (x : ℕ) (p : List ℕ) → ((k : ℕ) → has k p ≡ true → available_at l k ≡ pos (get_or a k 0)) → ((k : ℕ) → has k p ≡ true → x ≤ get_or a k 0)
    → (q : ℕ) → has q p ≡ true → get_or a q 0 ≡ x → lowest l p ≡ pos x
unfolding lowest
lowest-nat l a x [] v h q o e = absurd-bool o (has-none q)
lowest-nat l a x (r ∷ []) v h q o e = by_eqb q r (λ _. available_at l r ≡ pos x)
    (λ z. v r (has-head r r [] refl) ∙ ap pos (ap (λ (k : ℕ). get_or a k 0) (sym z) ∙ e))
    (λ z. absurd-bool o (has_other q r [] z ∙ has-none q))
lowest-nat l a x (r ∷ s ∷ p) v h q o e = by_eqb q r (λ _. lower (available_at l r) (lowest l (s ∷ p)) ≡ pos x)
    (λ z. rw (v r (has-head r r (s ∷ p) refl), ← z, e) (lower-left x (lowest l (s ∷ p)) (rest-least l a x s p (λ k n. v k (has-tail k r (s ∷ p) n)) (λ k n. h k (has-tail k r (s ∷ p) n)))))
    (λ z. rw (v r (has-head r r (s ∷ p) refl), lowest-nat l a x (s ∷ p) (λ k n. v k (has-tail k r (s ∷ p) n)) (λ k n. h k (has-tail k r (s ∷ p) n)) q (sym (has_other q r (s ∷ p) z) ∙ o) e)
    (lower-right (get_or a r 0) x (h r (has-head r r (s ∷ p) refl))))
  where
    rest-least : (l : List Level) (a : List ℕ) (x s : ℕ) (p : List ℕ) → ((k : ℕ) → has k (s ∷ p) ≡ true → available_at l k ≡ pos (get_or a k 0)) → ((k : ℕ) → has k (s ∷ p) ≡ true → x ≤ get_or a k 0) → pos x ≤ℤ lowest l (s ∷ p)
    rest-least l a x s [] v h = rw (v s (has-head s s [] refl)) (le-make (omega (arith, h s (has-head s s [] refl))))
    rest-least l a x s (u ∷ p) v h = least (le_z (available_at l s) (lowest l (u ∷ p))) (rw (v s (has-head s s (u ∷ p) refl)) (le-make (omega (arith, h s (has-head s s (u ∷ p) refl)))))
        (rest-least l a x u p (λ k n. v k (has-tail k s (u ∷ p) n)) (λ k n. h k (has-tail k s (u ∷ p) n)))
      where
        least : (t : Bool) → pos x ≤ℤ available_at l s → pos x ≤ℤ lowest l (u ∷ p) → pos x ≤ℤ cond t (available_at l s) (lowest l (u ∷ p))
        least true m n = m
        least false m n = n

-- marks read off a table of the rows
any_same : (n : ℕ) (sh : List Bool) (p : List ℕ) → ((k : ℕ) → has k p ≡ true → k < n) → any_on (short_of n sh) p ≡ any_on sh p
unfolding any_on short_of
any_same n sh [] h = refl
any_same n sh (q ∷ p) h = rw (tab-at (λ w. get_or sh w false) n q false (h q (has-head q q p refl)), any_same n sh p (λ k l. h k (has-tail k q p l)))

pub short-at : (n : ℕ) (sh : List Bool) (q : ℕ) → q < n → get_or (short_of n sh) q false ≡ get_or sh q false
unfolding short_of
short-at n sh q h = tab-at (λ w. get_or sh w false) n q false h

module _ (R : RightAt) where
  pub path-of : path_of R.basin (the_right R) ≡ the_path R
  path-of = ap (path R.basin.stations) (row_is R) ∙ sym (path-is R.setting (the_row R) (row_in R))

  -- ---- the demand

  amount-is : (m : ℕ) → m < 12 → scheduled m (the_right R) ≡ amount_in R.rights R.place m
  unfolding scheduled amount_in right_of
  amount-is m h = ap (λ (x : ℕ). only (bit (the_record R).months m) x) (tab-at (amount_at R.rights R.place) 12 m 0 h)

  module _ (f a : List ℕ) (sh : List Bool) (bd : List ℕ) where
    state-taken : get_or (state_of R.basin f a sh bd).taken R.place 0 ≡ get_or bd (10 + R.place) 0
    unfolding state_of
    state-taken = taken_at_lem (length R.basin.rights) bd R.place (omega (arith, R.in_list, rights-count R.setting))

    module _ (v : ℕ) (e : v ≡ the_reservoir R) (there : v < reservoir_count R.reservoirs) where
      pub state-storage : storage_of (the_right R) (state_of R.basin f a sh bd) ≡ storage_at bd v
      unfolding state_of
      state-storage = ap (λ (k : ℕ). get_or (storages_of (length R.basin.reservoirs) bd) k 0) (reservoir-of R ∙ sym e) ∙ storage-at (length R.basin.reservoirs) bd v (omega (arith, there, reservoirs-count R.setting))

      pub state-mark : mark_of (the_right R) (state_of R.basin f a sh bd) ≡ bit (marks_at bd) v
      unfolding state_of
      state-mark = ap (λ (k : ℕ). get_or (marks_of (length R.basin.reservoirs) bd) k false) (reservoir-of R ∙ sym e) ∙ mark-at (length R.basin.reservoirs) bd v (omega (arith, there, reservoirs-count R.setting))

      pub state-capacity : (reservoir_of R.basin (the_right R)).capacity ≡ capacity_in R.reservoirs v
      state-capacity = ap (λ (k : ℕ). (reservoir_at R.basin k).capacity) (reservoir-of R ∙ sym e) ∙ capacity-is R.setting v there

module _ (T : BeforeTurn) where
  abbrev R : RightAt
  R = T.right

  abbrev r : Right
  r = the_right R

  abbrev p : List ℕ
  p = the_path R

  abbrev s : State
  s = the_state T

  ask-by : (k : Kind) → (k ≡ Storage → the_reservoir R < reservoir_count R.reservoirs) → ask_in k R.reservoirs R.rights R.place T.month T.board ≡ demand (kind_of k) R.basin T.month R.place r s
  unfolding ask_in demand
  ask-by Direct o = sym (amount-is R T.month T.in-year)
  ask-by Project o = sym (amount-is R T.month T.in-year)
  ask-by Instream o = sym (amount-is R T.month T.in-year)
  ask-by Storage o =
      let v : ℕ = the_reservoir R in
      sym (rw (state-mark R T.flow T.available T.short T.board v refl (o refl), amount-is R T.month T.in-year, limit_is R, state-taken R T.flow T.available T.short T.board, state-capacity R T.flow T.available T.short T.board v refl (o refl), state-storage R T.flow T.available T.short T.board v refl (o refl)))

  pub ask-is : ask_in (the_kind R) R.reservoirs R.rights R.place T.month T.board ≡ demand r.kind R.basin T.month R.place r s
  ask-is = ask-by (the_kind R) (storage-behind R) ∙ ap (λ (k : rules.Kind). demand k R.basin T.month R.place r s) (sym (kind-is R))

  -- a demand is at most the amount, and that at most 01's limit
  ask-le : (k : Kind) → ask_in k R.reservoirs R.rights R.place T.month T.board ≤ amount_in R.rights R.place T.month
  unfolding ask_in
  ask-le Direct = omega arith
  ask-le Project = omega arith
  ask-le Instream = omega arith
  ask-le Storage =
      let v : ℕ = the_reservoir R in
      let x : ℕ = min (amount_in R.rights R.place T.month) (min ((the_record R).limit - get_or T.board (10 + R.place) 0) (capacity_in R.reservoirs v - storage_at T.board v)) in
      let h : only (not (bit (marks_at T.board) v)) x ≤ x = only-le (not (bit (marks_at T.board) v)) x in
      le_trans h (omega arith)

  amount-le : amount_in R.rights R.place T.month ≤ most_amount
  unfolding scheduled
  amount-le = omega (arith, amount-is R T.month T.in-year, only-le (bit r.months T.month) (get_or r.amounts T.month 0), (right-good R).amounts_most T.month)

  pub ask-most : (k : Kind) → ask_in k R.reservoirs R.rights R.place T.month T.board ≤ most_amount
  ask-most k = le_trans (ask-le k) amount-le

  -- under a filled mark a storage right asks for nothing
  pub ask-marked : the_kind R ≡ Storage → bit (marks_at T.board) (the_reservoir R) ≡ true → ask_in (the_kind R) R.reservoirs R.rights R.place T.month T.board ≡ 0
  unfolding ask_in
  ask-marked z e = ap (λ (k : Kind). ask_in k R.reservoirs R.rights R.place T.month T.board) z ∙ rw e

  -- ---- the river part

  on_path : (k : ℕ) → has k p ≡ true → k < rows R.basin
  on_path = path-in R.setting (the_row R) (row_in R)

  pub called_is : called R.basin r s ≡ any_on T.short p
  unfolding called state_of
  called_is = rw (path-of R) (any_same (rows R.basin) T.short p on_path)

  pub available-is : (k : ℕ) → k < rows R.basin → available_at s.levels k ≡ pos (get_or T.available k 0)
  unfolding state_of
  available-is k h = ap (λ (x : Level). x.available) (levels-at (rows R.basin) T.flow T.available k h)

  -- the row seen is the first with the lowest available flow
  module _ (q : ℕ) (e : seen_on T.short T.available (the_row R) p ≡ seen.Low q) where
    low : LowSeen T.short T.available (the_row R) p q
    low = seen_low T.short T.available (the_row R) p q e

    pub not-called : any_on T.short p ≡ false
    not-called = low.open-path

    pub low-least : (k : ℕ) → has k p ≡ true → get_or T.available q 0 ≤ get_or T.available k 0
    low-least k h = low.least k (has-tail k (the_row R) p h)

    low_on : has q p ≡ true
    low_on = has-once q (the_row R) p (by-self R.table (downhill R.setting) (the_row R) (row_on R)) low.on

    pub lowest-is : lowest s.levels p ≡ pos (get_or T.available q 0)
    lowest-is = lowest-nat s.levels T.available (get_or T.available q 0) p (λ k h. available-is k (on_path k h)) low-least q low_on refl

    pub low_first : first_lowest s p ≡ q
    low_first =
        let t : ℕ → Bool = λ k. leb (get_or T.available k 0) (get_or T.available q 0) in
        let h = path-head R.basin.stations (the_row R) (row_in R) in
        let own : p ≡ the_row R ∷ h.0 = path-is R.setting (the_row R) (row_in R) ∙ h.1 in
        first-same (is_lowest s p) t p (λ k l. rw (available-is k (on_path k l), lowest-is))
        ∙ sym (rw own (first-twice t (the_row R) h.0))
        ∙ low.first

  -- what a right that looks down its path may divert
  divert-is : (x : ℕ) (y : Seen) → seen_on T.short T.available (the_row R) p ≡ y → part_of T.available x y ≡ divertible R.basin r s x
  unfolding part_of divertible lesser
  divert-is x (seen.Called q) e = sym (rw (called_is, (seen-called T.short T.available (the_row R) p q e).2))
  divert-is x (seen.Low q) e = sym (rw (called_is, not-called q e, path-of R, lowest-is q e))

  instream-is : (x : ℕ) → part_of T.available x (seen.Low (the_row R)) ≡ lesser x (available_at s.levels r.row)
  unfolding part_of lesser
  instream-is x = sym (rw (row_is R, available-is (the_row R) (row_in R)))

  part_by : (k : Kind) (x : ℕ) → part_of T.available x (seen_by k R.table T.available T.short (the_row R)) ≡ river_part (kind_of k) R.basin r s x
  unfolding river_part
  part_by Direct x = divert-is x (seen_on T.short T.available (the_row R) p) refl
  part_by Project x = divert-is x (seen_on T.short T.available (the_row R) p) refl
  part_by Instream x = instream-is x
  part_by Storage x = divert-is x (seen_on T.short T.available (the_row R) p) refl

  pub part-is : (x : ℕ) → part_of T.available x (seen_by (the_kind R) R.table T.available T.short (the_row R)) ≡ river_part r.kind R.basin r s x
  part-is x = part_by (the_kind R) x ∙ ap (λ (k : rules.Kind). river_part k R.basin r s x) (sym (kind-is R))
