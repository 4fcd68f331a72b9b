-- Each stage of a turn, from the arrays to the rules' state. Assumes nothing.
use mathlib.Core.Bool.{Bool, true, false, cond, ◌&&◌}
use mathlib.Core.List.{List}
use mathlib.Core.Path.{◌≡◌, refl, sym, ap, ◌∙◌}
use Prim.Native.Nat.{ℕ, ◌+◌, ◌-◌, ◌≤◌, ◌<◌, min}
use native.Mathlib.Omega.{arith}
use lib.Dec.{ltb, eqb}
use lib.ListN.{length, get_or, set}
use Rattle.general.proofs.Tests.{absurd-bool, lt_of}
use Rattle.places.specs.Board.{storage_place, dues_from, board_length, storage_at, marks_at}
use Rattle.rules.specs.Basin as rules
use Rattle.rules.specs.Basin.{storage, Right, rows, reservoir_at, reservoir_of, pattern_of}
use Rattle.rules.specs.River.{Level}
use Rattle.rules.specs.Returns.{Part, return_now}
use Rattle.rules.specs.Turn.{State, with_levels, after_diversion, river_stage, storage_part, storage_stage, return_stage}
use Rattle.general.specs.Tests.{bit}
use Rattle.records.specs.declared.rights.Kind.{Kind}
use Rattle.records.specs.declared.rights.Kind.TheVariants.{Direct, Project, Instream, Storage}
use Rattle.records.specs.Records.{reservoir_count, kind_of}
use Rattle.river.specs.Arrays.{levels_of}
use Rattle.returns.specs.Returning.{parts_in, return_by}
use Rattle.turns.specs.Finish.{rest_of}
use Rattle.turns.specs.State.{storages_of, marks_of, taken_of, short_of, state_of}
use Rattle.grants.specs.Stages.{capacity_in, levels_taken, poured, board_stored, drawn_in, board_drawn, levels_released, home_row}
use Rattle.turns.proofs.Given.{RightAt, the_record, the_kind, the_row, the_reservoir, the_points, the_right}
use Rattle.turns.proofs.Facts.{path-is, reservoirs-count, rights-count, capacity-is, home-is, home-in}
use Rattle.turns.proofs.RightFacts.{kind-is, row_is, reservoir-of, row_in, row_on, project-behind, storage-behind}
use Rattle.turns.proofs.Places.{storage-at, taken_at_lem, storages-set, shorts-set, taken-off, marks-off, places_same, storages-poured, taken-poured, marks-poured}
use Rattle.turns.proofs.Demands.{path-of, state-storage}
use Rattle.turns.proofs.ReturnParts.{parts_is, by-rules, parts-rows}

state-path : (l l' : List Level) (x x' : List ℕ) (m m' : List Bool) (y y' : List ℕ) (z z' : List Bool) → l ≡ l' → x ≡ x' → m ≡ m' → y ≡ y' → z ≡ z'
    → ◌≡◌ {A = State} (record { levels = l; storages = x; marks = m; taken = y; short = z }) (record { levels = l'; storages = x'; marks = m'; taken = y'; short = z' })
state-path l l' x x' m m' y y' z z' a b c d e = λ i. record { levels = a i; storages = b i; marks = c i; taken = d i; short = e i }

module _ (R : RightAt) where
  abbrev r : Right
  r = the_right R

  abbrev v : ℕ
  v = the_reservoir R

  -- ---- the river part

  module _ (d : ℕ) (f a f' a' : List ℕ) (e : levels_of (rows R.basin) f' a' ≡ levels_taken Storage d R.table (the_row R) (levels_of (rows R.basin) f a)) (sh : List Bool) (bd : List ℕ)
      (there : v < reservoir_count R.reservoirs) (size : length bd ≡ board_length) (free : 0 < d → bit (marks_at bd) v ≡ false) where
    abbrev held : Bool
    held = ltb 0 d && eqb (storage_at bd v + d) (capacity_in R.reservoirs v)

    above : held ≡ true → 0 < d
    above h = go (ltb 0 d) refl h
      where
        go : (x : Bool) → ltb 0 d ≡ x → (x && eqb (storage_at bd v + d) (capacity_in R.reservoirs v)) ≡ true → 0 < d
        go true z y = lt_of z
        go false z y = absurd-bool y refl

    few-r : length R.basin.reservoirs ≤ 8
    few-r = R.setting.accepted.few_reservoirs

    in-r : v < length R.basin.reservoirs
    in-r = omega (arith, there, reservoirs-count R.setting)

    in-i : R.place < length R.basin.rights
    in-i = omega (arith, R.in_list, rights-count R.setting)

    storage-stage : state_of R.basin f' a' sh (poured (capacity_in R.reservoirs v) v R.place d bd) ≡ river_stage storage R.basin R.place r d (state_of R.basin f a sh bd)
    unfolding levels_taken river_stage after_diversion state_of
    storage-stage = state-path _ _ _ _ _ _ _ _ _ _
        (e ∙ rw (path-of R))
        (storages-poured (length R.basin.reservoirs) (length R.basin.rights) bd (capacity_in R.reservoirs v) v R.place d few-r in-r in-i R.setting.accepted.few_rights size free held
        ∙ ap (λ (x : ℕ). set (storages_of (length R.basin.reservoirs) bd) v (x + d)) (sym (storage-at (length R.basin.reservoirs) bd v in-r))
        ∙ ap (λ (k : ℕ). set (storages_of (length R.basin.reservoirs) bd) k (get_or (storages_of (length R.basin.reservoirs) bd) k 0 + d)) (sym (reservoir-of R)))
        (marks-poured (length R.basin.reservoirs) (length R.basin.rights) bd (capacity_in R.reservoirs v) v R.place d few-r in-r in-i R.setting.accepted.few_rights size free held above
        ∙ ap (λ (x : ℕ). cond (ltb 0 d && eqb (x + d) (capacity_in R.reservoirs v)) (set (marks_of (length R.basin.reservoirs) bd) v true) (marks_of (length R.basin.reservoirs) bd)) (sym (storage-at (length R.basin.reservoirs) bd v in-r))
        ∙ ap (λ (x : ℕ). cond (ltb 0 d && eqb (get_or (storages_of (length R.basin.reservoirs) bd) v 0 + d) x) (set (marks_of (length R.basin.reservoirs) bd) v true) (marks_of (length R.basin.reservoirs) bd)) (sym (capacity-is R.setting v there))
        ∙ ap (λ (k : ℕ). cond (ltb 0 d && eqb (get_or (storages_of (length R.basin.reservoirs) bd) k 0 + d) (reservoir_at R.basin k).capacity) (set (marks_of (length R.basin.reservoirs) bd) k true) (marks_of (length R.basin.reservoirs) bd)) (sym (reservoir-of R)))
        (taken-poured (length R.basin.reservoirs) (length R.basin.rights) bd (capacity_in R.reservoirs v) v R.place d few-r in-r in-i R.setting.accepted.few_rights size free held
        ∙ ap (λ (x : ℕ). set (taken_of (length R.basin.rights) bd) R.place (x + d)) (sym (taken_at_lem (length R.basin.rights) bd R.place in-i)))
        refl

  stage-taken : (k : Kind) (d : ℕ) (f a f' a' : List ℕ) (sh : List Bool) (bd : List ℕ) → levels_of (rows R.basin) f' a' ≡ levels_taken k d R.table (the_row R) (levels_of (rows R.basin) f a)
      → (k ≡ Storage → v < reservoir_count R.reservoirs) → length bd ≡ board_length → (k ≡ Storage → 0 < d → bit (marks_at bd) v ≡ false)
      → state_of R.basin f' a' sh (board_stored k (capacity_in R.reservoirs v) v R.place d bd) ≡ river_stage (kind_of k) R.basin R.place r d (state_of R.basin f a sh bd)
  unfolding levels_taken board_stored river_stage with_levels after_diversion state_of
  stage-taken Direct d f a f' a' sh bd e o n free = state-path _ _ _ _ _ _ _ _ _ _ (e ∙ rw (path-of R)) refl refl refl refl
  stage-taken Project d f a f' a' sh bd e o n free = state-path _ _ _ _ _ _ _ _ _ _ (e ∙ rw (path-of R)) refl refl refl refl
  stage-taken Instream d f a f' a' sh bd e o n free = state-path _ _ _ _ _ _ _ _ _ _ (e ∙ rw (row_is R)) refl refl refl refl
  stage-taken Storage d f a f' a' sh bd e o n free = storage-stage d f a f' a' e sh bd (o refl) n (free refl)

  pub river-stage : (d : ℕ) (f a f' a' : List ℕ) (sh : List Bool) (bd : List ℕ) → levels_of (rows R.basin) f' a' ≡ levels_taken (the_kind R) d R.table (the_row R) (levels_of (rows R.basin) f a)
      → length bd ≡ board_length → (the_kind R ≡ Storage → 0 < d → bit (marks_at bd) v ≡ false)
      → state_of R.basin f' a' sh (board_stored (the_kind R) (capacity_in R.reservoirs v) v R.place d bd) ≡ river_stage r.kind R.basin R.place r d (state_of R.basin f a sh bd)
  river-stage d f a f' a' sh bd e n free =
      stage-taken (the_kind R) d f a f' a' sh bd e (storage-behind R) n free ∙ ap (λ (k : rules.Kind). river_stage k R.basin R.place r d (state_of R.basin f a sh bd)) (sym (kind-is R))

  -- ---- the part from storage

  drawn-by : (k : Kind) (lacking : ℕ) (f a : List ℕ) (sh : List Bool) (bd : List ℕ) → (k ≡ Project → v < reservoir_count R.reservoirs) → drawn_in k lacking v bd ≡ storage_part (kind_of k) r (state_of R.basin f a sh bd) lacking
  unfolding drawn_in storage_part
  drawn-by Direct lacking f a sh bd o = refl
  drawn-by Project lacking f a sh bd o = ap (min lacking) (sym (state-storage R f a sh bd v refl (o refl)))
  drawn-by Instream lacking f a sh bd o = refl
  drawn-by Storage lacking f a sh bd o = refl

  stage-by : (k : Kind) (x : ℕ) (f a f' : List ℕ) (sh : List Bool) (bd : List ℕ) → levels_of (rows R.basin) f' a ≡ levels_released k x R.table (home_row R.reservoirs v) (the_row R) (levels_of (rows R.basin) f a) → length bd ≡ board_length
      → (k ≡ Project → v < reservoir_count R.reservoirs) → state_of R.basin f' a sh (board_drawn k x v bd) ≡ storage_stage (kind_of k) R.basin r x (state_of R.basin f a sh bd)
  unfolding board_drawn levels_released storage_stage state_of
  stage-by Direct x f a f' sh bd e n o = state-path _ _ _ _ _ _ _ _ _ _ e refl refl refl refl
  stage-by Project x f a f' sh bd e n o =
      let there : v < reservoir_count R.reservoirs = o refl in
      let in-r : v < length R.basin.reservoirs = omega (arith, there, reservoirs-count R.setting) in
      let few-r : length R.basin.reservoirs ≤ 8 = R.setting.accepted.few_reservoirs in
      let home : (reservoir_of R.basin r).row ≡ home_row R.reservoirs v = ap (λ (k : ℕ). (reservoir_at R.basin k).row) (reservoir-of R) ∙ home-is R.setting v there in
      state-path _ _ _ _ _ _ _ _ _ _
      (e ∙ rw (← home, path-is R.setting (reservoir_of R.basin r).row (omega (arith, home, home-in R.setting v there)), row_is R))
      (storages-set (length R.basin.reservoirs) bd v (storage_at bd v - x) in-r (omega arith)
      ∙ ap (λ (y : ℕ). set (storages_of (length R.basin.reservoirs) bd) v (y - x)) (sym (storage-at (length R.basin.reservoirs) bd v in-r))
      ∙ ap (λ (k : ℕ). set (storages_of (length R.basin.reservoirs) bd) k (get_or (storages_of (length R.basin.reservoirs) bd) k 0 - x)) (sym (reservoir-of R)))
      (marks-off (length R.basin.reservoirs) bd (storage_place v) (storage_at bd v - x) (λ z. omega arith))
      (taken-off (length R.basin.rights) bd (storage_place v) (storage_at bd v - x) (omega arith))
      refl
  stage-by Instream x f a f' sh bd e n o = state-path _ _ _ _ _ _ _ _ _ _ e refl refl refl refl
  stage-by Storage x f a f' sh bd e n o = state-path _ _ _ _ _ _ _ _ _ _ e refl refl refl refl

  pub drawn-is : (lacking : ℕ) (f a : List ℕ) (sh : List Bool) (bd : List ℕ) → drawn_in (the_kind R) lacking v bd ≡ storage_part r.kind r (state_of R.basin f a sh bd) lacking
  drawn-is lacking f a sh bd = drawn-by (the_kind R) lacking f a sh bd (project-behind R) ∙ ap (λ (k : rules.Kind). storage_part k r (state_of R.basin f a sh bd) lacking) (sym (kind-is R))

  pub storage-stage-is : (x : ℕ) (f a f' : List ℕ) (sh : List Bool) (bd : List ℕ) → levels_of (rows R.basin) f' a ≡ levels_released (the_kind R) x R.table (home_row R.reservoirs v) (the_row R) (levels_of (rows R.basin) f a) → length bd ≡ board_length
      → state_of R.basin f' a sh (board_drawn (the_kind R) x v bd) ≡ storage_stage r.kind R.basin r x (state_of R.basin f a sh bd)
  storage-stage-is x f a f' sh bd e n = stage-by (the_kind R) x f a f' sh bd e n (project-behind R) ∙ ap (λ (k : rules.Kind). storage_stage k R.basin r x (state_of R.basin f a sh bd)) (sym (kind-is R))

  -- ---- the returns

  pub return-stage : (d : ℕ) (is_short : Bool) (f a f' a' : List ℕ) (sh sh' : List Bool) (bd bd' : List ℕ)
      → levels_of (rows R.basin) f' a' ≡ return_by R.table (pattern_of R.basin r) (parts_in R.rights R.place (rest_of d (the_record R).efficiency) (the_points R)) (levels_of (rows R.basin) f a)
      → ((j : ℕ) → j < dues_from → get_or bd' j 0 ≡ get_or bd j 0) → sh' ≡ cond is_short (set sh (the_row R) true) sh → 64 ≤ length sh
      → state_of R.basin f' a' sh' bd' ≡ return_stage r.kind R.basin r d is_short (state_of R.basin f a sh bd)
  unfolding return_stage state_of
  return-stage d is_short f a f' a' sh sh' bd bd' e same m marks =
      let rest : ℕ = rest_of d (the_record R).efficiency in
      let pl = places_same (length R.basin.reservoirs) bd bd' (omega (arith, R.setting.accepted.few_reservoirs)) same in
      let pi = places_same (length R.basin.rights) bd bd' R.setting.accepted.few_rights same in
      state-path _ _ _ _ _ _ _ _ _ _
      (e
      ∙ by-rules R (pattern_of R.basin r) (parts_in R.rights R.place rest (the_points R)) (levels_of (rows R.basin) f a) (parts-rows R rest)
      ∙ ap (λ (qs : List Part). return_now R.basin.stations (pattern_of R.basin r) qs (levels_of (rows R.basin) f a)) (sym (parts_is R d)))
      pl.0 pl.1 pi.2
      (ap (short_of (rows R.basin)) m ∙ short-set is_short ∙ ap (λ (x : ℕ). cond is_short (set (short_of (rows R.basin) sh) x true) (short_of (rows R.basin) sh)) (sym (row_is R)))
    where
      short-set : (c : Bool) → short_of (rows R.basin) (cond c (set sh (the_row R) true) sh) ≡ cond c (set (short_of (rows R.basin) sh) (the_row R) true) (short_of (rows R.basin) sh)
      short-set true = shorts-set (rows R.basin) sh (the_row R) (row_in R) (omega (arith, row_on R))
      short-set false = refl
