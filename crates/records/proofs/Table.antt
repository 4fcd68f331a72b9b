-- Laws of the table of rows below, and of the paths that it gives. Assumes nothing.
use Rattle.std.specs.Prelude.{Option, None, Some}
use mathlib.Core.Bool.{Bool, true, false, cond}
use mathlib.Core.List.{List, [], ◌∷◌, ◌++◌}
use mathlib.Core.Path.{◌≡◌, refl, sym, ap, ◌∙◌, subst}
use Prim.Native.Nat.{ℕ, ◌+◌, ◌-◌, ◌≤◌, ◌<◌}
use native.Mathlib.Omega.{arith}
use native.Mathlib.Decide.{dec_lt}
use lib.Dec.{ltb}
use lib.ListN.{length, get_or, replicate, get_or-replicate, get_or-append}
use lib.Seq.{get_or-append-add}
use Rattle.general.specs.Tables.{tab}
use Rattle.general.specs.Tests.{has}
use Rattle.general.proofs.Routes.{Later, route-row, route-end, route-self, by-route}
use Rattle.general.proofs.Tables.{tab-length, tab-at}
use Rattle.general.proofs.Search.{has_other, has-single}
use Rattle.general.proofs.Tests.{ltb_yes, ltb_no, lt_of}
use Rattle.rules.specs.Basin.{Station}
use Rattle.rules.specs.Path.{row_below, path}
use Rattle.rules.proofs.Path.{below-later}
use Rattle.records.specs.Records.{rows_of, stations_of}
use Rattle.records.specs.Table.{below_code, table_of, step_of, path_by, Downhill, TableFor}
use Rattle.records.proofs.Rows.{rows_are}

-- ---- one step by the table

step_is : (t : List ℕ) (r : ℕ) → get_or t r 0 < 64 → step_of t r ≡ Some (get_or t r 0)
unfolding step_of
step_is t r h = rw (ltb_yes (get_or t r 0) 64 h)

step-none : (t : List ℕ) (r : ℕ) → 64 ≤ get_or t r 0 → step_of t r ≡ None
unfolding step_of
step-none t r h = rw (ltb_no (get_or t r 0) 64 h)

pub next-is : (t : List ℕ) (r x : ℕ) → x ≡ get_or t r 0 → x < 64 → Some x ≡ step_of t r
next-is t r x e h = rw (step_is t r (omega arith)) (ap (λ (y : ℕ). Some y) e)

pub next-none : (t : List ℕ) (r x : ℕ) → x ≡ get_or t r 0 → 64 ≤ x → None ≡ step_of t r
next-none t r x e h = rw (step-none t r (omega arith))

-- a table without a row below
pub none_downhill : Downhill (replicate 64 255)
none_downhill = record { later = λ r h l. absurd (omega (arith, get_or-replicate {A = ℕ} 64 r 255 0 h)) }

module _ (t : List ℕ) (d : Downhill t) where
  pub downhill-later : Later (step_of t) 64
  unfolding step_of
  downhill-later r q h e = go (ltb (get_or t r 0) 64) refl e
    where
      go : (b : Bool) → ltb (get_or t r 0) 64 ≡ b → cond b (Some (get_or t r 0)) None ≡ Some q → (r < q) × (q < 64)
      go true f g = let x : get_or t r 0 < 64 = lt_of f in let z : get_or t r 0 ≡ q = cc in let y = d.later r h x in (omega arith, omega arith)
      go false f g = let z : ◌≡◌ {A = ℕ} 0 1 = cc in absurd (omega arith)

  -- the path of a row goes on at the row that the lookup answers
  pub by_row : (i q : ℕ) → i < 64 → step_of t i ≡ Some q → (path_by t i ≡ i ∷ path_by t q) × (i < q) × (q < 64)
  unfolding path_by
  by_row i q h b =
      let w = downhill-later i q h b in
      (route-row (step_of t) 64 downhill-later i q h b, w.0, w.1)

  pub by_end : (i : ℕ) → i < 64 → step_of t i ≡ None → path_by t i ≡ i ∷ []
  unfolding path_by
  by_end i h b = route-end (step_of t) 64 downhill-later i h b

  pub by-self : (i : ℕ) → i < 64 → has i (path_by t i) ≡ true
  unfolding path_by
  by-self i h = route-self (step_of t) 64 downhill-later i h

-- ---- whether a row is on a path

module _ (t : List ℕ) (d : Downhill t) (i k : ℕ) (h : i < 64) where
  pub on-here : k ≡ i → has k (path_by t i) ≡ true
  on-here e = rw e (by-self t d i h)

  pub on-end : step_of t i ≡ None → (k ≡ i → ⊥) → has k (path_by t i) ≡ false
  on-end b ne = rw (by_end t d i h b) (has-single k i ne)

  pub on_below : (q : ℕ) → step_of t i ≡ Some q → (k ≡ i → ⊥) → has k (path_by t i) ≡ has k (path_by t q)
  on_below q b ne = rw (by_row t d i q h b).0 (has_other k i (path_by t q) ne)

-- what a walk along a path goes by: the last says that it goes on further down
pub ruleset paths = (on-here, on-end, on_below, downhill-later)

-- ---- the table of a list of stations

module _ (st : List Station) where
  abbrev codes : List ℕ
  codes = tab (length st) (λ r. below_code (row_below st r))

  abbrev unused : List ℕ
  unused = replicate (64 - length st) 255

  codes-length : length codes ≡ length st
  codes-length = tab-length (λ r. below_code (row_below st r)) (length st)

  table_at : (r : ℕ) → r < length st → get_or (table_of st) r 0 ≡ below_code (row_below st r)
  unfolding table_of
  table_at r h = get_or-append codes unused 0 r (rw codes-length h) ∙ tab-at (λ i. below_code (row_below st i)) (length st) r 0 h

  table-past : (r : ℕ) → length st ≤ r → r < 64 → get_or (table_of st) r 0 ≡ 255
  unfolding table_of
  table-past r h k =
      let e : r ≡ length codes + (r - length st) = omega (arith, codes-length) in
      ap (λ (x : ℕ). get_or (codes ++ unused) x 0) e
      ∙ get_or-append-add codes unused (r - length st) 0
      ∙ get_or-replicate (64 - length st) (r - length st) 255 0 (omega arith)

  -- what the lookup writes into it
  pub code_row : (r q : ℕ) → row_below st r ≡ Some q → (q < length st) × (q ≡ below_code (row_below st r))
  unfolding below_code
  code_row r q b = ((below-later st r q b).1, rw b)

  module _ (few : length st ≤ 64) where
    table_step : (r : ℕ) → r < length st → step_of (table_of st) r ≡ row_below st r
    unfolding step_of below_code
    table_step r h = rw (table_at r h) (go (row_below st r) (below-later st r))
      where
        go : (o : Option ℕ) → ((q : ℕ) → o ≡ Some q → (r < q) × (q < length st)) → cond (ltb (below_code o) 64) (Some (below_code o)) None ≡ o
        go None l = refl
        go (Some q) l = let w = l q refl in rw (ltb_yes q 64 (omega arith))

    pub table-downhill : Downhill (table_of st)
    unfolding below_code
    table-downhill = record { later = λ r h l. go r h l (dec_lt r (length st)) }
      where
        down : (r : ℕ) → r < length st → get_or (table_of st) r 0 < 64 → (o : Option ℕ) → row_below st r ≡ o → r < get_or (table_of st) r 0
        down r h l None e = absurd (omega (arith, ap below_code e, table_at r h))
        down r h l (Some q) e = omega (arith, ap below_code e, table_at r h, below-later st r q e)

        go : (r : ℕ) → r < 64 → get_or (table_of st) r 0 < 64 → Dec (r < length st) → r < get_or (table_of st) r 0
        go r h l (yes k) = down r k l (row_below st r) refl
        go r h l (no k) = absurd (omega (arith, table-past r (omega arith) h))

    -- the table's paths are the rules'
    pub table-path : (r : ℕ) → r < length st → path_by (table_of st) r ≡ path st r
    unfolding path
    table-path = by-route (row_below st) (length st) (λ x q k e. below-later st x q e) (λ x p. path_by (table_of st) x ≡ p)
        (λ x k e. by_end (table_of st) table-downhill x (omega arith) ((table_step x k ∙ e)))
        (λ x q k e a b ih. (by_row (table_of st) table-downhill x q (omega arith) ((table_step x k ∙ e))).0 ∙ ap (λ (p : List ℕ). x ∷ p) ih)

-- ---- the table of a body of stations

module _ (st t : List ℕ) (k : TableFor st t) where
  few_rows : length (stations_of st) ≤ 64
  few_rows = let n = rows_are st in omega (arith, k.few)

  pub for_downhill : Downhill t
  for_downhill = subst Downhill (sym k.table) (table-downhill (stations_of st) few_rows)

  -- a walk by the table is a walk by the rules
  pub walk_is : (r i : ℕ) → r < rows_of st → has i (path_by t r) ≡ has i (path (stations_of st) r)
  walk_is r i h = ap (λ (x : List ℕ). has i (path_by x r)) k.table ∙ ap (has i) (table-path (stations_of st) few_rows r (let n = rows_are st in omega arith))
