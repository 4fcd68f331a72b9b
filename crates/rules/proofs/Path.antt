-- Laws of the row below and of paths. Assumes nothing.
use Rattle.std.specs.Prelude.{None, Some}
use mathlib.Core.Path.{◌≡◌, refl, sym, ap, ◌∙◌}
use mathlib.Core.Logic.{◌≢◌}
use mathlib.Core.Bool.{true, false}
use mathlib.Core.List.{List, [], ◌∷◌, ◌++◌}
use Prim.Native.Nat.{ℕ, suc, ◌-◌, ◌<◌}
use native.Mathlib.Omega.{arith}
use lib.ListN.{length}
use Rattle.general.specs.Tables.{Rising}
use Rattle.general.specs.Tests.{has}
use Rattle.general.proofs.Tests.{absurd-bool, eqb_same, eqb-other, by_eqb}
use Rattle.general.proofs.Routes.{route-row, route-end, by-route, route-in, route-head, route-rising}
use Rattle.general.proofs.Search.{has-none, has-head, has-tail, has_other, has-single, first-within}
use Rattle.rules.specs.Basin.{Station, Basin, rows}
use Rattle.rules.specs.Path.{row_below, path, until_row, last_row}
use Rattle.rules.specs.Accepted.{Connected}

-- ---- the part of a path above a row

pub until_none : (w : ℕ) → until_row w [] ≡ []
unfolding until_row
until_none w = refl

pub until_stop : (w r : ℕ) (p : List ℕ) → r ≡ w → until_row w (r ∷ p) ≡ []
unfolding until_row
until_stop w r p e = rw e (rw (eqb_same w, until_row))

pub until-on : (w r : ℕ) (p : List ℕ) → r ≢ w → until_row w (r ∷ p) ≡ r ∷ until_row w p
unfolding until_row
until-on w r p h = rw (eqb-other r w h, until_row)

-- ---- any list of stations

module _ (st : List Station) where
  -- the row below is a later row
  pub below-later : (r q : ℕ) → row_below st r ≡ Some q → (r < q) × (q < length st)
  unfolding row_below
  below-later r q e = omega (arith, first-within _ (length st - suc r) (suc r) q e)

  later : (r q : ℕ) → r < length st → row_below st r ≡ Some q → (r < q) × (q < length st)
  later r q h e = below-later r q e

  -- one step down the river
  pub path-row : (i q : ℕ) → i < length st → row_below st i ≡ Some q → path st i ≡ i ∷ path st q
  unfolding path
  path-row i q h e = route-row (row_below st) (length st) later i q h e

  -- where there is no row below, the row alone
  pub path-end : (i : ℕ) → i < length st → row_below st i ≡ None → path st i ≡ i ∷ []
  unfolding path
  path-end i h e = route-end (row_below st) (length st) later i h e

  -- by steps down the river: a property of a row and its path holds if it holds at the end of a path and passes from the row below
  module _ (P : ℕ → List ℕ → Type 0)
      (at-end : (r : ℕ) → r < length st → row_below st r ≡ None → P r (r ∷ []))
      (at_row : (r q : ℕ) → r < length st → row_below st r ≡ Some q → r < q → q < length st → P q (path st q) → P r (r ∷ path st q)) where
    pub by-path : (r : ℕ) → r < length st → P r (path st r)
    unfolding path
    by-path r h = by-route (row_below st) (length st) later P at-end at_row r h

  -- rows on a path are rows of the list
  pub path-in : (r : ℕ) → r < length st → (i : ℕ) → has i (path st r) ≡ true → i < length st
  unfolding path
  path-in r h = route-in (row_below st) (length st) later r h

  -- it begins with its row
  pub path-head : (r : ℕ) → r < length st → (p : List ℕ) × (path st r ≡ r ∷ p)
  unfolding path
  path-head r h = route-head (row_below st) (length st) later r h

  -- its rows rise
  pub path-rising : (r : ℕ) → r < length st → Rising (path st r)
  unfolding path
  path-rising r h = route-rising (row_below st) (length st) later r h

-- ---- an accepted network

module _ (b : Basin) (c : Connected b) where
  -- a row without one below is the outlet
  end-is-last : (r : ℕ) → r < rows b → row_below b.stations r ≡ None → r ≡ last_row b
  end-is-last r h e = by_eqb (suc r) (rows b) (λ _. r ≡ last_row b) (λ f. omega arith)
      (λ f. let d = c.has_below r (omega arith) in let g : None ≡ Some d.0 = sym e ∙ d.1 in absurd (let z : ◌≡◌ {A = ℕ} 0 1 = cc in omega arith))

  -- the last row is on the path of each row
  pub path-last : (r : ℕ) → r < rows b → has (last_row b) (path b.stations r) ≡ true
  path-last r h = by-path b.stations (λ x p. has (last_row b) p ≡ true)
      (λ x l e. has-head (last_row b) x [] (sym (end-is-last x l e)))
      (λ x q l e a k ih. has-tail (last_row b) x (path b.stations q) ih)
      r h

  -- and not on the part above a row of the path
  pub path-until : (r w : ℕ) → r < rows b → has w (path b.stations r) ≡ true → has (last_row b) (until_row w (path b.stations r)) ≡ false
  path-until r w h = by-path b.stations (λ x p. has w p ≡ true → has (last_row b) (until_row w p) ≡ false)
      (λ x l e k. by_eqb x w (λ _. has (last_row b) (until_row w (x ∷ [])) ≡ false)
      (λ f. rw (until_stop w x [] f) (has-none (last_row b)))
      (λ f. absurd-bool k (has-single w x (λ g. f (sym g)))))
      (λ x q l e a i ih k. by_eqb x w (λ _. has (last_row b) (until_row w (x ∷ path b.stations q)) ≡ false)
      (λ f. rw (until_stop w x (path b.stations q) f) (has-none (last_row b)))
      (λ f. rw (until-on w x (path b.stations q) f, has_other (last_row b) x (until_row w (path b.stations q)) (omega arith))
      (ih (sym (has_other w x (path b.stations q) (λ g. f (sym g))) ∙ k))))
      r h

  -- a path ends with the last row
  pub path-ends : (r : ℕ) → r < rows b → path b.stations r ≡ until_row (last_row b) (path b.stations r) ++ (last_row b ∷ [])
  path-ends r h = by-path b.stations (λ x p. p ≡ until_row (last_row b) p ++ (last_row b ∷ []))
      (λ x l e. rw (until_stop (last_row b) x [] (end-is-last x l e)) (ap (λ (y : ℕ). y ∷ []) (end-is-last x l e)))
      (λ x q l e a k ih. rw (until-on (last_row b) x (path b.stations q) (omega arith)) (ap (λ (p : List ℕ). x ∷ p) ih))
      r h

  pub path-once : (r : ℕ) → r < rows b → has (last_row b) (until_row (last_row b) (path b.stations r)) ≡ false
  path-once r h = path-until r (last_row b) h (path-last r h)
