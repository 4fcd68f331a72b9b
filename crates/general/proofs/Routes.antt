-- Laws of routes whose every step goes to a later number below n. Assumes nothing.
use Rattle.std.specs.Prelude.{Option, None, Some}
use mathlib.Core.Path.{◌≡◌, refl, sym, ap, ◌∙◌}
use mathlib.Core.Bool.{true, false}
use mathlib.Core.List.{List, [], ◌∷◌}
use Prim.Native.Nat.{ℕ, zero, suc, ◌+◌, ◌≤◌, ◌<◌}
use native.Mathlib.Omega.{arith}
use Rattle.general.specs.Routes.{follow}
use Rattle.general.specs.Tables.{Rising}
use Rattle.general.specs.Tests.{has}
use Rattle.general.proofs.Tests.{absurd-bool, by_eqb}
use Rattle.general.proofs.Search.{has-head, has_other, has-single}

abbrev pub Later : (ℕ → Option ℕ) → ℕ → Type 0
Later next n = (r q : ℕ) → r < n → next r ≡ Some q → (r < q) × (q < n)

module _ (next : ℕ → Option ℕ) where
  follow-step : (n r q : ℕ) → next r ≡ Some q → follow next (suc n) r ≡ r ∷ follow next n q
  unfolding follow
  follow-step n r q e = rw (e, follow)

  follow-end : (n r : ℕ) → next r ≡ None → follow next (suc n) r ≡ r ∷ []
  unfolding follow
  follow-end n r e = rw (e, follow)

  module _ (n : ℕ) (later : Later next n) where
    -- the bound on the steps does not matter once it is large enough
    follow-more : (k m i : ℕ) → i < n → n ≤ k + i → n ≤ m + i → follow next k i ≡ follow next m i
    follow-more zero m i o h h' = absurd (omega arith)
    follow-more (suc k) zero i o h h' = absurd (omega arith)
    follow-more (suc k) (suc m) i o h h' = go (next i) refl (follow-more k m)
      where
        go : (b : Option ℕ) → next i ≡ b → ((j : ℕ) → j < n → n ≤ k + j → n ≤ m + j → follow next k j ≡ follow next m j) → follow next (suc k) i ≡ follow next (suc m) i
        go None e ih = follow-end k i e ∙ sym (follow-end m i e)
        go (Some q) e ih =
            let w = later i q o e in
            follow-step k i q e ∙ ap (λ (p : List ℕ). i ∷ p) (ih q w.1 (omega arith) (omega arith)) ∙ sym (follow-step m i q e)

    -- a route is its number, followed by the route of the next
    pub route-row : (i q : ℕ) → i < n → next i ≡ Some q → follow next n i ≡ i ∷ follow next n q
    route-row i q h e = go n refl
      where
        go : (k : ℕ) → n ≡ k → follow next k i ≡ i ∷ follow next k q
        go zero z = absurd (omega arith)
        go (suc k) z =
            let w = later i q h e in
            follow-step k i q e ∙ ap (λ (p : List ℕ). i ∷ p) (follow-more k (suc k) q w.1 (omega arith) (omega arith))

    -- and its number alone where there is no next
    pub route-end : (i : ℕ) → i < n → next i ≡ None → follow next n i ≡ i ∷ []
    route-end i h e = go n refl
      where
        go : (k : ℕ) → n ≡ k → follow next k i ≡ i ∷ []
        go zero z = absurd (omega arith)
        go (suc k) z = follow-end k i e

    -- by steps: a property of a number and its route holds if it holds at the end of a route and passes from the next number
    module _ (P : ℕ → List ℕ → Type 0)
        (at-end : (r : ℕ) → r < n → next r ≡ None → P r (r ∷ []))
        (at_row : (r q : ℕ) → r < n → next r ≡ Some q → r < q → q < n → P q (follow next n q) → P r (r ∷ follow next n q)) where
      down : (k r : ℕ) → r < n → n ≤ k + r → P r (follow next n r)
      down zero r h l = absurd (omega arith)
      down (suc k) r h l = go (next r) refl (down k)
        where
          go : (o : Option ℕ) → next r ≡ o → ((q : ℕ) → q < n → n ≤ k + q → P q (follow next n q)) → P r (follow next n r)
          go None e ih = rw (route-end r h e) (at-end r h e)
          go (Some q) e ih = let w = later r q h e in rw (route-row r q h e) (at_row r q h e w.0 w.1 (ih q w.1 (omega arith)))

      pub by-route : (r : ℕ) → r < n → P r (follow next n r)
      by-route r h = down n r h (omega arith)

    -- numbers on a route are the number itself or later ones
    pub route-from : (r : ℕ) → r < n → (i : ℕ) → i < r → has i (follow next n r) ≡ false
    route-from r h = by-route (λ x p. (i : ℕ) → i < x → has i p ≡ false)
        (λ x l e i k. has-single i x (omega arith))
        (λ x q l e a b ih i k. has_other i x (follow next n q) (omega arith) ∙ ih i (omega arith))
        r h

    -- and below n
    pub route-in : (r : ℕ) → r < n → (i : ℕ) → has i (follow next n r) ≡ true → i < n
    route-in r h = by-route (λ x p. (i : ℕ) → has i p ≡ true → i < n)
        (λ x l e i k. by_eqb i x (λ _. i < n) (λ f. omega arith) (λ f. absurd-bool k (has-single i x f)))
        (λ x q l e a b ih i k. by_eqb i x (λ _. i < n) (λ f. omega arith) (λ f. ih i (sym (has_other i x (follow next n q) f) ∙ k)))
        r h

    pub route-self : (r : ℕ) → r < n → has r (follow next n r) ≡ true
    route-self r h = by-route (λ x p. has x p ≡ true) (λ x l e. has-head x x [] refl) (λ x q l e a b ih. has-head x x (follow next n q) refl) r h

    -- it begins with its number
    pub route-head : (r : ℕ) → r < n → (p : List ℕ) × (follow next n r ≡ r ∷ p)
    route-head r h = by-route (λ x p. (t : List ℕ) × (p ≡ x ∷ t)) (λ x l e. ([], refl)) (λ x q l e a b ih. (follow next n q, refl)) r h

    -- its numbers rise
    rising-cons : (x q : ℕ) (p : List ℕ) → x < q → (t : List ℕ) × (p ≡ q ∷ t) → Rising p → Rising (x ∷ p)
    rising-cons x q [] l s h = tt
    rising-cons x q (y ∷ p) l s h = let e = s.1 in let f : y ≡ q = cc in (omega arith, h)

    pub route-rising : (r : ℕ) → r < n → Rising (follow next n r)
    route-rising r h = by-route (λ x p. Rising p) (λ x l e. tt) (λ x q l e a b ih. rising-cons x q (follow next n q) a (route-head q b) ih) r h
