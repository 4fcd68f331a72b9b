-- A route: a number, followed by the route of the next number, as long as there is one.
use Rattle.std.specs.Prelude.{List, [], ◌∷◌, ℕ, zero, suc, Option, None, Some}

-- n is the number of steps that may still be taken
unfoldable pub follow : (ℕ → Option ℕ) → ℕ → ℕ → List ℕ
follow next zero r = []
follow next (suc n) r = r ∷ elim (next r) [ None ↦ [] | Some q ↦ follow next n q ]
