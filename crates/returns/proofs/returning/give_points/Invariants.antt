-- `returns::returning::give_points` meets its contract. Assumes nothing.
use Prim.Native.Nat.{ℕ, ◌*◌, ◌/◌}
use mathlib.Core.Path.{◌≡◌}
use mathlib.Core.List.{List}
use lib.ListN.{length}
use Rattle.places.specs.Board.{board_length}
use Rattle.returns.specs.Dues.{Sums}
use Rattle.returns.specs.Returning.{points_up_to, Gave}
use Rattle.returns.proofs.returning.give_points.Given as goal

abbrev pub invariant-loop-k : goal.invariant-loop-k
invariant-loop-k l =
    (length l.board ≡ board_length) × (l.c ≡ points_up_to l.rights l.i l.k) × (l.before ≡ l.rest * l.c / 100) × ((pattern : List ℕ) → Sums pattern l.sums → Gave l.below.rows pattern l.rights l.i l.k l.rest l.initial.river.flow l.initial.river.available l.initial.board l.river.flow l.river.available l.board l.deep)
