-- `boards::possible::rows_ok` meets its contract. Assumes nothing.
use mathlib.Core.Bool.{true}
use mathlib.Core.List.{List}
use mathlib.Core.Path.{◌≡◌, sym, ap, ◌∙◌}
use Prim.Native.Nat.{ℕ, ◌-◌, ◌^◌, ◌<◌}
use lib.Dec.{ltb}
use Rattle.general.proofs.Tests.{ltb_yes}
use Rattle.general.specs.Tests.{all_to}
use Rattle.places.specs.Board.{dues_from, dues_of}
use Rattle.boards.specs.Bodies.{row_ok, have_bits}
use Rattle.boards.proofs.Bodies.{rows-small}
use Rattle.boards.proofs.possible.rows_ok.Goals as goal

-- what is joined is small
small : (n : ℕ) (board : List ℕ) (p x : ℕ) → p ≡ dues_of n → ((k : ℕ) → ltb x (2 ^ k) ≡ have_bits k board dues_from (p - dues_from)) → x < 137438953472 → true ≡ all_to n (row_ok board)
small n board p x ep ex h = rows-small n board (ap (λ (q : ℕ). have_bits 37 board dues_from (q - dues_from)) (sym ep) ∙ sym (ex 37) ∙ ltb_yes x (2 ^ 37) h)

pub returns-then-joined-lt137438953472 : goal.returns-then-joined-lt137438953472
returns-then-joined-lt137438953472 c =
    let s = c.args in
    small s.n s.board.now c.dues_of.result c.joined.result c.dues_of.ensures c.joined.ensures c.if-joined-lt137438953472.true
