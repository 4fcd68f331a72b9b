-- `boards::possible::joined` meets its contract. The loop's invariant: what is joined has k bits if the numbers passed have, from the beginning and from
-- the middle on. Assumes nothing.
use mathlib.Core.List.{List}
use mathlib.Core.Path.{◌≡◌}
use Prim.Native.Nat.{ℕ, ◌+◌, ◌-◌, ◌^◌, ◌<◌}
use lib.Dec.{ltb}
use lib.ListN.{length, get_or}
use Rattle.general.specs.Tests.{◌and◌}
use Rattle.boards.specs.Bodies.{have_bits}
use Rattle.boards.proofs.possible.joined.Given as goal

-- what is joined has k bits if j numbers from each of two places on have
abbrev pub Joins : List ℕ → ℕ → ℕ → ℕ → ℕ → Type 0
Joins board from middle j all = (k : ℕ) → ltb all (2 ^ k) ≡ (have_bits k board from j and have_bits k board middle j)

-- j numbers of each part are joined, x and y are left of them
pub record Passing (board : List ℕ) (from middle half : ℕ) (x y : List ℕ) (all : ℕ) : Type 0 where
  pub j : ℕ
  pub left : j + length x ≡ half
  pub as-many : length y ≡ length x
  pub first : (i : ℕ) → i < length x → get_or x i 0 ≡ get_or board (from + (j + i)) 0
  pub second : (i : ℕ) → i < length x → get_or y i 0 ≡ get_or board (middle + (j + i)) 0
  pub joins : Joins board from middle j all

abbrev pub invariant-loop-x : goal.invariant-loop-x
invariant-loop-x l = Passing l.board l.from (l.to - l.half) l.half l.x-iterator.a.rest.now l.x-iterator.b.rest.now l.all
