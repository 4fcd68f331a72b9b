-- What a possible board holds, read off the bodies of a file.
use Rattle.std.specs.Prelude.{Bool, List, ℕ, suc, ◌+◌, ◌^◌, ◌≤◌, ◌<◌, leb, ltb, get_or}
use Rattle.general.specs.Sums.{only}
use Rattle.general.specs.Tests.{all_to}
use Rattle.rules.specs.Basin.{no_reservoir, no_right}
use Rattle.rules.specs.Theorems.{most_due}
use Rattle.records.specs.declared.bodies.Bodies.{Bodies}
use Rattle.records.specs.Records.{rows_of, reservoir_count, reservoirs_of, right_count, rights_of}
use Rattle.places.specs.Board.{storage_at, taken_at, due_at, word_at}

-- ---- what each place may hold: 0 where there is no reservoir, right or row

unfoldable pub storage_most : List ℕ → ℕ → ℕ
storage_most rs v = (get_or (reservoirs_of rs) v no_reservoir).capacity

unfoldable pub taken_most : List ℕ → ℕ → ℕ
taken_most ri i = (get_or (rights_of ri) i no_right).limit

-- ---- whether each part of a board is possible

unfoldable pub storages_ok : List ℕ → List ℕ → Bool
storages_ok rs board = all_to 8 (λ v. leb (storage_at board v) (storage_most rs v))

unfoldable pub taken_ok : List ℕ → List ℕ → Bool
taken_ok ri board = all_to 256 (λ i. leb (taken_at board i) (taken_most ri i))

-- in a basin of n rows
unfoldable pub dues_ok : ℕ → List ℕ → Bool
dues_ok n board = all_to 64 (λ w. all_to 11 (λ k. leb (due_at board w (suc k)) (only (ltb w n) (most_due (suc k)))))

-- in a basin of n rights
unfoldable pub words_ok : ℕ → List ℕ → Bool
words_ok n board = all_to 256 (λ i. ltb (word_at board i) (2 ^ only (ltb i n) 12))

-- ---- their parts: the rights and rows that there are, and the places past them, which have no bit

unfoldable pub held_ok : List ℕ → List ℕ → Bool
held_ok ri board = all_to (right_count ri) (λ i. leb (taken_at board i) (taken_most ri i))

unfoldable pub row_ok : List ℕ → ℕ → Bool
row_ok board w = all_to 11 (λ k. leb (due_at board w (suc k)) (most_due (suc k)))

-- n numbers from a place on have k bits
unfoldable pub have_bits : ℕ → List ℕ → ℕ → ℕ → Bool
have_bits k board from n = all_to n (λ j. ltb (get_or board (from + j) 0) (2 ^ k))

-- ---- what an accepted file gives

pub record Counted (w : Bodies) : Type 0 where
  pub rows_in : rows_of w.stations.now ≤ 64
  pub reservoirs_in : reservoir_count w.reservoirs.now ≤ 8
  pub rights_in : right_count w.rights.now ≤ 256

-- what a possible board gives to its sums: no storage above the highest capacity that a file may have, no due above that of eleven months
pub record Bounded (board : List ℕ) : Type 0 where
  pub storages : (v : ℕ) → v < 8 → storage_at board v ≤ 2_000_000_000
  pub dues : (w k : ℕ) → w < 64 → k < 11 → due_at board w (suc k) ≤ 2_816_000_000_000
