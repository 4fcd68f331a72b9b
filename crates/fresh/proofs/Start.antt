-- The board with the starting storages is the fresh board. Assumes nothing.
use Rattle.boards.proofs.Bounds.{board_possible}
use Rattle.rules.proofs.Possible.{capped-of, noted_of, fresh-possible}
use Rattle.rules.specs.Accepted.{Accepted}
use mathlib.Core.Path.{◌≡◌, refl, sym, ap, ◌∙◌}
use mathlib.Core.Bool.{false, true}
use mathlib.Core.List.{List, [], ◌∷◌, map}
use Prim.Native.Nat.{ℕ, zero, suc, ◌≤◌, ◌<◌}
use native.Mathlib.Decide.{dec_lt}
use native.Mathlib.Omega.{arith}
use lib.Dec.{ltb}
use lib.ListN.{length, get_or, replicate, get_or-eq_default}
use Rattle.general.proofs.Lists.{get_d-zeros, get_d-map-in}
use Rattle.general.proofs.Tests.{only_none}
use Rattle.places.specs.Board.{board_length, month_place, storage_place, marks_place, taken_place, due_place, word_place, storage_at}
use Rattle.rules.specs.Basin.{Basin, Reservoir, no_reservoir, rows}
use Rattle.rules.specs.Tally.{fresh_carried, fresh_start}
use Rattle.sections.specs.File.{section_of}
use Rattle.records.specs.Records.{reservoir_count, reservoir_of, reservoirs_of, bodies, basin_of}
use Rattle.records.proofs.Decoded.{reservoirs-are, reservoir-is}
use Rattle.boards.specs.Board.{word_of, possible}
use Rattle.boards.proofs.Board.{word_none, board-told, board-length}
use Rattle.fresh.specs.Fresh.{fresh_board, Started}

-- ---- from a board of zeros

no-marks : (n : ℕ) → word_of (replicate n false) ≡ 0
unfolding word_of
no-marks zero = refl
no-marks (suc n) = omega (arith, no-marks n)

-- for no right is a short month noted
pub no_word : (n i : ℕ) → word_of (get_or (replicate n (replicate 12 false)) i []) ≡ 0
no_word zero i = word_none
no_word (suc n) zero = no-marks 12
no_word (suc n) (suc i) = no_word n i

abbrev starts : List ℕ → List ℕ
starts rs = map (λ (v : Reservoir). v.start) (reservoirs_of rs)

starts-count : (l : List Reservoir) → length (map (λ (v : Reservoir). v.start) l) ≡ length l
starts-count [] = refl
starts-count (x ∷ l) = ap suc (starts-count l)

module _ (rs bd made : List ℕ) (zeros : bd ≡ replicate board_length 0) (few : reservoir_count rs ≤ 8) (w : Started rs (reservoir_count rs) bd made) where
  -- what is no storage of a reservoir is 0 still
  zero-at : (p : ℕ) → ((v : ℕ) → v < reservoir_count rs → p ≡ storage_place v → ⊥) → get_or made p 0 ≡ 0
  zero-at p h = w.kept p h ∙ ap (λ (l : List ℕ). get_or l p 0) zeros ∙ get_d-zeros board_length p

  pub storage-started : (v : ℕ) → storage_at made v ≡ get_or (starts rs) v 0
  unfolding reservoir_of
  storage-started v = pick (dec_lt v (reservoir_count rs))
    where
      pick : Dec (v < reservoir_count rs) → storage_at made v ≡ get_or (starts rs) v 0
      pick (yes h) =
          w.storages v h
          ∙ sym (get_d-map-in (λ (x : Reservoir). x.start) (reservoirs_of rs) v 0 no_reservoir (omega (arith, h, reservoirs-are rs)) ∙ ap (λ (x : Reservoir). x.start) (reservoir-is rs v h))
      pick (no h) =
          zero-at (storage_place v) (λ u l e. h (omega (arith, l, e)))
          ∙ sym (get_or-eq_default (starts rs) 0 {n = v} (omega (arith, h, starts-count (reservoirs_of rs), reservoirs-are rs)))

pub fresh-is : (f bd made : List ℕ) → bd ≡ replicate board_length 0 → reservoir_count (section_of f 1) ≤ 8 → Started (section_of f 1) (reservoir_count (section_of f 1)) bd made
    → made ≡ fresh_board (basin_of f)
unfolding fresh_board fresh_carried basin_of bodies
fresh-is f bd made zeros few w = board-told b (fresh_carried b) (λ u k. 0) made (record {
  size = w.size ∙ ap length zeros;
  month = none month_place (λ v l e. omega (arith, e));
  storages = λ v h. storage-started rs bd made zeros few w v;
  marks = none marks_place (λ v l e. omega (arith, l, e, few)) ∙ sym (no-marks (length b.reservoirs));
  taken = λ i h. none (taken_place i) (λ v l e. omega (arith, l, e, few)) ∙ sym (get_d-zeros (length b.rights) i);
  dues = λ u k h l. none (due_place u k) (λ v n e. omega (arith, n, e, few)) ∙ sym (only_none (ltb u (rows b)));
  words = λ i h. none (word_place i) (λ v l e. omega (arith, l, e, few)) ∙ sym (no_word (length b.rights) i);
})
  where
    rs : List ℕ
    rs = section_of f 1

    b : Basin
    b = basin_of f

    none : (p : ℕ) → ((v : ℕ) → v < reservoir_count rs → p ≡ storage_place v → ⊥) → get_or made p 0 ≡ 0
    none p h = zero-at rs bd made zeros few w p h

-- ---- the fresh board is possible

module _ (b : Basin) (acc : Accepted b) where
  pub fresh-size : length (fresh_board b) ≡ board_length
  unfolding fresh_board
  fresh-size = board-length b (fresh_carried b) (λ w k. 0)

  pub fresh-can : possible b (fresh_board b) ≡ true
  unfolding fresh_board fresh_start
  fresh-can = board_possible b (fresh_carried b) (λ w k. 0) (fresh-possible b acc).month_in_year (capped-of b (fresh_start b) (fresh-possible b acc)) (noted_of b (fresh_start b) (fresh-possible b acc)) (λ w k h l. omega arith)
