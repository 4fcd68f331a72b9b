-- The board and the river as a month opens are the rules' opening. Assumes nothing.
use mathlib.Core.Bool.{Bool, true, false, cond}
use mathlib.Core.List.{List}
use mathlib.Core.Path.{◌≡◌, refl, sym, ap, ◌∙◌}
use Prim.Native.Nat.{ℕ, suc, ◌<◌}
use native.Mathlib.Omega.{arith}
use lib.Dec.{eqb}
use lib.ListN.{length, get_or, replicate, length-replicate}
use Rattle.general.specs.Tables.{tab}
use Rattle.general.proofs.Lists.{get_d-zeros, get_d-falses}
use Rattle.general.proofs.Tables.{tab-same, tab-of}
use Rattle.rules.specs.Basin.{Basin, rows}
use Rattle.general.specs.Tests.{bit}
use Rattle.rules.specs.Month.{opening_levels, opening}
use Rattle.rules.specs.Accepted.{Accepted}
use Rattle.river.specs.Arrays.{levels_of}
use Rattle.opening.specs.Opening.{opened_parts, opened_board}
use Rattle.turns.specs.State.{storages_of, marks_of, taken_of, short_of, state_of}
use Rattle.places.specs.Board.{board_length, month_at, storage_at, marks_at, taken_at, due_at, word_at}
use Rattle.places.proofs.BoardPlaces.{by_length, month-by, storage-by, marks-by, taken-by, due-by, word-by}
use Rattle.boards.specs.Board.{carried_of}
use Rattle.general.proofs.Bits.{bit-none}

module _ (bd : List ℕ) where
  abbrev october : Bool
  october = eqb (month_at bd) 0

  abbrev pub opened : List ℕ
  opened = opened_board bd october

  -- ---- place by place

  pub opened-length : length opened ≡ board_length
  unfolding opened_board
  opened-length = by_length (opened_parts bd october)

  pub opened-month : month_at opened ≡ month_at bd
  unfolding opened_board opened_parts
  opened-month = month-by (opened_parts bd october)

  pub opened-storage : (v : ℕ) → v < 8 → storage_at opened v ≡ storage_at bd v
  unfolding opened_board opened_parts
  opened-storage v h = storage-by (opened_parts bd october) v h

  pub opened-marks : marks_at opened ≡ cond october 0 (marks_at bd)
  unfolding opened_board opened_parts
  opened-marks = marks-by (opened_parts bd october)

  pub opened-taken : (i : ℕ) → i < 256 → taken_at opened i ≡ cond october 0 (taken_at bd i)
  unfolding opened_board opened_parts
  opened-taken i h = taken-by (opened_parts bd october) i h

  pub opened-due : (w k : ℕ) → w < 64 → k < 11 → due_at opened w (suc k) ≡ cond (eqb (suc k) 11) 0 (due_at bd w (suc (suc k)))
  unfolding opened_board opened_parts
  opened-due w k h l = due-by (opened_parts bd october) w k h l

  pub opened-short : (i : ℕ) → i < 256 → word_at opened i ≡ cond october 0 (word_at bd i)
  unfolding opened_board opened_parts
  opened-short i h = word-by (opened_parts bd october) i h

  -- ---- the state

  module _ (b : Basin) (acc : Accepted b) where
    storages-opened : storages_of (length b.reservoirs) opened ≡ tab (length b.reservoirs) (storage_at bd)
    unfolding storages_of
    storages-opened = tab-same (length b.reservoirs) _ _ (λ v h. opened-storage v (omega (arith, h, acc.few_reservoirs)))

    marks-opened : marks_of (length b.reservoirs) opened ≡ cond october (replicate (length b.reservoirs) false) (tab (length b.reservoirs) (bit (marks_at bd)))
    unfolding marks_of
    marks-opened = ap (λ (x : ℕ). tab (length b.reservoirs) (bit x)) opened-marks ∙ go october
      where
        none : tab (length b.reservoirs) (bit 0) ≡ replicate (length b.reservoirs) false
        none = tab-of (replicate (length b.reservoirs) false) false (length b.reservoirs) (bit 0) (length-replicate _ false) (λ i h. bit-none i ∙ sym (get_d-falses (length b.reservoirs) i))

        go : (t : Bool) → tab (length b.reservoirs) (bit (cond t 0 (marks_at bd))) ≡ cond t (replicate (length b.reservoirs) false) (tab (length b.reservoirs) (bit (marks_at bd)))
        go true = none
        go false = refl

    taken-opened : taken_of (length b.rights) opened ≡ cond october (replicate (length b.rights) 0) (tab (length b.rights) (taken_at bd))
    unfolding taken_of
    taken-opened = tab-same (length b.rights) _ (λ i. cond october 0 (taken_at bd i)) (λ i h. opened-taken i (omega (arith, h, acc.few_rights))) ∙ go october
      where
        go : (t : Bool) → tab (length b.rights) (λ i. cond t 0 (taken_at bd i)) ≡ cond t (replicate (length b.rights) 0) (tab (length b.rights) (taken_at bd))
        go true = tab-of (replicate (length b.rights) 0) 0 (length b.rights) (λ i. 0) (length-replicate _ 0) (λ i h. sym (get_d-zeros (length b.rights) i))
        go false = refl

    shorts-none : (sh : List Bool) → ((w : ℕ) → get_or sh w false ≡ false) → short_of (rows b) sh ≡ replicate (rows b) false
    unfolding short_of
    shorts-none sh n = tab-of (replicate (rows b) false) false (rows b) (λ w. get_or sh w false) (length-replicate _ false) (λ w h. n w ∙ sym (get_d-falses (rows b) w))

    pub state-opened : (f a : List ℕ) (sh : List Bool) (runoff arriving : List ℕ) → levels_of (rows b) f a ≡ opening_levels b runoff arriving → ((w : ℕ) → get_or sh w false ≡ false)
        → state_of b f a sh opened ≡ opening b (carried_of b bd) runoff arriving
    unfolding state_of opening carried_of
    state-opened f a sh runoff arriving e n = λ z. record { levels = e z; storages = storages-opened z; marks = marks-opened z; taken = taken-opened z; short = shorts-none sh n z }
