-- The stages of a turn, kind by kind. Assumes nothing.
use mathlib.Core.List.{List, [], ◌∷◌}
use mathlib.Core.Path.{◌≡◌, refl, sym, ◌∙◌}
use Prim.Native.Nat.{ℕ, ◌+◌, ◌-◌, ◌^◌, ◌≤◌, ◌<◌, min}
use native.Mathlib.Nat.{pow-le-pow_right}
use native.Mathlib.Omega.{arith}
use lib.ListN.{length, get_or, set}
use lib.Seq.{get_or-set_other, set-get_or}
use Rattle.places.specs.Board.{storage_place, marks_place, taken_place, storage_at, marks_at, taken_at}
use Rattle.rules.specs.Path.{until_row}
use Rattle.rules.specs.River.{diverted, reserved, released}
use Rattle.records.specs.declared.rights.Kind.{Kind}
use Rattle.records.specs.declared.rights.Kind.TheVariants.{Direct, Project, Instream, Storage}
use Rattle.records.specs.Table.{path_by}
use Rattle.river.specs.Arrays.{levels_of}
use Rattle.river.proofs.Levels.{walk-done, change-idle, available-here, available-other, reserved-level, diverted-zero, reserved-zero, released-zero}
use Rattle.grants.specs.Stages.{levels_taken, Taken, drawn_in, board_drawn, levels_released, home_row, Drawn}

-- ---- the mark of one of eight reservoirs

pub mark-small : (v : ℕ) → v < 8 → 2 ^ v ≤ 128
mark-small v h = pow-le-pow_right {n = 2} (omega arith) {i = v} {j = 7} (omega (arith, h))

-- ---- the river part

module _ (d : ℕ) (t : List ℕ) (row : ℕ) (f a : List ℕ) where
  idle : (n : ℕ) (k : Kind) → levels_of n f a ≡ levels_taken k 0 t row (levels_of n f a)
  unfolding levels_taken
  idle n Direct = change-idle n (diverted 0) (path_by t row) f a diverted-zero
  idle n Project = change-idle n (diverted 0) (path_by t row) f a diverted-zero
  idle n Instream = change-idle n (reserved 0) (row ∷ []) f a reserved-zero
  idle n Storage = change-idle n (diverted 0) (path_by t row) f a diverted-zero

  pub taken_nothing : (k : Kind) → d ≡ 0 → Taken k t row d f a f a
  taken_nothing k z = record { levels = λ n. rw z (idle n k) }

  pub taken_instream : (k : Kind) → k ≡ Instream → row < length a → d ≤ get_or a row 0 → Taken k t row d f a f (set a row (get_or a row 0 - d))
  unfolding levels_taken
  taken_instream k e h l = record {
    levels = λ n. rw e
        (walk-done n row (reserved d) f a f (set a row (get_or a row 0 - d)) (available-here f a row _ h ∙ reserved-level (get_or f row 0) (get_or a row 0) d l) (available-other f a row _));
  }

-- ---- the part from storage

module _ (k : Kind) (t rs : List ℕ) (v row lacking : ℕ) (f bd : List ℕ) where
  module _ (e : k ≡ Project) (x : ℕ) (ex : x ≡ min lacking (storage_at bd v)) where
    -- an empty reservoir, or nothing lacking
    pub drawn_nothing : x ≡ 0 → Drawn k t rs v row lacking f bd f bd 0
    unfolding drawn_in board_drawn levels_released
    drawn_nothing z =
        let same : storage_at bd v - 0 ≡ storage_at bd v = omega arith in
        record {
          amount = rw e (sym z ∙ ex);
          board = rw (e, same) (sym (set-get_or bd (storage_place v) 0));
          levels = λ h a. rw e (change-idle h (released 0) (until_row row (path_by t (home_row rs v))) f a released-zero);
        }

-- the word of marks is apart from what is stored and taken
pub nine-at : (v i : ℕ) (bd : List ℕ) (x y : ℕ) {p q : ℕ} → p ≡ storage_place v → q ≡ taken_place i → v < 8 → get_or (set (set bd p x) q y) marks_place 0 ≡ marks_at bd
nine-at v i bd x y {p} {q} ep eq h = get_or-set_other (set bd p x) q marks_place y 0 (λ z. omega (arith, z, eq)) ∙ get_or-set_other bd p marks_place x 0 (λ z. omega (arith, z, ep))

pub nine : (v i d : ℕ) (bd : List ℕ) → v < 8 → marks_at (set (set bd (storage_place v) (storage_at bd v + d)) (taken_place i) (taken_at bd i + d)) ≡ marks_at bd
nine v i d bd h = nine-at v i bd (storage_at bd v + d) (taken_at bd i + d) refl refl h
