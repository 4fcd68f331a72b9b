-- What the stages of a turn leave at a row of the river and at a place of the board. Assumes nothing.
use mathlib.Core.Bool.{Bool, true, false, cond}
use mathlib.Core.List.{List, [], ◌∷◌}
use mathlib.Core.Path.{◌≡◌, sym, ap, ◌∙◌}
use Prim.Native.Nat.{ℕ, zero, suc, ◌+◌, ◌-◌, ◌≤◌, ◌<◌}
use native.Mathlib.Omega.{arith}
use lib.ListN.{get_or, set}
use lib.IntN.{pos, ◌-ℤ◌}
use Rattle.general.specs.Tests.{has}
use Rattle.general.proofs.Signed.{up, dn, lower-law}
use Rattle.general.proofs.Tests.{only-le}
use Rattle.rules.specs.Path.{until_row}
use Rattle.rules.specs.River.{Level, level_at, along, reserved}
use Rattle.records.specs.declared.rights.Kind.{Kind}
use Rattle.records.specs.declared.rights.Kind.TheVariants.{Direct, Project, Instream, Storage}
use Rattle.records.specs.Table.{path_by}
use Rattle.river.specs.Arrays.{levels_of, row_level}
use Rattle.river.proofs.Levels.{change-read, diverted-read, released-read, levels-at}
use Rattle.grants.specs.Stages.{levels_taken, levels_released}

-- ---- what a river part leaves of the arrays, row by row

reserved-read : (n d : ℕ) (q f a f' a' : List ℕ) → levels_of n f' a' ≡ along (reserved d) q (levels_of n f a) → (w : ℕ) → w < n → (get_or f' w 0 ≡ get_or f w 0) × (get_or a' w 0 ≤ get_or a w 0)
unfolding reserved
reserved-read n d q f a f' a' e w h = go (has w q) (change-read n (reserved d) q f a f' a' e w h)
  where
    less : (x y : ℕ) → pos x ≡ pos y -ℤ pos d → x ≤ y
    less x y z = omega (arith, lower-law (pos y) d, ap up z, ap dn z)

    go : (c : Bool) → row_level f' a' w ≡ cond c (reserved d (row_level f a w)) (row_level f a w) → (get_or f' w 0 ≡ get_or f w 0) × (get_or a' w 0 ≤ get_or a w 0)
    go true z = (ap up (ap (λ (x : Level). x.flow) z), less _ _ (ap (λ (x : Level). x.available) z))
    go false z = (ap up (ap (λ (x : Level). x.flow) z), let y : get_or a' w 0 ≡ get_or a w 0 = ap up (ap (λ (x : Level). x.available) z) in omega arith)

same_flow : (n : ℕ) (f a f' : List ℕ) → levels_of n f' a ≡ levels_of n f a → (w : ℕ) → w < n → get_or f' w 0 ≡ get_or f w 0
same_flow n f a f' e w h = ap up (ap (λ (x : Level). x.flow) (sym (levels-at n f' a w h) ∙ ap (λ (l : List Level). level_at l w) e ∙ levels-at n f a w h))

pub taken-read : (n : ℕ) (k : Kind) (d : ℕ) (t : List ℕ) (row : ℕ) (f a f' a' : List ℕ) → levels_of n f' a' ≡ levels_taken k d t row (levels_of n f a) → (w : ℕ) → w < n
    → (get_or f' w 0 ≤ get_or f w 0) × (get_or a w 0 ≤ get_or f w 0 → get_or a' w 0 ≤ get_or f' w 0)
unfolding levels_taken
taken-read n Direct d t row f a f' a' e w h = let z = diverted-read n d (path_by t row) f a f' a' e w h in (omega (arith, z.0), λ l. omega (arith, z))
taken-read n Project d t row f a f' a' e w h = let z = diverted-read n d (path_by t row) f a f' a' e w h in (omega (arith, z.0), λ l. omega (arith, z))
taken-read n Instream d t row f a f' a' e w h = let z = reserved-read n d (row ∷ []) f a f' a' e w h in (omega (arith, z.0), λ l. omega (arith, z))
taken-read n Storage d t row f a f' a' e w h = let z = diverted-read n d (path_by t row) f a f' a' e w h in (omega (arith, z.0), λ l. omega (arith, z))

pub release-read : (n : ℕ) (k : Kind) (x : ℕ) (t : List ℕ) (home row : ℕ) (f a f' : List ℕ) → levels_of n f' a ≡ levels_released k x t home row (levels_of n f a) → (w : ℕ) → w < n
    → (get_or f' w 0 ≤ get_or f w 0 + x) × (get_or f w 0 ≤ get_or f' w 0)
unfolding levels_released
release-read n Direct x t home row f a f' e w h = let z = same_flow n f a f' e w h in (omega arith, omega arith)
release-read n Project x t home row f a f' e w h = let z = released-read n x _ f a f' a e w h in (omega (arith, z.0, only-le (has w (until_row row (path_by t home))) x), omega (arith, z.0))
release-read n Instream x t home row f a f' e w h = let z = same_flow n f a f' e w h in (omega arith, omega arith)
release-read n Storage x t home row f a f' e w h = let z = same_flow n f a f' e w h in (omega arith, omega arith)

pub lowered : (l : List ℕ) (i x j : ℕ) → get_or (set l i (get_or l i 0 - x)) j 0 ≤ get_or l j 0
lowered [] i x j = omega arith
lowered (y ∷ l) zero x zero = omega arith
lowered (y ∷ l) zero x (suc j) = omega arith
lowered (y ∷ l) (suc i) x zero = omega arith
lowered (y ∷ l) (suc i) x (suc j) = lowered l i x j
