-- The arrays of a month as the rules' levels, what each walk along a path asks for, and what it leaves.
use Rattle.std.specs.Prelude.{Bool, true, false, cond, List, [], ◌∷◌, ◌≡◌, ℕ, ◌+◌, ◌≤◌, ◌<◌, ltb, get_or, pos}
use Rattle.general.specs.Tables.{tab}
use Rattle.general.specs.Tests.{has}
use Rattle.rules.specs.River.{Level, along}
use Rattle.records.specs.Table.{path_by}
use Rattle.river.specs.declared.Seen.{Seen}
use Rattle.river.specs.declared.Seen.TheVariants.{Called, Low}

-- ---- flow f and available flow a at each of n rows

abbrev pub level : ℕ → ℕ → Level
level x y = record { flow = pos x; available = pos y }

abbrev pub row_level : List ℕ → List ℕ → ℕ → Level
row_level f a w = level (get_or f w 0) (get_or a w 0)

unfoldable pub levels_of : ℕ → List ℕ → List ℕ → List Level
levels_of n f a = tab n (row_level f a)

-- ---- what a look down a path sees

-- the first row of a short right; where there is none, the first row with the lowest number, low being the lowest so far
unfoldable pub seen_on : List Bool → List ℕ → ℕ → List ℕ → Seen
seen_on short a low [] = Low low
seen_on short a low (q ∷ p) = cond (get_or short q false) (Called q) (seen_on short a (cond (ltb (get_or a q 0) (get_or a low 0)) q low) p)

-- ---- what a walk asks for

-- at each row of p there is at least d
pub record Enough (d : ℕ) (p l : List ℕ) : Type 0 where
  pub at_least : (k : ℕ) → has k p ≡ true → d ≤ get_or l k 0

-- at each row of p there is room for d more
pub record Room (d : ℕ) (p l : List ℕ) : Type 0 where
  pub fits : (k : ℕ) → has k p ≡ true → get_or l k 0 + d < 18446744073709551616

-- the river of a month: available flow at most the flow, and room for more
pub record RiverOk (f a : List ℕ) (most : ℕ) : Type 0 where
  pub room : (w : ℕ) → w < 64 → get_or f w 0 ≤ most
  pub within : (w : ℕ) → w < 64 → get_or a w 0 ≤ get_or f w 0

-- a change may be made of the flow and of the available flow at each row of the path
pub record CanWalk (can : ℕ → Type 0) (t : List ℕ) (row : ℕ) (f a : List ℕ) : Type 0 where
  pub on : row < 64
  pub flows : (k : ℕ) → has k (path_by t row) ≡ true → can (get_or f k 0)
  pub availables : (k : ℕ) → has k (path_by t row) ≡ true → can (get_or a k 0)

pub record CanDivert (t : List ℕ) (row d : ℕ) (f a : List ℕ) : Type 0 where
  pub on : row < 64
  pub flows : Enough d (path_by t row) f
  pub availables : Enough d (path_by t row) a

pub record CanReturn (t : List ℕ) (row d : ℕ) (f a : List ℕ) : Type 0 where
  pub on : row < 64
  pub flows : Room d (path_by t row) f
  pub availables : Room d (path_by t row) a

pub record CanRelease (t : List ℕ) (row d : ℕ) (f : List ℕ) : Type 0 where
  pub on : row < 64
  pub flows : Room d (path_by t row) f

-- ---- what a walk leaves: f, a before and f', a' after

-- at each row of p the flow and the available flow are what the change makes of them, and at no other row anything changes
pub record Changed (made : ℕ → ℕ → Type 0) (p f a f' a' : List ℕ) : Type 0 where
  pub flow_on : (k : ℕ) → has k p ≡ true → made (get_or f k 0) (get_or f' k 0)
  pub available_on : (k : ℕ) → has k p ≡ true → made (get_or a k 0) (get_or a' k 0)
  pub flow_off : (k : ℕ) → has k p ≡ false → get_or f' k 0 ≡ get_or f k 0
  pub available_off : (k : ℕ) → has k p ≡ false → get_or a' k 0 ≡ get_or a k 0

-- g is done to the level of each row of p and to no other, however many rows are asked after
pub record Walked (g : Level → Level) (p f a f' a' : List ℕ) : Type 0 where
  pub levels : (n : ℕ) → levels_of n f' a' ≡ along g p (levels_of n f a)

-- the same of a walk that leaves available flow alone, whatever it is
pub record Raised (g : Level → Level) (p f f' : List ℕ) : Type 0 where
  pub levels : (n : ℕ) (a : List ℕ) → levels_of n f' a ≡ along g p (levels_of n f a)
