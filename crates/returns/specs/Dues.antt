-- What the split of a return asks of the dues, and what it leaves.
use Rattle.rules.specs.Accepted.{GoodPattern, most_amount}
use Rattle.places.specs.Board.{roomy, Roomy}
use Rattle.std.specs.Prelude.{List, ◌≡◌, ℕ, suc, ◌+◌, ◌*◌, ◌≤◌, ◌<◌, length, get_or}
use Rattle.rules.specs.Returns.{shares, deep_loss}
use Rattle.records.specs.Table.{sums_of}
use Rattle.returns.specs.declared.split.SplitPart.{SplitPart}

-- the running sums of a pattern
pub record Sums (pattern sums : List ℕ) : Type 0 where
  pub good : GoodPattern pattern
  pub running : sums ≡ sums_of pattern

pub record CanSplit (sums : List ℕ) (a : ℕ) (l : List ℕ) : Type 0 where
  pub pattern : List ℕ
  pub by_sums : Sums pattern sums
  pub small : a ≤ most_amount
  pub dues_roomy : Roomy l (roomy + 10 * most_amount)

-- from l to l' the k places from at on have grown by the shares of months 1, 2, ..
pub record Lagged (pattern : List ℕ) (a at k : ℕ) (l l' : List ℕ) : Type 0 where
  pub size : length l' ≡ length l
  pub each : (j : ℕ) → j < k → get_or l' (at + j) 0 ≡ get_or l (at + j) 0 + get_or (shares a pattern) (suc j) 0
  pub under : (j : ℕ) → j < at → get_or l' j 0 ≡ get_or l j 0
  pub over : (j : ℕ) → at + k ≤ j → get_or l' j 0 ≡ get_or l j 0

-- an amount is split: the share of this month and what goes deep are told, those of the eleven later months stand in the dues
pub record SplitUp (pattern : List ℕ) (a at : ℕ) (l l' : List ℕ) (x : SplitPart) : Type 0 where
  pub at_once : x.at_once ≡ get_or (shares a pattern) 0 0
  pub deep : x.deep ≡ deep_loss a pattern
  pub later : Lagged pattern a at 11 l l'
