-- What the turns of a month's first rights depend on (02, No. 8): on nothing of the rights after them. It cites only definitions; proofs/Theorems.antt
-- proves it. The same over files and reports stands in `elders/specs/Elders`.
use Rattle.std.specs.Prelude.{◌≡◌, List, [], map, ℕ, ◌+◌, ◌≤◌, ◌<◌, get_or, take}
use Rattle.rules.specs.Basin.{Right, Basin}
use Rattle.rules.specs.Turn.{State, Turn}
use Rattle.rules.specs.Month.{Carried, turns, month}

-- two basins that differ in their rights alone
pub record SameRiver (a b : Basin) : Type 0 where
  pub stations : a.stations ≡ b.stations
  pub reservoirs : a.reservoirs ≡ b.reservoirs
  pub patterns : a.patterns ≡ b.patterns

-- a state without the water taken this year, of which every right has a place of its own
unfoldable pub without_taken : State → State
without_taken s = record { levels = s.levels; storages = s.storages; marks = s.marks; taken = []; short = s.short }

-- a turn with its right, its demand and its grant, and with its checkpoints but for water taken
unfoldable pub turn_without_taken : Turn → Turn
turn_without_taken t = record {
  right = t.right;
  asked = t.asked;
  grant = t.grant;
  after_river = without_taken t.after_river;
  after_storage = without_taken t.after_storage;
  after_returns = without_taken t.after_returns;
}

-- two states that are alike to the k rights from place i on: they may differ in what other rights have taken
pub record AlikeFrom (i k : ℕ) (s t : State) : Type 0 where
  pub same : without_taken s ≡ without_taken t
  pub own : (j : ℕ) → i ≤ j → j < i + k → get_or s.taken j 0 ≡ get_or t.taken j 0

-- The first k turns, from place i on, are the same for two lists of rights that begin with the same k, whatever comes after these.
abbrev pub FirstTurns : Type 0
FirstTurns = (a b : Basin) → SameRiver a b → (m i k : ℕ) (rs qs : List Right) → take k rs ≡ take k qs → (s t : State) → AlikeFrom i k s t
    → take k (map turn_without_taken (turns a m i rs s)) ≡ take k (map turn_without_taken (turns b m i qs t))

-- what two months begin with, alike to the first k rights: the months in which rights were short may differ, those of the first k too
pub record CarriedAlike (k : ℕ) (c d : Carried) : Type 0 where
  pub m : c.m ≡ d.m
  pub storages : c.storages ≡ d.storages
  pub marks : c.marks ≡ d.marks
  pub own : (j : ℕ) → j < k → get_or c.taken j 0 ≡ get_or d.taken j 0

-- So are the first k turns of two months with the same runoff and the same returns that arrive.
abbrev pub FirstTurnsOfMonth : Type 0
FirstTurnsOfMonth = (a b : Basin) → SameRiver a b → (k : ℕ) → take k a.rights ≡ take k b.rights → (c d : Carried) → CarriedAlike k c d → (runoff arriving : List ℕ)
    → take k (map turn_without_taken (month a c runoff arriving).turns) ≡ take k (map turn_without_taken (month b d runoff arriving).turns)
