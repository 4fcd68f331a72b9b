-- The end of a turn in the arrays' words: the returns, the mark of a short row, the grant.
use Rattle.std.specs.Prelude.{Bool, true, cond, List, [], ◌≡◌, ℕ, ◌+◌, ◌-◌, ◌*◌, ◌/◌, ◌≤◌, ◌<◌, ltb, get_or, set}
use Rattle.records.specs.declared.rights.Kind.{Kind}
use Rattle.records.specs.declared.rights.Kind.TheVariants.{Direct, Project, Instream, Storage}
use Rattle.records.specs.declared.rights.RightRecord.{RightRecord}
use Rattle.grants.specs.declared.grants.Grant.{Grant}
use Rattle.grants.specs.declared.grants.Reason.{Reason}
use Rattle.grants.specs.declared.grants.Reason.TheVariants.{Met, StorageOut}
use Rattle.turns.specs.declared.serve.Share.{Share}
use Rattle.rules.specs.Accepted.{most_amount}
use Rattle.places.specs.Board.{roomy, Roomy}
use Rattle.river.specs.Arrays.{RiverOk}
use Rattle.returns.specs.Dues.{Sums}
use Rattle.returns.specs.Returning.{PointsOk, Gave}

-- what of a diversion d returns, at efficiency e
abbrev pub rest_of : ℕ → ℕ → ℕ
rest_of d e = d - d * e / 100

-- what river and storage give together
abbrev pub given : Share → ℕ
given x = x.from_river + x.from_storage

pub record CanFinish (pa : List (List ℕ)) (ri : List ℕ) (i : ℕ) (r : RightRecord) (x : Share) (f a bd : List ℕ) : Type 0 where
  pub small : given x ≤ most_amount
  pub efficient : r.efficiency ≤ 100
  pub on : r.row < 64
  pub points-ok : PointsOk pa ri i r.points r.pattern
  pub river : RiverOk f a roomy
  pub board : Roomy bd roomy

pub record Finished (t : List ℕ) (pa : List (List ℕ)) (ri : List ℕ) (i : ℕ) (r : RightRecord) (x : Share) (f a : List ℕ) (sh : List Bool) (bd f' a' : List ℕ) (sh' : List Bool) (bd' : List ℕ) (g : Grant) : Type 0 where
  pub gave : (pattern : List ℕ) → (0 < r.points → Sums pattern (get_or pa r.pattern [])) → Gave t pattern ri i r.points (rest_of (given x) r.efficiency) f a bd f' a' bd' g.deep
  pub marked : sh' ≡ cond (ltb (given x) x.demand) (set sh r.row true) sh
  pub grant : g ≡ record { from_river = x.from_river; from_storage = x.from_storage; reason = cond (ltb (given x) x.demand) x.reason Met; deep = g.deep }

-- a project right is short of storage, whatever the river was short of
abbrev pub short_reason : Kind → Reason → Reason
short_reason Direct why = why
short_reason Project why = StorageOut
short_reason Instream why = why
short_reason Storage why = why
