-- The listing goes on, and its months can be counted for the years that are left.
use Rattle.std.proofs.Common.{◌-◌}
use Rattle.lister.specs.Lister.{Kept}
use Rattle.riveryear.specs.Going.{CanListYears}
use Rattle.riveryear.proofs.picked.list_years.Given as goal

abbrev pub invariant-loop-k : goal.invariant-loop-k
invariant-loop-k g l = CanListYears (l.years - l.k) l.listing × Kept l.initial.listing l.listing
