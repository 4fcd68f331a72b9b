-- `filerules::rights::source_ok` meets its contract. The walk starts at a station's row, since the reservoirs are good. Assumes nothing.
use Rattle.std.proofs.Common.{rules}
use Rattle.filerules.specs.FileRules.{source_ok}
use Rattle.filerules.proofs.Sources.{below-read, at-read}
use Rattle.filerules.proofs.rights.source_ok.Goals as goal

pub returns-in-Project : goal.returns-in-Project
unfolding source_ok
returns-in-Project c = λ st k g.
    rw (c.in-Project.is, ← c.from-v.ensures, ← c.from-row.ensures) (below-read _ _ _ _ _ c.reservoir_row.ensures st c.args.below.now.rows _ k g c.is_some_and.ensures (λ x p. search rules))

pub returns-in-Storage : goal.returns-in-Storage
unfolding source_ok
returns-in-Storage c = λ st k g. rw (c.in-Storage.is, ← c.from-v.ensures, ← c.from-row.ensures) (at-read _ _ _ _ _ c.reservoir_row-in-Storage.ensures c.eq.ensures)
