use Rattle.std.proofs.Common.{arith}
use Rattle.general.proofs.Tables.{tab-filled}
use Rattle.sheets.specs.Sheets.{sheet_of}
use Rattle.sheets.proofs.decode.Goals as goal

pub returns : goal.returns
unfolding sheet_of
returns c = let l = c.loop-row in tab-filled _ l.runoff _ 0 l.auto.runoff (λ k h. l.invariant k (omega arith))
