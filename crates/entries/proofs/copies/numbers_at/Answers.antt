use Rattle.std.proofs.Common.{arith}
use Rattle.general.proofs.Tables.{tab-filled}
use Rattle.entries.specs.Entries.{board_at}
use Rattle.entries.proofs.copies.numbers_at.Goals as goal

pub returns : goal.returns
unfolding board_at
returns c =
    let l = c.loop-k in
    let same = rw c.board_start-start.ensures at l.invariant in
    tab-filled _ l.number-items _ 0 c.loop-k-test.array_long (λ k h. same k (omega arith))
