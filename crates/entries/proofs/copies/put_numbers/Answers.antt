use Rattle.std.proofs.Common.{arith}
use Rattle.entries.proofs.Numbers.{numbers-none, numbers_more}
use Rattle.entries.proofs.copies.put_numbers.Goals as goal

pub loop-k-init : goal.loop-k-init
loop-k-init c = numbers-none c.args.store.now _ c.args.numbers (omega arith)

pub loop-k-preserved : goal.loop-k-preserved
loop-k-preserved c = let l = c.loop-k in numbers_more c.args.store.now _ c.args.numbers l.k (omega arith) (omega arith) l.invariant c.put64.ensures
