-- `lines::words::put_small` meets its contract, for one digit and for two. Assumes nothing.
use native.Mathlib.Omega.{arith}
use Rattle.lines.proofs.Decimals.{one-long, two-long}
use Rattle.lines.proofs.Digits.{put_one, put_two}
use Rattle.lines.proofs.words.put_small.Goals as goal

pub bounds-out-at : goal.bounds-out-at
bounds-out-at c = omega (arith, one-long c.args.n (omega arith))

pub returns-then-n-lt10 : goal.returns-then-n-lt10
returns-then-n-lt10 c = let s = c.args in put_one s.out.now s.at s.n c.requires.1 _ (omega arith) c.digit.ensures

pub put_pair-requires : goal.put_pair-requires
put_pair-requires c = (omega arith, omega (arith, two-long c.args.n (omega arith) (omega arith)))

pub returns : goal.returns
returns c = let s = c.args in put_two s.out.now s.at s.n c.requires.1 _ (omega arith) (omega arith) c.put_pair.ensures
