-- `lines::words::put_number` meets its contract. The measure is the number itself, which falls with each division. Assumes nothing.
use mathlib.Core.Path.{refl}
use Prim.Native.Nat.{◌/◌, ◌%◌}
use native.Mathlib.Omega.{arith}
use borrow.Author.Rules.{rules}
use Rattle.lines.proofs.Decimals.{more-long, four-long}
use Rattle.lines.proofs.Digits.{put-more, put-four-more}
use Rattle.lines.proofs.words.+put_number.Goals as goal

pub put_small-next-requires : goal.put_small-next-requires
put_small-next-requires t c = let s = c.args in (omega arith, omega (arith, c.requires, more-long s.n (omega arith)))

pub put_pair-requires : goal.put_pair-requires
put_pair-requires t c = let s = c.args in (omega arith, omega (arith, c.requires, c.put_small-next.ensures.ends, more-long s.n (omega arith)))

pub returns-then-n-lt10000 : goal.returns-then-n-lt10000
returns-then-n-lt10000 t c = let s = c.args in put-more s.out.now s.at s.n c.requires c.put_small-next.new.out _ _ (s.n / 100) (s.n % 100) (omega arith) refl refl (search rules) c.put_small-next.ensures c.put_pair.ensures

pub put_number-next-requires : goal.put_number-next-requires
put_number-next-requires t c = let s = c.args in (omega (arith, c.decreases), omega (arith, c.requires, four-long s.n (omega arith)))

pub put_pair-requires-2 : goal.put_pair-requires-2
put_pair-requires-2 t c = let s = c.args in (omega arith, omega (arith, c.requires, c.put_number-next.ensures.ends, four-long s.n (omega arith)))

pub put_pair-requires-3 : goal.put_pair-requires-3
put_pair-requires-3 t c = let s = c.args in (omega arith, omega (arith, c.requires, c.put_number-next.ensures.ends, four-long s.n (omega arith)))

pub returns : goal.returns
returns t c = let s = c.args in put-four-more s.out.now s.at s.n c.requires c.put_number-next.new.out c.put_pair-2.new.out _ _ (omega arith) (search rules) (search rules) c.put_number-next.ensures c.put_pair-2.ensures c.put_pair-3.ensures
