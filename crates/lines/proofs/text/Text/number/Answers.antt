-- `lines::text::Text::number` meets its contract. Assumes nothing.
use native.Mathlib.Omega.{arith}
use mathlib.Core.Path.{refl}
use Rattle.lines.specs.Texts.{room_of}
use Rattle.lines.proofs.Decimals.{at-most-twenty}
use Rattle.lines.proofs.Digits.{put-in}
use Rattle.lines.proofs.text.Text.number.Goals as goal

pub put_decimal-self-requires : goal.put_decimal-self-requires
unfolding room_of
put_decimal-self-requires c = omega (arith, c.requires, at-most-twenty c.args.n (omega arith))

pub returns : goal.returns
returns c =
    let p = c.put_decimal-self in
    put-in c.args.self.now _ _ 20 refl c.requires (at-most-twenty c.args.n (omega arith)) p.ensures p.auto.out
