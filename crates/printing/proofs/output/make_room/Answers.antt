-- A text that begins again has no bytes.
use Rattle.std.proofs.Common.{arith, ap, length}
use Rattle.lines.proofs.Texts.{len-is}
use Rattle.printing.proofs.output.make_room.Goals as goal

pub returns-clause-begins_again : goal.returns-clause-begins_again
returns-clause-begins_again g c = λ _. omega (arith, len-is c.clear.new.self, ap length c.clear.ensures.empty)
