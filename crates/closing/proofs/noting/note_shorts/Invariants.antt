-- `closing::noting::note_shorts` meets its contract. The loop's invariant: the words passed are noted, the short ones counted. Assumes nothing.
use Rattle.std.proofs.Common.{◌≡◌, ◌≤◌}
use Rattle.closing.specs.Noting.{reasons_in}
use Rattle.closing.proofs.Noted.{Noted}
use Rattle.closing.proofs.noting.note_shorts.Given as goal

abbrev pub invariant-loop-i : goal.invariant-loop-i
invariant-loop-i l = (l.shorts ≤ l.i) × (l.shorts ≡ reasons_in l.i l.report) × Noted l.m l.i l.report l.initial.word-items l.word-items
