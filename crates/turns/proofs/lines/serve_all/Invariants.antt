-- `turns::lines::serve_all` meets its contract. Assumes nothing.
use Rattle.rules.specs.Basin.{Basin}
use Rattle.river.specs.Setting.{Describes}
use Rattle.turns.specs.Lines.{ServedTo}
use Rattle.turns.proofs.lines.serve_all.Given as goal

abbrev pub invariant-loop-i : goal.invariant-loop-i
invariant-loop-i l =
    (b : Basin) → Describes l.setting b → ServedTo b l.m l.i l.initial.river.flow l.initial.river.available l.initial.short l.initial.board l.initial.report l.river.flow l.river.available l.short l.board l.report l.deep
