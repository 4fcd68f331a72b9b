-- `closing::losses::evaporate` meets its contract. Assumes nothing.
use Rattle.closing.specs.Losses.{Lost}
use Rattle.closing.proofs.losses.evaporate.Given as goal

abbrev pub invariant-loop-v : goal.invariant-loop-v
invariant-loop-v l = Lost l.reservoirs l.m l.v l.initial.board l.initial.lost-items 0 l.board l.lost-items
