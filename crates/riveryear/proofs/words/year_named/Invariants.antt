-- The bytes not yet read give the year.
use Rattle.std.proofs.Common.{◌≡◌, ◌≤◌}
use Rattle.riveryear.specs.Words.{most_year, year_named}
use Rattle.riveryear.proofs.Digits.{year_from}
use Rattle.riveryear.proofs.words.year_named.Given as goal

abbrev pub invariant-loop-c : goal.invariant-loop-c
invariant-loop-c l = (l.year ≤ most_year) × (year_from l.word l.year l.c-index ≡ year_named l.word)
