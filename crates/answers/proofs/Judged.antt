-- What is turned down of what is lent beside an accepted file. Assumes nothing.
use Rattle.std.specs.Prelude.{Ok}
use mathlib.Core.Path.{◌≡◌, refl, ap, ◌∙◌}
use mathlib.Core.Bool.{Bool, true, false}
use mathlib.Core.List.{List}
use Prim.Native.Nat.{ℕ}
use Rattle.rules.specs.declared.Refusal.TheVariants.{Lists, Board}
use Rattle.rules.specs.Answers.{Verdict, or_else, unless}
use Rattle.records.specs.Records.{basin_of}
use Rattle.filecheck.specs.Check.{check_of}
use Rattle.boards.specs.Board.{possible, judged}
use Rattle.answers.specs.Answers.{refusal_of, lent_refusal}
use Rattle.answers.proofs.Answers.{no-refusal}

by_tests : (t p : Bool) → refusal_of (judged t p) ≡ or_else (unless t Lists) (unless p Board)
unfolding or_else unless
by_tests false p = refl
by_tests true false = refl
by_tests true true = refl

pub lent-judged : (f : List ℕ) (fits : Bool) (board : List ℕ) → check_of f ≡ Ok tt → {v : Verdict} → v ≡ judged fits (possible (basin_of f) board) → refusal_of v ≡ lent_refusal f fits board
unfolding lent_refusal or_else
lent-judged f fits board acc e = ap refusal_of e ∙ by_tests fits (possible (basin_of f) board) ∙ rw (no-refusal f acc) refl
