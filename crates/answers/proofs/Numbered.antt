-- A refusal has a number. Assumes nothing.
use Rattle.std.specs.Prelude.{Option, None, Some, Ok, Err}
use mathlib.Core.Path.{◌≡◌, refl, sym, ap}
use mathlib.Core.Logic.{◌≢◌}
use mathlib.Core.Bool.{Bool, true, false}
use mathlib.Core.List.{List}
use Prim.Native.Nat.{ℕ}
use native.Mathlib.Omega.{arith}
use Rattle.rules.specs.declared.Refusal.{Refusal}
use Rattle.rules.specs.declared.Refusal.TheVariants.{Layout, Station, Reservoir, Pattern, Right, Lists, Board, Runoff, Book, Year, Name, Full}
use Rattle.rules.specs.Answers.{Verdict, Answer, number_of, or_else, unless}
use Rattle.rules.specs.Tally.{over_answer}
use Rattle.records.specs.Records.{basin_of}
use Rattle.filecheck.specs.Check.{check_of}
use Rattle.boards.specs.Board.{possible}
use Rattle.answers.specs.Answers.{refusal_of, file_refusal, lent_refusal, settled}

pub numbered : (r : Refusal) → number_of r ≢ 0
numbered Layout e = omega arith
numbered (Station i) e = omega arith
numbered (Reservoir i) e = omega arith
numbered (Pattern i) e = omega arith
numbered (Right i) e = omega arith
numbered Lists e = omega arith
numbered Board e = omega arith
numbered (Runoff i) e = omega arith
numbered Book e = omega arith
numbered Year e = omega arith
numbered Name e = omega arith
numbered Full e = omega arith

abbrev pub Numbered : Option Answer → Type 0
Numbered None = Unit {0}
Numbered (Some a) = a.number ≢ 0

-- so an answer of number 0 says that nothing is refused
pub clear_none : (o : Option Answer) → Numbered o → (settled o).number ≡ 0 → o ≡ None
unfolding settled
clear_none None w n = refl
clear_none (Some a) w n = absurd (w n)

-- and any other is its refusal
pub settled-some : (o : Option Answer) (a : Answer) → a ≡ settled o → a.number ≢ 0 → o ≡ Some a
unfolding settled
settled-some None a e n = absurd (n (ap (λ (x : Answer). x.number) e))
settled-some (Some x) a e n = ap Some (sym e)

pub or-numbered : (x y : Option Answer) → Numbered x → Numbered y → Numbered (or_else x y)
unfolding or_else
or-numbered None y h l = l
or-numbered (Some a) y h l = h

pub unless-numbered : (t : Bool) (r : Refusal) → Numbered (unless t r)
unfolding unless
unless-numbered true r = tt
unless-numbered false r = numbered r

pub over-numbered : (o : Option ℕ) → Numbered (over_answer o)
unfolding over_answer
over-numbered None = tt
over-numbered (Some i) = numbered (Runoff i)

verdict-numbered : (v : Verdict) → Numbered (refusal_of v)
verdict-numbered (Ok u) = tt
verdict-numbered (Err r) = numbered r

pub file-numbered : (f : List ℕ) → Numbered (file_refusal f)
unfolding file_refusal
file-numbered f = verdict-numbered (check_of f)

pub lent-numbered : (f : List ℕ) (fits : Bool) (board : List ℕ) → Numbered (lent_refusal f fits board)
unfolding lent_refusal
lent-numbered f fits board = or-numbered (file_refusal f) _ (file-numbered f) (or-numbered (unless fits Lists) _ (unless-numbered fits Lists) (unless-numbered (possible (basin_of f) board) Board))
