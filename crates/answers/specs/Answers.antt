-- What the calls turn down, in the order of the numbers (01, "Numbers for what is turned down").
use Rattle.std.specs.Prelude.{Bool, List, ◌++◌, ℕ, Option, None, Some, Result, Ok, Err, codes, decimal}
use Rattle.rules.specs.declared.Refusal.{Refusal}
use Rattle.rules.specs.declared.Refusal.TheVariants.{Lists, Board}
use Rattle.rules.specs.Answers.{Verdict, Answer, told, or_else, unless}
use Rattle.records.specs.Records.{basin_of}
use Rattle.filecheck.specs.Check.{check_of}
use Rattle.boards.specs.Board.{possible}
use Rattle.answers.specs.declared.Answer.{Answer as Given}

abbrev pub accepted : Answer
accepted = record { number = 0; place = 0 }

-- ---- refusals: none where nothing is turned down

-- that of a result, whatever it holds where nothing is turned down
abbrev pub refusal_of : {A : Type 0} → Result A Refusal → Option Answer
refusal_of (Ok x) = None
refusal_of (Err r) = Some (told r)

-- the file, by its check: 1 to 5
unfoldable pub file_refusal : List ℕ → Option Answer
file_refusal f = refusal_of (check_of f)

-- all that is lent: the file, then the lengths of the lists, by the call's own test, then the board
unfoldable pub lent_refusal : List ℕ → Bool → List ℕ → Option Answer
lent_refusal f fits board = or_else (file_refusal f) (or_else (unless fits Lists) (unless (possible (basin_of f) board) Board))

-- ---- answers

-- an answer as C and the programs that print have it
abbrev pub answer_of : Given → Answer
answer_of a = record { number = a.number; place = a.place }

-- and as it is printed
abbrev pub answer_text : Given → List ℕ
answer_text a = decimal a.number ++ codes " " ++ decimal a.place

-- that of a result: a refusal's number and place; else 0, and 0 or what was counted
abbrev pub verdict_answer : Verdict → Answer
verdict_answer (Ok u) = accepted
verdict_answer (Err r) = told r

abbrev pub count_answer : Result ℕ Refusal → Answer
count_answer (Ok n) = record { number = 0; place = n }
count_answer (Err r) = told r

-- the answer that a refusal settles: acceptance where there is none
unfoldable pub settled : Option Answer → Answer
settled None = accepted
settled (Some a) = a
