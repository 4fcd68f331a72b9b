-- Year runs in the tally (02, No. 4): the month calls of a water year, which happen whole or not at all; and lists in which month calls and year runs stand
-- in any mix. As of a month call, a run's board is never the cause of its refusal here: the tally has no board.
use Rattle.std.specs.Prelude.{Bool, List, [], ◌∷◌, ◌++◌, map, ℕ, ◌*◌, leb, length, drop, Option, None, Some}
use Rattle.rules.specs.declared.Refusal.TheVariants.{Lists}
use Rattle.rules.specs.Answers.{Answer, or_else, unless}
use Rattle.rules.specs.Basin.{Basin}
use Rattle.rules.specs.Tally.{Call, report_length, refusal, Tally, after_calls, answer_of}

-- ---- a year run

-- A run as the tally sees it: what the look-up of the year turned down, the year's sheets from October on, and how long the list for the reports is.
pub record YearRun : Type 0 where
  pub lookup : Option Answer
  pub sheets : List (List ℕ)
  pub room : ℕ

-- a month call whose report is just as long as it must be
abbrev pub least_call : Basin → List ℕ → Call
least_call b runoff = record { runoff = runoff; report = report_length b }

-- the calls of a run: from the month on at which the tally stands, up to September
unfoldable pub calls_in : Basin → Tally → YearRun → List Call
calls_in b t y = map (least_call b) (drop t.carried.m y.sheets)

-- whether a list has room for the reports of a whole year, however many calls are left of it
unfoldable pub room_for_year : Basin → ℕ → Bool
room_for_year b room = leb (12 * report_length b) room

-- of a list of calls, the refusal of the first that is refused
unfoldable pub first_refusal : Basin → List Call → Option Answer
first_refusal b [] = None
first_refusal b (c ∷ cs) = or_else (refusal b c) (first_refusal b cs)

-- what the look-up turned down; then the list for the reports; then the first of the calls that is refused
unfoldable pub run_refusal : Basin → Tally → YearRun → Option Answer
run_refusal b t y = or_else y.lookup (or_else (unless (room_for_year b y.room) Lists) (first_refusal b (calls_in b t y)))

-- an accepted run answers how many calls it made
unfoldable pub run_answer : Option Answer → ℕ → Answer
run_answer None calls = record { number = 0; place = calls }
run_answer (Some a) calls = a

-- ---- lists of month calls and year runs

pub data Entry : Type 0 where
  monthly : Call → Entry
  yearly : YearRun → Entry

-- an accepted run counts as its calls, a refused one as none
unfoldable pub run_counts : Option Answer → List Call → List Call
run_counts None cs = cs
run_counts (Some a) cs = []

-- the month calls that an entry counts as
unfoldable pub counts_as : Basin → Tally → Entry → List Call
counts_as b t (monthly c) = c ∷ []
counts_as b t (yearly y) = run_counts (run_refusal b t y) (calls_in b t y)

unfoldable pub after_entry : Basin → Tally → Entry → Tally
after_entry b t x = after_calls b t (counts_as b t x)

unfoldable pub after_entries : Basin → Tally → List Entry → Tally
after_entries b t [] = t
after_entries b t (x ∷ xs) = after_entries b (after_entry b t x) xs

unfoldable pub entry_answer : Basin → Tally → Entry → Answer
entry_answer b t (monthly c) = answer_of b t c
entry_answer b t (yearly y) = run_answer (run_refusal b t y) (length (calls_in b t y))

-- all the month calls that a list of entries counts as
unfoldable pub all_calls : Basin → Tally → List Entry → List Call
all_calls b t [] = []
all_calls b t (x ∷ xs) = counts_as b t x ++ all_calls b (after_entry b t x) xs
