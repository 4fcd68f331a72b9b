-- The tally of a list of month calls (01, "The tally of a list of months"): a second account of the same months, which has no board to go wrong. It is fed
-- the basin, what the list starts from, and each call's runoff and report length. 01 starts it as fresh. Here it starts from whatever a possible board
-- holds, since a month keeps its promise on each such board; fresh is one case.
use Rattle.std.specs.Prelude.{Bool, false, List, [], ◌∷◌, ◌++◌, map, ℕ, suc, ◌+◌, leb, ltb, eqb, length, get_or, replicate, Option, None, Some}
use Rattle.general.specs.Sums.{sum_to, only}
use Rattle.general.specs.Tables.{tab}
use Rattle.general.specs.Tests.{◌and◌, first_at}
use Rattle.places.specs.Report.{report_end}
use Rattle.rules.specs.declared.Refusal.TheVariants.{Lists, Runoff}
use Rattle.rules.specs.Answers.{Answer, told, or_else, unless}
use Rattle.rules.specs.Basin.{Reservoir, Basin, rows}
use Rattle.rules.specs.Month.{Carried, nobody_short, returns_at, MonthRun, month, short_count}

pub record Call : Type 0 where
  pub runoff : List ℕ
  pub report : ℕ

-- ---- which calls the rules refuse

-- the least room that a report needs
abbrev pub report_length : Basin → ℕ
report_length b = report_end (length b.rights) (rows b) (length b.reservoirs)

-- whether the lists fit the basin; if not, the call is refused by number 6
unfoldable pub lists_fit : Basin → Call → Bool
lists_fit b c = eqb (length c.runoff) (rows b) and leb (report_length b) c.report

-- the most that may run off at a row in a month
abbrev pub most_runoff : ℕ
most_runoff = 1_000_000_000

-- the first row with more; it is the place of refusal 8
unfoldable pub over_limit : List ℕ → Option ℕ
over_limit runoff = first_at (length runoff) 0 (λ i. ltb most_runoff (get_or runoff i 0))

unfoldable pub over_answer : Option ℕ → Option Answer
over_answer None = None
over_answer (Some i) = Some (told (Runoff i))

-- The answer where the call is refused, none where it is accepted. Lists that do not fit come before runoff over its limit.
unfoldable pub refusal : Basin → Call → Option Answer
refusal b c = or_else (unless (lists_fit b c) Lists) (over_answer (over_limit c.runoff))

-- ---- the tally

-- What a list of calls starts from: what is carried, and due w k, the return due at row w in the k-th month from there, k = 1 to 11.
pub record Start : Type 0 where
  pub carried : Carried
  pub due : ℕ → ℕ → ℕ

-- what it started from, what is carried now, and the accepted months since
pub record Tally : Type 0 where
  pub start : Start
  pub carried : Carried
  pub months : List MonthRun

-- before the first call
unfoldable pub begun : Start → Tally
begun s = record { start = s; carried = s.carried; months = [] }

-- The fresh start: October, reservoirs as the basin file has them, nothing taken, filled or due, nobody short.
unfoldable pub fresh_carried : Basin → Carried
fresh_carried b = record {
  m = 0;
  storages = map (λ (v : Reservoir). v.start) b.reservoirs;
  marks = replicate (length b.reservoirs) false;
  taken = replicate (length b.rights) 0;
  shorts = nobody_short b;
}

unfoldable pub fresh_start : Basin → Start
fresh_start b = record { carried = fresh_carried b; due = λ w k. 0 }

abbrev pub fresh : Basin → Tally
fresh b = begun (fresh_start b)

-- of the months hs, the first of them being month j: what their grants return at row w in month z
unfoldable pub pending_from : Basin → ℕ → List MonthRun → ℕ → ℕ → ℕ
pending_from b j [] z w = 0
pending_from b j (h ∷ hs) z w = sum_to 12 (λ s. only (eqb (j + s) z) (returns_at b h.turns w s)) + pending_from b (suc j) hs z w

-- of the start's dues at row w, what returns in month z: nothing is due after more than eleven months
unfoldable pub still_due : Start → ℕ → ℕ → ℕ
still_due s w z = only (ltb z 12) (s.due w z)

-- Pending (returns in transit) at row w, k months from the last of the months hs: what the start had due for that month, and what the grants since return
-- in it. Month 1 is the first after the start.
unfoldable pub pending : Basin → Start → List MonthRun → ℕ → ℕ → ℕ
pending b s hs w k = still_due s w (length hs + k) + pending_from b 1 hs (length hs + k) w

-- The returns that arrive in the coming month, where a board has its dues: the tally works them out anew each time.
unfoldable pub arriving : Basin → Start → List MonthRun → List ℕ
arriving b s hs = tab (rows b) (λ w. pending b s hs w 1)

unfoldable pub next_run : Basin → Tally → Call → MonthRun
next_run b t c = month b t.carried c.runoff (arriving b t.start t.months)

unfoldable pub accept : Basin → Tally → Call → Tally
accept b t c = record { start = t.start; carried = (next_run b t c).carried; months = t.months ++ (next_run b t c ∷ []) }

-- Where the tally stands: what is carried and what is pending. Another list of calls can start from there.
unfoldable pub standing : Basin → Tally → Start
standing b t = record { carried = t.carried; due = pending b t.start t.months }

-- A refused call is no month, and leaves the tally as it was.
unfoldable pub after_judged : Option Answer → Basin → Tally → Call → Tally
after_judged None b t c = accept b t c
after_judged (Some a) b t c = t

unfoldable pub after_call : Basin → Tally → Call → Tally
after_call b t c = after_judged (refusal b c) b t c

unfoldable pub after_calls : Basin → Tally → List Call → Tally
after_calls b t [] = t
after_calls b t (c ∷ cs) = after_calls b (after_call b t c) cs

-- ---- its answers

unfoldable pub answer_judged : Option Answer → Basin → Tally → Call → Answer
answer_judged None b t c = record { number = 0; place = short_count (next_run b t c).turns }
answer_judged (Some a) b t c = a

unfoldable pub answer_of : Basin → Tally → Call → Answer
answer_of b t c = answer_judged (refusal b c) b t c

unfoldable pub answers : Basin → Tally → List Call → List Answer
answers b t [] = []
answers b t (c ∷ cs) = answer_of b t c ∷ answers b (after_call b t c) cs
