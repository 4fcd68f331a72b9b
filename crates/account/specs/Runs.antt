-- A run of calls on one file and one board: every call that can change a board, accepted or refused, in any mix. Each meets the contract of its call.
use Rattle.std.specs.Prelude.{◌≡◌, List, [], ◌∷◌, map, ℕ}
use Rattle.rules.specs.Answers.{Answer}
use Rattle.fresh.specs.Fresh.{Fresh, fresh_of}
use Rattle.month.specs.Month.{Outcome, MonthMeets}
use Rattle.years.specs.Years.{YearMeets}
use Rattle.store.specs.Calls.{Recalled, recall_of}

-- ---- the calls

-- a month call: the runoff and the report that it was lent, and what it left
pub record MonthCall : Type 0 where
  pub runoff : List ℕ
  pub report : List ℕ
  pub outcome : Outcome

-- a year run: the book, the year and the list for the reports that it was lent, and what it left
pub record YearCall : Type 0 where
  pub book : List ℕ
  pub year : ℕ
  pub reports : List ℕ
  pub outcome : Outcome

-- a call of fresh, which is lent the board alone
pub record FreshCall : Type 0 where
  pub outcome : Fresh

-- a recall: the store, with whatever bytes, and the name that it was lent, and what it left
pub record RecallCall : Type 0 where
  pub store : List ℕ
  pub name : List ℕ
  pub outcome : Recalled

pub data Event : Type 0 where
  month_event : MonthCall → Event
  year_event : YearCall → Event
  fresh_event : FreshCall → Event
  recall_event : RecallCall → Event

-- its answer, and the board that it left
abbrev pub answer_by : Event → Answer
answer_by (month_event e) = e.outcome.answer
answer_by (year_event e) = e.outcome.answer
answer_by (fresh_event e) = e.outcome.answer
answer_by (recall_event e) = e.outcome.answer

abbrev pub left_by : Event → List ℕ
left_by (month_event e) = e.outcome.board
left_by (year_event e) = e.outcome.board
left_by (fresh_event e) = e.outcome.board
left_by (recall_event e) = e.outcome.board

-- ---- a run of them

-- each meets the contract of its call
abbrev pub Meets : List ℕ → List ℕ → Event → Type 0
Meets f board (month_event e) = MonthMeets f e.runoff board e.report e.outcome
Meets f board (year_event e) = YearMeets f e.book e.year board e.reports e.outcome
Meets f board (fresh_event e) = e.outcome ≡ fresh_of f board
Meets f board (recall_event e) = e.outcome ≡ recall_of e.store e.name board

-- The first is lent this board, each next the board that the one before left.
abbrev pub Run : List ℕ → List ℕ → List Event → Type 0
Run f board [] = Unit {0}
Run f board (e ∷ es) = Meets f board e × Run f (left_by e) es

-- the board after the run: the one that the last left; where there is none, the one there was
abbrev pub board_left : List ℕ → List Event → List ℕ
board_left board [] = board
board_left board (e ∷ es) = board_left (left_by e) es

-- ---- a call has one outcome: two of one month call or of one year run, on any file and lists, are equal

abbrev pub OneReport : Type 0
OneReport = (f runoff board report : List ℕ) (x y : Outcome) → MonthMeets f runoff board report x → MonthMeets f runoff board report y → x ≡ y

abbrev pub OneYear : Type 0
OneYear = (f book : List ℕ) (year : ℕ) (board reports : List ℕ) (x y : Outcome) → YearMeets f book year board reports x → YearMeets f book year board reports y → x ≡ y

-- ---- so a claim about runs is not empty and has no two meanings: from every board, on any file, the calls that lend these lists are one run

-- what is lent beside the board
pub data Lends : Type 0 where
  sheet : List ℕ → List ℕ → Lends
  book_year : List ℕ → ℕ → List ℕ → Lends
  nothing : Lends
  store_name : List ℕ → List ℕ → Lends

abbrev pub lent_to : Event → Lends
lent_to (month_event e) = sheet e.runoff e.report
lent_to (year_event e) = book_year e.book e.year e.reports
lent_to (fresh_event e) = nothing
lent_to (recall_event e) = store_name e.store e.name

pub record OnlyRun (f board : List ℕ) (cs : List Lends) : Type 0 where
  pub events : List Event
  pub lends : map lent_to events ≡ cs
  pub meets : Run f board events
  pub no_other : (es : List Event) → map lent_to es ≡ cs → Run f board es → es ≡ events

abbrev pub OneRun : Type 0
OneRun = (f board : List ℕ) (cs : List Lends) → OnlyRun f board cs
