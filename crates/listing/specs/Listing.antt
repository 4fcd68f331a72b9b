-- The lines of a listing (01, "One October, whole"), byte by byte.
use Rattle.std.specs.Prelude.{true, false, List, [], ◌∷◌, ◌++◌, map, ℕ, zero, suc, ◌+◌, ◌/◌, ◌%◌, ltb, length, get_or}
use Rattle.general.specs.Sums.{sum_to}
use Rattle.rules.specs.Basin.{Right, Basin, no_right, rows}
use Rattle.rules.specs.Path.{last_row}
use Rattle.rules.specs.Answers.{Answer}
use Rattle.boards.specs.Board.{storage_sum, due_sum}
use Rattle.places.specs.Report.{from_river_place, from_storage_place, reason_place, station_place, flow_place, evaporation_place}

-- ---- a number

-- the digit 0 is byte 48
abbrev pub digit : ℕ → ℕ
digit d = 48 + d

-- A number below ten is its digit. Any other is the text of its tens, followed by its last digit. k is the most digits that may be written.
unfoldable pub decimal_in : ℕ → ℕ → List ℕ
decimal_in zero n = []
decimal_in (suc k) n = elim (ltb n 10) [ true ↦ digit n ∷ [] | false ↦ decimal_in k (n / 10) ++ (digit (n % 10) ∷ []) ]

-- the whole text: a number n has at most n + 1 digits, so none is left out
unfoldable pub decimal_text : ℕ → List ℕ
decimal_text n = decimal_in (suc n) n

-- ---- a line

abbrev pub space : ℕ
space = 32

abbrev pub line_end : ℕ
line_end = 10

-- words with single spaces between, and the line's end
abbrev pub line_of : List (List ℕ) → List ℕ
line_of [] = line_end ∷ []
line_of (w ∷ []) = w ++ (line_end ∷ [])
line_of (w ∷ v ∷ l) = w ++ (space ∷ line_of (v ∷ l))

-- The line of right r, the i-th of the list: the month's count, the permit, and the four numbers that the report has of it.
unfoldable pub right_line : ℕ → Right → List ℕ → ℕ → List ℕ
right_line month r report i =
    line_of (map decimal_text (month ∷ r.permit ∷ get_or report (from_river_place i) 0 ∷ get_or report (from_storage_place i) 0 ∷ get_or report (reason_place i) 0 ∷ get_or report (station_place i) 0 ∷ []))

-- the lines of the first n rights of the list
unfoldable pub right_lines : ℕ → List Right → List ℕ → ℕ → List ℕ
right_lines month rights report zero = []
right_lines month rights report (suc n) = right_lines month rights report n ++ right_line month (get_or rights n no_right) report n

-- the letters e, n, d
abbrev pub end_word : List ℕ
end_word = 101 ∷ 110 ∷ 100 ∷ []

-- the month's count, the word, and four numbers of the whole basin
unfoldable pub end_line : ℕ → ℕ → ℕ → ℕ → ℕ → List ℕ
end_line month outflow evaporation storage pending =
    line_of (decimal_text month ∷ end_word ∷ map decimal_text (outflow ∷ evaporation ∷ storage ∷ pending ∷ []))

-- ---- a month

-- outflow: the flow that the report has of the last row
unfoldable pub outflow_in : Basin → List ℕ → ℕ
outflow_in b report = get_or report (flow_place (length b.rights) (last_row b)) 0

-- what the report says that the reservoirs lost, together
unfoldable pub evaporation_in : Basin → List ℕ → ℕ
evaporation_in b report = sum_to (length b.reservoirs) (λ v. get_or report (evaporation_place (length b.rights) (rows b) v) 0)

-- A line for each right, and the end line, whose storage and returns on their way are those of the board that the month leaves.
unfoldable pub month_text : Basin → ℕ → List ℕ → List ℕ → List ℕ
month_text b month report board =
    right_lines month b.rights report (length b.rights)
    ++ end_line month (outflow_in b report) (evaporation_in b report) (storage_sum b board) (due_sum b board)

-- ---- a refusal

-- the letters r, e, f, u, s, e, d
abbrev pub refused_word : List ℕ
refused_word = 114 ∷ 101 ∷ 102 ∷ 117 ∷ 115 ∷ 101 ∷ 100 ∷ []

-- the word, the refusal's number and its place
unfoldable pub refusal_line : Answer → List ℕ
refusal_line a = line_of (refused_word ∷ decimal_text a.number ∷ decimal_text a.place ∷ [])

-- ---- the header

-- MONTH PERMIT RIVER STORE WHY AT
unfoldable pub header : List ℕ
header =
    line_of
    ((77 ∷ 79 ∷ 78 ∷ 84 ∷ 72 ∷ [])
    ∷ (80 ∷ 69 ∷ 82 ∷ 77 ∷ 73 ∷ 84 ∷ [])
    ∷ (82 ∷ 73 ∷ 86 ∷ 69 ∷ 82 ∷ [])
    ∷ (83 ∷ 84 ∷ 79 ∷ 82 ∷ 69 ∷ [])
    ∷ (87 ∷ 72 ∷ 89 ∷ [])
    ∷ (65 ∷ 84 ∷ [])
    ∷ [])
