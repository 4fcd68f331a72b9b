-- A year of a runoff book in a listing. Assumes nothing.
use Rattle.std.specs.Prelude.{Option, None, Some}
use mathlib.Core.Bool.{true}
use mathlib.Core.List.{List, []}
use mathlib.Core.Path.{◌≡◌, refl, sym, ap, ◌∙◌}
use Prim.Native.Nat.{ℕ, ◌*◌, ◌≤◌}
use native.Mathlib.Nat.{mul-le-mul}
use native.Mathlib.Omega.{arith}
use lib.ListN.{length, length-replicate, length-drop}
use Rattle.general.proofs.Tests.{leb_yes}
use Rattle.places.specs.Board.{month_at}
use Rattle.rules.specs.Answers.{Answer}
use Rattle.rules.specs.Tally.{report_length}
use Rattle.rules.specs.Years.{room_for_year}
use Rattle.records.specs.Records.{basin_of}
use Rattle.filecheck.proofs.Accepted.{accepted-facts}
use Rattle.boards.proofs.Bounds.{month-most}
use Rattle.book.specs.Book.{year_part}
use Rattle.book.proofs.LookUp.{part-most, Found}
use Rattle.years.specs.Years.{run_refusal}
use Rattle.years.specs.Runs.{CanJudge}
use Rattle.listing.specs.Listing.{refusal_line}
use Rattle.listing.specs.Run.{sheet_bytes, Standing, Step}
use Rattle.yearly.specs.Years.{least_list, year_refusal, part_left}
use Rattle.lister.specs.declared.Listing.{Listing}
use Rattle.lister.specs.Lister.{standing, Refused}
use Rattle.lister.proofs.Lent.{like-put, like-kept, like-refused}
use Rattle.yearly.specs.Opening.{year_opening, YearOpened}
use Rattle.yearly.proofs.Years.{year-found}

-- ---- the start of a year

module _ (book : List ℕ) (y : ℕ) (l : Listing) where
  -- the list that the definition lends is long enough
  long-enough : room_for_year (basin_of l.file.now) (length (least_list (basin_of l.file.now))) ≡ true
  unfolding room_for_year
  long-enough = leb_yes (12 * report_length (basin_of l.file.now)) (length (least_list (basin_of l.file.now))) (omega (arith, length-replicate {A = ℕ} (12 * report_length (basin_of l.file.now)) 0))

  module _ {v : Option Answer} (judged : (old : List ℕ) → room_for_year (basin_of l.file.now) (length old) ≡ true → v ≡ run_refusal l.file.now book y l.board.now old) where
    opens : year_opening v (standing l) ≡ year_opening (year_refusal l.file.now book (standing l) y) (standing l)
    opens = ap (λ (x : Option Answer). year_opening x (standing l)) (judged (least_list (basin_of l.file.now)) long-enough)

    -- a year that would not be refused is in the book
    pub year-there : v ≡ None → Found l.file.now book y
    year-there e = year-found l.file.now book (standing l) y (sym (judged (least_list (basin_of l.file.now)) long-enough) ∙ e)

    year-ended : (a : Answer) → v ≡ Some a → (l' : Listing) → Refused a l l' → YearOpened book y l l'
    unfolding year_opening
    year-ended a e l' w = record {
      added = refusal_line a;
      put = w.put;
      equation = (λ z. record { text = refusal_line a; standing = record { months = w.months z; board = w.board z }; more = w.more z }) ∙ rw e at opens;
      report = w.report;
      kept = w.kept;
    }

    pub year-refused : (a : Answer) → v ≡ Some a → (h : l.written ≤ length l.list.now) (l' : Listing) → Refused a (record l { within = h }) l' → YearOpened book y l l'
    year-refused a e h l' w = year-ended a e l' (like-refused l h w)

    pub year-accepted : v ≡ None → l.more ≡ true → (h : l.written ≤ length l.list.now) → YearOpened book y l (record l { within = h })
    unfolding year_opening
    year-accepted e more h = record {
      added = [];
      put = like-put l h;
      equation = (λ z. record { text = []; standing = standing l; more = more z }) ∙ rw e at opens;
      report = refl;
      kept = like-kept l h;
    }

-- no month is listed by it, and the board is as it was
opening-months : (v : Option Answer) (s : Standing) → (year_opening v s).standing.months ≡ s.months
unfolding year_opening
opening-months None s = refl
opening-months (Some a) s = refl

opening-board : (v : Option Answer) (s : Standing) → (year_opening v s).standing.board ≡ s.board
unfolding year_opening
opening-board None s = refl
opening-board (Some a) s = refl

pub opened-months : {book : List ℕ} {y : ℕ} {l l' : Listing} → YearOpened book y l l' → l'.months ≡ l.months
opened-months {book} {y} {l} w = ap (λ (x : Step). x.standing.months) w.equation ∙ opening-months (year_refusal l.file.now book (standing l) y) (standing l)

pub opened-board : {book : List ℕ} {y : ℕ} {l l' : Listing} → YearOpened book y l l' → l'.board.now ≡ l.board.now
opened-board {book} {y} {l} w = ap (λ (x : Step). x.standing.board) w.equation ∙ opening-board (year_refusal l.file.now book (standing l) y) (standing l)

-- ---- the sheets of a year

pub left-most : (f book : List ℕ) (y : ℕ) (board : List ℕ) → CanJudge f board → length (part_left f book y board) ≤ 3072
left-most f book y board c = omega (arith, length-drop (sheet_bytes (basin_of f) * month_at board) (year_part f book y), part-most f book y, (accepted-facts f c.accepted).few_rows)

module _ (f : List ℕ) (board : List ℕ) (c : CanJudge f board) {size m : ℕ} (es : size ≡ sheet_bytes (basin_of f)) (em : m ≡ month_at board) where
  pub first_small : size * m ≤ 256 * 11
  first_small = mul-le-mul {n₁ = size} {m₁ = m} {n₂ = 256} {m₂ = 11} (omega (arith, es, (accepted-facts f c.accepted).few_rows)) (omega (arith, em, month-most (basin_of f) board c.can))

  module _ (book : List ℕ) (y : ℕ) where
    pub first-within : {part : List ℕ} → Found f book y → part ≡ year_part f book y → size * m ≤ length part
    first-within g ep =
        let k : size * m ≤ size * 12 = mul-le-mul {n₁ = size} {m₁ = m} {n₂ = size} {m₂ = 12} (omega arith) (omega (arith, em, month-most (basin_of f) board c.can)) in
        omega (arith, k, es, g.size, ap (λ (x : List ℕ). length x) ep)
