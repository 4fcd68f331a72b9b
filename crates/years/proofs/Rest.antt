-- Month after month of a year, each report on its own part of the list. Assumes nothing.
use Rattle.std.specs.Prelude.{None}
use mathlib.Core.Path.{◌≡◌, refl, sym, ap, ◌∙◌, subst}
use mathlib.Core.Bool.{true}
use mathlib.Core.List.{List, [], ◌∷◌, ◌++◌, append_assoc}
use Prim.Native.Nat.{ℕ, suc, ◌+◌, ◌-◌, ◌*◌, ◌≤◌, ◌<◌}
use native.Mathlib.Nat.{mul-le-mul, zero-mul, suc-mul}
use native.Mathlib.Omega.{arith}
use lib.ListN.{length, take, drop, length-append, length-drop, take-append-drop}
use lib.Seq.{length-take-le, take_at, drop_at}
use Rattle.places.specs.Board.{board_length}
use Rattle.rules.specs.Basin.{Basin}
use Rattle.rules.specs.Tally.{report_length, over_limit}
use Rattle.boards.specs.Board.{possible}
use Rattle.boards.specs.Report.{report_of}
use Rattle.boards.proofs.Board.{board-length}
use Rattle.sheets.specs.Sheets.{sheet_part, sheet_at}
use Rattle.sheets.proofs.Sheets.{sheet-length}
use Rattle.month.specs.Month.{run_of, due_after, board_after}
use Rattle.month.specs.Run.{CanRun, Ran}
use Rattle.month.proofs.After.{after-possible}
use Rattle.month.proofs.Settling.{within-limit}
use Rattle.years.specs.Years.{sheets_in}
use Rattle.years.specs.Runs.{first_over, boards_after, reports_of, CanRead, CanMonth, CanRest, RestRan}
use Rattle.years.proofs.Sheets.{sheets-from, sheets-end, none_from}

-- ---- one month

module _ (b : Basin) (body : List ℕ) (k : ℕ) (runoff bd rp : List ℕ) (c : CanMonth b body k runoff bd rp) where
  pub can-read : CanRead body runoff × (k < 12)
  can-read = (record { few = omega (arith, c.year.numbers, c.year.accepted.few_rows); bytes = c.year.bytes }, c.month)

  pub can-run : (runoff' : List ℕ) → runoff' ≡ sheet_at (length runoff) body k → CanRun b runoff' bd rp
  can-run runoff' e = record {
    accepted = c.year.accepted;
    sheet = ap length e ∙ sheet-length (length runoff) (sheet_part (length runoff) body k) ∙ c.year.numbers;
    small = within-limit runoff' (ap over_limit e ∙ c.none_over);
    can = c.year.can;
    room = c.room;
  }

pub after-size : (b : Basin) (r bd : List ℕ) → length (board_after b r bd) ≡ board_length
unfolding board_after
after-size b r bd = board-length b (run_of b r bd).carried (due_after b (run_of b r bd) bd)

-- ---- month after month

-- the parts of the months from first on lie one after another in the list
part-within : (first k told long : ℕ) → first ≤ k → k < 12 → (12 - first) * told ≤ long → (k - first) * told + told ≤ long
part-within first k told long l h room =
    let m : suc (k - first) * told ≤ (12 - first) * told = mul-le-mul {n₁ = suc (k - first)} {m₁ = told} {n₂ = 12 - first} {m₂ = told} (omega arith) (omega arith) in
    omega (arith, suc-mul (k - first) told, m, room)

-- a part of the list is lent and given back: what is before it, what came back, and what is beyond it
module _ (at told w : ℕ) (old part : List ℕ) (ew : w ≡ told) (fit : at + told ≤ length old) (whole : length part ≡ length (take w (drop at old))) where
  abbrev back : List ℕ
  back = take at old ++ (part ++ drop w (drop at old))

  before-long : length (take at old) ≡ at
  before-long = length-take-le at old (omega (arith, fit))

  part-long : length part ≡ told
  part-long = whole ∙ length-take-le w (drop at old) (omega (arith, ew, fit, length-drop at old)) ∙ ew

  back_long : length back ≡ length old
  back_long = omega (arith, length-append (take at old) (part ++ drop w (drop at old)), length-append part (drop w (drop at old)), before-long, part-long, length-drop w (drop at old), length-drop at old, ew, fit)

  both_long : length (take at old ++ part) ≡ at + told
  both_long = omega (arith, length-append (take at old) part, before-long, part-long)

  joined : back ≡ (take at old ++ part) ++ drop w (drop at old)
  joined = sym (append_assoc (take at old) part (drop w (drop at old)))

  back-first : take (at + told) back ≡ take at old ++ part
  back-first = ap (take (at + told)) joined ∙ take_at (take at old ++ part) (drop w (drop at old)) (at + told) both_long

  back-rest : drop (at + told) back ≡ drop told (drop at old)
  back-rest = ap (drop (at + told)) joined ∙ drop_at (take at old ++ part) (drop w (drop at old)) (at + told) both_long ∙ ap (λ (x : ℕ). drop x (drop at old)) ew

-- How a run stands before month k: what the months to come leave, from the board and the list as they are, is what all its months leave from those it was lent.
pub record Going (b : Basin) (n : ℕ) (body : List ℕ) (first told : ℕ) (bd₀ old₀ runoff bd old : List ℕ) (at k : ℕ) : Type 0 where
  pub from : first ≤ k
  pub in-year : k ≤ 12
  pub place : at ≡ (k - first) * told
  pub numbers : length runoff ≡ n
  pub long : length old ≡ length old₀
  pub can : possible b bd ≡ true
  pub none_over : first_over (drop k (sheets_in n body)) ≡ None
  pub board-left : boards_after b (drop k (sheets_in n body)) bd ≡ boards_after b (drop first (sheets_in n body)) bd₀
  pub reports_left : take at old ++ reports_of b (drop k (sheets_in n body)) bd (drop at old) ≡ reports_of b (drop first (sheets_in n body)) bd₀ old₀

module _ (b : Basin) (body : List ℕ) (first told : ℕ) (runoff₀ bd₀ old₀ : List ℕ) (c : CanRest b body first told runoff₀ bd₀ old₀) where
  abbrev n : ℕ
  n = length runoff₀

  abbrev sheets : List (List ℕ)
  sheets = sheets_in n body

  abbrev Now : List ℕ → List ℕ → List ℕ → ℕ → ℕ → Type 0
  Now runoff bd old at k = Going b n body first told bd₀ old₀ runoff bd old at k

  pub begins : Now runoff₀ bd₀ old₀ 0 first
  begins = record {
    from = omega arith;
    in-year = c.month;
    place = let e : first - first ≡ 0 = omega arith in sym (ap (λ (x : ℕ). x * told) e ∙ zero-mul told);
    numbers = refl;
    long = refl;
    can = c.year.can;
    none_over = c.none_over;
    board-left = refl;
    reports_left = refl;
  }

  module _ (runoff bd old : List ℕ) (at k : ℕ) (g : Now runoff bd old at k) (h : k < 12) where
    pub fits : at + told ≤ length old
    fits = omega (arith, g.place, g.long, part-within first k told (length old₀) g.from h c.room)

    pub can-month : (w : ℕ) → w ≡ told → CanMonth b body k runoff bd (take w (drop at old))
    can-month w ew = record {
      year = record { accepted = c.year.accepted; numbers = g.numbers ∙ c.year.numbers; bytes = omega (arith, g.numbers, c.year.bytes); can = g.can };
      month = h;
      none_over = ap (λ (x : ℕ). over_limit (sheet_at x body k)) g.numbers ∙ (none_from n body k h g.none_over).0;
      room = omega (arith, length-take-le w (drop at old) (omega (arith, ew, fits, length-drop at old)), ew, c.report);
    }

    module _ (runoff' bd' part : List ℕ) (w s : ℕ) (ew : w ≡ told) (er : length runoff' ≡ length runoff) (whole : length part ≡ length (take w (drop at old))) (m : Ran b (sheet_at (length runoff) body k) bd (take w (drop at old)) bd' part s) where
      abbrev r : List ℕ
      r = sheet_at n body k

      abbrev later : List (List ℕ)
      later = drop (k + 1) sheets

      -- the sheet, read through a list as long as the one that was lent
      ran : Ran b r bd (take w (drop at old)) bd' part s
      ran = subst (λ (x : ℕ). Ran b (sheet_at x body k) bd (take w (drop at old)) bd' part s) g.numbers m

      ahead : drop k sheets ≡ r ∷ later
      ahead = sheets-from n body k h

      told_here : take at old ++ (part ++ reports_of b later bd' (drop told (drop at old))) ≡ take at old ++ reports_of b (drop k sheets) bd (drop at old)
      unfolding reports_of
      told_here =
          (λ z. take at old ++ (ran.report z ++ reports_of b later (ran.board z) (drop told (drop at old))))
          ∙ (λ z. take at old ++ (report_of b (run_of b r bd) (take (wide z) (drop at old)) ++ reports_of b later (board_after b r bd) (drop (c.report z) (drop at old))))
          ∙ sym (ap (λ (l : List (List ℕ)). take at old ++ reports_of b l bd (drop at old)) ahead)
        where
          wide : w ≡ report_length b
          wide = ew ∙ c.report

      left_here : boards_after b later bd' ≡ boards_after b (drop k sheets) bd
      unfolding boards_after
      left_here = ap (boards_after b later) ran.board ∙ sym (ap (λ (l : List (List ℕ)). boards_after b l bd) ahead)

      pub goes_on_lem : Now runoff' bd' (back at told w old part ew fits whole) (at + told) (k + 1)
      goes_on_lem = record {
        from = omega (arith, g.from);
        in-year = omega (arith, h);
        place = let e : k + 1 - first ≡ suc (k - first) = omega (arith, g.from) in omega (arith, g.place, suc-mul (k - first) told, ap (λ (x : ℕ). x * told) e);
        numbers = er ∙ g.numbers;
        long = back_long at told w old part ew fits whole ∙ g.long;
        can = ap (possible b) ran.board ∙ after-possible b c.year.accepted bd g.can r;
        none_over = (none_from n body k h g.none_over).1;
        board-left = left_here ∙ g.board-left;
        reports_left =
            (λ z. back-first at told w old part ew fits whole z ++ reports_of b later bd' (back-rest at told w old part ew fits whole z))
            ∙ append_assoc (take at old) part (reports_of b later bd' (drop told (drop at old)))
            ∙ told_here
            ∙ g.reports_left;
      }

  -- after the last month nothing is left to do
  pub ends : (runoff bd old : List ℕ) (at k : ℕ) → Now runoff bd old at k → (k < 12 → ⊥) → RestRan b (drop first sheets) bd₀ old₀ bd old
  unfolding boards_after reports_of
  ends runoff bd old at k g h =
      let over : drop k sheets ≡ [] = sheets-end n body k (omega (arith, h)) in
      record {
        board-left = sym (ap (λ (l : List (List ℕ)). boards_after b l bd) over) ∙ g.board-left;
        reports_left = sym (take-append-drop at old) ∙ sym (ap (λ (l : List (List ℕ)). take at old ++ reports_of b l bd (drop at old)) over) ∙ g.reports_left;
      }
