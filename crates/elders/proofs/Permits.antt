-- New permits: a board that is possible without them is possible with them, and a month that is accepted without them is accepted with them. Assumes nothing.
use Rattle.std.specs.Prelude.{Option, None, Ok}
use mathlib.Core.Path.{◌≡◌, sym, ap, ◌∙◌}
use mathlib.Core.Bool.{Bool, true, false}
use mathlib.Core.List.{List}
use Prim.Native.Nat.{ℕ, suc, ◌^◌, ◌≤◌, ◌<◌}
use native.Mathlib.Omega.{arith}
use lib.Dec.{ltb, eqb}
use lib.ListN.{length, get_or, take}
use lib.Seq.{get_or-take}
use Rattle.general.specs.Sums.{only}
use Rattle.general.proofs.Lists.{by_place}
use Rattle.general.proofs.Search.{all-make}
use Rattle.general.proofs.Tests.{leb_yes, ltb_yes, eqb_same, and-of}
use Rattle.places.specs.Board.{board_length, month_at, storage_at, marks_at, taken_at, due_at, word_at}
use Rattle.rules.specs.Basin.{Station, Reservoir, Right, Basin, no_reservoir, no_right, rows, reservoir_at, right_at}
use Rattle.rules.specs.Answers.{Answer}
use Rattle.rules.specs.Elders.{SameRiver}
use Rattle.rules.specs.Tally.{report_length, lists_fit}
use Rattle.rules.specs.Theorems.{most_due}
use Rattle.records.specs.Records.{basin_of}
use Rattle.filecheck.specs.Check.{check_of}
use Rattle.boards.specs.Board.{possible}
use Rattle.boards.proofs.Bounds.{month-most, storage-most, marks-most, taken-most, due_most, word_small, no-taken, no_word}
use Rattle.month.specs.Month.{all_fit, month_refusal, Outcome, month_settled, month_of, MonthMeets}
use Rattle.month.proofs.Settling.{fits-parts, only-runoff}
use Rattle.elders.specs.Elders.{AcceptedCall}
use Rattle.elders.proofs.Calls.{all-clear, not-over}

-- a word of no bits or of twelve may be 0
some-room : (t : Bool) → 0 < 2 ^ only t 12
some-room true = omega arith
some-room false = omega arith

-- ---- the board

module _ (a b : Basin) (e : SameRiver a b) (more : length a.rights ≤ length b.rights) (first : take (length a.rights) a.rights ≡ take (length a.rights) b.rights) (l : List ℕ) (can : possible a l ≡ true) where
  abbrev n : ℕ
  n = length a.rights

  right_there : (i : ℕ) → i < n → right_at a i ≡ right_at b i
  right_there i h = sym (get_or-take n a.rights i no_right h) ∙ ap (λ (rs : List Right). get_or rs i no_right) first ∙ get_or-take n b.rights i no_right h

  taken-within : (i : ℕ) → i < 256 → taken_at l i ≤ (right_at b i).limit
  taken-within i h = by_place i n (taken_at l i ≤ (right_at b i).limit)
      (λ o. omega (arith, taken-most a l can i h, ap (λ (r : Right). r.limit) (right_there i o)))
      (λ o. omega (arith, no-taken a l can i h o))

  word-within : (i : ℕ) → i < 256 → word_at l i < 2 ^ only (ltb i (length b.rights)) 12
  word-within i h = by_place i n (word_at l i < 2 ^ only (ltb i (length b.rights)) 12)
      (λ o. omega (arith, word_small a l can i h, ap (λ (t : Bool). 2 ^ only t 12) (ltb_yes i (length b.rights) (omega (arith, o, more)))))
      (λ o. omega (arith, no_word a l can i h o, some-room (ltb i (length b.rights))))

  pub possible-with : possible b l ≡ true
  unfolding possible
  possible-with =
      and-of (and-of (and-of (and-of (and-of
      (ltb_yes (month_at l) 12 (month-most a l can))
      (all-make 8 _ (λ v h. leb_yes (storage_at l v) (reservoir_at b v).capacity (omega (arith, storage-most a l can v h, ap (λ (vs : List Reservoir). (get_or vs v no_reservoir).capacity) e.reservoirs)))))
      (ltb_yes (marks_at l) (2 ^ length b.reservoirs) (omega (arith, marks-most a l can, ap (λ (vs : List Reservoir). 2 ^ length vs) e.reservoirs))))
      (all-make 256 _ (λ i h. leb_yes _ _ (taken-within i h))))
      (all-make 64 _ (λ w h. all-make 11 _ (λ k m. leb_yes (due_at l w (suc k)) (only (ltb w (rows b)) (most_due (suc k))) (omega (arith, due_most a l can w k h m, ap (λ (st : List Station). only (ltb w (length st)) (most_due (suc k))) e.stations))))))
      (all-make 256 _ (λ i h. ltb_yes _ _ (word-within i h)))

-- ---- the call

module _ (f g runoff board lent lent' : List ℕ) (o p : Outcome) (c : AcceptedCall f runoff board lent o) (rows_same : rows (basin_of f) ≡ rows (basin_of g))
    (ok : check_of g ≡ Ok tt) (can : possible (basin_of g) board ≡ true) (room : report_length (basin_of g) ≤ length lent') (m : MonthMeets g runoff board lent' p) where
  fits-with : all_fit (basin_of g) runoff board lent' ≡ true
  unfolding all_fit lists_fit
  fits-with =
      let k = fits-parts (basin_of f) runoff board lent (all-clear f runoff board lent o c).lists-ok in
      and-of (and-of (ap (λ (n : ℕ). eqb n (rows (basin_of g))) (k.0 ∙ rows_same) ∙ eqb_same (rows (basin_of g))) (leb_yes _ _ room)) (ap (λ (n : ℕ). eqb n board_length) k.2 ∙ eqb_same board_length)

  not-refused : month_refusal g runoff board lent' ≡ None
  not-refused = only-runoff g runoff board lent' (record { file-ok = ok; lists-ok = fits-with; board-ok = can }) ∙ not-over f runoff board lent o c

  pub accepted-with : AcceptedCall g runoff board lent' p
  unfolding month_of month_settled
  accepted-with = record { meets = m; number = ap (λ (x : Outcome). x.answer.number) (m ∙ ap (λ (v : Option Answer). month_settled v (basin_of g) runoff board lent') not-refused) }
