-- What a possible board holds, and what makes a board possible. Assumes nothing.
use mathlib.Core.Bool.{Bool, true, false}
use mathlib.Core.List.{List, []}
use mathlib.Core.Path.{◌≡◌, ap, ◌∙◌}
use Prim.Native.Nat.{ℕ, suc, ◌^◌, ◌≤◌, ◌<◌}
use native.Mathlib.Decide.{dec_lt}
use native.Mathlib.Omega.{arith}
use lib.Dec.{leb, ltb}
use lib.ListN.{length, get_or, get_or-eq_default}
use Rattle.general.specs.Sums.{only}
use Rattle.general.specs.Tests.{all_to}
use Rattle.general.proofs.Lists.{all-at-place}
use Rattle.general.proofs.Search.{all-at, all-make}
use Rattle.general.proofs.Tests.{leb_yes, ltb_yes, ltb_no, both_of, and-of, le_of, lt_of, only-le}
use Rattle.rules.specs.Basin.{Basin, Reservoir, Right, no_reservoir, no_right, rows, reservoir_at, right_at}
use Rattle.rules.specs.Accepted.{Accepted, GoodReservoir, GoodRight}
use Rattle.rules.specs.Month.{Carried}
use Rattle.rules.specs.Theorems.{most_due}
use Rattle.rules.proofs.Bounds.{CarriedCapped}
use Rattle.rules.proofs.Noting.{Noted}
use Rattle.places.specs.Board.{month_at, storage_at, marks_at, taken_at, due_at, word_at}
use Rattle.boards.specs.Board.{word_of, board_of, possible}
use Rattle.boards.specs.Bodies.{Bounded}
use Rattle.boards.proofs.Board.{month-place, storage-place, marks-place, taken-place, due-place, word-place, word_none, word-less}

-- ---- what a possible board holds at most; nothing at places that the basin does not have

-- each test of it by itself
record Tests (b : Basin) (bd : List ℕ) : Type 0 where
  month : ltb (month_at bd) 12 ≡ true
  storages : all_to 8 (λ v. leb (storage_at bd v) (reservoir_at b v).capacity) ≡ true
  marks : ltb (marks_at bd) (2 ^ length b.reservoirs) ≡ true
  taken : all_to 256 (λ i. leb (taken_at bd i) (right_at b i).limit) ≡ true
  dues : all_to 64 (λ w. all_to 11 (λ k. leb (due_at bd w (suc k)) (only (ltb w (rows b)) (most_due (suc k))))) ≡ true
  words : all_to 256 (λ i. ltb (word_at bd i) (2 ^ only (ltb i (length b.rights)) 12)) ≡ true

tests : (b : Basin) (bd : List ℕ) → possible b bd ≡ true → Tests b bd
unfolding possible
tests b bd can =
    let five = both_of can in
    let four = both_of five.0 in
    let three = both_of four.0 in
    let two = both_of three.0 in
    let one = both_of two.0 in
    record { month = one.0; storages = one.1; marks = two.1; taken = three.1; dues = four.1; words = five.1 }

module _ (b : Basin) (bd : List ℕ) (can : possible b bd ≡ true) where
  pub month-most : month_at bd < 12
  month-most = lt_of {m = month_at bd} {n = 12} (tests b bd can).month

  pub storage-most : (v : ℕ) → v < 8 → storage_at bd v ≤ (reservoir_at b v).capacity
  storage-most v h = le_of {m = storage_at bd v} {n = (reservoir_at b v).capacity} (all-at 8 _ (tests b bd can).storages v h)

  pub marks-most : marks_at bd < 2 ^ length b.reservoirs
  marks-most = lt_of {m = marks_at bd} {n = 2 ^ length b.reservoirs} (tests b bd can).marks

  pub taken-most : (i : ℕ) → i < 256 → taken_at bd i ≤ (right_at b i).limit
  taken-most i h = le_of {m = taken_at bd i} {n = (right_at b i).limit} (all-at 256 _ (tests b bd can).taken i h)

  pub due_most : (w k : ℕ) → w < 64 → k < 11 → due_at bd w (suc k) ≤ only (ltb w (rows b)) (most_due (suc k))
  due_most w k h l = le_of {m = due_at bd w (suc k)} {n = only (ltb w (rows b)) (most_due (suc k))} (all-at 11 _ (all-at 64 _ (tests b bd can).dues w h) k l)

  word-most : (i : ℕ) → i < 256 → word_at bd i < 2 ^ only (ltb i (length b.rights)) 12
  word-most i h = lt_of {m = word_at bd i} {n = 2 ^ only (ltb i (length b.rights)) 12} (all-at 256 _ (tests b bd can).words i h)

  pub word_small : (i : ℕ) → i < 256 → word_at bd i < 4096
  word_small i h = omega (arith, word-most i h, twelve (ltb i (length b.rights)))
    where
      twelve : (t : Bool) → 2 ^ only t 12 ≤ 4096
      twelve true = omega arith
      twelve false = omega arith

  pub no-storage : (v : ℕ) → v < 8 → length b.reservoirs ≤ v → storage_at bd v ≡ 0
  no-storage v h l = omega (arith, storage-most v h, ap (λ (x : Reservoir). x.capacity) (get_or-eq_default b.reservoirs no_reservoir {n = v} l))

  pub no-taken : (i : ℕ) → i < 256 → length b.rights ≤ i → taken_at bd i ≡ 0
  no-taken i h l = omega (arith, taken-most i h, ap (λ (x : Right). x.limit) (get_or-eq_default b.rights no_right {n = i} l))

  pub no_due : (w k : ℕ) → w < 64 → k < 11 → rows b ≤ w → due_at bd w (suc k) ≡ 0
  no_due w k h l o = omega (arith, due_most w k h l, ap (λ (t : Bool). only t (most_due (suc k))) (ltb_no w (rows b) o))

  pub no_word : (i : ℕ) → i < 256 → length b.rights ≤ i → word_at bd i ≡ 0
  no_word i h l = omega (arith, word-most i h, ap (λ (t : Bool). 2 ^ only t 12) (ltb_no i (length b.rights) l))

-- ---- the limits of an accepted file, at any place

module _ (b : Basin) (acc : Accepted b) where
  pub capacity_most : (v : ℕ) → (reservoir_at b v).capacity ≤ 2_000_000_000
  capacity_most v = pick (dec_lt v (length b.reservoirs))
    where
      pick : Dec (v < length b.reservoirs) → (reservoir_at b v).capacity ≤ 2_000_000_000
      pick (yes h) = (all-at-place (GoodReservoir b) b.reservoirs no_reservoir acc.reservoirs_good v h).capacity_most
      pick (no h) = omega (arith, ap (λ (x : Reservoir). x.capacity) (get_or-eq_default b.reservoirs no_reservoir {n = v} (omega (arith, h))))

  pub limit_most : (i : ℕ) → (right_at b i).limit ≤ 2_000_000_000
  limit_most i = pick (dec_lt i (length b.rights))
    where
      pick : Dec (i < length b.rights) → (right_at b i).limit ≤ 2_000_000_000
      pick (yes h) = (all-at-place (GoodRight b) b.rights no_right acc.rights_good i h).limit_most
      pick (no h) = omega (arith, ap (λ (x : Right). x.limit) (get_or-eq_default b.rights no_right {n = i} (omega (arith, h))))

  -- the sums of a possible board cannot wrap
  pub bounded : (bd : List ℕ) → possible b bd ≡ true → Bounded bd
  bounded bd can = record {
    storages = λ v h. omega (arith, storage-most b bd can v h, capacity_most v);
    dues = λ w k h l. omega (arith, due_most b bd can w k h l, only-le (ltb w (rows b)) (most_due (suc k)));
  }

-- ---- a board is possible if what it carries is within bounds and its dues are

module _ (b : Basin) (c : Carried) (due : ℕ → ℕ → ℕ) (in-year : c.m < 12) (capped : CarriedCapped b c) (shorts : Noted b c.shorts) (dues : (w k : ℕ) → w < rows b → k < 11 → due w (suc k) ≤ most_due (suc k)) where
  abbrev l : List ℕ
  l = board_of b c due

  due-within : (w k : ℕ) → w < 64 → k < 11 → due_at l w (suc k) ≤ only (ltb w (rows b)) (most_due (suc k))
  due-within w k h o = pick (dec_lt w (rows b))
    where
      pick : Dec (w < rows b) → due_at l w (suc k) ≤ only (ltb w (rows b)) (most_due (suc k))
      pick (yes y) =
          let e : ltb w (rows b) ≡ true = ltb_yes w (rows b) y in
          omega (arith, due-place b c due w k h o, ap (λ (t : Bool). only t (due w (suc k))) e, ap (λ (t : Bool). only t (most_due (suc k))) e, dues w k y o)
      pick (no y) =
          let e : ltb w (rows b) ≡ false = ltb_no w (rows b) (omega (arith, y)) in
          omega (arith, due-place b c due w k h o, ap (λ (t : Bool). only t (due w (suc k))) e)

  word-within : (i : ℕ) → i < 256 → word_at l i < 2 ^ only (ltb i (length b.rights)) 12
  word-within i h = pick (dec_lt i (length b.rights))
    where
      pick : Dec (i < length b.rights) → word_at l i < 2 ^ only (ltb i (length b.rights)) 12
      pick (yes y) = omega (
        arith,
        word-place b c due i h,
        word-less (get_or c.shorts i []),
        ap (λ (n : ℕ). 2 ^ n) (shorts.months i y),
        ap (λ (t : Bool). 2 ^ only t 12) (ltb_yes i (length b.rights) y),
      )
      pick (no y) =
          let past : length c.shorts ≤ i = omega (arith, y, shorts.count) in
          omega (
            arith,
            word-place b c due i h ∙ ap word_of (get_or-eq_default c.shorts [] {n = i} past) ∙ word_none,
            ap (λ (t : Bool). 2 ^ only t 12) (ltb_no i (length b.rights) (omega (arith, y))),
          )

  pub board_possible : possible b l ≡ true
  unfolding possible
  board_possible =
      and-of (and-of (and-of (and-of (and-of
      (ltb_yes (month_at l) 12 (omega (arith, month-place b c due, in-year)))
      (all-make 8 _ (λ v h. leb_yes (storage_at l v) (reservoir_at b v).capacity (omega (arith, storage-place b c due v h, capped.storages_most v)))))
      (ltb_yes (marks_at l) (2 ^ length b.reservoirs) (omega (arith, marks-place b c due, rw capped.marks_count at (word-less c.marks)))))
      (all-make 256 _ (λ i h. leb_yes (taken_at l i) (right_at b i).limit (omega (arith, taken-place b c due i h, capped.taken-most i)))))
      (all-make 64 _ (λ w h. all-make 11 _ (λ k m. leb_yes _ _ (due-within w k h m)))))
      (all-make 256 _ (λ i h. ltb_yes _ _ (word-within i h)))
