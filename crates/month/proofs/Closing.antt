-- The board that a month leaves, place by place. Assumes nothing.
use mathlib.Core.Bool.{Bool, true, false, cond}
use mathlib.Core.List.{List}
use mathlib.Core.Path.{◌≡◌, refl, sym, ap, ◌∙◌}
use Prim.Native.Nat.{ℕ, suc, ◌+◌, ◌-◌, ◌^◌, ◌≤◌, ◌<◌}
use native.Mathlib.Decide.{dec_lt}
use native.Mathlib.Omega.{arith}
use lib.Dec.{ltb, eqb}
use lib.ListN.{length, get_or, set, length-set}
use lib.Seq.{get_or-set_same, get_or-set_other}
use Rattle.general.specs.Sums.{only}
use Rattle.general.specs.Tables.{tab}
use Rattle.general.proofs.Tables.{tab-at, tab-past}
use Rattle.general.proofs.Tests.{cleared-le, eqb-other, ltb_yes, ltb_no}
use Rattle.rules.specs.Basin.{Basin, rows, reservoir_at}
use Rattle.rules.specs.Turn.{State}
use Rattle.rules.specs.Month.{MonthRun, opening, returns_at, evaporation, evaporations, evaporated, next_month, month}
use Rattle.records.specs.Records.{reservoir_count}
use Rattle.turns.specs.Lines.{turns_from, Served}
use Rattle.closing.specs.Losses.{loss_in, Lost}
use Rattle.closing.specs.Noting.{WordsNoted}
use Rattle.places.specs.Board.{month_place, storage_place, marks_place, taken_place, due_place, words_from, word_place, board_length, month_at, storage_at, marks_at, taken_at, due_at}
use Rattle.river.specs.Setting.{SettingOf}
use Rattle.turns.specs.State.{marks_of, taken_of, state_of}
use Rattle.turns.proofs.Facts.{reservoirs-count, reservoir-is}
use Rattle.turns.proofs.Places.{storage-at, taken_at_lem}
use Rattle.boards.specs.Board.{carried_of, word_of, possible}
use Rattle.month.specs.Month.{run_of, due_after, board_after}
use Rattle.boards.proofs.Bounds.{marks-most, no-storage, no-taken, no_due}
use Rattle.boards.proofs.Board.{word-bits, board-told}
use Rattle.month.proofs.Opened.{opened, opened-storage, opened-marks, opened-taken, opened-due}
use Rattle.month.proofs.Turned.{returns-beyond, turns-are, closed_is}
use Rattle.month.proofs.Words.{word-told}

-- ---- the month that was run

module _ (b : Basin) (st t rs : List ℕ) (pa : List (List ℕ)) (ri : List ℕ) (w : SettingOf b st t rs pa ri) (runoff bd : List ℕ) (can : possible b bd ≡ true)
    (f a : List ℕ) (sh : List Bool) (start : state_of b f a sh (opened bd) ≡ opening b (carried_of b bd) runoff (tab (rows b) (λ u. due_at bd u 1))) (m : ℕ) (em : m ≡ month_at bd)
    (rp f₂ a₂ : List ℕ) (sh₂ : List Bool) (bd₂ rp₁ : List ℕ) (c : ℕ) (q : Served b m f a sh (opened bd) rp f₂ a₂ sh₂ bd₂ rp₁ c) where
  abbrev h : MonthRun
  h = run_of b runoff bd

  abbrev s₂ : State
  s₂ = state_of b f₂ a₂ sh₂ bd₂

  turns_same : turns_from b m (state_of b f a sh (opened bd)) ≡ h.turns
  turns_same = turns-are b st t rs pa ri w runoff bd can f a sh start m em rp f₂ a₂ sh₂ bd₂ rp₁ c q

  closed_same : s₂ ≡ h.closed
  closed_same = closed_is b st t rs pa ri w runoff bd can f a sh start m em rp f₂ a₂ sh₂ bd₂ rp₁ c q

  few : length b.reservoirs ≤ 8
  few = w.accepted.few_reservoirs

  count : length b.reservoirs ≡ reservoir_count rs
  count = reservoirs-count w

  -- ---- what is stored, and what evaporates

  stored_is : (v : ℕ) → v < length b.reservoirs → get_or h.closed.storages v 0 ≡ storage_at bd₂ v
  unfolding state_of
  stored_is v o = ap (λ (s : State). get_or s.storages v 0) (sym closed_same) ∙ storage-at (length b.reservoirs) bd₂ v o

  losses-are : h.evaporation ≡ evaporations b (month_at bd) h.closed.storages
  unfolding run_of month carried_of
  losses-are = refl

  storages-are : h.carried.storages ≡ evaporated b h.closed.storages h.evaporation
  unfolding run_of month carried_of
  storages-are = refl

  pub loss-is : (v : ℕ) → v < length b.reservoirs → loss_in rs m v (storage_at bd₂ v) ≡ get_or h.evaporation v 0
  unfolding evaporations
  loss-is v o =
      (λ z. evaporation (em z) (sym (reservoir-is w v (omega (arith, o, count))) z) (sym (stored_is v o) z))
      ∙ sym (tab-at (λ u. evaporation (month_at bd) (reservoir_at b u) (get_or h.closed.storages u 0)) (length b.reservoirs) v 0 o)
      ∙ ap (λ (x : List ℕ). get_or x v 0) (sym losses-are)

  left_is : (v : ℕ) → v < length b.reservoirs → get_or h.carried.storages v 0 ≡ storage_at bd₂ v - loss_in rs m v (storage_at bd₂ v)
  unfolding evaporated
  left_is v o =
      ap (λ (x : List ℕ). get_or x v 0) storages-are
      ∙ tab-at (λ u. get_or h.closed.storages u 0 - get_or h.evaporation u 0) (length b.reservoirs) v 0 o
      ∙ (λ z. stored_is v o z - sym (loss-is v o) z)

  left-past : (v : ℕ) → length b.reservoirs ≤ v → get_or h.carried.storages v 0 ≡ 0
  unfolding evaporated
  left-past v o = ap (λ (x : List ℕ). get_or x v 0) storages-are ∙ tab-past (λ u. get_or h.closed.storages u 0 - get_or h.evaporation u 0) (length b.reservoirs) v 0 o

  -- ---- marks and water taken

  marks-in : marks_at bd₂ < 2 ^ length b.reservoirs
  marks-in = q.kept.marks (omega (arith, opened-marks bd, go (eqb (month_at bd) 0)))
    where
      go : (o : Bool) → cond o 0 (marks_at bd) < 2 ^ length b.reservoirs
      go true = omega (arith, marks-most b bd can)
      go false = marks-most b bd can

  marks-are : marks_at bd₂ ≡ word_of h.carried.marks
  unfolding run_of month carried_of state_of marks_of
  marks-are = sym (word-bits (length b.reservoirs) (marks_at bd₂) marks-in) ∙ ap (λ (s : State). word_of s.marks) closed_same

  taken_is : (i : ℕ) → i < length b.rights → get_or h.carried.taken i 0 ≡ taken_at bd₂ i
  unfolding run_of month carried_of state_of
  taken_is i o = ap (λ (s : State). get_or s.taken i 0) (sym closed_same) ∙ taken_at_lem (length b.rights) bd₂ i o

  taken-past : (i : ℕ) → length b.rights ≤ i → get_or h.carried.taken i 0 ≡ 0
  unfolding run_of month carried_of state_of taken_of
  taken-past i o = ap (λ (s : State). get_or s.taken i 0) (sym closed_same) ∙ tab-past (λ k. taken_at bd₂ k) (length b.rights) i 0 o

  -- ---- dues

  moved : (u k : ℕ) → u < 64 → k < 11 → due_at (opened bd) u (suc k) ≡ only (ltb (suc k) 11) (due_at bd u (suc (suc k)))
  moved u k o l = opened-due bd u k o l ∙ pick (dec_lt k 10)
    where
      pick : Dec (k < 10) → cond (eqb (suc k) 11) 0 (due_at bd u (suc (suc k))) ≡ only (ltb (suc k) 11) (due_at bd u (suc (suc k)))
      pick (yes y) = rw (eqb-other (suc k) 11 (λ e. omega (arith, e, y)), ltb_yes (suc k) 11 (omega (arith, y)))
      pick (no y) = let e : k ≡ 10 = omega (arith, y, l) in rw e

  due-is : (u k : ℕ) → u < 64 → k < 11 → due_at bd₂ u (suc k) ≡ due_after b h bd u (suc k)
  unfolding due_after
  due-is u k o l = q.dues u k l ∙ (λ z. moved u k o l z + returns_at b (turns_same z) u (suc k))

  due-past : (u k : ℕ) → u < 64 → k < 11 → rows b ≤ u → due_at bd₂ u (suc k) ≡ 0
  due-past u k o l past = omega (
    arith,
    q.dues u k l,
    moved u k o l,
    past-moved (dec_lt k 10),
    returns-beyond b m 0 b.rights (state_of b f a sh (opened bd)) u (suc k) w.accepted.rights_good past,
  )
    where
      past-moved : Dec (k < 10) → only (ltb (suc k) 11) (due_at bd u (suc (suc k))) ≡ 0
      past-moved (yes y) = rw (ltb_yes (suc k) 11 (omega (arith, y))) (no_due b bd can u (suc k) o (omega (arith, y)) past)
      past-moved (no y) = rw (ltb_no (suc k) 11 (omega (arith, y)))

  due-told : (u k : ℕ) → u < 64 → k < 11 → due_at bd₂ u (suc k) ≡ only (ltb u (rows b)) (due_after b h bd u (suc k))
  due-told u k o l = pick (dec_lt u (rows b))
    where
      pick : Dec (u < rows b) → due_at bd₂ u (suc k) ≡ only (ltb u (rows b)) (due_after b h bd u (suc k))
      pick (yes y) = rw (ltb_yes u (rows b) y) (due-is u k o l)
      pick (no y) = rw (ltb_no u (rows b) (omega (arith, y))) (due-past u k o l (omega (arith, y)))

  -- ---- the board

  -- who was short is noted, the reservoirs lose their evaporation, the month goes on
  module _ (long : length bd₂ ≡ board_length) (noted : List ℕ) (e : WordsNoted m (length b.rights) rp₁ bd₂ noted) (rp₂ : List ℕ) (at : ℕ) (bd₃ rp₃ : List ℕ) (l : Lost rs m (reservoir_count rs) noted rp₂ at bd₃ rp₃) (bd₄ : List ℕ) (e₄ : bd₄ ≡ set bd₃ month_place (next_month m)) where
    size₃ : length bd₃ ≡ board_length
    size₃ = l.size ∙ e.size ∙ long

    off : (p : ℕ) → month_place < p → get_or bd₄ p 0 ≡ get_or bd₃ p 0
    off p o = ap (λ (x : List ℕ). get_or x p 0) e₄ ∙ get_or-set_other bd₃ month_place p (next_month m) 0 (λ e. omega (arith, e, o))

    last : (p : ℕ) → marks_place ≤ p → get_or bd₄ p 0 ≡ get_or noted p 0
    last p o = off p (omega (arith, o)) ∙ l.kept p (omega (arith, o, few, count))

    far : (p : ℕ) → marks_place ≤ p → p < words_from → get_or bd₄ p 0 ≡ get_or bd₂ p 0
    far p o k = last p o ∙ e.front p k

    storage-told : (v : ℕ) → v < 8 → storage_at bd₄ v ≡ get_or h.carried.storages v 0
    storage-told v o = pick (dec_lt v (length b.reservoirs))
      where
        pick : Dec (v < length b.reservoirs) → storage_at bd₄ v ≡ get_or h.carried.storages v 0
        pick (yes y) = off (storage_place v) (omega arith) ∙ l.storages v (omega (arith, y, count)) ∙ ap (λ (x : ℕ). x - loss_in rs m v x) (e.front (storage_place v) (omega arith)) ∙ sym (left_is v y)
        pick (no y) =
            let z : length b.reservoirs ≤ v = omega (arith, y) in
            off (storage_place v) (omega arith) ∙ l.kept (storage_place v) (omega (arith, z, count)) ∙ e.front (storage_place v) (omega arith) ∙ q.kept.no-reservoir v z o ∙ opened-storage bd v o ∙ no-storage b bd can v o z ∙ sym (left-past v z)

    taken-told : (i : ℕ) → i < 256 → taken_at bd₄ i ≡ get_or h.carried.taken i 0
    taken-told i o = pick (dec_lt i (length b.rights))
      where
        pick : Dec (i < length b.rights) → taken_at bd₄ i ≡ get_or h.carried.taken i 0
        pick (yes y) = far (taken_place i) (omega arith) (omega arith) ∙ sym (taken_is i y)
        pick (no y) =
            let z : length b.rights ≤ i = omega (arith, y) in
            let e : taken_at (opened bd) i ≡ 0 = omega (arith, opened-taken bd i o, cleared-le (eqb (month_at bd) 0) (taken_at bd i), no-taken b bd can i o z) in
            far (taken_place i) (omega arith) (omega arith) ∙ q.kept.no-right i z o ∙ e ∙ sym (taken-past i z)

    month-told : month_at bd₄ ≡ h.carried.m
    unfolding run_of month carried_of
    month-told = ap (λ (x : List ℕ). month_at x) e₄ ∙ get_or-set_same bd₃ month_place (next_month m) 0 (omega (arith, size₃)) ∙ ap next_month em

    pub board-left : bd₄ ≡ board_after b runoff bd
    unfolding board_after
    board-left = board-told b h.carried (due_after b h bd) bd₄ (record {
      size = ap length e₄ ∙ length-set bd₃ month_place (next_month m) ∙ size₃;
      month = month-told;
      storages = storage-told;
      marks = far marks_place (omega arith) (omega arith) ∙ marks-are;
      taken = taken-told;
      dues = λ u k o n. far (due_place u k) (omega arith) (omega arith) ∙ due-told u k o n;
      words = λ i o. last (word_place i) (omega arith) ∙ word-told b st t rs pa ri w runoff bd can f a sh start m em rp f₂ a₂ sh₂ bd₂ rp₁ c q noted e i o;
    })
