-- The short words that a month leaves are those of the rules. Assumes nothing.
use mathlib.Core.Bool.{Bool, true, false, not, cond}
use mathlib.Core.List.{List, []}
use mathlib.Core.Path.{◌≡◌, refl, sym, ap, ◌∙◌}
use Prim.Native.Nat.{ℕ, suc, ◌+◌, ◌/◌, ◌%◌, ◌≤◌, ◌<◌}
use native.Mathlib.Decide.{dec_lt}
use native.Mathlib.Omega.{arith}
use lib.Dec.{eqb}
use lib.ListN.{length, get_or, set, replicate, get_or-replicate, length-replicate}
use Rattle.general.specs.Sums.{sum_to, only}
use Rattle.general.specs.Tables.{tab}
use Rattle.general.specs.Tests.{bit}
use Rattle.general.proofs.Bits.{bit-none}
use Rattle.general.proofs.Lists.{get_d-falses}
use Rattle.general.proofs.Sums.{sum_to-same, sum_to-over}
use Rattle.general.proofs.Tables.{tab-at, tab-past, tab-of}
use Rattle.general.proofs.Tests.{cleared-le}
use Rattle.rules.specs.Basin.{Basin, rows}
use Rattle.rules.specs.Turn.{Grant, Turn}
use Rattle.rules.specs.Month.{MonthRun, no_grant, grant_at, reason_number, is_short, opening_shorts, noted, opening, month, short_count}
use Rattle.rules.proofs.Months.{turns-length}
use Rattle.turns.specs.Lines.{Served}
use Rattle.river.specs.Setting.{SettingOf}
use Rattle.turns.specs.State.{state_of}
use Rattle.places.specs.Board.{word_place, month_at, due_at, word_at}
use Rattle.places.proofs.BoardPlaces.{word-as-due, place_read}
use Rattle.boards.specs.Board.{carried_of, word_of, possible}
use Rattle.boards.proofs.Board.{word_none, word-put}
use Rattle.boards.proofs.Bounds.{month-most, word_small, no_word}
use Rattle.closing.specs.Noting.{has_reason, reasons_in, WordsNoted}
use Rattle.month.specs.Month.{run_of}
use Rattle.month.proofs.Opened.{opened, opened-short}
use Rattle.month.proofs.Turned.{returns-beyond, turns-are}

module _ (b : Basin) (st t rs : List ℕ) (pa : List (List ℕ)) (ri : List ℕ) (w : SettingOf b st t rs pa ri) (runoff bd : List ℕ) (can : possible b bd ≡ true)
    (f a : List ℕ) (sh : List Bool) (start : state_of b f a sh (opened bd) ≡ opening b (carried_of b bd) runoff (tab (rows b) (λ u. due_at bd u 1))) (m : ℕ) (em : m ≡ month_at bd)
    (rp f₂ a₂ : List ℕ) (sh₂ : List Bool) (bd₂ rp₁ : List ℕ) (c : ℕ) (q : Served b m f a sh (opened bd) rp f₂ a₂ sh₂ bd₂ rp₁ c) where
  abbrev h : MonthRun
  h = run_of b runoff bd

  abbrev n : ℕ
  n = length b.rights

  abbrev october : Bool
  october = eqb (month_at bd) 0

  -- no turn touches a word: it stands where rows past the last would have their dues
  word-served : (i : ℕ) → i < 256 → word_at bd₂ i ≡ cond october 0 (word_at bd i)
  word-served i o =
      let u : ℕ = 64 + i / 11 in
      let k : ℕ = i % 11 in
      let none = returns-beyond b m 0 b.rights (state_of b f a sh (opened bd)) u (suc k) w.accepted.rights_good (omega (arith, w.accepted.few_rows)) in
      let same : due_at bd₂ u (suc k) ≡ due_at (opened bd) u (suc k) = omega (arith, q.dues u k (omega arith), none) in
      place_read bd₂ (word-as-due i) ∙ same ∙ sym (place_read (opened bd) (word-as-due i)) ∙ opened-short bd i o

  turns-count : length h.turns ≡ n
  unfolding run_of month
  turns-count = turns-length b _ 0 b.rights _

  few : n ≤ 256
  few = w.accepted.few_rights

  pub word_fits : (i : ℕ) → i < n → word_at bd₂ i < 4096
  word_fits i o = let l : i < 256 = omega (arith, o, few) in omega (arith, word-served i l, cleared-le october (word_at bd i), word_small b bd can i l)

  -- its bits are the months noted as the month opens
  bits_are : (i : ℕ) → i < n → tab 12 (bit (word_at bd₂ i)) ≡ get_or (opening_shorts b (carried_of b bd)) i []
  unfolding opening_shorts carried_of
  bits_are i o = ap (λ (x : ℕ). tab 12 (bit x)) (word-served i (omega (arith, o, few))) ∙ go october
    where
      none : tab 12 (bit 0) ≡ replicate 12 false
      none = tab-of (replicate 12 false) false 12 (bit 0) (length-replicate 12 false) (λ k _. bit-none k ∙ sym (get_d-falses 12 k))

      go : (t : Bool) → tab 12 (bit (cond t 0 (word_at bd i))) ≡ get_or (cond t (replicate n (replicate 12 false)) (tab n (λ j. tab 12 (bit (word_at bd j))))) i []
      go true = none ∙ sym (get_or-replicate n i (replicate 12 false) [] o)
      go false = sym (tab-at (λ j. tab 12 (bit (word_at bd j))) n i [] o)

  -- the report has a reason for whoever is short
  short-is : (i : ℕ) → i < n → has_reason rp₁ i ≡ is_short (grant_at h.turns i)
  unfolding is_short
  short-is i o = ap (λ (x : ℕ). not (eqb x 0)) (q.lines.reason i o ∙ ap (λ (ts : List Turn). reason_number (grant_at ts i).reason) (turns-are b st t rs pa ri w runoff bd can f a sh start m em rp f₂ a₂ sh₂ bd₂ rp₁ c q))

  -- and so the reasons are as many as the rights that are short
  pub shorts-told : reasons_in n rp₁ ≡ short_count h.turns
  unfolding reasons_in short_count
  shorts-told =
      let each : ℕ → ℕ = λ i. only (is_short (grant_at h.turns i)) 1 in
      sum_to-same n _ each (λ i o. ap (λ (t : Bool). only t 1) (short-is i o))
      ∙ ap (λ (k : ℕ). sum_to k each) (sym turns-count)
      ∙ sum_to-over (λ (t : Turn). t.grant) no_grant (λ (g : Grant). only (is_short g) 1) h.turns

  shorts-are : h.carried.shorts ≡ noted b (month_at bd) h.turns (opening_shorts b (carried_of b bd))
  unfolding run_of month carried_of
  shorts-are = refl

  left-noted : (i : ℕ) → i < n → get_or h.carried.shorts i [] ≡ set (tab 12 (bit (word_at bd₂ i))) m (has_reason rp₁ i)
  unfolding noted
  left-noted i o =
      ap (λ (x : List (List Bool)). get_or x i []) shorts-are
      ∙ tab-at (λ j. set (get_or (opening_shorts b (carried_of b bd)) j []) (month_at bd) (is_short (grant_at h.turns j))) n i [] o
      ∙ (λ z. set (sym (bits_are i o) z) (sym em z) (sym (short-is i o) z))

  left-past : (i : ℕ) → n ≤ i → get_or h.carried.shorts i [] ≡ []
  unfolding noted
  left-past i o = ap (λ (x : List (List Bool)). get_or x i []) shorts-are ∙ tab-past _ n i [] o

  -- once the month is noted
  module _ (bd₃ : List ℕ) (e : WordsNoted m n rp₁ bd₂ bd₃) where
    pub word-told : (i : ℕ) → i < 256 → word_at bd₃ i ≡ word_of (get_or h.carried.shorts i [])
    word-told i l = pick (dec_lt i n)
      where
        pick : Dec (i < n) → word_at bd₃ i ≡ word_of (get_or h.carried.shorts i [])
        pick (yes o) =
            e.noted i o
            ∙ word-put 12 (word_at bd₂ i) m (has_reason rp₁ i) (omega (arith, em, month-most b bd can)) (word_fits i o)
            ∙ ap word_of (sym (left-noted i o))
        pick (no o) =
            let past : n ≤ i = omega (arith, o) in
            let empty : word_at bd₂ i ≡ 0 = omega (arith, word-served i l, cleared-le october (word_at bd i), no_word b bd can i l past) in
            e.beyond (word_place i) (omega (arith, past)) ∙ empty ∙ sym (ap word_of (left-past i past) ∙ word_none)
