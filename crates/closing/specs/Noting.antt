-- The short words in the arrays' words (02, No. 6): month m is noted for each of n rights, by the reasons that the report rp tells.
use Rattle.std.specs.Prelude.{Bool, not, List, ◌≡◌, ℕ, ◌≤◌, ◌<◌, eqb, length, get_or}
use Rattle.general.specs.Sums.{sum_to, only}
use Rattle.general.specs.Tests.{with_bit}
use Rattle.places.specs.Board.{words_from, word_place, word_at}
use Rattle.places.specs.Report.{reason_place, lines_end}

-- whether the report has a reason for right i
abbrev pub has_reason : List ℕ → ℕ → Bool
has_reason rp i = not (eqb (get_or rp (reason_place i) 0) 0)

-- how many of n rights it has one for
unfoldable pub reasons_in : ℕ → List ℕ → ℕ
reasons_in n rp = sum_to n (λ i. only (has_reason rp i) 1)

pub record CanNote (n m : ℕ) (bd rp : List ℕ) : Type 0 where
  pub few : n ≤ 256
  pub in-year : m < 12
  pub words : (i : ℕ) → i < n → word_at bd i < 4096
  pub lines : lines_end n ≤ length rp

-- from bd to bd' the first k words have been noted, and nothing else
pub record WordsNoted (m k : ℕ) (rp bd bd' : List ℕ) : Type 0 where
  pub noted : (i : ℕ) → i < k → word_at bd' i ≡ with_bit (word_at bd i) m (has_reason rp i)
  pub front : (p : ℕ) → p < words_from → get_or bd' p 0 ≡ get_or bd p 0
  pub beyond : (p : ℕ) → word_place k ≤ p → get_or bd' p 0 ≡ get_or bd p 0
  pub size : length bd' ≡ length bd
