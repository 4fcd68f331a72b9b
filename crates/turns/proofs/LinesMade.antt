-- The lines of the report, from k rights told to k + 1. Assumes nothing.
use mathlib.Core.List.{List}
use mathlib.Core.Logic.{◌≢◌}
use mathlib.Core.Path.{◌≡◌, sym, ◌∙◌, subst}
use Prim.Native.Nat.{ℕ, suc, ◌+◌, ◌≤◌, ◌<◌}
use native.Mathlib.Omega.{arith}
use lib.ListN.{length, get_or, set, length-set}
use lib.Seq.{get_or-set_same, get_or-set_other}
use Rattle.general.proofs.Lists.{by_place}
use Rattle.general.proofs.Tests.{by_eqb}
use Rattle.places.specs.Report.{from_river_place, from_storage_place, reason_place, station_place}
use Rattle.rules.specs.Turn.{Turn}
use Rattle.rules.specs.Month.{reason_number, grant_at}
use Rattle.grants.specs.declared.grants.Grant as program
use Rattle.grants.specs.Grants.{why_of}
use Rattle.turns.specs.Lines.{line_of, LinesTo}

-- ---- four numbers of a line

module _ (l : List ℕ) (k x₀ x₁ x₂ x₃ : ℕ) (h : station_place k < length l) where
  abbrev l₁ : List ℕ
  l₁ = set l (from_river_place k) x₀

  abbrev l₂ : List ℕ
  l₂ = set l₁ (from_storage_place k) x₁

  abbrev l₃ : List ℕ
  l₃ = set l₂ (reason_place k) x₂

  abbrev line : List ℕ
  line = set l₃ (station_place k) x₃

  n₁ : length l₁ ≡ length l
  n₁ = length-set l (from_river_place k) x₀

  n₂ : length l₂ ≡ length l
  n₂ = length-set l₁ (from_storage_place k) x₁ ∙ n₁

  n₃ : length l₃ ≡ length l
  n₃ = length-set l₂ (reason_place k) x₂ ∙ n₂

  line-size : length line ≡ length l
  line-size = length-set l₃ (station_place k) x₃ ∙ n₃

  line-0 : get_or line (from_river_place k) 0 ≡ x₀
  line-0 =
      get_or-set_other l₃ (station_place k) (from_river_place k) x₃ 0 (λ e. omega (arith, e))
      ∙ get_or-set_other l₂ (reason_place k) (from_river_place k) x₂ 0 (λ e. omega (arith, e))
      ∙ get_or-set_other l₁ (from_storage_place k) (from_river_place k) x₁ 0 (λ e. omega (arith, e))
      ∙ get_or-set_same l (from_river_place k) x₀ 0 (omega (arith, h))

  line-1 : get_or line (from_storage_place k) 0 ≡ x₁
  line-1 =
      get_or-set_other l₃ (station_place k) (from_storage_place k) x₃ 0 (λ e. omega (arith, e))
      ∙ get_or-set_other l₂ (reason_place k) (from_storage_place k) x₂ 0 (λ e. omega (arith, e))
      ∙ get_or-set_same l₁ (from_storage_place k) x₁ 0 (omega (arith, h, n₁))

  line-2 : get_or line (reason_place k) 0 ≡ x₂
  line-2 =
      get_or-set_other l₃ (station_place k) (reason_place k) x₃ 0 (λ e. omega (arith, e))
      ∙ get_or-set_same l₂ (reason_place k) x₂ 0 (omega (arith, h, n₂))

  line-3 : get_or line (station_place k) 0 ≡ x₃
  line-3 = get_or-set_same l₃ (station_place k) x₃ 0 (omega (arith, h, n₃))

  line-else : (p : ℕ) → (p < from_river_place k → get_or line p 0 ≡ get_or l p 0) × (from_river_place k + 4 ≤ p → get_or line p 0 ≡ get_or l p 0)
  line-else p = (
    λ o.
        get_or-set_other l₃ (station_place k) p x₃ 0 (λ e. omega (arith, e, o))
        ∙ get_or-set_other l₂ (reason_place k) p x₂ 0 (λ e. omega (arith, e, o))
        ∙ get_or-set_other l₁ (from_storage_place k) p x₁ 0 (λ e. omega (arith, e, o))
        ∙ get_or-set_other l (from_river_place k) p x₀ 0 (λ e. omega (arith, e, o)),
    λ o.
        get_or-set_other l₃ (station_place k) p x₃ 0 (λ e. omega (arith, e, o))
        ∙ get_or-set_other l₂ (reason_place k) p x₂ 0 (λ e. omega (arith, e, o))
        ∙ get_or-set_other l₁ (from_storage_place k) p x₁ 0 (λ e. omega (arith, e, o))
        ∙ get_or-set_other l (from_river_place k) p x₀ 0 (λ e. omega (arith, e, o)),
  )

-- the lines of k rights, and one more
pub lines_more : (ts : List Turn) (k : ℕ) (before l : List ℕ) (g : program.Grant) (name : ℕ) → station_place k < length l → LinesTo ts k before l
    → g.from_river ≡ (grant_at ts k).from_river → g.from_storage ≡ (grant_at ts k).from_storage → why_of g.reason ≡ reason_number (grant_at ts k).reason → name ≡ (grant_at ts k).station
    → LinesTo ts (suc k) before (line_of l k g name)
unfolding line_of
lines_more ts k before l g name h p e₀ e₁ e₂ e₃ =
    let x₀ = g.from_river in
    let x₁ = g.from_storage in
    let x₂ = why_of g.reason in
    let new = line l k x₀ x₁ x₂ name h in
    record {
      from-river = λ j o. by_eqb j k (λ _. get_or new (from_river_place j) 0 ≡ (grant_at ts j).from_river)
          (λ e. subst (λ (u : ℕ). get_or new (from_river_place u) 0 ≡ (grant_at ts u).from_river) (sym e) (line-0 l k x₀ x₁ x₂ name h ∙ e₀))
          (λ e. (line-else l k x₀ x₁ x₂ name h (from_river_place j)).0 (omega (arith, o, below j k o e)) ∙ p.from-river j (below j k o e));
      from-storage = λ j o. by_eqb j k (λ _. get_or new (from_storage_place j) 0 ≡ (grant_at ts j).from_storage)
          (λ e. subst (λ (u : ℕ). get_or new (from_storage_place u) 0 ≡ (grant_at ts u).from_storage) (sym e) (line-1 l k x₀ x₁ x₂ name h ∙ e₁))
          (λ e. (line-else l k x₀ x₁ x₂ name h (from_storage_place j)).0 (omega (arith, o, below j k o e)) ∙ p.from-storage j (below j k o e));
      reason = λ j o. by_eqb j k (λ _. get_or new (reason_place j) 0 ≡ reason_number (grant_at ts j).reason)
          (λ e. subst (λ (u : ℕ). get_or new (reason_place u) 0 ≡ reason_number (grant_at ts u).reason) (sym e) (line-2 l k x₀ x₁ x₂ name h ∙ e₂))
          (λ e. (line-else l k x₀ x₁ x₂ name h (reason_place j)).0 (omega (arith, o, below j k o e)) ∙ p.reason j (below j k o e));
      station = λ j o. by_eqb j k (λ _. get_or new (station_place j) 0 ≡ (grant_at ts j).station)
          (λ e. subst (λ (u : ℕ). get_or new (station_place u) 0 ≡ (grant_at ts u).station) (sym e) (line-3 l k x₀ x₁ x₂ name h ∙ e₃))
          (λ e. (line-else l k x₀ x₁ x₂ name h (station_place j)).0 (omega (arith, o, below j k o e)) ∙ p.station j (below j k o e));
      beyond = λ q o. (line-else l k x₀ x₁ x₂ name h q).1 (omega (arith, o)) ∙ p.beyond q (omega (arith, o));
      size = line-size l k x₀ x₁ x₂ name h ∙ p.size;
    }
  where
    below : (j n : ℕ) → j < suc n → j ≢ n → j < n
    below j n o e = by_place j n (j < n) (λ z. z) (λ z. absurd (e (omega (arith, o, z))))
