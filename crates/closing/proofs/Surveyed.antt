-- The area at a storage, found pair after pair of the table.
use mathlib.Core.List.{List, ◌∷◌}
use mathlib.Core.Path.{◌≡◌, ap, ◌∙◌}
use Prim.Native.Nat.{ℕ, suc, ◌+◌, ◌≤◌, ◌<◌}
use native.Mathlib.Omega.{arith}
use lib.ListN.{drop}
use Rattle.general.specs.Tables.{tab}
use Rattle.general.proofs.Lists.{drop_at}
use Rattle.general.proofs.Tables.{tab-at, tab-length}
use Rattle.rules.specs.Basin.{Survey, no_survey}
use Rattle.rules.specs.Month.{on_line, area_from, area_at}
use Rattle.rules.proofs.Areas.{before-next, from_next, before_first, from_first}
use Rattle.records.specs.Records.{content_at, survey_of, reservoir_of}

module _ (rs : List ℕ) (v x : ℕ) where
  abbrev pair : ℕ → Survey
  pair k = survey_of rs v k

  abbrev pairs : List Survey
  pairs = tab 4 pair

  -- The storage x reaches pair k, whose storage is `low`, and the area depends on this pair and those above.
  pub record Reached (k low : ℕ) : Type 0 where
    pub low_is : low ≡ content_at rs v k
    pub reached : low ≤ x
    pub area-is : area_at (reservoir_of rs v) x ≡ area_from (pair k) (drop (suc k) pairs) x

  above : (k : ℕ) → k < 3 → drop (suc k) pairs ≡ pair (k + 1) ∷ drop (suc (k + 1)) pairs
  above k h =
      let e : suc k ≡ k + 1 = omega arith in
      drop_at pairs (suc k) no_survey (omega (arith, h, tab-length pair 4)) ∙ ap (λ (p : Survey). p ∷ drop (suc (suc k)) pairs) (tab-at pair 4 (suc k) no_survey (omega (arith, h))) ∙ ap (λ (n : ℕ). pair n ∷ drop (suc n) pairs) e

  pub reached-none : x < content_at rs v 0 → area_at (reservoir_of rs v) x ≡ 0
  unfolding area_at reservoir_of tab
  reached-none h = before_first x (pair 0) _ h

  pub reached-first : {low : ℕ} → low ≡ content_at rs v 0 → low ≤ x → Reached 0 low
  unfolding area_at reservoir_of tab
  reached-first e h = record { low_is = e; reached = h; area-is = from_first x (pair 0) _ (omega (arith, e, h)) }

  module _ (k : ℕ) (h : k < 3) {low : ℕ} (r : Reached k low) where
    pub ends-between : x < content_at rs v (k + 1) → area_at (reservoir_of rs v) x ≡ on_line (pair k) (pair (k + 1)) x
    ends-between u = r.area-is ∙ ap (λ (ps : List Survey). area_from (pair k) ps x) (above k h) ∙ before-next x (pair k) (pair (k + 1)) _ u

    pub reached-next : {high : ℕ} → high ≡ content_at rs v (k + 1) → high ≤ x → Reached (k + 1) high
    reached-next e l = record {
      low_is = e;
      reached = l;
      area-is = r.area-is ∙ ap (λ (ps : List Survey). area_from (pair k) ps x) (above k h) ∙ from_next x (pair k) (pair (k + 1)) _ (omega (arith, e, l));
    }

  pub reached-last : {low : ℕ} → Reached 3 low → area_at (reservoir_of rs v) x ≡ (pair 3).area
  unfolding area_from tab
  reached-last r = r.area-is
