-- Laws of a lake's area. Assumes nothing.
use mathlib.Core.Path.{◌≡◌, refl, ap, ◌∙◌}
use mathlib.Core.List.{List, [], ◌∷◌, map}
use Prim.Native.Nat.{ℕ, zero, suc, ◌+◌, ◌-◌, ◌*◌, ◌/◌, ◌≤◌, ◌<◌, min, max}
use native.Mathlib.Nat.{mul_comm, mul-zero, zero-div, mul-le-mul_left, div-le_of_le-mul}
use native.Mathlib.Omega.{arith}
use borrow.Author.Tests.{le-leb, lt-leb}
use lib.ListN.{length, get_or}
use Rattle.general.specs.Tables.{All, Rising}
use Rattle.general.proofs.Lists.{by_place}
use Rattle.rules.specs.Basin.{Survey, Reservoir, no_survey, survey_at}
use Rattle.rules.specs.Month.{towards, on_line, area_from, area_by, area_at}
use Rattle.rules.specs.Theorems.{Past, AreaFacts}

-- ---- on the way from a towards b

module _ (a b n d : ℕ) where
  pub towards-up : a ≤ b → towards a b n d ≡ a + (b - a) * n / d
  unfolding towards
  towards-up h = rw (le-leb a b h)

  pub towards-down : b < a → towards a b n d ≡ a - (a - b) * n / d
  unfolding towards
  towards-down h = rw (lt-leb a b h)

-- a part of the way is at most the way
pub part-le : (w n d : ℕ) → n ≤ d → w * n / d ≤ w
part-le w n d h = div-le_of_le-mul d (omega (arith, mul-le-mul_left w h, mul_comm w d))

no_part : (w d : ℕ) → w * 0 / d ≡ 0
no_part w d = ap (λ (x : ℕ). x / d) (mul-zero w) ∙ zero-div d

towards-start : (a b d : ℕ) → towards a b 0 d ≡ a
towards-start a b d = by_place b a (towards a b 0 d ≡ a)
    (λ h. omega (arith, towards-down a b 0 d h, no_part (a - b) d))
    (λ h. omega (arith, towards-up a b 0 d h, no_part (b - a) d))

towards-least : (a b n d : ℕ) → n ≤ d → min a b ≤ towards a b n d
towards-least a b n d k = by_place b a (min a b ≤ towards a b n d)
    (λ h. omega (arith, h, towards-down a b n d h, part-le (a - b) n d k))
    (λ h. omega (arith, h, towards-up a b n d h, part-le (b - a) n d k))

towards-most : (a b n d : ℕ) → n ≤ d → towards a b n d ≤ max a b
towards-most a b n d k = by_place b a (towards a b n d ≤ max a b)
    (λ h. omega (arith, h, towards-down a b n d h, part-le (a - b) n d k))
    (λ h. omega (arith, h, towards-up a b n d h, part-le (b - a) n d k))

-- ---- along a table

module _ (x : ℕ) where
  -- short of the next pair, and from it on
  pub before-next : (p q : Survey) (qs : List Survey) → x < q.content → area_from p (q ∷ qs) x ≡ on_line p q x
  unfolding area_from
  before-next p q qs h = rw (lt-leb q.content x h)

  pub from_next : (p q : Survey) (qs : List Survey) → q.content ≤ x → area_from p (q ∷ qs) x ≡ area_from q qs x
  unfolding area_from
  from_next p q qs h = rw (le-leb q.content x h)

  -- short of the first pair, and from it on
  pub before_first : (p : Survey) (ps : List Survey) → x < p.content → area_by (p ∷ ps) x ≡ 0
  unfolding area_by
  before_first p ps h = rw (lt-leb p.content x h)

  pub from_first : (p : Survey) (ps : List Survey) → p.content ≤ x → area_by (p ∷ ps) x ≡ area_from p ps x
  unfolding area_by
  from_first p ps h = rw (le-leb p.content x h)

-- ---- no area is above the table's largest

module _ (most x : ℕ) where
  abbrev Within : Survey → Type 0
  Within p = p.area ≤ most

  line-within : (p q : Survey) → Within p → Within q → p.content ≤ x → x < q.content → on_line p q x ≤ most
  line-within p q hp hq l u = omega (arith, hp, hq, towards-most p.area q.area (x - p.content) (q.content - p.content) (omega (arith, l, u)))

  from-within : (p : Survey) (ps : List Survey) → p.content ≤ x → Within p → All Within ps → area_from p ps x ≤ most
  unfolding area_from
  from-within p [] l h hs = h
  from-within p (q ∷ qs) l h hs = by_place x q.content (area_from p (q ∷ qs) x ≤ most)
      (λ u. omega (arith, before-next x p q qs u, line-within p q h hs.0 l u))
      (λ u. omega (arith, from_next x p q qs u, from-within q qs u hs.0 hs.1))

  pub area-within : (ps : List Survey) → All Within ps → area_by ps x ≤ most
  unfolding area_by
  area-within [] hs = omega arith
  area-within (p ∷ ps) hs = by_place x p.content (area_by (p ∷ ps) x ≤ most)
      (λ u. omega (arith, before_first x p ps u))
      (λ u. omega (arith, from_first x p ps u, from-within p ps u hs.0 hs.1))

-- ---- of a table that rises

abbrev contents : List Survey → List ℕ
contents ps = map (λ (p : Survey). p.content) ps

abbrev at : List Survey → ℕ → Survey
at ps k = get_or ps k no_survey

first-least : (p : Survey) (ps : List Survey) → Rising (contents (p ∷ ps)) → (k : ℕ) → k < length (p ∷ ps) → p.content ≤ (at (p ∷ ps) k).content
first-least p ps r zero h = omega arith
first-least p [] r (suc k) h = absurd (omega arith)
first-least p (q ∷ qs) r (suc k) h = omega (arith, r.0, first-least q qs r.1 k (omega (arith, h)))

next_more : (ps : List Survey) → Rising (contents ps) → (k : ℕ) → suc k < length ps → (at ps k).content < (at ps (suc k)).content
next_more [] r k h = absurd (omega arith)
next_more (p ∷ []) r k h = absurd (omega arith)
next_more (p ∷ q ∷ qs) r zero h = r.0
next_more (p ∷ q ∷ qs) r (suc k) h = next_more (q ∷ qs) r.1 k (omega (arith, h))

module _ (x : ℕ) where
  line-from : (p : Survey) (ps : List Survey) → Rising (contents (p ∷ ps)) → (k : ℕ) → suc k < length (p ∷ ps) → (at (p ∷ ps) k).content ≤ x → x < (at (p ∷ ps) (suc k)).content
      → area_from p ps x ≡ on_line (at (p ∷ ps) k) (at (p ∷ ps) (suc k)) x
  line-from p [] r k h l u = absurd (omega arith)
  line-from p (q ∷ qs) r zero h l u = before-next x p q qs u
  line-from p (q ∷ qs) r (suc k) h l u = from_next x p q qs (omega (arith, l, first-least q qs r.1 k (omega (arith, h)))) ∙ line-from q qs r.1 k (omega (arith, h)) l u

  line-by : (ps : List Survey) → Rising (contents ps) → (k : ℕ) → suc k < length ps → (at ps k).content ≤ x → x < (at ps (suc k)).content → area_by ps x ≡ on_line (at ps k) (at ps (suc k)) x
  line-by [] r k h l u = absurd (omega arith)
  line-by (p ∷ ps) r k h l u = from_first x p ps (omega (arith, l, first-least p ps r k (omega (arith, h)))) ∙ line-from p ps r k h l u

  last-from : (p : Survey) (ps : List Survey) → Rising (contents (p ∷ ps)) → (k : ℕ) → suc k ≡ length (p ∷ ps) → (at (p ∷ ps) k).content ≤ x → area_from p ps x ≡ (at (p ∷ ps) k).area
  unfolding area_from
  last-from p [] r zero e l = refl
  last-from p [] r (suc k) e l = absurd (omega (arith, e))
  last-from p (q ∷ qs) r zero e l = absurd (omega (arith, e))
  last-from p (q ∷ qs) r (suc k) e l = from_next x p q qs (omega (arith, l, first-least q qs r.1 k (omega (arith, e)))) ∙ last-from q qs r.1 k (omega (arith, e)) l

  last-by : (ps : List Survey) → Rising (contents ps) → (k : ℕ) → suc k ≡ length ps → (at ps k).content ≤ x → area_by ps x ≡ (at ps k).area
  last-by [] r k e l = absurd (omega (arith, e))
  last-by (p ∷ ps) r k e l = from_first x p ps (omega (arith, l, first-least p ps r k (omega (arith, e)))) ∙ last-from p ps r k e l

-- ---- the theorem

module _ (v : Reservoir) (r : Rising (contents v.surveys)) where
  abbrev content : ℕ → ℕ
  content k = (survey_at v k).content

  abbrev area : ℕ → ℕ
  area k = (survey_at v k).area

  line : (k x : ℕ) → Past v k x → area_at v x ≡ on_line (survey_at v k) (survey_at v (suc k)) x
  unfolding area_at
  line k x p = line-by x v.surveys r k p.has_next p.reached p.not_next

  last : (k x : ℕ) → suc k ≡ length v.surveys → content k ≤ x → area_at v x ≡ area k
  unfolding area_at
  last k x e l = last-by x v.surveys r k e l

  steps : (k x : ℕ) → Past v k x → x - content k ≤ content (suc k) - content k
  steps k x p = omega (arith, p.reached, p.not_next)

  at-start : (k : ℕ) → on_line (survey_at v k) (survey_at v (suc k)) (content k) ≡ area k
  at-start k = ap (λ (n : ℕ). towards (area k) (area (suc k)) n (content (suc k) - content k)) (omega arith) ∙ towards-start (area k) (area (suc k)) (content (suc k) - content k)

  at_pair : (k : ℕ) → k < length v.surveys → area_at v (content k) ≡ area k
  at_pair k h = by_place (suc k) (length v.surveys) (area_at v (content k) ≡ area k)
      (λ l. line k (content k) (record { has_next = l; reached = omega arith; not_next = next_more v.surveys r k l }) ∙ at-start k)
      (λ l. last k (content k) (omega (arith, l, h)) (omega arith))

  pub area-facts : AreaFacts v
  area-facts = record {
    at_pair = at_pair;
    on_line_lem = line;
    not_below = λ k x p. omega (arith, line k x p, towards-least (area k) (area (suc k)) (x - content k) (content (suc k) - content k) (steps k x p));
    not_above = λ k x p. omega (arith, line k x p, towards-most (area k) (area (suc k)) (x - content k) (content (suc k) - content k) (steps k x p));
    stays = last;
  }
