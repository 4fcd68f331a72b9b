-- What is noted of a right's months are the months in which its grants were short. Assumes nothing.
use Rattle.std.specs.Prelude.{Option, None, Some}
use mathlib.Core.Path.{◌≡◌, refl, sym, ap, ◌∙◌}
use mathlib.Core.Logic.{◌≢◌}
use mathlib.Core.Bool.{Bool, true, false, not, cond, ◌||◌}
use mathlib.Core.List.{List, [], ◌∷◌, ◌++◌}
use Prim.Native.Nat.{ℕ, zero, suc, ◌+◌, ◌≤◌, ◌<◌}
use native.Mathlib.Omega.{arith}
use lib.Dec.{leb, ltb, eqb}
use lib.ListN.{length, get_or, set, replicate, length-append, length-set, length-replicate, get_or-replicate}
use lib.Seq.{get_or-set_other}
use Rattle.general.specs.Sums.{sum_over, sum_to, only}
use Rattle.general.specs.Tests.{◌and◌}
use Rattle.general.proofs.Lists.{get_d-falses, by_place}
use Rattle.general.proofs.Loops.{and_no, and-not}
use Rattle.general.proofs.Sums.{sum-append, sum_to-same, sum_to-add, sum_to-zero, sum_to-front, sum_to-pick}
use Rattle.general.proofs.Tables.{tab-at}
use Rattle.general.proofs.Tests.{absurd-bool, by_eqb, eqb-other, leb_yes, leb_no, ltb_yes, ltb_no, and-of, and-true, only_none}
use Rattle.rules.specs.Basin.{Basin}
use Rattle.rules.specs.Month.{Carried, grant_at, is_short, opening_shorts, noted, next_month, MonthRun, month}
use Rattle.rules.specs.Tally.{Call, refusal, Start, fresh_carried, fresh_start, Tally, begun, arriving, next_run, accept, after_judged, after_call, after_calls}
use Rattle.rules.specs.Answers.{Answer}
use Rattle.rules.specs.Shortness.{how_many, shorts_of, is_october, any_october, among, short_before, since_october, short_in, short_now}
use Rattle.rules.specs.Theorems.{Possible}

-- ---- how many of a list of marks are set

abbrev marked : List Bool → ℕ → ℕ
marked l k = only (get_or l k false) 1

pub count-places : (l : List Bool) → how_many l ≡ sum_to (length l) (marked l)
unfolding how_many sum_over sum_to
count-places [] = refl
count-places (t ∷ l) = omega (arith, count-places l, sum_to-front (length l) (marked (t ∷ l)))

count_set : (l : List Bool) (m : ℕ) (t : Bool) → m < length l → how_many (set l m t) + marked l m ≡ how_many l + only t 1
unfolding how_many sum_over
count_set [] m t h = absurd (omega arith)
count_set (x ∷ l) zero t h = omega arith
count_set (x ∷ l) (suc m) t h = omega (arith, count_set l m t (omega arith))

-- ---- the n months from a on, and one more

among_none : (a k : ℕ) → among a 0 k ≡ false
among_none a k = by_place k a _ (λ h. and_no (ltb k (a + 0)) (leb_no a k h)) (λ h. and-not (leb a k) (ltb_no k (a + 0) (omega arith)))

module _ (a n k : ℕ) where
  among-not-yet : k ≡ a + n → among a n k ≡ false
  among-not-yet e = and-not (leb a k) (ltb_no k (a + n) (omega arith))

  among-now : k ≡ a + n → among a (suc n) k ≡ true
  among-now e = and-of (leb_yes a k (omega arith)) (ltb_yes k (a + suc n) (omega arith))

  among-other : k ≢ a + n → among a n k ≡ among a (suc n) k
  among-other e = ap (λ (t : Bool). leb a k and t) (by_place k (a + n) _
      (λ h. ltb_yes k (a + n) h ∙ sym (ltb_yes k (a + suc n) (omega arith)))
      (λ h. ltb_no k (a + n) h ∙ sym (ltb_no k (a + suc n) (omega arith))))

-- ---- how many marks are set of other months than these

abbrev marked_else : List Bool → ℕ → ℕ → ℕ → ℕ
marked_else own a n k = only (get_or own k false and not (among a n k)) 1

abbrev others : List Bool → ℕ → ℕ → ℕ
others own a n = sum_to 12 (marked_else own a n)

others-unset : (own : List Bool) (a n : ℕ) → ((k : ℕ) → get_or own k false ≡ false) → others own a n ≡ 0
others-unset own a n h = sum_to-same 12 _ (λ k. 0) (λ k _. ap (λ (t : Bool). only t 1) (and_no (not (among a n k)) (h k))) ∙ sum_to-zero 12

others-all : (own : List Bool) (a : ℕ) → length own ≡ 12 → others own a 0 ≡ how_many own
others-all own a h = sum_to-same 12 _ (marked own) (λ k _. rw (among_none a k, and-true (get_or own k false))) ∙ ap (λ (n : ℕ). sum_to n (marked own)) (sym h) ∙ sym (count-places own)

-- with one month more its mark is no longer counted
others-on : (own : List Bool) (a n m : ℕ) → m ≡ a + n → m < 12 → others own a n ≡ others own a (suc n) + marked own m
others-on own a n m e h =
    let one : ℕ → ℕ = λ k. only (eqb (0 + k) m) (marked own k) in
    sum_to-same 12 _ (λ k. marked_else own a (suc n) k + one k) (λ k _. each k)
    ∙ sum_to-add 12 (marked_else own a (suc n)) one
    ∙ ap (λ (x : ℕ). others own a (suc n) + x) (sum_to-pick 12 0 m m (marked own) h (omega arith))
  where
    each : (k : ℕ) → marked_else own a n k ≡ marked_else own a (suc n) k + only (eqb (0 + k) m) (marked own k)
    each k = by_eqb (0 + k) m (λ t. marked_else own a n k ≡ marked_else own a (suc n) k + only t (marked own k))
        (λ z. rw (among-not-yet a n k (omega arith), among-now a n k (omega arith), and-true (get_or own k false), and-not (get_or own k false) {b = false} refl) (omega arith))
        (λ z. rw (among-other a n k (omega arith)) (omega arith))

-- ---- before the fresh start nobody was short

no-mark : (n i k : ℕ) → get_or (get_or (replicate n (replicate 12 false)) i []) k false ≡ false
no-mark zero i k = refl
no-mark (suc n) zero k = get_d-falses 12 k
no-mark (suc n) (suc i) k = no-mark n i k

pub fresh-short : (b : Basin) (hs : List MonthRun) (i : ℕ) → short_now (fresh_start b) hs i ≡ short_in i (since_october hs)
unfolding short_now short_before fresh_start fresh_carried
fresh-short b hs i =
    let None = others-unset (shorts_of (fresh_carried b) i) 0 (length hs) (no-mark (length b.rights) i) in
    omega (arith, ap (only (not (any_october hs))) None, only_none (not (any_october hs)))

-- ---- the months of the present water year, with one more

any-on : (hs : List MonthRun) (h : MonthRun) → any_october (hs ++ (h ∷ [])) ≡ (is_october h || any_october hs)
unfolding any_october
any-on [] h = refl
any-on (g ∷ hs) h = rw (any-on hs h) (go (is_october g) (is_october h))
  where
    go : (t u : Bool) → (t || (u || any_october hs)) ≡ (u || (t || any_october hs))
    go true true = refl
    go true false = refl
    go false u = refl

since-on : (hs : List MonthRun) (h : MonthRun) → since_october (hs ++ (h ∷ [])) ≡ cond (is_october h) (h ∷ []) (since_october hs ++ (h ∷ []))
unfolding since_october any_october
since-on [] h = go (is_october h)
  where
    go : (t : Bool) → (h ∷ []) ≡ cond t (h ∷ []) (h ∷ [])
    go true = refl
    go false = refl
since-on (g ∷ hs) h = rw (any-on hs h, since-on hs h) (go (is_october h) (any_october hs) (since_october hs))
  where
    go : (t o : Bool) (l : List MonthRun) → cond (t || o) (cond t (h ∷ []) (l ++ (h ∷ []))) (g ∷ (hs ++ (h ∷ []))) ≡ cond t (h ∷ []) (cond o l (g ∷ hs) ++ (h ∷ []))
    go true o l = refl
    go false true l = refl
    go false false l = refl

-- without an October they are all
since-all : (hs : List MonthRun) → any_october hs ≡ false → since_october hs ≡ hs
unfolding since_october any_october
since-all [] e = refl
since-all (g ∷ hs) e = rw (go (is_october g) (any_october hs) e)
  where
    go : (t o : Bool) → (t || o) ≡ false → o ≡ false
    go true o e = absurd-bool refl e
    go false o e = e

-- November comes after October only
next-november : (m : ℕ) → eqb (next_month m) 1 ≡ eqb m 0
unfolding next_month
next-november m = by_eqb m 0 (λ t. eqb (next_month m) 1 ≡ t) (λ e. rw e)
    (λ e. eqb-other (next_month m) 1 (by_eqb m 11 (λ t. cond t 0 (suc m) ≢ 1) (λ _. omega arith) (λ _. omega (arith, e))))

-- ---- the marks of right i while a water year runs: before the months hs, which began with month a, they were own, and m is the next month

abbrev short_by : ℕ → MonthRun → Bool
short_by i h = is_short (grant_at h.turns i)

record Running (i a : ℕ) (own : List Bool) (hs : List MonthRun) (m : ℕ) (marks : List Bool) : Type 0 where
  in-year : m < 12
  next : 0 < m → m ≡ a + length hs
  twelve : length marks ≡ 12
  rest : (k : ℕ) → a + length hs ≤ k → get_or marks k false ≡ get_or own k false
  counted : how_many marks ≡ others own a (length hs) + short_in i hs

module _ (i a : ℕ) (own : List Bool) where
  running_none : a < 12 → length own ≡ 12 → Running i a own [] a own
  unfolding short_in sum_over
  running_none h l = record { in-year = h; next = λ _. omega arith; twelve = l; rest = λ k _. refl; counted = omega (arith, others-all own a l) }

  running-on : (hs : List MonthRun) (m : ℕ) (marks : List Bool) (h : MonthRun) → m ≡ a + length hs → Running i a own hs m marks
      → Running i a own (hs ++ (h ∷ [])) (next_month m) (set marks m (short_by i h))
  unfolding next_month short_in
  running-on hs m marks h e r =
      let n : length (hs ++ (h ∷ [])) ≡ suc (length hs) = omega (arith, length-append hs (h ∷ [])) in
      record {
        in-year = by_eqb m 11 (λ t. cond t 0 (suc m) < 12) (λ z. omega arith) (λ z. omega (arith, z, r.in-year));
        next = by_eqb m 11 (λ t. 0 < cond t 0 (suc m) → cond t 0 (suc m) ≡ a + length (hs ++ (h ∷ []))) (λ z p. absurd (omega arith)) (λ z p. omega (arith, e, n));
        twelve = length-set marks m (short_by i h) ∙ r.twelve;
        rest = λ k p. get_or-set_other marks m k (short_by i h) false (omega (arith, e, n, p)) ∙ r.rest k (omega (arith, n, p));
        counted = omega (
          arith,
          count_set marks m (short_by i h) (omega (arith, r.twelve, r.in-year)),
          ap (λ (t : Bool). only t 1) (r.rest m (omega (arith, e))),
          r.counted,
          others-on own a (length hs) m e r.in-year,
          ap (others own a) n,
          sum-append (λ (g : MonthRun). only (short_by i g) 1) hs h,
        );
      }

-- ---- what a month does to the marks

abbrev unmarked : List Bool
unmarked = replicate 12 false

module _ (b : Basin) (c : Carried) (runoff arrived : List ℕ) where
  abbrev run : MonthRun
  run = month b c runoff arrived

  month-october : is_october run ≡ eqb c.m 0
  unfolding is_october month
  month-october = next-november c.m

  month_marks : (i : ℕ) → i < length b.rights → shorts_of run.carried i ≡ set (cond (eqb c.m 0) unmarked (shorts_of c i)) c.m (short_by i run)
  unfolding month noted opening_shorts
  month_marks i l = tab-at _ (length b.rights) i [] l ∙ ap (λ (x : List Bool). set x c.m (short_by i run)) (go (eqb c.m 0))
    where
      go : (t : Bool) → get_or (cond t (replicate (length b.rights) unmarked) c.shorts) i [] ≡ cond t unmarked (shorts_of c i)
      go true = get_or-replicate (length b.rights) i unmarked [] l
      go false = refl

-- ---- the present water year of a tally begins at the start or, once an October was run, with no marks

abbrev Year : Start → ℕ → Bool → List MonthRun → ℕ → List Bool → Type 0
Year s i october = Running i (cond october 0 s.carried.m) (cond october unmarked (shorts_of s.carried i))

year-on : (s : Start) (i : ℕ) (o : Bool) (hs : List MonthRun) (m : ℕ) (marks : List Bool) (h : MonthRun) → Year s i o hs m marks
    → Year s i (eqb m 0 || o) (cond (eqb m 0) (h ∷ []) (hs ++ (h ∷ []))) (next_month m) (set (cond (eqb m 0) unmarked marks) m (short_by i h))
year-on s i o hs m marks h y = by_eqb m 0 (λ t. Year s i (t || o) (cond t (h ∷ []) (hs ++ (h ∷ []))) (next_month m) (set (cond t unmarked marks) m (short_by i h)))
    (λ e. rw e (running-on i 0 unmarked [] 0 unmarked h refl (running_none i 0 unmarked (omega arith) (length-replicate 12 false))))
    (λ e. running-on i _ _ hs m marks h (y.next (omega (arith, e))) y)

module _ (b : Basin) (s : Start) (i : ℕ) (l : i < length b.rights) where
  abbrev TallyYear : Tally → Type 0
  TallyYear t = Year s i (any_october t.months) (since_october t.months) t.carried.m (shorts_of t.carried i)

  begun-year : Possible b s → TallyYear (begun s)
  unfolding begun any_october since_october
  begun-year p = running_none i s.carried.m (shorts_of s.carried i) p.month_in_year (p.shorts_months i l)

  accept-year : (t : Tally) (c : Call) → TallyYear t → TallyYear (accept b t c)
  unfolding accept next_run month
  accept-year t c y =
      let arrived : List ℕ = arriving b t.start t.months in
      let h : MonthRun = month b t.carried c.runoff arrived in
      rw (any-on t.months h, since-on t.months h, month-october b t.carried c.runoff arrived, month_marks b t.carried c.runoff arrived i l)
      (year-on s i (any_october t.months) (since_october t.months) t.carried.m (shorts_of t.carried i) h y)

  call-year : (t : Tally) (c : Call) → TallyYear t → TallyYear (after_call b t c)
  unfolding after_call after_judged
  call-year t c y = go (refusal b c)
    where
      go : (v : Option Answer) → TallyYear (after_judged v b t c)
      go None = accept-year t c y
      go (Some a) = y

  calls-year : (t : Tally) (cs : List Call) → TallyYear t → TallyYear (after_calls b t cs)
  unfolding after_calls
  calls-year t [] y = y
  calls-year t (c ∷ cs) y = calls-year (after_call b t c) cs (call-year t c y)

  year-short : (t : Tally) → TallyYear t → how_many (shorts_of t.carried i) ≡ short_now s t.months i
  unfolding short_now short_before
  year-short t y = omega (arith, y.counted, go (any_october t.months) refl)
    where
      a : ℕ
      a = s.carried.m

      own : List Bool
      own = shorts_of s.carried i

      go : (o : Bool) → any_october t.months ≡ o → others (cond o unmarked own) (cond o 0 a) (length (since_october t.months)) ≡ only (not o) (others own a (length t.months))
      go true e = others-unset unmarked 0 (length (since_october t.months)) (get_d-falses 12)
      go false e = ap (λ (hs : List MonthRun). others own a (length hs)) (since-all t.months e)

  pub calls-short : Possible b s → (cs : List Call) → how_many (shorts_of (after_calls b (begun s) cs).carried i) ≡ short_now s (after_calls b (begun s) cs).months i
  calls-short p cs = year-short (after_calls b (begun s) cs) (calls-year (begun s) cs (begun-year p))
