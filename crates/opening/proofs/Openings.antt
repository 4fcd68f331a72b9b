-- The river before the first right: all rows together have sent what the rules' opening has. Assumes nothing.
use mathlib.Core.Bool.{Bool, true, false}
use mathlib.Core.Logic.{◌≢◌}
use mathlib.Core.List.{List}
use mathlib.Core.Path.{◌≡◌, refl, sym, ap, ◌∙◌, subst}
use Prim.Native.Nat.{ℕ, zero, suc, ◌+◌, ◌*◌, ◌≤◌, ◌<◌}
use native.Mathlib.Decide.{dec_lt}
use native.Mathlib.Omega.{arith}
use borrow.Author.Tests.{lt-leb}
use lib.Dec.{leb, eqb}
use lib.ListN.{length, get_or}
use Rattle.general.specs.Sums.{sum_to, only}
use Rattle.general.specs.Tables.{tab}
use Rattle.general.specs.Tests.{has}
use Rattle.general.proofs.Sums.{sum_to-same, sum_to-add, sum_to-zero, sum_to-one, at-most-sum}
use Rattle.general.proofs.Tables.{tab-at, tab-same}
use Rattle.general.proofs.Tests.{eqb-other, by_eqb, eq_of, leb_yes, only-le, only_none, only_sum}
use Rattle.rules.specs.Basin.{Basin, rows}
use Rattle.rules.specs.Path.{path}
use Rattle.rules.specs.Month.{gathered, opening_levels}
use Rattle.records.specs.Table.{table_of, path_by, Downhill}
use Rattle.records.proofs.Table.{table-path, next-is, next-none, by-self, on-end, on_below}
use Rattle.river.specs.Arrays.{levels_of, level, RiverOk}
use Rattle.river.proofs.Table.{by-off}
use Rattle.places.specs.Board.{due_at}
use Rattle.opening.specs.Opening.{most_inflow, inflow, sent_to, CanSend, Sent, CanGather, Gathered}

sent-none : (t runoff bd : List ℕ) (i : ℕ) → sent_to t runoff bd 0 i ≡ 0
unfolding sent_to sum_to
sent-none t runoff bd i = refl

sent-more : (t runoff bd : List ℕ) (k i : ℕ) → sent_to t runoff bd (suc k) i ≡ sent_to t runoff bd k i + only (has i (path_by t k)) (inflow runoff bd k)
unfolding sent_to sum_to
sent-more t runoff bd k i = refl

-- no row is sent more than all rows' inflow
sent-most : (t runoff bd : List ℕ) → ((j : ℕ) → inflow runoff bd j ≤ most_inflow) → (k i : ℕ) → sent_to t runoff bd k i ≤ k * most_inflow
sent-most t runoff bd h zero i = omega (arith, sent-none t runoff bd i)
sent-most t runoff bd h (suc k) i = omega (arith, sent-more t runoff bd k i, sent-most t runoff bd h k i, only-le (has i (path_by t k)) (inflow runoff bd k), h k)

-- ---- all rows

-- what row i will have of what stands at row r, k rows being done
abbrev waiting : List ℕ → List ℕ → ℕ → ℕ → ℕ → ℕ
waiting t f k i r = only (has i (path_by t r)) (only (leb k r) (get_or f r 0))

-- the first k rows have all that is theirs; what the first k rows send to a later row stands at later rows on the way there
pub record Gathering (t runoff bd : List ℕ) (k : ℕ) (f a : List ℕ) : Type 0 where
  pub done : (i : ℕ) → i < k → get_or f i 0 ≡ sent_to t runoff bd k i
  pub done₂ : (i : ℕ) → i < k → get_or a i 0 ≡ sent_to t runoff bd k i
  pub coming : (i : ℕ) → k ≤ i → i < 64 → sum_to 64 (waiting t f k i) ≡ sent_to t runoff bd k i
  pub beyond : (i : ℕ) → length runoff ≤ i → i < 64 → get_or f i 0 ≡ 0
  pub beyond₂ : (i : ℕ) → k ≤ i → get_or a i 0 ≡ 0

module _ (t runoff bd f₀ a₀ : List ℕ) (c : CanGather t runoff bd f₀ a₀) where
  pub gathering-none : Gathering t runoff bd 0 f₀ a₀
  gathering-none = record {
    done = λ i h. absurd (omega arith);
    done₂ = λ i h. absurd (omega arith);
    coming = λ i h l.
        sum_to-same 64 (waiting t f₀ 0 i) (λ r. 0) (λ r _. ap (λ (x : ℕ). only (has i (path_by t r)) (only (leb 0 r) x)) (c.empty r) ∙ ap (only (has i (path_by t r))) (only_none (leb 0 r)) ∙ only_none (has i (path_by t r)))
        ∙ sum_to-zero 64
        ∙ sym (sent-none t runoff bd i);
    beyond = λ i h l. c.empty i;
    beyond₂ = λ i h. c.empty₂ i;
  }

  -- the step of row k
  module _ (down : Downhill t) (k : ℕ) (hk : k < length runoff) (f a : List ℕ) (g : Gathering t runoff bd k f a) where
    low : k < 64
    low = omega (arith, c.sheet)

    -- all that is the row's has come
    come : get_or f k 0 ≡ sent_to t runoff bd k k
    come = sym (sum_to-one 64 k (get_or f k 0) low) ∙ sym (sum_to-same 64 (waiting t f k k) (λ r. only (eqb k r) (get_or f k 0)) each) ∙ g.coming k (omega arith) low
      where
        off : (r : ℕ) → r < 64 → k ≢ r → Dec (r < k) → waiting t f k k r ≡ 0
        off r h n (yes l) = ap (λ (s : Bool). only (has k (path_by t r)) (only s (get_or f r 0))) (lt-leb k r l) ∙ only_none (has k (path_by t r))
        off r h n (no l) = ap (λ (s : Bool). only s (only (leb k r) (get_or f r 0))) (by-off t down k r h (omega (arith, n, l)))

        each : (r : ℕ) → r < 64 → waiting t f k k r ≡ only (eqb k r) (get_or f k 0)
        each r h = by_eqb k r (λ s. waiting t f k k r ≡ only s (get_or f k 0))
            (λ e. rw (← e) (ap (λ (s : Bool). only s (only (leb k k) (get_or f k 0))) (by-self t down k low) ∙ ap (λ (s : Bool). only s (get_or f k 0)) (leb_yes k k (omega arith))))
            (λ n. off r h n (dec_lt r k))

    flow-small : (i : ℕ) → i < 64 → Dec (i < k) → get_or f i 0 ≤ 64 * most_inflow
    flow-small i h (yes l) = omega (arith, g.done i l, sent-most t runoff bd c.small k i, low)
    flow-small i h (no l) =
        let e : waiting t f k i i ≡ get_or f i 0 = ap (λ (s : Bool). only s (only (leb k i) (get_or f i 0))) (by-self t down i h) ∙ ap (λ (s : Bool). only s (get_or f i 0)) (leb_yes k i (omega arith)) in
        omega (arith, e, at-most-sum 64 (waiting t f k i) i h, g.coming i (omega arith) h, sent-most t runoff bd c.small k i, low)

    module _ (d : ℕ) (e : d ≡ inflow runoff bd k) where
      pub can-send : CanSend k d f a
      can-send = record {
        on = low;
        small = λ i h. flow-small i h (dec_lt i k);
        more = omega (arith, e, c.small k);
      }

      abbrev x : ℕ
      x = get_or f k 0 + d

      abbrev q : ℕ
      q = get_or t k 0

      -- the row below is a later one
      later : (r : ℕ) → r ≤ k → eqb q r ≡ false
      later r h = eqb-other q r (λ z. go z (dec_lt q 64))
        where
          go : q ≡ r → Dec (q < 64) → ⊥
          go z (yes l) = omega (arith, z, h, down.later k low l)
          go z (no l) = omega (arith, z, h, low)

      sent : (i : ℕ) → sent_to t runoff bd (suc k) i ≡ sent_to t runoff bd k i + only (has i (path_by t k)) d
      sent i = sent-more t runoff bd k i ∙ ap (λ (v : ℕ). sent_to t runoff bd k i + only (has i (path_by t k)) v) (sym e)

      -- where the row below is on the way to row i, so is the row
      on-way : (i : ℕ) → i ≢ k → q < 64 → has i (path_by t k) ≡ has i (path_by t q)
      on-way i n l = on_below t down k i low q (sym (next-is t k q refl l)) n

      passed_on : (i : ℕ) → i ≢ k → Dec (q < 64) → sum_to 64 (λ r. only (eqb q r) (only (has i (path_by t k)) x)) ≡ only (has i (path_by t k)) x
      passed_on i n (yes l) = sum_to-one 64 q (only (has i (path_by t k)) x) l
      passed_on i n (no l) =
          let z : has i (path_by t k) ≡ false = on-end t down k i low (sym (next-none t k q refl (omega arith))) n in
          rw z (sum_to-same 64 (λ r. only (eqb q r) 0) (λ r. 0) (λ r _. only_none (eqb q r)) ∙ sum_to-zero 64)

      module _ (f' a' : List ℕ) (z : Sent t k d f a f' a') where
        moved : (i : ℕ) → k < i → (r : ℕ) → r < 64
            → waiting t f' (suc k) i r + only (eqb k r) (only (has i (path_by t k)) (get_or f k 0)) ≡ waiting t f k i r + only (eqb q r) (only (has i (path_by t k)) x)
        moved i h r l = by_eqb k r (λ s. waiting t f' (suc k) i r + only s (only (has i (path_by t k)) (get_or f k 0)) ≡ waiting t f k i r + only (eqb q r) (only (has i (path_by t k)) x))
            (λ w. rw (← w, later k (omega arith), lt-leb (suc k) k (omega arith), leb_yes k k (omega arith)) (omega (arith, only_none (has i (path_by t k)))))
            (λ w. side w (dec_lt r k))
          where
            below : (s : Bool) (u v : ℕ) → (s ≡ true → has i (path_by t r) ≡ has i (path_by t k)) → v ≡ u + only s x → only (has i (path_by t r)) v + 0 ≡ only (has i (path_by t r)) u + only s (only (has i (path_by t k)) x)
            below true u v w m = rw (m, ← (w refl)) (omega (arith, only_sum (has i (path_by t r)) u x))
            below false u v w m = let m₂ : v ≡ u = omega (arith, m) in rw m₂ refl

            side : k ≢ r → Dec (r < k) → waiting t f' (suc k) i r + 0 ≡ waiting t f k i r + only (eqb q r) (only (has i (path_by t k)) x)
            side w (yes m) = rw (later r (omega arith), lt-leb (suc k) r (omega arith), lt-leb k r m) refl
            side w (no m) = rw (leb_yes (suc k) r (omega (arith, w, m)), leb_yes k r (omega (arith, m)))
                (below (eqb q r) (get_or f r 0) (get_or f' r 0) (λ y. let v : q ≡ r = eq_of y in sym (ap (λ (p : ℕ). has i (path_by t p)) v) ∙ sym (on-way i (λ u. omega (arith, u, h)) (omega (arith, v, l)))) (z.other r l (λ u. w (sym u))))

        coming-more : (i : ℕ) → k < i → i < 64 → sum_to 64 (waiting t f' (suc k) i) ≡ sent_to t runoff bd (suc k) i
        coming-more i h l =
            let n : i ≢ k = λ u. omega (arith, u, h) in
            let s₁ = sum_to-add 64 (waiting t f' (suc k) i) (λ r. only (eqb k r) (only (has i (path_by t k)) (get_or f k 0))) in
            let s₂ = sum_to-add 64 (waiting t f k i) (λ r. only (eqb q r) (only (has i (path_by t k)) x)) in
            let s₃ = sum_to-same 64 (λ r. waiting t f' (suc k) i r + only (eqb k r) (only (has i (path_by t k)) (get_or f k 0))) (λ r. waiting t f k i r + only (eqb q r) (only (has i (path_by t k)) x)) (moved i h) in
            omega (arith, s₁, s₂, s₃, sum_to-one 64 k (only (has i (path_by t k)) (get_or f k 0)) low, passed_on i n (dec_lt q 64), only_sum (has i (path_by t k)) (get_or f k 0) d, sent i, g.coming i (omega arith) l)

        -- the row's own, and that of the rows before it
        own : get_or f k 0 + d ≡ sent_to t runoff bd (suc k) k
        own = let y : only (has k (path_by t k)) d ≡ d = ap (λ (s : Bool). only s d) (by-self t down k low) in omega (arith, y, come, sent k)

        past : (i : ℕ) → i < k → sent_to t runoff bd k i ≡ sent_to t runoff bd (suc k) i
        past i h = let y : only (has i (path_by t k)) d ≡ 0 = ap (λ (s : Bool). only s d) (by-off t down i k low h) in omega (arith, y, sent i)

        kept : (i : ℕ) → i < 64 → i ≢ k → eqb q i ≡ false → get_or f' i 0 ≡ get_or f i 0
        kept i h n y = z.other i h n ∙ rw y (omega arith)

        done_more : (i : ℕ) → i < suc k → get_or f' i 0 ≡ sent_to t runoff bd (suc k) i
        done_more i h = by_eqb i k (λ _. get_or f' i 0 ≡ sent_to t runoff bd (suc k) i)
            (λ y. rw y (z.here ∙ own))
            (λ y. kept i (omega (arith, h, low)) y (later i (omega arith)) ∙ g.done i (omega (arith, y, h)) ∙ past i (omega (arith, y, h)))

        done-more₂ : (i : ℕ) → i < suc k → get_or a' i 0 ≡ sent_to t runoff bd (suc k) i
        done-more₂ i h = by_eqb i k (λ _. get_or a' i 0 ≡ sent_to t runoff bd (suc k) i)
            (λ y. rw y (z.here₂ ∙ own))
            (λ y. z.other₂ i y ∙ g.done₂ i (omega (arith, y, h)) ∙ past i (omega (arith, y, h)))

        -- no row past the sheet is a row below
        not-past : (i : ℕ) → length runoff ≤ i → i < 64 → eqb q i ≡ false
        not-past i h l = eqb-other q i (λ y.
            let m : q < 64 = omega (arith, y, l) in
            let n : q ≢ k = λ u. absurd (omega (arith, u, y, h, hk)) in
            let w = c.within k q hk (on-way q n m ∙ by-self t down q m) in
            omega (arith, w, y, h))

        step : Gathering t runoff bd (suc k) f' a'
        step = record {
          done = done_more;
          done₂ = done-more₂;
          coming = λ i h l. coming-more i (omega arith) l;
          beyond = λ i h l. kept i l (λ u. omega (arith, u, h, hk)) (not-past i h l) ∙ g.beyond i h l;
          beyond₂ = λ i h. z.other₂ i (λ u. omega (arith, u, h)) ∙ g.beyond₂ i (omega arith);
        }

        pub gathering-more : Gathering t runoff bd (k + 1) f' a'
        gathering-more = subst (λ (n : ℕ). Gathering t runoff bd n f' a') (omega arith) step

  -- past the sheet nothing is sent
  sent-past : (i : ℕ) → length runoff ≤ i → sent_to t runoff bd (length runoff) i ≡ 0
  unfolding sent_to
  sent-past i h = sum_to-same (length runoff) (λ j. only (has i (path_by t j)) (inflow runoff bd j)) (λ j. 0) (λ j l. off j l (has i (path_by t j)) refl) ∙ sum_to-zero (length runoff)
    where
      off : (j : ℕ) → j < length runoff → (s : Bool) → has i (path_by t j) ≡ s → only s (inflow runoff bd j) ≡ 0
      off j l true e = absurd (omega (arith, c.within j i l e, h))
      off j l false e = refl

  pub gathered-all : (f a : List ℕ) → Gathering t runoff bd (length runoff) f a → Gathered t runoff bd (length runoff) f a
  gathered-all f a g = record {
    flow = λ i h. at i (dec_lt i (length runoff)) f (g.done i) (λ l. g.beyond i l h);
    available = λ i h. at i (dec_lt i (length runoff)) a (g.done₂ i) (g.beyond₂ i);
  }
    where
      at : (i : ℕ) → Dec (i < length runoff) → (l : List ℕ) → (i < length runoff → get_or l i 0 ≡ sent_to t runoff bd (length runoff) i) → (length runoff ≤ i → get_or l i 0 ≡ 0) → get_or l i 0 ≡ sent_to t runoff bd (length runoff) i
      at i (yes h) l m n = m h
      at i (no h) l m n = n (omega arith) ∙ sym (sent-past i (omega arith))

  -- what is gathered leaves room for every turn of the month
  pub gathered-river : (f a : List ℕ) → Gathered t runoff bd (length runoff) f a → RiverOk f a 1000000000000000000
  gathered-river f a g = record {
    room = λ i h. omega (arith, g.flow i h, sent-most t runoff bd c.small (length runoff) i, c.sheet);
    within = λ i h. omega (arith, g.flow i h, g.available i h);
  }

-- ---- the rules' opening

module _ (b : Basin) (t : List ℕ) (table : t ≡ table_of b.stations) (few : rows b ≤ 64) (runoff bd : List ℕ) (sheet : length runoff ≡ rows b) where
  sent-gathered : (i : ℕ) → i < rows b → sent_to t runoff bd (length runoff) i ≡ gathered b runoff (tab (rows b) (λ u. due_at bd u 1)) i
  unfolding sent_to gathered
  sent-gathered i h =
      ap (λ (n : ℕ). sum_to n (λ j. only (has i (path_by t j)) (inflow runoff bd j))) sheet
      ∙ sum_to-same (rows b) (λ j. only (has i (path_by t j)) (inflow runoff bd j)) (λ j. only (has i (path b.stations j)) (get_or runoff j 0 + get_or (tab (rows b) (λ u. due_at bd u 1)) j 0))
      (λ j o.
      ap (λ (p : List ℕ). only (has i p) (inflow runoff bd j)) (ap (λ (x : List ℕ). path_by x j) table ∙ table-path b.stations few j o)
      ∙ ap (λ (x : ℕ). only (has i (path b.stations j)) (get_or runoff j 0 + x)) (sym (tab-at (λ u. due_at bd u 1) (rows b) j 0 o)))

  pub opening-is : (f a : List ℕ) → Gathered t runoff bd (length runoff) f a → levels_of (rows b) f a ≡ opening_levels b runoff (tab (rows b) (λ u. due_at bd u 1))
  unfolding levels_of opening_levels
  opening-is f a g = tab-same (rows b) _ _
      (λ i h.
      let o : i < 64 = omega (arith, h, few) in
      ap (λ (x : ℕ). level x (get_or a i 0)) (g.flow i o ∙ sent-gathered i h) ∙ ap (λ (x : ℕ). level (gathered b runoff (tab (rows b) (λ u. due_at bd u 1)) i) x) (g.available i o ∙ sent-gathered i h))
