-- A month from its first step to its last, at what the code has in hand. Assumes nothing.
use mathlib.Core.Bool.{Bool, true, false, cond}
use mathlib.Core.List.{List, []}
use mathlib.Core.Path.{◌≡◌, refl, sym, ap, ◌∙◌, subst}
use Prim.Native.Nat.{ℕ, suc, ◌≤◌, ◌<◌}
use native.Mathlib.Decide.{dec_lt}
use native.Mathlib.Omega.{arith}
use lib.Dec.{ltb, eqb}
use lib.ListN.{length, get_or, set, replicate, get_or-append, get_or-eq_default}
use Rattle.general.specs.Sums.{sum}
use Rattle.general.specs.Tables.{tab}
use Rattle.general.proofs.Lists.{all-at-place, get_d-zeros}
use Rattle.general.proofs.Tables.{tab-length, tab-at}
use Rattle.general.proofs.Tests.{cleared-le, only-le, by_eqb}
use Rattle.rules.specs.Accepted.{GoodPattern, Accepted}
use Rattle.rules.specs.Basin.{Basin, rows}
use Rattle.rules.specs.Month.{opening, next_month}
use Rattle.rules.specs.Theorems.{most_due}
use Rattle.records.specs.Records.{rows_of, stations_of, reservoir_count, right_count, pattern_count, pattern_of, patterns_of, bodies}
use Rattle.records.specs.declared.bodies.Bodies.{Bodies}
use Rattle.records.specs.Bodies.{basin_in}
use Rattle.records.specs.Table.{table_of, sums_of, sixteen_sums}
use Rattle.turns.specs.Lines.{CanServe, Served}
use Rattle.closing.specs.Losses.{Lost}
use Rattle.closing.specs.Noting.{WordsNoted}
use Rattle.opening.specs.Opening.{most_inflow, inflow, CanGather, Gathered, CanOpen}
use Rattle.places.specs.Board.{Roomy, month_place, storage_place, dues_of, due_place, words_from, board_length, month_at, storage_at, marks_at, taken_at, due_at, word_at}
use Rattle.river.specs.Setting.{SettingOf}
use Rattle.river.specs.declared.setting.Setting.{Setting}
use Rattle.turns.specs.State.{state_of, Within}
use Rattle.turns.proofs.Facts.{path-in}
use Rattle.opening.proofs.Openings.{gathered-river, opening-is}
use Rattle.places.specs.Report.{rows_end}
use Rattle.places.proofs.BoardPlaces.{by-places}
use Rattle.boards.specs.Board.{carried_of, possible}
use Rattle.closing.specs.Closing.{CanEnd, Ended}
use Rattle.month.specs.Run.{CanRun, Ran}
use Rattle.records.proofs.Decoded.{patterns-are, pattern-is, bodies-rows, bodies-reservoirs, bodies-rights}
use Rattle.boards.proofs.Bodies.{marks-small}
use Rattle.month.proofs.Opened.{opened, opened-length, opened-month, opened-storage, opened-marks, opened-taken, opened-due, opened-short, state-opened}
use Rattle.boards.proofs.Bounds.{month-most, storage-most, marks-most, taken-most, due_most, word_small, no_due, capacity_most, limit_most}
use Rattle.month.proofs.Words.{shorts-told, word_fits}
use Rattle.month.proofs.Closing.{board-left}
use Rattle.month.proofs.Reporting.{report-left}

-- the sums of the file's patterns are the first of the sixteen
sixteen : (ps : List ℕ) (k : ℕ) → k < length (patterns_of ps) → get_or (sixteen_sums ps) k [] ≡ sums_of (get_or (patterns_of ps) k [])
unfolding sixteen_sums
sixteen ps k h =
    let sums : ℕ → List ℕ = λ p. sums_of (pattern_of ps p) in
    let l : k < pattern_count ps = omega (arith, h, patterns-are ps) in
    get_or-append (tab (pattern_count ps) sums) _ [] k (omega (arith, l, tab-length sums (pattern_count ps))) ∙ tab-at sums (pattern_count ps) k [] l ∙ ap sums_of (sym (pattern-is ps k l))

-- ---- what each place of a possible board holds at most

module _ (b : Basin) (acc : Accepted b) (bd : List ℕ) (can : possible b bd ≡ true) (size : length bd ≡ board_length) where
  due-small : (w k : ℕ) → w < 64 → k < 11 → due_at bd w (suc k) ≤ 2_816_000_000_000
  due-small w k h l = omega (arith, due_most b bd can w k h l, only-le (ltb w (rows b)) (most_due (suc k)))

  taken-small : (i : ℕ) → i < 256 → taken_at bd i ≤ 2_000_000_000
  taken-small i h = omega (arith, taken-most b bd can i h, limit_most b acc i)

  storage-small : (v : ℕ) → v < 8 → storage_at bd v ≤ 2_000_000_000
  storage-small v h = omega (arith, storage-most b bd can v h, capacity_most b acc v)

  marks-low : marks_at bd ≤ 256
  marks-low = omega (arith, marks-most b bd can, marks-small (length b.reservoirs) acc.few_reservoirs)

  -- nothing is due where the basin has no row
  none-due : (p : ℕ) → dues_of (rows b) ≤ p → p < words_from → get_or bd p 0 ≡ 0
  none-due p h l = by-places (λ p. dues_of (rows b) ≤ p → p < words_from → get_or bd p 0 ≡ 0)
      (λ o _. absurd (omega (arith, o)))
      (λ v k o _. absurd (omega (arith, k, o)))
      (λ o _. absurd (omega (arith, o)))
      (λ i k o _. absurd (omega (arith, k, o)))
      (λ w k j m o _. no_due b bd can w k j m (omega (arith, m, o)))
      (λ i k o j. absurd (omega (arith, j)))
      p (omega (arith, l)) h l

  -- no number of the board is large, wherever it is read
  board-low : (p : ℕ) → get_or bd p 0 ≤ 2_816_000_000_000
  board-low p = pick (dec_lt p board_length)
    where
      told : (p : ℕ) → p < board_length → get_or bd p 0 ≤ 2_816_000_000_000
      told = by-places (λ p. get_or bd p 0 ≤ 2_816_000_000_000)
          (omega (arith, month-most b bd can))
          (λ v l. omega (arith, storage-small v l))
          (omega (arith, marks-low))
          (λ i l. omega (arith, taken-small i l))
          due-small
          (λ i l. omega (arith, word_small b bd can i l))

      pick : Dec (p < board_length) → get_or bd p 0 ≤ 2_816_000_000_000
      pick (yes h) = told p h
      pick (no h) = omega (arith, get_or-eq_default bd 0 {n = p} (omega (arith, h, size)))

  -- the board as the month opens

  opened-small : (p : ℕ) → get_or (opened bd) p 0 ≤ 1_000_000_000_000_000_000
  opened-small p = pick (dec_lt p board_length)
    where
      next : (w k : ℕ) → w < 64 → k < 11 → cond (eqb (suc k) 11) 0 (due_at bd w (suc (suc k))) ≤ 2_816_000_000_000
      next w k l m = by_eqb (suc k) 11 (λ t. cond t 0 (due_at bd w (suc (suc k))) ≤ 2_816_000_000_000) (λ e. omega arith) (λ e. due-small w (suc k) l (omega (arith, m, e)))

      told : (p : ℕ) → p < board_length → get_or (opened bd) p 0 ≤ 1_000_000_000_000_000_000
      told = by-places (λ p. get_or (opened bd) p 0 ≤ 1_000_000_000_000_000_000)
          (omega (arith, opened-month bd, month-most b bd can))
          (λ v l. omega (arith, opened-storage bd v l, storage-small v l))
          (omega (arith, opened-marks bd, cleared-le (eqb (month_at bd) 0) (marks_at bd), marks-low))
          (λ i l. omega (arith, opened-taken bd i l, cleared-le (eqb (month_at bd) 0) (taken_at bd i), taken-small i l))
          (λ w k l m. omega (arith, opened-due bd w k l m, next w k l m))
          (λ i l. omega (arith, opened-short bd i l, cleared-le (eqb (month_at bd) 0) (word_at bd i), word_small b bd can i l))

      pick : Dec (p < board_length) → get_or (opened bd) p 0 ≤ 1_000_000_000_000_000_000
      pick (yes h) = told p h
      pick (no h) = omega (arith, get_or-eq_default (opened bd) 0 {n = p} (omega (arith, h, opened-length bd)))

  opened-within : Within b (opened bd)
  opened-within = record {
    storages = λ v h. let l : v < 8 = omega (arith, h, acc.few_reservoirs) in omega (arith, opened-storage bd v l, storage-most b bd can v l);
    taken = λ i h. let l : i < 256 = omega (arith, h, acc.few_rights) in omega (arith, opened-taken bd i l, cleared-le (eqb (month_at bd) 0) (taken_at bd i), taken-most b bd can i l);
  }

-- ---- the steps

module _ (w : Bodies) (runoff bd rp : List ℕ) (c : CanRun (basin_in w) runoff bd rp) (size : length bd ≡ board_length) where
  pub run-rows : rows_of w.stations.now ≤ 64
  run-rows = omega (arith, bodies-rows w, c.accepted.few_rows)

  pub run-patterns : (pattern_count w.patterns.now ≤ 16) × ((p : ℕ) → p < pattern_count w.patterns.now → sum (pattern_of w.patterns.now p) ≤ 100)
  unfolding bodies
  run-patterns = (
    omega (arith, patterns-are w.patterns.now, c.accepted.few_patterns),
    λ p h. omega (arith, (all-at-place GoodPattern (patterns_of w.patterns.now) [] c.accepted.patterns_good p (omega (arith, h, patterns-are w.patterns.now))).sum_most, ap sum (pattern-is w.patterns.now p h)),
  )

  pub can-open : CanOpen (length runoff) bd
  can-open = record {
    few = omega (arith, c.sheet, c.accepted.few_rows);
    empty = λ p h l. none-due (basin_in w) c.accepted bd c.can size p (omega (arith, h, c.sheet)) l;
  }

module _ (w : Bodies) (runoff bd rp : List ℕ) (c : CanRun (basin_in w) runoff bd rp) (size : length bd ≡ board_length) (t : List ℕ) (et : t ≡ table_of (stations_of w.stations.now)) (pa : List (List ℕ)) (epa : pa ≡ sixteen_sums w.patterns.now) where
  abbrev b : Basin
  b = basin_in w

  pub setting : SettingOf b w.stations.now t w.reservoirs.now pa w.rights.now
  unfolding bodies
  setting = record { accepted = c.accepted; stations = refl; table = et; reservoirs = refl; patterns = λ k h. ap (λ (x : List (List ℕ)). get_or x k []) epa ∙ sixteen w.patterns.now k h; rights = refl }

  few_rows : rows_of w.stations.now ≤ 64
  few_rows = omega (arith, bodies-rows w, c.accepted.few_rows)

  inflow-small : (j : ℕ) → inflow runoff bd j ≤ most_inflow
  inflow-small j = omega (arith, c.small j, board-low b c.accepted bd c.can size (due_place j 0))

  pub can-gather : (f a : List ℕ) → ((i : ℕ) → get_or f i 0 ≡ 0) → ((i : ℕ) → get_or a i 0 ≡ 0) → CanGather t runoff bd f a
  can-gather f a ef ea = record {
    sheet = omega (arith, c.sheet, c.accepted.few_rows);
    within = λ j i h e. omega (arith, c.sheet, path-in setting j (omega (arith, c.sheet)) i e);
    small = λ j. inflow-small j;
    empty = ef;
    empty₂ = ea;
  }

  dry : CanGather t runoff bd (replicate 64 0) (replicate 64 0)
  dry = can-gather (replicate 64 0) (replicate 64 0) (get_d-zeros 64) (get_d-zeros 64)

  module _ (f a : List ℕ) (g : Gathered t runoff bd (length runoff) f a) (bd₁ : List ℕ) (e₁ : bd₁ ≡ opened bd) (m : ℕ) (em : m ≡ month_at bd₁) where
    month-is : m ≡ month_at bd
    month-is = em ∙ ap month_at e₁ ∙ opened-month bd

    pub can-serve : {s : Setting} → s.bodies.now ≡ w → s.below.now.rows ≡ t → s.sums.now ≡ pa → CanServe s m f a bd₁ rp
    can-serve {s} ew es ep = record {
      basin = b;
      setting = rw (ew, es, ep) setting;
      in-year = omega (arith, month-is, month-most b bd c.can);
      river = gathered-river t runoff bd (replicate 64 0) (replicate 64 0) dry f a g;
      board = subst (λ (x : List ℕ). Roomy x 1000000000000000000) (sym e₁) (record { room = opened-small b c.accepted bd c.can size });
      within = subst (Within b) (sym e₁) (opened-within b c.accepted bd c.can size);
      lines = omega (arith, c.room, bodies-rights w, ap (λ (x : Bodies). right_count x.rights.now) ew);
    }

    module _ (sh : List Bool) (none : (w : ℕ) → get_or sh w false ≡ false) where
      start : state_of b f a sh (opened bd) ≡ opening b (carried_of b bd) runoff (tab (rows b) (λ u. due_at bd u 1))
      start = state-opened bd b c.accepted f a sh runoff (tab (rows b) (λ u. due_at bd u 1)) (opening-is b t setting.table c.accepted.few_rows runoff bd c.sheet f a g) none

      module _ (f₂ a₂ : List ℕ) (sh₂ : List Bool) (bd₂ rp₁ : List ℕ) (k : ℕ) (q₁ : Served b m f a sh bd₁ rp f₂ a₂ sh₂ bd₂ rp₁ k) where
        q : Served b m f a sh (opened bd) rp f₂ a₂ sh₂ bd₂ rp₁ k
        q = subst (λ (x : List ℕ). Served b m f a sh x rp f₂ a₂ sh₂ bd₂ rp₁ k) e₁ q₁

        month₂ : month_at bd₂ ≡ m
        month₂ = q₁.month ∙ sym em

        pub can-end : {n k : ℕ} → n ≡ right_count w.rights.now → k ≡ rows_of w.stations.now → CanEnd w.reservoirs.now n k bd₂ rp₁
        can-end en ek = rw (en, ek) (record {
          few = omega (arith, bodies-reservoirs w, c.accepted.few_reservoirs);
          in-year = omega (arith, month₂, month-is, month-most b bd c.can);
          tell = record {
            few_rights = omega (arith, bodies-rights w, c.accepted.few_rights);
            few = few_rows;
            places = omega (arith, c.room, bodies-rights w, bodies-rows w, q.lines.size);
          };
          words = λ i h. word_fits b w.stations.now t w.reservoirs.now pa w.rights.now setting runoff bd c.can f a sh start m month-is rp f₂ a₂ sh₂ bd₂ rp₁ k q i (omega (arith, h, bodies-rights w));
          places = omega (arith, c.room, bodies-rights w, bodies-rows w, bodies-reservoirs w, q.lines.size);
        })

        -- the counts by the basin
        ended : {n rows' : ℕ} → n ≡ right_count w.rights.now → rows' ≡ rows_of w.stations.now → (bd₄ rp₄ : List ℕ) (x : ℕ) → Ended w.reservoirs.now n rows' f₂ a₂ k bd₂ rp₁ bd₄ rp₄ x → Ended w.reservoirs.now (length b.rights) (rows b) f₂ a₂ k bd₂ rp₁ bd₄ rp₄ x
        ended en er bd₄ rp₄ x z = rw (bodies-rights w, bodies-rows w, sym en, sym er) z

        pub ran : length bd₂ ≡ board_length → {n rows' : ℕ} → n ≡ right_count w.rights.now → rows' ≡ rows_of w.stations.now → (bd₄ rp₄ : List ℕ) (shorts : ℕ) → Ended w.reservoirs.now n rows' f₂ a₂ k bd₂ rp₁ bd₄ rp₄ shorts → Ran b runoff bd rp bd₄ rp₄ shorts
        ran long en er bd₄ rp₄ shorts x =
            let z = ended en er bd₄ rp₄ shorts x in
            let at : ℕ = rows_end (length b.rights) (rows b) in
            let rp₃ : List ℕ = z.losses_told in
            let e : WordsNoted m (length b.rights) rp₁ bd₂ z.noted = subst (λ (y : ℕ). WordsNoted y (length b.rights) rp₁ bd₂ z.noted) month₂ z.words_noted in
            let l : Lost w.reservoirs.now m (reservoir_count w.reservoirs.now) z.noted z.told at z.lowered rp₃ = subst (λ (y : ℕ). Lost w.reservoirs.now y (reservoir_count w.reservoirs.now) z.noted z.told at z.lowered rp₃) month₂ z.lost in
            record {
              board = board-left b w.stations.now t w.reservoirs.now pa w.rights.now setting runoff bd c.can f a sh start m month-is rp f₂ a₂ sh₂ bd₂ rp₁ k q long z.noted e z.told at z.lowered rp₃ l bd₄ (z.gone_on ∙ ap (λ (y : ℕ). set z.lowered month_place (next_month y)) month₂);
              report = report-left b w.stations.now t w.reservoirs.now pa w.rights.now setting runoff bd c.can f a sh start m month-is rp f₂ a₂ sh₂ bd₂ rp₁ k q c.room z.told z.rows_told z.noted (λ v o. e.front (storage_place v) (omega arith)) z.lowered rp₃ l rp₄ z.deep_told;
              shorts = z.counted ∙ shorts-told b w.stations.now t w.reservoirs.now pa w.rights.now setting runoff bd c.can f a sh start m month-is rp f₂ a₂ sh₂ bd₂ rp₁ k q;
            }
