-- The rights one after another: from k rights served to k + 1, and from all served to the month's turns.
use mathlib.Core.Bool.{Bool}
use mathlib.Core.List.{List, [], ◌∷◌}
use mathlib.Core.Path.{◌≡◌, refl, sym, ap, ◌∙◌, subst}
use Prim.Native.Nat.{ℕ, suc, ◌+◌, ◌<◌}
use native.Mathlib.Omega.{arith}
use lib.ListN.{length, drop}
use Rattle.general.specs.Sums.{sum_over}
use Rattle.general.proofs.Lists.{get_d-map-in, drop_at, drop-next, drop_head, drop_all}
use Rattle.places.specs.Report.{station_place}
use Rattle.rules.specs.Basin.{Right, Basin, no_right, pattern_of}
use Rattle.rules.specs.Returns.{returned_at, lost_deep, parts_of}
use Rattle.rules.specs.Turn.{State, Grant, granted, Turn, turn}
use Rattle.rules.specs.Month.{turns, after_turns, returned_by, returns_at, deep_by, deep_of, reason_number, no_grant, grant_at}
use Rattle.rules.proofs.Bounds.{StateCapped, turn-capped}
use Rattle.rules.proofs.Months.{turns-length}
use Rattle.records.specs.Records.{right_count, right_of}
use Rattle.river.specs.Setting.{SettingOf}
use Rattle.river.specs.declared.setting.Setting.{Setting}
use Rattle.turns.specs.State.{state_of, named_by, home_of}
use Rattle.turns.specs.Lines.{CanLine, LineServed, LinesTo, turns_from, CanServe, ServedTo, Served}
use Rattle.turns.proofs.Keeping.{kept_on}
use Rattle.turns.proofs.Facts.{rights-count, right_is}
use Rattle.turns.proofs.Capped.{within-capped, capped-within}
use Rattle.turns.proofs.LinesMade.{lines_more}

-- ---- one right more

module _ {b : Basin} {st t rs : List ℕ} {pa : List (List ℕ)} {ri : List ℕ} (w : SettingOf b st t rs pa ri) {m k : ℕ} (hk : k < right_count ri)
    {f a : List ℕ} {sh : List Bool} {bd rp f' a' : List ℕ} {sh' : List Bool} {bd' rp' : List ℕ} {c : ℕ} (p : ServedTo b m k f a sh bd rp f' a' sh' bd' rp' c) (room : station_place k < length rp')
    {f'' a'' : List ℕ} {sh'' : List Bool} {bd'' rp'' : List ℕ} {d : ℕ} (q : LineServed b ri k m f' a' sh' bd' rp' f'' a'' sh'' bd'' rp'' d) where
  abbrev all : List Turn
  all = turns_from b m (state_of b f a sh bd)

  abbrev s : State
  s = state_of b f' a' sh' bd'

  abbrev s' : State
  s' = state_of b f'' a'' sh'' bd''

  abbrev r : Right
  r = right_of ri k

  abbrev now : Turn
  now = turn b m k r s

  abbrev rest : List Turn
  rest = turns b m (suc k) (drop (suc k) b.rights) s'

  rights-split : drop k b.rights ≡ r ∷ drop (suc k) b.rights
  rights-split = drop_at b.rights k no_right (omega (arith, hk, rights-count w)) ∙ ap (λ (x : Right). x ∷ drop (suc k) b.rights) (right_is w k hk)

  next : turns b m k (drop k b.rights) s ≡ now ∷ rest
  unfolding turns
  next = ap (λ (l : List Right). turns b m k l s) rights-split ∙ ap (λ (x : State). now ∷ turns b m (suc k) (drop (suc k) b.rights) x) (sym q.turned.state)

  after_next : after_turns (now ∷ rest) s ≡ after_turns rest now.after_returns
  unfolding after_turns
  after_next = refl

  returns-next : (u x : ℕ) → returns_at b (now ∷ rest) u x ≡ returned_at (pattern_of b r) u x (parts_of r.kind r (granted now.grant)) + returns_at b rest u x
  unfolding returns_at sum_over returned_by turn
  returns-next u x = refl

  deep-next : deep_of b (now ∷ rest) ≡ lost_deep (pattern_of b r) (parts_of r.kind r (granted now.grant)) + deep_of b rest
  unfolding deep_of sum_over deep_by turn
  deep-next = refl

  here : drop k all ≡ now ∷ rest
  here = p.left ∙ next

  grant-here : grant_at all k ≡ now.grant
  grant-here = get_d-map-in (λ (x : Turn). x.grant) all k no_grant now (omega (arith, hk, rights-count w, turns-length b m 0 b.rights (state_of b f a sh bd))) ∙ ap (λ (x : Turn). x.grant) (drop_head all k now now rest here)

  lines_next : LinesTo all (suc k) rp rp''
  lines_next =
      subst (LinesTo all (suc k) rp) (sym q.written)
      (lines_more all k rp rp' q.made (named_by (home_of b r) q.made.reason) room p.lines
      (q.turned.tells.from-river ∙ sym (ap (λ (g : Grant). g.from_river) grant-here))
      (q.turned.tells.from-storage ∙ sym (ap (λ (g : Grant). g.from_storage) grant-here))
      (q.turned.tells.reason ∙ sym (ap (λ (g : Grant). reason_number g.reason) grant-here))
      (q.turned.tells.station ∙ sym (ap (λ (g : Grant). g.station) grant-here)))

  served-suc : ServedTo b m (suc k) f a sh bd rp f'' a'' sh'' bd'' rp'' (c + d)
  served-suc = record {
    left = drop-next all k now rest here;
    state = ap (after_turns rest) q.turned.state ∙ sym after_next ∙ sym (ap (λ (l : List Turn). after_turns l s) next) ∙ p.state;
    dues = λ u j o. omega (arith, p.dues u j o, ap (λ (l : List Turn). returns_at b l u (suc j)) next, returns-next u (suc j), q.turned.dues u j o);
    lost = omega (arith, p.lost, ap (deep_of b) next, deep-next, q.lost, q.turned.deep);
    month = q.turned.month ∙ p.month;
    lines = lines_next;
    within = q.turned.within;
    grown = λ u o. omega (arith, p.grown u o, q.turned.grown u o);
    filled = λ j. omega (arith, p.filled j, q.turned.filled j);
    lost_most = omega (arith, p.lost_most, q.lost, q.turned.deep_most);
    capped = capped-within b f'' a'' sh'' bd'' (subst (StateCapped b) (sym q.turned.state) (turn-capped b m k r s (right_is w k hk) (within-capped b f' a' sh' bd' p.capped)));
    kept = kept_on b bd bd' bd'' p.kept q.turned.kept;
  }

  -- the loop counts by + 1
  pub served-more : ServedTo b m (k + 1) f a sh bd rp f'' a'' sh'' bd'' rp'' (c + d)
  served-more = subst (λ (n : ℕ). ServedTo b m n f a sh bd rp f'' a'' sh'' bd'' rp'' (c + d)) (omega arith) served-suc

-- the next right may be served
pub line-ready : {s : Setting} {m : ℕ} {f a : List ℕ} {sh : List Bool} {bd rp : List ℕ} (can : CanServe s m f a bd rp)
    {k : ℕ} → k < right_count s.bodies.now.rights.now → {f' a' : List ℕ} {sh' : List Bool} {bd' rp' : List ℕ} {c : ℕ} → ServedTo can.basin m k f a sh bd rp f' a' sh' bd' rp' c → CanLine s k m f' a' bd' rp'
line-ready {s} can {k} hk p =
    let few : k < 256 = omega (arith, hk, rights-count can.setting, can.setting.accepted.few_rights) in
    record {
      ready = record {
        basin = can.basin;
        setting = can.setting;
        place = hk;
        in-year = can.in-year;
        river = record {
          room = λ u o. omega (arith, few, can.river.room u o, p.grown u o);
          within = p.within;
        };
        board = record { room = λ j. omega (arith, few, can.board.room j, p.filled j) };
        within = p.capped;
      };
      line = omega (arith, can.lines, hk, p.lines.size);
    }

-- ---- all rights

pub served-all : {b : Basin} {st t rs : List ℕ} {pa : List (List ℕ)} {ri : List ℕ} (w : SettingOf b st t rs pa ri) {m k : ℕ} {f a : List ℕ} {sh : List Bool} {bd rp f' a' : List ℕ} {sh' : List Bool} {bd' rp' : List ℕ} {c : ℕ} → ServedTo b m k f a sh bd rp f' a' sh' bd' rp' c → k ≡ right_count ri → Served b m f a sh bd rp f' a' sh' bd' rp' c
unfolding turns after_turns returns_at deep_of sum_over
served-all {b} w {m} {k} {f} {a} {sh} {bd} {rp} {f'} {a'} {sh'} {bd'} {rp'} p e =
    let none : drop k b.rights ≡ [] = drop_all b.rights k (omega (arith, e, rights-count w)) in
    let over : turns b m k (drop k b.rights) (state_of b f' a' sh' bd') ≡ [] = ap (λ (l : List Right). turns b m k l (state_of b f' a' sh' bd')) none in
    record {
      state = sym (ap (λ (l : List Turn). after_turns l (state_of b f' a' sh' bd')) over) ∙ p.state;
      dues = λ u j o. omega (arith, p.dues u j o, ap (λ (l : List Turn). returns_at b l u (suc j)) over);
      lost = omega (arith, p.lost, ap (deep_of b) over);
      month = p.month;
      lines = subst (λ (n : ℕ). LinesTo (turns_from b m (state_of b f a sh bd)) n rp rp') (e ∙ sym (rights-count w)) p.lines;
      within = λ u o. p.within u (omega (arith, o, w.accepted.few_rows));
      filled = λ j. omega (arith, p.filled j, e, rights-count w, w.accepted.few_rights);
      capped = p.capped;
      kept = p.kept;
    }
