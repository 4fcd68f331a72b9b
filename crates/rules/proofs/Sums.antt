-- The water of a list of calls. Assumes nothing.
use Rattle.std.specs.Prelude.{Option, None, Some}
use mathlib.Core.Path.{◌≡◌, refl, ap, ◌∙◌}
use mathlib.Core.Bool.{true}
use mathlib.Core.List.{List, [], ◌∷◌, ◌++◌}
use Prim.Native.Nat.{ℕ, ◌+◌}
use native.Mathlib.Omega.{arith}
use lib.ListN.{length, get_or}
use lib.IntN.{ℤ, pos, ◌+ℤ◌, ◌-ℤ◌}
use Rattle.general.specs.Sums.{sum_over, sum_over_ℤ, sum}
use Rattle.general.specs.Tables.{All}
use Rattle.general.proofs.Signed.{up, dn, add-law, eq-make, lower-law}
use Rattle.general.proofs.Tests.{eq_of, both_of}
use Rattle.general.proofs.Lists.{all_append}
use Rattle.general.proofs.Sums.{sum-append, sum_ℤ-append, sum_to-add, sum_to-list, sum_to_ℤ-pos}
use Rattle.rules.specs.Basin.{Basin, rows}
use Rattle.rules.specs.Path.{last_row}
use Rattle.rules.specs.River.{flow_at}
use Rattle.rules.specs.Month.{consumed_by, deep_of, MonthRun, month}
use Rattle.rules.specs.Tally.{Call, lists_fit, over_limit, over_answer, refusal, Start, Tally, begun, arriving, next_run, accept, after_judged, after_call, after_calls}
use Rattle.rules.specs.declared.Refusal.TheVariants.{Lists}
use Rattle.rules.specs.Answers.{Answer, unless}
use Rattle.rules.proofs.Answers.{or-first, unless-none}
use Rattle.rules.specs.Water.{total_runoff, total_outflow, total_consumption, total_evaporation, total_deep, in_transit, starting_storage, starting_dues, stored_in, drawn_from, total_stored, total_drawn, total_lost, storage_now, all_storage_now, MonthSound, WaterKept}
use Rattle.rules.specs.Accepted.{Accepted}
use Rattle.rules.proofs.Stages.{outflow}
use Rattle.rules.proofs.Months.{MonthOk, month-ok}
use Rattle.rules.proofs.Reservoirs.{month-entry}
use Rattle.rules.proofs.Pending.{transit-on, transit-begins, arriving-sum}

-- the lists of an accepted call fit
pub accepted-fits : (b : Basin) (c : Call) → refusal b c ≡ None → lists_fit b c ≡ true
unfolding refusal
accepted-fits b c e = unless-none (lists_fit b c) Lists (or-first (unless (lists_fit b c) Lists) (over_answer (over_limit c.runoff)) e)

-- it has one runoff number to a row
accepted-length : (b : Basin) (c : Call) → refusal b c ≡ None → length c.runoff ≡ rows b
unfolding lists_fit
accepted-length b c e = eq_of (both_of (accepted-fits b c e)).0

-- ---- what holds of the tally after every list of calls

pub record TallyOk (b : Basin) (t : Tally) : Type 0 where
  pub count : length t.carried.storages ≡ length b.reservoirs
  pub balance : up (total_outflow b t.months) + total_consumption t.months + total_evaporation t.months + total_deep b t.months + in_transit b t.start t.months + sum t.carried.storages
      ≡ dn (total_outflow b t.months) + total_runoff t.months + (starting_storage t.start + starting_dues b t.start)
  pub checkpoints : All (MonthSound b) t.months
  pub entries : (v : ℕ) → get_or t.carried.storages v 0 + total_drawn v t.months + total_lost v t.months ≡ get_or t.start.carried.storages v 0 + total_stored v t.months

pub begun_ok : (b : Basin) (s : Start) → length s.carried.storages ≡ length b.reservoirs → TallyOk b (begun s)
unfolding begun total_outflow total_consumption total_evaporation total_deep total_runoff starting_storage total_stored total_drawn total_lost sum_over sum_over_ℤ
begun_ok b s n = record {
  count = n;
  balance = omega (arith, transit-begins b s);
  checkpoints = tt;
  entries = λ v. omega arith;
}

module _ (b : Basin) (hs : List MonthRun) (h : MonthRun) where
  runoff-on : total_runoff (hs ++ (h ∷ [])) ≡ total_runoff hs + sum h.runoff
  unfolding total_runoff
  runoff-on = sum-append _ hs h

  consumption-on : total_consumption (hs ++ (h ∷ [])) ≡ total_consumption hs + sum_over consumed_by h.turns
  unfolding total_consumption
  consumption-on = sum-append _ hs h

  evaporation-on : total_evaporation (hs ++ (h ∷ [])) ≡ total_evaporation hs + sum h.evaporation
  unfolding total_evaporation
  evaporation-on = sum-append _ hs h

  deep-on : total_deep b (hs ++ (h ∷ [])) ≡ total_deep b hs + deep_of b h.turns
  unfolding total_deep
  deep-on = sum-append _ hs h

  outflow-on : up (total_outflow b (hs ++ (h ∷ []))) + dn (total_outflow b hs) + dn (outflow b h.closed) ≡ dn (total_outflow b (hs ++ (h ∷ []))) + up (total_outflow b hs) + up (outflow b h.closed)
  unfolding total_outflow
  outflow-on = sum_ℤ-append (λ (x : MonthRun). flow_at x.closed.levels (last_row b)) hs h

  stored_on : (v : ℕ) → total_stored v (hs ++ (h ∷ [])) ≡ total_stored v hs + stored_in v h.turns
  unfolding total_stored
  stored_on v = sum-append _ hs h

  drawn-on : (v : ℕ) → total_drawn v (hs ++ (h ∷ [])) ≡ total_drawn v hs + drawn_from v h.turns
  unfolding total_drawn
  drawn-on v = sum-append _ hs h

  lost-on : (v : ℕ) → total_lost v (hs ++ (h ∷ [])) ≡ total_lost v hs + get_or h.evaporation v 0
  unfolding total_lost
  lost-on v = sum-append _ hs h

month-runoff : (b : Basin) (t : Tally) (c : Call) → (next_run b t c).runoff ≡ c.runoff
unfolding next_run month
month-runoff b t c = refl

accept-ok : (b : Basin) → Accepted b → (t : Tally) (c : Call) → length c.runoff ≡ rows b → TallyOk b t → TallyOk b (accept b t c)
unfolding accept next_run
accept-ok b acc t c n o =
    let hs : List MonthRun = t.months in
    let due : List ℕ = arriving b t.start hs in
    let h : MonthRun = month b t.carried c.runoff due in
    let k : MonthOk b t.carried c.runoff due h = month-ok b acc t.carried o.count c.runoff due in
    record {
      count = k.storages;
      balance = omega (
        arith,
        o.balance,
        k.water,
        runoff-on b hs h,
        ap sum (month-runoff b t c),
        evaporation-on b hs h,
        deep-on b hs h,
        consumption-on b hs h,
        outflow-on b hs h,
        transit-on b t.start hs h,
        rw n at (sum_to-list c.runoff),
        arriving-sum b t.start hs,
        sum_to-add (rows b) (λ j. get_or c.runoff j 0) (λ j. get_or due j 0),
      );
      checkpoints = all_append (MonthSound b) hs h o.checkpoints k.sound;
      entries = λ v. omega (arith, o.entries v, stored_on b hs h v, drawn-on b hs h v, lost-on b hs h v, month-entry b acc t.carried o.count c.runoff due v);
    }

pub call_ok : (b : Basin) → Accepted b → (t : Tally) (c : Call) → TallyOk b t → TallyOk b (after_call b t c)
unfolding after_call after_judged
call_ok b acc t c o = go (refusal b c) refl
  where
    go : (v : Option Answer) → refusal b c ≡ v → TallyOk b (after_judged v b t c)
    go None e = accept-ok b acc t c (accepted-length b c e) o
    go (Some a) e = o

pub calls-ok : (b : Basin) → Accepted b → (t : Tally) (cs : List Call) → TallyOk b t → TallyOk b (after_calls b t cs)
unfolding after_calls
calls-ok b acc t [] o = o
calls-ok b acc t (c ∷ cs) o = calls-ok b acc (after_call b t c) cs (call_ok b acc t c o)

-- the start stays
call-start : (b : Basin) (t : Tally) (c : Call) → (after_call b t c).start ≡ t.start
unfolding after_call after_judged accept
call-start b t c = go (refusal b c)
  where
    go : (v : Option Answer) → (after_judged v b t c).start ≡ t.start
    go None = refl
    go (Some a) = refl

pub calls-start : (b : Basin) (t : Tally) (cs : List Call) → (after_calls b t cs).start ≡ t.start
unfolding after_calls
calls-start b t [] = refl
calls-start b t (c ∷ cs) = calls-start b (after_call b t c) cs ∙ call-start b t c

-- ---- the claim

module _ (b : Basin) (t : Tally) (o : TallyOk b t) where
  -- the storage by the grants is the storage kept
  storage-kept : (v : ℕ) → storage_now t.start t.months v ≡ pos (get_or t.carried.storages v 0)
  unfolding storage_now
  storage-kept v =
      let x : ℤ = pos (get_or t.start.carried.storages v 0 + total_stored v t.months) in
      eq-make (omega (arith, o.entries v, lower-law x (total_drawn v t.months), lower-law (x -ℤ pos (total_drawn v t.months)) (total_lost v t.months)))

  storages-kept : all_storage_now b t.start t.months ≡ pos (sum t.carried.storages)
  unfolding all_storage_now
  storages-kept =
      sum_to_ℤ-pos (length b.reservoirs) (storage_now t.start t.months) (λ v. get_or t.carried.storages v 0) storage-kept
      ∙ ap pos (rw o.count at (sum_to-list t.carried.storages))

  balance-kept : pos (total_runoff t.months + (starting_storage t.start + starting_dues b t.start))
      ≡ total_outflow b t.months +ℤ pos (total_consumption t.months) +ℤ pos (total_evaporation t.months) +ℤ pos (total_deep b t.months) +ℤ pos (in_transit b t.start t.months) +ℤ pos (sum t.carried.storages)
  balance-kept =
      let x : ℤ = total_outflow b t.months in
      let c : ℤ = pos (total_consumption t.months) in
      let e : ℤ = pos (total_evaporation t.months) in
      let d : ℤ = pos (total_deep b t.months) in
      let i : ℤ = pos (in_transit b t.start t.months) in
      eq-make (omega (arith, o.balance, add-law x c, add-law (x +ℤ c) e, add-law (x +ℤ c +ℤ e) d, add-law (x +ℤ c +ℤ e +ℤ d) i, add-law (x +ℤ c +ℤ e +ℤ d +ℤ i) (pos (sum t.carried.storages))))

  pub water-kept : WaterKept b t
  water-kept = record { balance = rw storages-kept balance-kept; storages = storage-kept; checkpoints = o.checkpoints }
