-- A list of calls is one run. Assumes nothing.
use mathlib.Core.Path.{◌≡◌, refl, sym, ap, ◌∙◌}
use mathlib.Core.List.{List, [], ◌∷◌, map}
use Prim.Native.Nat.{ℕ}
use Rattle.month.specs.Month.{Outcome, month_of}
use Rattle.years.specs.Years.{year_of}
use Rattle.fresh.specs.Fresh.{Fresh, fresh_of}
use Rattle.store.specs.Calls.{Recalled, recall_of}
use Rattle.account.specs.Runs.{Event, month_event, year_event, fresh_event, recall_event, left_by, Meets, Run, Lends, sheet, book_year, nothing, store_name, lent_to, OnlyRun}

module _ (f : List ℕ) where
  -- a call leaves what its definition says
  event_for : List ℕ → Lends → Event
  event_for board (sheet runoff report) = month_event (record { runoff = runoff; report = report; outcome = month_of f runoff board report })
  event_for board (book_year book year reports) = year_event (record { book = book; year = year; reports = reports; outcome = year_of f book year board reports })
  event_for board nothing = fresh_event (record { outcome = fresh_of f board })
  event_for board (store_name s n) = recall_event (record { store = s; name = n; outcome = recall_of s n board })

  event-lends : (board : List ℕ) (c : Lends) → lent_to (event_for board c) ≡ c
  unfolding event_for
  event-lends board (sheet runoff report) = refl
  event-lends board (book_year book year reports) = refl
  event-lends board nothing = refl
  event-lends board (store_name s n) = refl

  event-meets : (board : List ℕ) (c : Lends) → Meets f board (event_for board c)
  unfolding event_for
  event-meets board (sheet runoff report) = refl
  event-meets board (book_year book year reports) = refl
  event-meets board nothing = refl
  event-meets board (store_name s n) = refl

  event-same : (board : List ℕ) (e : Event) → Meets f board e → e ≡ event_for board (lent_to e)
  unfolding event_for
  event-same board (month_event e) m = ap (λ (o : Outcome). month_event (record { runoff = e.runoff; report = e.report; outcome = o })) m
  event-same board (year_event e) m = ap (λ (o : Outcome). year_event (record { book = e.book; year = e.year; reports = e.reports; outcome = o })) m
  event-same board (fresh_event e) m = ap (λ (o : Fresh). fresh_event (record { outcome = o })) m
  event-same board (recall_event e) m = ap (λ (o : Recalled). recall_event (record { store = e.store; name = e.name; outcome = o })) m

  -- and its board goes to the next
  calls_from : List ℕ → List Lends → List Event
  calls_from board [] = []
  calls_from board (c ∷ cs) = event_for board c ∷ calls_from (left_by (event_for board c)) cs

  lends : (board : List ℕ) (cs : List Lends) → map lent_to (calls_from board cs) ≡ cs
  unfolding calls_from
  lends board [] = refl
  lends board (c ∷ cs) = λ z. event-lends board c z ∷ lends (left_by (event_for board c)) cs z

  meets : (board : List ℕ) (cs : List Lends) → Run f board (calls_from board cs)
  unfolding calls_from
  meets board [] = tt
  meets board (c ∷ cs) = (event-meets board c, meets (left_by (event_for board c)) cs)

  same : (board : List ℕ) (es : List Event) → Run f board es → es ≡ calls_from board (map lent_to es)
  unfolding calls_from
  same board [] r = refl
  same board (e ∷ es) r =
      ap (λ (l : List Event). e ∷ l) (same (left_by e) es r.1)
      ∙ ap (λ (x : Event). x ∷ calls_from (left_by x) (map lent_to es)) (event-same board e r.0)

  pub only-run : (board : List ℕ) (cs : List Lends) → OnlyRun f board cs
  only-run board cs = record { events = calls_from board cs; lends = lends board cs; meets = meets board cs; no_other = λ es e r. same board es r ∙ ap (calls_from board) e }

  -- two runs from one board that lend the same lists are the same
  pub one-run-each : (board : List ℕ) (es es' : List Event) → map lent_to es' ≡ map lent_to es → Run f board es → Run f board es' → es' ≡ es
  one-run-each board es es' e r r' = same board es' r' ∙ ap (calls_from board) e ∙ sym (same board es r)
