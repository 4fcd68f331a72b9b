-- A run of calls is accounted for. Assumes nothing.
use Rattle.std.specs.Prelude.{Ok}
use mathlib.Core.Path.{◌≡◌, refl, subst}
use mathlib.Core.Bool.{true}
use mathlib.Core.List.{List, [], ◌∷◌}
use Prim.Native.Nat.{ℕ}
use lib.Dec.{ltb}
use lib.ListN.{length}
use Rattle.general.specs.Sums.{only}
use Rattle.general.specs.Tables.{tab}
use Rattle.general.proofs.Tables.{tab-same}
use Rattle.general.proofs.Tests.{ltb_yes, only_yes}
use Rattle.rules.specs.Basin.{Basin, rows}
use Rattle.rules.specs.Month.{month}
use Rattle.rules.specs.Years.{monthly, yearly}
use Rattle.rules.specs.Water.{MonthSound}
use Rattle.rules.specs.Accepted.{Accepted}
use Rattle.rules.proofs.Theorems.{checkpoints}
use Rattle.records.specs.Records.{basin_of}
use Rattle.filecheck.specs.Check.{check_of}
use Rattle.boards.specs.Board.{carried_of, possible}
use Rattle.places.specs.Board.{board_length, due_at}
use Rattle.month.specs.Month.{run_of}
use Rattle.account.specs.Runs.{Event, month_event, year_event, fresh_event, recall_event, left_by, Meets, Run, board_left}
use Rattle.account.specs.Reports.{call_of}
use Rattle.account.specs.Claim.{start_of, Standing, tallied, astray, stands_on, board_there, run_in, after_event, after_events, Follows, AllFollow, Accounted}
use Rattle.account.proofs.Tally.{start-possible}
use Rattle.account.proofs.Months.{tally-length, follow-month}
use Rattle.account.proofs.Years.{follow-year}
use Rattle.account.proofs.Astray.{astray-month, astray-year}
use Rattle.account.proofs.Standing.{reached-more, reached-possible, Stands, stands-kept, starts-well, starts-there, fresh-stands, follow-fresh, anew-stands, follow-recall}

-- where every call follows, the board after the run is that of where it stands
left_by_lem : (f : List ℕ) (st : Standing) (board : List ℕ) (es : List Event) → board ≡ board_there (basin_of f) st → AllFollow f st es → board_left board es ≡ board_there (basin_of f) (after_events f st es)
left_by_lem f st board [] e h = e
left_by_lem f st board (x ∷ es) e h = left_by_lem f (after_event f st x) (left_by x) es h.0.board h.1

module _ (f : List ℕ) (ok : check_of f ≡ Ok tt) (acc : Accepted (basin_of f)) where
  abbrev b : Basin
  b = basin_of f

  -- ---- one call

  there-length : (st : Standing) → Stands b st → length (board_there b st) ≡ board_length
  there-length (tallied t) p = tally-length b t
  there-length (astray l) p = p.0

  follow : (st : Standing) → Stands b st → (e : Event) → Meets f (board_there b st) e → Follows f st e
  follow (tallied t) p (month_event e) m = follow-month f ok acc t (reached-possible b acc t p) e m
  follow (tallied t) p (year_event e) m = follow-year f ok acc t (reached-possible b acc t p) e m
  follow (astray l) p (month_event e) m = astray-month f ok l p.0 p.1 e m
  follow (astray l) p (year_event e) m = astray-year f ok l p.0 p.1 e m
  follow st p (fresh_event e) m = follow-fresh f ok acc st (board_there b st) (there-length st p) e m
  follow st p (recall_event e) m = follow-recall f ok acc st (board_there b st) (there-length st p) refl e m

  stands_on_lem : (st : Standing) → Stands b st → (e : Event) → Stands b (after_event f st e)
  stands_on_lem (tallied t) p (month_event e) = reached-more b t p (monthly (call_of e))
  stands_on_lem (tallied t) p (year_event e) = reached-more b t p (yearly (run_in f e))
  stands_on_lem (astray l) p (month_event e) = p
  stands_on_lem (astray l) p (year_event e) = p
  stands_on_lem st p (fresh_event e) = fresh-stands f ok acc
  stands_on_lem st p (recall_event e) = anew-stands f ok acc st p e

  -- ---- all of them

  all-follow : (st : Standing) → Stands b st → (es : List Event) → Run f (board_there b st) es → AllFollow f st es
  all-follow st p [] r = tt
  all-follow st p (e ∷ es) r =
      let h : Follows f st e = follow st p e r.0 in
      (h, all-follow (after_event f st e) (stands_on_lem st p e) es (subst (λ (l : List ℕ). Run f l es) h.board r.1))

  all-stand : (st : Standing) → Stands b st → (es : List Event) → Stands b (after_events f st es)
  all-stand st p [] = p
  all-stand st p (e ∷ es) = all-stand (after_event f st e) (stands_on_lem st p e) es

  pub accounted : (board : List ℕ) → length board ≡ board_length → (es : List Event) → Run f board es → Accounted f board es
  accounted board n es r =
      let st : Standing = stands_on b board in
      let p : Stands b st = starts-well f ok acc board n in
      let there : board ≡ board_there b st = starts-there f ok acc board n in
      let h : AllFollow f st es = all-follow st p es (subst (λ (l : List ℕ). Run f l es) there r) in
      record { follows = h; left = left_by_lem f st board es there h; kept = stands-kept f ok acc (after_events f st es) (all-stand st p es) }

  pub board-checkpoints : (board runoff : List ℕ) → length board ≡ board_length → possible b board ≡ true → MonthSound b (run_of b runoff board)
  unfolding run_of start_of
  board-checkpoints board runoff n can =
      let arriving : tab (rows b) (λ w. only (ltb w (rows b)) (due_at board w 1)) ≡ tab (rows b) (λ w. due_at board w 1) = tab-same (rows b) _ _ (λ w h. only_yes (ltb w (rows b)) (due_at board w 1) (ltb_yes w (rows b) h)) in
      subst (λ (l : List ℕ). MonthSound b (month b (carried_of b board) runoff l)) arriving (checkpoints b acc (start_of b board) (start-possible b acc board n can) runoff)
