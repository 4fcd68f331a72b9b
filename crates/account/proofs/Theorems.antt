-- The theorems of specs/Runs.antt, Reports.antt and Claim.antt. Assumes nothing.
use mathlib.Core.Path.{sym, ap, ◌∙◌, subst}
use mathlib.Core.List.{List}
use Prim.Native.Nat.{ℕ}
use Rattle.rules.specs.Basin.{Basin}
use Rattle.rules.specs.Tally.{Start}
use Rattle.rules.specs.Shortness.{short_now}
use Rattle.rules.proofs.Theorems.{fresh}
use Rattle.records.specs.Records.{basin_of}
use Rattle.filecheck.proofs.Accepted.{accepted-facts}
use Rattle.stock.specs.Months.{short_months_of}
use Rattle.store.specs.Calls.{Recalled}
use Rattle.store.proofs.Theorems.{come_back}
use Rattle.account.specs.Runs.{Run, OneReport, OneYear, OneRun}
use Rattle.account.specs.Reports.{TellsAll}
use Rattle.account.specs.Claim.{board_there, Kept, KeptAt, Accounted, Claim, FreshStarts, ShortFromFresh, Untried, Checkpoints}
use Rattle.account.proofs.Telling.{all_told}
use Rattle.account.proofs.Standing.{fresh-facts}
use Rattle.account.proofs.Account.{accounted, board-checkpoints}
use Rattle.account.proofs.Runs.{only-run, one-run-each}

pub claim : Claim
claim f board e n es r = accounted f e (accepted-facts f e) board n es r

pub tells_all : TellsAll
tells_all b h before after n t = all_told b h before after t n

pub fresh-starts : FreshStarts
fresh-starts f e = fresh-facts f e (accepted-facts f e)

pub short-from-fresh : ShortFromFresh
short-from-fresh f board e n es r t at from i h =
    let b : Basin = basin_of f in
    let c : Accounted f board es = claim f board e n es r in
    let k : Kept f t = subst (KeptAt f) at c.kept in
    ap (λ (l : List ℕ). short_months_of f l i) (c.left ∙ ap (board_there b) at)
    ∙ k.short-months i h
    ∙ ap (λ (m : ℕ). record { number = 0; place = 0; months = m }) (ap (λ (s : Start). short_now s t.months i) from ∙ (fresh b (accepted-facts f e)).none_short t.months i)

pub untried : Untried
untried f board store name lent w a n cs others es es' same r r' =
    one-run-each f board es es' same r (subst (λ (l : List ℕ). Run f l es') (ap (λ (x : Recalled). x.board) (come_back store name board lent w a n cs others)) r')

pub checkpoints : Checkpoints
checkpoints f board runoff e n can = board-checkpoints f e (accepted-facts f e) board runoff n can

pub one-report : OneReport
one-report f runoff board report x y u v = u ∙ sym v

pub one-year : OneYear
one-year f book year board reports x y u v = u ∙ sym v

pub one-run : OneRun
one-run f board cs = only-run f board cs
