-- `lister::texts::month_in` meets its contract. Assumes nothing.
use mathlib.Core.List.{List, []}
use Prim.Native.Nat.{ℕ}
use native.Mathlib.Omega.{arith}
use borrow.Author.Rules.{rules}
use Rattle.records.specs.Records.{bodies}
use Rattle.listing.specs.Listing.{month_text}
use Rattle.lines.specs.Putting.{PutAt}
use Rattle.lines.proofs.Texts.{put_at}
use Rattle.lister.proofs.texts.month_in.Goals as goal

pub put_month-requires : goal.put_month-requires
put_month-requires c = (c.requires.0, omega (arith, c.requires.1, c.after-text.ensures.room))

pub returns-clause-lines : goal.returns-clause-lines
returns-clause-lines c =
    let t = c.after-text in
    let u = c.put_month.new.text in
    let s = c.args in
    let b = s.bodies.now in
    λ ps.
    let lines : List ℕ = month_text (bodies b.stations.now b.reservoirs.now ps b.rights.now) s.month s.report.now s.board.now in
    let w : PutAt s.at lines s.list.now u.list.now u.len = rw (t.ensures.len, t.ensures.list) at (put_at {x = lines} t.result u (c.put_month.ensures ps)) in
    search (rules, w.put, w.ends)

pub returns-clause-within : goal.returns-clause-within
returns-clause-within c =
    let t = c.after-text in
    let u = c.put_month.new.text in
    omega (arith, (put_at t.result u (c.put_month.ensures [])).ends, t.ensures.len, (c.put_month.ensures []).within)
