-- `lister::texts::refusal_in` meets its contract. Assumes nothing.
use native.Mathlib.Omega.{arith}
use borrow.Author.Rules.{rules}
use Rattle.answers.specs.Answers.{answer_of}
use Rattle.listing.specs.Listing.{refusal_line}
use Rattle.lines.specs.Putting.{PutAt}
use Rattle.lines.proofs.Texts.{put_at}
use Rattle.lister.proofs.texts.refusal_in.Goals as goal

pub returns-clause-line : goal.returns-clause-line
returns-clause-line c =
    let t = c.after-text in
    let u = c.put_refusal.new.text in
    let w : PutAt c.args.at (refusal_line (answer_of c.args.answer)) c.args.list.now u.list.now u.len = rw (t.ensures.len, t.ensures.list) at (put_at {x = refusal_line (answer_of c.args.answer)} t.result u c.put_refusal.ensures) in
    search (rules, w.put, w.ends)

pub returns-clause-within : goal.returns-clause-within
returns-clause-within c =
    let t = c.after-text in
    let u = c.put_refusal.new.text in
    omega (arith, (put_at t.result u c.put_refusal.ensures).ends, t.ensures.len, c.put_refusal.ensures.within)
