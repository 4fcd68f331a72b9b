-- `fresh::fresh` meets its contract: a refused file, a board that does not fit, and the board written. Assumes nothing.
use mathlib.Core.Path.{◌≡◌, sym, ap, ◌∙◌}
use Prim.Native.Nat.{ℕ, ◌≤◌}
use native.Mathlib.Omega.{arith}
use borrow.Author.Rules.{rules}
use lib.ListN.{length, replicate}
use Rattle.places.specs.Board.{board_length}
use Rattle.sections.specs.File.{section_of}
use Rattle.records.specs.Records.{reservoir_count}
use Rattle.filecheck.proofs.Accepted.{accepted-in}
use Rattle.boards.proofs.Bodies.{counted}
use Rattle.fresh.proofs.Answers.{fresh-refused, fresh-unfit, fresh-made}
use Rattle.fresh.proofs.Start.{fresh-is}
use Rattle.fresh.proofs.fresh.Goals as goal

pub returns-in_err-check : goal.returns-in_err-check
returns-in_err-check c = search (rules, fresh-refused)

pub store_starts-requires : goal.store_starts-requires
store_starts-requires c = (counted c.of.result (accepted-in c.args.file.now _ c.of.ensures (sym c.in_ok-check.ensures))).reservoirs_in

pub returns-in_default : goal.returns-in_default
returns-in_default c = fresh-unfit c.args.file.now _ (sym c.in_ok-check.ensures) (λ e. omega (arith, e, c.in_default.ensures.cases))

pub returns : goal.returns
returns c =
    let f = c.args.file.now in
    let acc = sym c.in_ok-check.ensures in
    let n : reservoir_count (section_of f 1) ≤ 8 = rw (sym c.of.ensures.reservoirs) (counted c.of.result (accepted-in f _ c.of.ensures acc)).reservoirs_in in
    let fits : length c.args.board.now ≡ board_length = search rules in
    let long : length c.in-Some.board.now ≡ board_length = search rules in
    let zeros : c.fill.new.self ≡ replicate board_length 0 = c.fill.ensures.after (λ y e. search rules) ∙ ap (λ (k : ℕ). replicate k 0) long in
    fresh-made f c.args.board.now acc _ fits (fresh-is f _ _ zeros n (rw c.of.ensures.reservoirs at c.store_starts.ensures))
