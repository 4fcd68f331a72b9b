-- `store::recall` meets its contract. Assumes nothing.
use mathlib.Core.Path.{sym, ◌∙◌}
use Rattle.rules.specs.declared.Refusal.TheVariants.{Lists}
use Rattle.std.proofs.lemmas.Result.{err_from_is_err_and}
use Rattle.general.proofs.Tests.{eqb-other}
use Rattle.places.specs.Board.{board_length}
use Rattle.entries.specs.Entries.{first_named}
use Rattle.entries.proofs.LookUp.{looked-none, looked-at, named-within}
use Rattle.store.proofs.Answers.{other-store, other-list, name-unfit, board-judged, wanting, recall-refused, recall-none, recall-made}
use Rattle.store.proofs.recall.Goals as goal

pub returns-in_default : goal.returns-in_default
returns-in_default c =
    let a = c.args in
    recall-refused a.store.now a.name.now a.board.now Lists (name-unfit _ a.name.now (other-store a.store.now a.name.now _ c.in_default.ensures.cases))

pub returns-in_default-as_mut_array : goal.returns-in_default-as_mut_array
returns-in_default-as_mut_array c =
    let a = c.args in
    recall-refused a.store.now a.name.now a.board.now Lists
    (name-unfit _ a.name.now (other-list a.store.now a.name.now _ (eqb-other _ board_length c.in_default-as_mut_array.ensures.cases)))

pub returns-in_err-id : goal.returns-in_err-id
returns-in_err-id c =
    let a = c.args in
    let o = c.in-Some-as_mut_array.ensures.cases in
    let p = err_from_is_err_and c.from_residual.result c.from_residual.ensures.1 in
    rw (p.1, p.2, o.same) (recall-refused a.store.now a.name.now a.board.now _ (board-judged a.store.now a.name.now a.board.now c.in-Some.ensures.cases.long o.long c.in_err-id.ensures.refused))

pub returns-in_err-entry : goal.returns-in_err-entry
returns-in_err-entry c =
    let a = c.args in
    let s = c.in-Some.ensures.cases in
    let o = c.in-Some-as_mut_array.ensures.cases in
    let p = err_from_is_err_and c.from_residual-in_err-entry.result c.from_residual-in_err-entry.ensures.1 in
    let told = c.in_err-entry.ensures in
    let clear = board-judged a.store.now a.name.now a.board.now s.long o.long c.in_ok-id.ensures.refused in
    rw (p.1, p.2, wanting told.ok_part told.value, o.same) (recall-none a.store.now a.name.now a.board.now (sym clear)
    (looked-none (first_named a.store.now) a.name.now c.in_ok-id.ensures.same (rw s.same at c.find.ensures) told.ok_part))

pub read_board-requires : goal.read_board-requires
read_board-requires c = named-within _ _ _ (sym c.find.ensures ∙ c.in_ok-entry.ensures.ok_part)

pub returns : goal.returns
returns c =
    let a = c.args in
    let s = c.in-Some.ensures.cases in
    let clear = board-judged a.store.now a.name.now a.board.now s.long c.in-Some-as_mut_array.ensures.cases.long c.in_ok-id.ensures.refused in
    let found = looked-at (first_named a.store.now) a.name.now c.in_ok-id.ensures.same (rw s.same at c.find.ensures) c.in_ok-entry.ensures.ok_part in
    rw (c.read_board.ensures, s.same) (recall-made a.store.now a.name.now a.board.now (sym clear) _ found)
