-- `store::save` meets its contract. Assumes nothing.
use mathlib.Core.Path.{sym, ◌∙◌}
use Rattle.rules.specs.declared.Refusal.TheVariants.{Lists}
use Rattle.std.proofs.lemmas.Result.{err_from_is_err_and}
use Rattle.general.proofs.Tests.{eqb-other}
use Rattle.places.specs.Board.{board_length}
use Rattle.store.specs.Calls.{saved}
use Rattle.entries.specs.Entries.{place_for}
use Rattle.entries.proofs.LookUp.{looked-none, looked-at, place-within}
use Rattle.store.proofs.Answers.{other-store, other-list, name-unfit, board-judged, wanting, save-refused, save-full, save-made}
use Rattle.store.proofs.save.Goals as goal

pub returns-in_default : goal.returns-in_default
returns-in_default c =
    let a = c.args in
    save-refused a.store.now a.name.now a.board.now Lists (name-unfit _ a.name.now (other-store a.store.now a.name.now _ c.in_default.ensures.cases))

pub returns-in_default-as_array : goal.returns-in_default-as_array
returns-in_default-as_array c =
    let a = c.args in
    rw c.in-Some.ensures.cases.same (save-refused a.store.now a.name.now a.board.now Lists
    (name-unfit _ a.name.now (other-list a.store.now a.name.now _ (eqb-other _ board_length c.in_default-as_array.ensures.cases))))

pub returns-in_err-id : goal.returns-in_err-id
returns-in_err-id c =
    let a = c.args in
    let o = c.in-Some.ensures.cases in
    let p = err_from_is_err_and c.from_residual.result c.from_residual.ensures.1 in
    rw (p.1, p.2, o.same) (save-refused a.store.now a.name.now a.board.now _ (board-judged a.store.now a.name.now a.board.now o.long c.in-Some-as_array.ensures.cases.long c.in_err-id.ensures.refused))

pub returns-in_err-entry : goal.returns-in_err-entry
returns-in_err-entry c =
    let a = c.args in
    let o = c.in-Some.ensures.cases in
    let p = err_from_is_err_and c.from_residual-in_err-entry.result c.from_residual-in_err-entry.ensures.1 in
    let told = c.in_err-entry.ensures in
    let clear = board-judged a.store.now a.name.now a.board.now o.long c.in-Some-as_array.ensures.cases.long c.in_ok-id.ensures.refused in
    rw (p.1, p.2, wanting told.ok_part told.value, o.same) (save-full a.store.now a.name.now a.board.now (sym clear)
    (looked-none (place_for a.store.now) a.name.now c.in_ok-id.ensures.same (rw o.same at c.place_for.ensures) told.ok_part))

pub write_name-requires : goal.write_name-requires
write_name-requires c = place-within _ _ _ (sym c.place_for.ensures ∙ c.in_ok-entry.ensures.ok_part)

pub write_board-requires : goal.write_board-requires
write_board-requires c = place-within _ _ _ (sym c.place_for.ensures ∙ c.in_ok-entry.ensures.ok_part)

pub returns : goal.returns
unfolding saved
returns c =
    let a = c.args in
    let o = c.in-Some.ensures.cases in
    let clear = board-judged a.store.now a.name.now a.board.now o.long c.in-Some-as_array.ensures.cases.long c.in_ok-id.ensures.refused in
    let found = looked-at (place_for a.store.now) a.name.now c.in_ok-id.ensures.same (rw o.same at c.place_for.ensures) c.in_ok-entry.ensures.ok_part in
    rw (c.write_board.ensures, c.write_name.ensures, c.in_ok-id.ensures.same, c.in-Some-as_array.ensures.cases.same, o.same) (save-made a.store.now a.name.now a.board.now (sym clear) _ found)
