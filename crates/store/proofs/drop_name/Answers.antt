-- `store::drop_name` meets its contract. Assumes nothing.
use mathlib.Core.Path.{sym, ◌∙◌}
use mathlib.Core.Bool.{true}
use Rattle.rules.specs.declared.Refusal.TheVariants.{Lists}
use Rattle.std.proofs.lemmas.Result.{err_from_is_err_and}
use Rattle.store.specs.Calls.{dropped}
use Rattle.entries.specs.Entries.{first_named}
use Rattle.entries.proofs.LookUp.{looked-none, looked-at, named-within}
use Rattle.store.proofs.Answers.{other_length, name-unfit, store-judged, wanting, drop-refused, drop-none, drop-made}
use Rattle.store.proofs.drop_name.Goals as goal

pub returns-in_default : goal.returns-in_default
returns-in_default c =
    let a = c.args in
    drop-refused a.store.now a.name.now Lists (name-unfit _ a.name.now (other_length a.store.now a.name.now true c.in_default.ensures.cases))

pub returns-in_err-id : goal.returns-in_err-id
returns-in_err-id c =
    let a = c.args in
    let o = c.in-Some.ensures.cases in
    let p = err_from_is_err_and c.from_residual.result c.from_residual.ensures.1 in
    rw (p.1, p.2, o.same) (drop-refused a.store.now a.name.now _ (store-judged a.store.now a.name.now o.long c.in_err-id.ensures.refused))

pub returns-in_err-entry : goal.returns-in_err-entry
returns-in_err-entry c =
    let a = c.args in
    let o = c.in-Some.ensures.cases in
    let p = err_from_is_err_and c.from_residual-in_err-entry.result c.from_residual-in_err-entry.ensures.1 in
    let told = c.in_err-entry.ensures in
    let clear = store-judged a.store.now a.name.now o.long c.in_ok-id.ensures.refused in
    rw (p.1, p.2, wanting told.ok_part told.value, o.same) (drop-none a.store.now a.name.now (sym clear)
    (looked-none (first_named a.store.now) a.name.now c.in_ok-id.ensures.same (rw o.same at c.find.ensures) told.ok_part))

pub write_name-requires : goal.write_name-requires
write_name-requires c = named-within _ _ _ (sym c.find.ensures ∙ c.in_ok-entry.ensures.ok_part)

pub returns : goal.returns
unfolding dropped
returns c =
    let a = c.args in
    let o = c.in-Some.ensures.cases in
    let clear = store-judged a.store.now a.name.now o.long c.in_ok-id.ensures.refused in
    let found = looked-at (first_named a.store.now) a.name.now c.in_ok-id.ensures.same (rw o.same at c.find.ensures) c.in_ok-entry.ensures.ok_part in
    rw (c.write_name.ensures, o.same) (drop-made a.store.now a.name.now (sym clear) _ found)
