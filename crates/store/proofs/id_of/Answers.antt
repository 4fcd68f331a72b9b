-- `store::id_of` meets its contract. Assumes nothing.
use mathlib.Core.Path.{sym, ap, ◌∙◌}
use Prim.Native.Nat.{ℕ}
use Rattle.std.proofs.Common.{arith, eqb}
use Rattle.general.proofs.Tests.{eqb-other, eqb_same}
use Rattle.entries.specs.Entries.{name_length}
use Rattle.store.proofs.Answers.{name-unfit, name-empty, name-none}
use Rattle.store.proofs.id_of.Goals as goal

pub returns-in_default-clause-refused : goal.returns-in_default-clause-refused
returns-in_default-clause-refused c = name-unfit _ c.args.name.now (eqb-other _ name_length (λ e. omega (arith, e, c.in_default.ensures.cases)))

pub returns-then-same_name-clause-refused : goal.returns-then-same_name-clause-refused
returns-then-same_name-clause-refused c =
    let o = c.in-Some.ensures.cases in
    name-empty _ c.args.name.now (ap (λ (k : ℕ). eqb k name_length) o.long ∙ eqb_same name_length) (sym (rw o.same at c.same_name.ensures) ∙ c.if-same_name.true)

pub returns-clause-refused : goal.returns-clause-refused
returns-clause-refused c =
    let o = c.in-Some.ensures.cases in
    sym (name-none _ c.args.name.now (ap (λ (k : ℕ). eqb k name_length) o.long ∙ eqb_same name_length) (sym (rw o.same at c.same_name.ensures) ∙ c.if-same_name.false))
