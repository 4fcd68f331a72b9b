use Rattle.std.proofs.Common.{refl, rules, tests}
use Rattle.general.proofs.Search.{find-first}
use Rattle.entries.specs.Entries.{is_named, first_named}
use Rattle.entries.proofs.names.find.Goals as goal

pub returns : goal.returns
unfolding first_named
returns c = find-first _ _ _ c.find.result c.find.ensures.ran (is_named c.args.store.now c.args.name) 0 4 refl (λ x b q k. search (rules, tests))
