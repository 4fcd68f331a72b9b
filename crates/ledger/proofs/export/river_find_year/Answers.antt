-- `ledger::export::river_find_year` meets its contract. Assumes nothing.
use mathlib.Core.Path.{◌∙◌}
use Rattle.answers.proofs.Answers.{settles, kept-refusal}
use Rattle.ledger.proofs.export.river_find_year.Goals as goal

pub returns : goal.returns
returns c = c.from.ensures ∙ settles c.map.result _ (kept-refusal c.find_year.result c.map.result _ c.map.ensures.cases ∙ c.find_year.ensures.refused)
