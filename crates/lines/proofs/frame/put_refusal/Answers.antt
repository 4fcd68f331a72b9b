-- `lines::frame::put_refusal` meets its contract: the word and two numbers. Assumes nothing.
use mathlib.Core.List.{[], ◌∷◌, ◌++◌}
use Rattle.rules.specs.Answers.{Answer}
use Rattle.listing.specs.Listing.{space, decimal_text, line_of, refused_word, refusal_line}
use Rattle.lines.specs.declared.text.Text.{Text}
use Rattle.lines.specs.Putting.{Put}
use Rattle.lines.proofs.Texts.{word-then}
use Rattle.lines.proofs.frame.put_refusal.Goals as goal

-- the line of an answer, by its two numbers
lined : (a : Answer) {t u v : Text} → Put 8 (refused_word ++ (space ∷ [])) t u → Put 42 (line_of (decimal_text a.number ∷ decimal_text a.place ∷ [])) u v → Put 50 (refusal_line a) t v
unfolding refusal_line
lined a p q = word-then refused_word space p q

pub returns : goal.returns
returns c = lined (record { number = c.args.answer.number; place = c.args.answer.place }) c.push.ensures c.line.ensures
