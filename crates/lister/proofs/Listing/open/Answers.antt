-- `lister::Listing::open` meets its contract. Assumes nothing.
use mathlib.Core.Path.{◌≡◌, refl, ap, ◌∙◌}
use borrow.Author.Rules.{rules}
use lib.ListN.{length}
use Rattle.places.specs.Board.{board_length}
use Rattle.rules.specs.Answers.{told}
use Rattle.answers.specs.Answers.{accepted}
use Rattle.answers.proofs.Numbered.{numbered}
use Rattle.lines.specs.declared.text.Text.{Text}
use Rattle.lines.proofs.Texts.{put_through}
use Rattle.lister.proofs.Begun.{refused-open, accepted-open}
use Rattle.lister.proofs.Listing.open.Goals.{in-Ok, in-Err}
use Rattle.lister.proofs.Listing.open.Goals as goal

pub returns-clause-opened : goal.returns-clause-opened
returns-clause-opened c =
    let s = c.args in
    let fits : length s.board.now ≡ board_length = search rules in
    elim c.match-fresh.branch [
      | in-Ok w ↦ accepted-open s.file.now s.board.now _ fits accepted w.in-Ok.ensures c.over-text.ensures.empty c.over-text.ensures.room c.put_header.ensures _ refl refl s.report.now refl refl refl w.more-is
          (put_through {u = c.over-text.result} {u' = c.put_header.new.text} refl refl c.put_header.ensures (ap (λ (t : Text). t.list.now) w.text-is) (ap (λ (t : Text). t.len) w.text-is) (ap (λ (t : Text). t.list.ghost_name) w.text-is ∙ c.put_header.ensures.same_list))
      | in-Err w ↦ refused-open s.file.now s.board.now _ fits (told w.in-Err.refusal) w.in-Err.ensures c.over-text.ensures.empty c.over-text.ensures.room c.put_header.ensures _ refl refl s.report.now refl refl (numbered _) w.more-is
          (put_through {u = c.put_header.new.text} {u' = w.put_refusal.new.text} refl refl (rw w.from.ensures at w.put_refusal.ensures) (ap (λ (t : Text). t.list.now) w.text-is) (ap (λ (t : Text). t.len) w.text-is) (ap (λ (t : Text). t.list.ghost_name) w.text-is ∙ w.put_refusal.ensures.same_list))
    ]
