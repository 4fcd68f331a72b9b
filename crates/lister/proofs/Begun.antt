-- A listing is opened: the header, and the file's refusal or the fresh board. Assumes nothing.
use Rattle.std.specs.Prelude.{Option, None, Some, Ok}
use Rattle.places.specs.Board.{board_length}
use Rattle.places.specs.Report.{most_report}
use Rattle.rules.specs.Tally.{report_length}
use mathlib.Core.Bool.{true, false}
use mathlib.Core.List.{List, [], ◌++◌}
use mathlib.Core.Path.{◌≡◌, refl, sym, ap, ◌∙◌}
use Prim.Native.Nat.{ℕ, ◌≤◌}
use native.Mathlib.Omega.{arith}
use lib.ListN.{length, length-append}
use Rattle.general.proofs.Tests.{absurd-bool}
use Rattle.rules.specs.Answers.{Answer, or_else, unless}
use Rattle.records.specs.Records.{basin_of}
use Rattle.filecheck.specs.Check.{check_of}
use Rattle.filecheck.proofs.Accepted.{accepted-facts}
use Rattle.boards.specs.Board.{possible}
use Rattle.answers.specs.Answers.{file_refusal, settled}
use Rattle.fresh.specs.Fresh.{fresh_refusal, fresh_board, Fresh, fresh_settled, fresh_of}
use Rattle.answers.proofs.Answers.{file-accepted}
use Rattle.answers.proofs.Numbered.{clear_none, settled-some, file-numbered}
use Rattle.fresh.proofs.Start.{fresh-can}
use Rattle.listing.specs.Listing.{refusal_line, header}
use Rattle.lines.specs.declared.text.Text.{Text}
use Rattle.lines.specs.Texts.{bytes_of, room_of}
use Rattle.lines.specs.Putting.{Put}
use Rattle.listing.specs.Run.{Step, begin}
use Rattle.lines.proofs.Texts.{put_then, list_kept}
use Rattle.lister.specs.declared.Listing.{Listing}
use Rattle.lister.specs.Lister.{standing, text_of, opening, Opened, InOrder}

or-none : (v : Option Answer) → or_else v None ≡ v
unfolding or_else
or-none None = refl
or-none (Some a) = refl

settled-answer : (v : Option Answer) (f bd : List ℕ) → (fresh_settled v f bd).answer ≡ settled v
unfolding fresh_settled settled
settled-answer None f bd = refl
settled-answer (Some a) f bd = refl

module _ (f bd bd' : List ℕ) (size : length bd ≡ board_length) (a : Answer) (told : record { answer = a; board = bd' } ≡ fresh_of f bd) where
  fresh-is : fresh_of f bd ≡ fresh_settled (file_refusal f) f bd
  unfolding fresh_of fresh_refusal unless
  fresh-is = rw (size, or-none (file_refusal f))

  by-file : record { answer = a; board = bd' } ≡ fresh_settled (file_refusal f) f bd
  by-file = told ∙ fresh-is

  answer-is : a ≡ settled (file_refusal f)
  answer-is = ap (λ (x : Fresh). x.answer) by-file ∙ settled-answer (file_refusal f) f bd

  -- The header is put into an empty text, and then l is made.
  module _ {t u : Text} {out : List ℕ} (empty : bytes_of t ≡ []) (room : room_of t ≡ length out) (head : Put 32 header t u) (l : Listing) (file : l.file.now ≡ f) (board : l.board.now ≡ bd')
      (report : List ℕ) (report_kept : l.report.now ≡ report) (months : l.months ≡ 0) where
    -- all that is put
    opened : {most : ℕ} {line : List ℕ} (o : Step) → most ≤ 82 → Put most line t (text_of l) → record { text = line; standing = standing l; more = l.more } ≡ o → o ≡ opening (file_refusal f) (basin_of f) bd → Opened f bd report out l
    opened {line} o few p e m = record {
      equation = (λ z. record { text = (p.bytes ∙ ap (λ (x : List ℕ). x ++ line) empty) z; standing = standing l; more = l.more }) ∙ e ∙ m;
      within = omega (arith, few, p.within, ap length p.bytes, length-append (bytes_of t) line, ap length empty);
      list = omega (arith, list_kept p, room, ap length empty);
      of_file = file;
      report_kept = report_kept;
    }

    pub refused-open : (a.number ≡ 0 → ⊥) → l.more ≡ false → Put 50 (refusal_line a) u (text_of l) → Opened f bd report out l
    unfolding fresh_settled opening
    refused-open n more line =
        let v : file_refusal f ≡ Some a = settled-some (file_refusal f) a answer-is n in
        let kept : bd' ≡ bd = ap (λ (x : Fresh). x.board) (by-file ∙ ap (λ (x : Option Answer). fresh_settled x f bd) v) in
        opened (record { text = header ++ refusal_line a; standing = record { months = 0; board = bd }; more = false }) (omega arith) (put_then head line)
        (λ z. record { text = header ++ refusal_line a; standing = record { months = months z; board = (board ∙ kept) z }; more = more z }) (rw v)

    pub accepted-open : a.number ≡ 0 → l.more ≡ true → Put 32 header t (text_of l) → Opened f bd report out l
    unfolding fresh_settled opening begin
    accepted-open n more line =
        let v : file_refusal f ≡ None = clear_none (file_refusal f) (file-numbered f) (ap (λ (x : Answer). x.number) (sym answer-is) ∙ n) in
        let made : bd' ≡ fresh_board (basin_of f) = ap (λ (x : Fresh). x.board) (by-file ∙ ap (λ (x : Option Answer). fresh_settled x f bd) v) in
        opened {most = 32} (record { text = header; standing = begin (basin_of f); more = true }) (omega arith) line
        (λ z. record { text = header; standing = record { months = months z; board = (board ∙ made) z }; more = more z }) (rw v)

-- a listing that was opened and goes on is that of an accepted file, from the fresh board
pub opened-on : {f bd report out : List ℕ} {l : Listing} → Opened f bd report out l → l.more ≡ true → (check_of f ≡ Ok tt) × (possible (basin_of f) l.board.now ≡ true) × (l.months ≡ 0)
unfolding opening begin settled
opened-on {f} {bd} {l} w more = go (file_refusal f) refl w.equation
  where
    go : (v : Option Answer) → file_refusal f ≡ v → record { text = bytes_of (text_of l); standing = standing l; more = l.more } ≡ opening v (basin_of f) bd
        → (check_of f ≡ Ok tt) × (possible (basin_of f) l.board.now ≡ true) × (l.months ≡ 0)
    go None e q =
        let acc : check_of f ≡ Ok tt = file-accepted f e in
        (acc, ap (λ (x : Step). possible (basin_of f) x.standing.board) q ∙ fresh-can (basin_of f) (accepted-facts f acc), ap (λ (x : Step). x.standing.months) q)
    go (Some a) e q = absurd-bool more (ap (λ (x : Step). x.more) q)

-- what is then in order for the months, with room for any report
pub opened-order : {f bd report out : List ℕ} {l : Listing} → Opened f bd report out l → l.more ≡ true → length report ≡ most_report → InOrder l
opened-order {f} {l} w more told =
    let on = opened-on w more in
    let facts = accepted-facts f on.0 in record {
      accepted = ap check_of w.of_file ∙ on.0;
      can = ap (λ (x : List ℕ). possible (basin_of x) l.board.now) w.of_file ∙ on.1;
      told = omega (arith, ap length w.report_kept, told, ap (λ (x : List ℕ). report_length (basin_of x)) w.of_file, facts.few_rows, facts.few_rights, facts.few_reservoirs);
    }
