-- A whole sheet of an accepted file: what its month is lent, and what its step tells. Assumes nothing.
use Rattle.rules.specs.declared.Refusal.TheVariants.{Lists}
use mathlib.Core.Bool.{true, false}
use mathlib.Core.List.{List, []}
use mathlib.Core.Path.{◌≡◌, refl, sym, ap, ◌∙◌, subst}
use Prim.Native.Nat.{ℕ, suc, ◌+◌, ◌≤◌, ◌<◌}
use native.Mathlib.Numerals.{add-one}
use native.Mathlib.Omega.{arith}
use lib.ListN.{length, get_or}
use Rattle.rules.specs.Accepted.{Accepted}
use Rattle.rules.specs.Basin.{Basin, rows}
use Rattle.rules.specs.Answers.{Answer, told}
use Rattle.rules.specs.Tally.{report_length}
use Rattle.records.specs.Records.{rows_of, right_count, basin_of}
use Rattle.records.specs.declared.bodies.Bodies.{Bodies}
use Rattle.records.specs.Bodies.{basin_in, BodiesOf}
use Rattle.filecheck.specs.Check.{check_of}
use Rattle.filecheck.proofs.Accepted.{accepted-facts}
use Rattle.boards.specs.Board.{possible}
use Rattle.places.specs.Report.{evaporation_place}
use Rattle.records.proofs.Decoded.{basin-same, bodies-rows, bodies-reservoirs, bodies-rights}
use Rattle.boards.proofs.Bounds.{bounded}
use Rattle.month.specs.Run.{CanRunSheet, SheetRan}
use Rattle.month.proofs.Going.{still-possible, losses_told}
use Rattle.listing.specs.Listing.{month_text, refusal_line}
use Rattle.lines.specs.Putting.{most_text, CanList, Put}
use Rattle.lines.proofs.Texts.{put_none, put_through, list_kept}
use Rattle.sheets.specs.Sheets.{sheet_of}
use Rattle.listing.specs.Run.{sheet_bytes, Step}
use Rattle.listing.specs.Steps.{StepMeets}
use Rattle.lister.specs.declared.Listing.{Listing}
use Rattle.lister.specs.Lister.{standing, text_of, Kept, InOrder, CanStep, Stepped, Refused}
use Rattle.sheets.proofs.Sheets.{sheet-length}
use Rattle.lister.proofs.Stepping.{short-meets, ended-meets, over-meets, month-meets, went-refused, went_on}

-- ---- what is kept

pub kept_none : (l : Listing) → Kept l l
kept_none l = record { file = refl; same_board = refl; same_report = refl; same_list = refl; report = refl; text = refl }

pub kept-then : {l l₁ l₂ : Listing} → Kept l l₁ → Kept l₁ l₂ → Kept l l₂
kept-then a b = record {
  file = b.file ∙ a.file;
  same_board = b.same_board ∙ a.same_board;
  same_report = b.same_report ∙ a.same_report;
  same_list = b.same_list ∙ a.same_list;
  report = b.report ∙ a.report;
  text = b.text ∙ a.text;
}

-- what is in order stays so with a board that is possible
pub ordered : {l l' : Listing} → InOrder l → Kept l l' → possible (basin_of l.file.now) l'.board.now ≡ true → InOrder l'
ordered {l'} i k can = record {
  accepted = ap check_of k.file ∙ i.accepted;
  can = ap (λ (f : List ℕ). possible (basin_of f) l'.board.now) k.file ∙ can;
  told = omega (arith, i.told, k.report, ap (λ (f : List ℕ). report_length (basin_of f)) k.file);
}

-- a listing of the same fields, of which it was proved anew that its text stands in its list
module _ (l : Listing) (w : l.written ≤ length l.list.now) where
  abbrev like : Listing
  like = record l { within = w }

  pub like-put : {a : ℕ} → Put a [] (text_of l) (text_of like)
  like-put = put_through {t = text_of l} {u = text_of l} {u' = text_of l} refl refl (put_none (text_of l)) refl refl refl

  pub like-kept : Kept l like
  like-kept = record { file = refl; same_board = refl; same_report = refl; same_list = refl; report = refl; text = list_kept (like-put {a = 0}) }

  pub like-refused : {a : Answer} {l' : Listing} → Refused a like l' → Refused a l l'
  like-refused {a} {l'} q = record {
    put = put_through {t = text_of l} {u = text_of like} {u' = text_of l'} {t' = text_of l'} refl refl q.put refl refl q.put.same_list;
    months = q.months;
    board = q.board;
    report = q.report;
    more = q.more;
    kept = kept-then like-kept q.kept;
  }

-- a step may be told in other words for the same
told-as : {part : List ℕ} {l l' : Listing} (text : List ℕ) (o : Step) → InOrder l → Put most_text text (text_of l) (text_of l') → record { text = text; standing = standing l'; more = l'.more } ≡ o
    → StepMeets (basin_of l.file.now) (standing l) part o → possible (basin_of l.file.now) l'.board.now ≡ true → l'.months ≤ l.months + length part → Kept l l' → Stepped part l l'
told-as {part} {l} text o i put e meets can counted kept =
    record { added = text; put = put; meets = subst (StepMeets (basin_of l.file.now) (standing l) part) (sym e) meets; in_order = ordered i kept can; counted = counted; kept = kept }

-- a refusal with which a step ends, where the board was possible
refused-as : {part : List ℕ} {l l₁ l' : Listing} (a : Answer) → InOrder l → StepMeets (basin_of l.file.now) (standing l) part (record { text = refusal_line a; standing = standing l; more = false })
    → l₁.list.now ≡ l.list.now → l₁.written ≡ l.written → l₁.months ≡ l.months → l₁.board.now ≡ l.board.now → Kept l l₁ → Refused a l₁ l' → Stepped part l l'
refused-as {part} {l} {l₁} {l'} a i meets el ew em eb k q =
    told-as (refusal_line a) (record { text = refusal_line a; standing = standing l; more = false }) i
    (put_through {t = text_of l} {u = text_of l₁} {u' = text_of l'} {t' = text_of l'} el ew q.put refl refl (q.put.same_list ∙ k.same_list))
    (λ z. record { text = refusal_line a; standing = record { months = (q.months ∙ em) z; board = (q.board ∙ eb) z }; more = q.more z })
    meets (rw (q.board, eb) i.can) (omega (arith, q.months, em)) (kept-then k q.kept)

-- ---- a whole sheet

module _ (l : Listing) (can : CanStep l) (bs : Bodies) (e : BodiesOf l.file.now bs) where
  abbrev b : Basin
  b = basin_of l.file.now

  same : basin_in bs ≡ b
  same = basin-same l.file.now bs e

  acc : Accepted b
  acc = accepted-facts l.file.now can.in_order.accepted

  module _ (part : List ℕ) (whole : length part ≡ sheet_bytes (basin_of l.file.now)) (n : ℕ) (long : n ≡ rows (basin_of l.file.now)) (runoff : List ℕ) (decoded : runoff ≡ sheet_of n part) where
    sheet-is : runoff ≡ sheet_of (rows b) part
    sheet-is = decoded ∙ ap (λ (k : ℕ). sheet_of k part) long

    pub may-go : CanRunSheet (basin_in bs) runoff l.board.now l.report.now
    may-go = record {
      accepted = subst Accepted (sym same) acc;
      sheet = ap length decoded ∙ sheet-length n part ∙ long ∙ ap rows (sym same);
      can = ap (λ (x : Basin). possible x l.board.now) same ∙ can.in_order.can;
      room = subst (λ (x : Basin). report_length x ≤ length l.report.now) (sym same) can.in_order.told;
    }

    module _ (bd' rp' : List ℕ) (a : Answer) (w : SheetRan (basin_in bs) runoff l.board.now l.report.now (record { answer = a; board = bd'; report = rp' })) where
      went : SheetRan b (sheet_of (rows b) part) l.board.now l.report.now (record { answer = a; board = bd'; report = rp' })
      went = subst (λ (x : Basin). SheetRan x (sheet_of (rows b) part) l.board.now l.report.now (record { answer = a; board = bd'; report = rp' })) same
          (subst (λ (x : List ℕ). SheetRan (basin_in bs) x l.board.now l.report.now (record { answer = a; board = bd'; report = rp' })) sheet-is w)

      some_bytes : 0 < length part
      some_bytes = omega (arith, whole, acc.connected.some_row)

      pub sheet-refused : (a.number ≡ 0 → ⊥) → (l₁ l' : Listing) → Refused a l₁ l' → l₁.list.now ≡ l.list.now → l₁.written ≡ l.written → l₁.months ≡ l.months → l₁.board.now ≡ bd' → Kept l l₁ → Stepped part l l'
      sheet-refused z l₁ l' q el ew em eb k =
          let r = went-refused b (sheet_of (rows b) part) l.board.now l.report.now bd' rp' a went z in
          refused-as a can.in_order (over-meets b (standing l) part a some_bytes whole r.0) el ew em (eb ∙ r.1) k q

      module _ (z : a.number ≡ 0) where
        pub may-list : length rp' ≡ length l.report.now → CanList bs bd' rp'
        may-list et = record {
          few = omega (arith, bodies-rights bs, here.few_rights);
          some_row = omega (arith, bodies-rows bs, here.connected.some_row);
          few_rows = omega (arith, bodies-rows bs, here.few_rows);
          few_reservoirs = omega (arith, bodies-reservoirs bs, here.few_reservoirs);
          told = omega (arith, bodies-rights bs, bodies-rows bs, bodies-reservoirs bs, may-go.room, et);
          small = λ v h. omega (arith, losses_told (basin_in bs) here runoff l.board.now l.report.now (record { answer = a; board = bd'; report = rp' }) w z v (omega (arith, h, bodies-reservoirs bs)), ap (λ (x : ℕ). get_or rp' x 0) (place_of v));
          bounded = bounded b acc bd' (still-possible b acc (sheet_of (rows b) part) l.board.now l.report.now can.in_order.can (record { answer = a; board = bd'; report = rp' }) went);
        }
          where
            here : Accepted (basin_in bs)
            here = may-go.accepted

            place_of : (v : ℕ) → evaporation_place (right_count bs.rights.now) (rows_of bs.stations.now) v ≡ evaporation_place (length (basin_in bs).rights) (rows (basin_in bs)) v
            place_of v = omega (arith, bodies-rows bs, bodies-rights bs)

        pub sheet-listed : (l' : Listing) → l'.months ≡ l.months + 1 → l'.board.now ≡ bd' → l'.more ≡ true → Kept l l' → Put most_text (month_text (basin_in bs) l.months rp' bd') (text_of l) (text_of l') → Stepped part l l'
        sheet-listed l' em eb go kept put =
            let k = went_on b (sheet_of (rows b) part) l.board.now l.report.now bd' rp' a went z in
            told-as (month_text b l.months rp' bd') (record { text = month_text b l.months rp' bd'; standing = record { months = suc l.months; board = bd' }; more = true }) can.in_order
            (subst (λ (x : Basin). Put most_text (month_text x l.months rp' bd') (text_of l) (text_of l')) same put)
            (λ i. record { text = month_text b l.months rp' bd'; standing = record { months = (em ∙ add-one l.months) i; board = eb i }; more = go i })
            (month-meets b (standing l) part l.report.now rp' bd' acc.connected.some_row whole k.none_over k.report k.board)
            (rw eb (still-possible b acc (sheet_of (rows b) part) l.board.now l.report.now can.in_order.can (record { answer = a; board = bd'; report = rp' }) went))
            (omega (arith, em, some_bytes)) kept

-- ---- a part that is no whole sheet

module _ (part : List ℕ) (l : Listing) (can : CanStep l) where
  pub few_rows : rows (basin_of l.file.now) ≤ 64
  few_rows = (accepted-facts l.file.now can.in_order.accepted).few_rows

  pub part-ended : length part ≡ 0 → (w : l.written ≤ length l.list.now) → Stepped part l (record l { more = false; within = w })
  part-ended z w = record {
    added = [];
    put = put;
    meets = ended-meets (basin_of l.file.now) (standing l) part z;
    in_order = record { accepted = can.in_order.accepted; can = can.in_order.can; told = can.in_order.told };
    counted = omega arith;
    kept = record { file = refl; same_board = refl; same_report = refl; same_list = refl; report = refl; text = list_kept put };
  }
    where
      put : Put most_text [] (text_of l) (text_of (record l { more = false; within = w }))
      put = put_through {t = text_of l} {u = text_of l} {u' = text_of l} refl refl (put_none (text_of l)) refl refl refl

  pub part-short : 0 < length part → (length part ≡ sheet_bytes (basin_of l.file.now) → ⊥) → (l' : Listing) → Refused (told Lists) l l' → Stepped part l l'
  part-short some_bytes other l' w =
      refused-as (told Lists) can.in_order (short-meets (basin_of l.file.now) (standing l) part some_bytes other)
      refl refl refl refl (kept_none l) w
