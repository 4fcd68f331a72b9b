-- Where a run stands: what holds of its tally, the tally that a board starts, and the two calls that start one, fresh and recall. Assumes nothing.
use Rattle.std.specs.Prelude.{Ok}
use mathlib.Core.Path.{◌≡◌, refl, sym, ap, ◌∙◌, subst}
use mathlib.Core.Bool.{Bool, true, false, cond}
use mathlib.Core.List.{List, [], ◌∷◌, ◌++◌}
use Prim.Native.Nat.{ℕ}
use lib.ListN.{length}
use Rattle.general.specs.Tests.{◌and◌}
use Rattle.general.proofs.Tests.{eqb_same, and-true}
use Rattle.rules.specs.Basin.{Basin}
use Rattle.rules.specs.Tally.{Start, fresh_start, Tally, begun, standing, fresh}
use Rattle.rules.specs.Years.{Entry, after_entry, after_entries}
use Rattle.rules.specs.Answers.{or_else, unless}
use Rattle.rules.specs.Shortness.{short_now}
use Rattle.rules.specs.Accepted.{Accepted}
use Rattle.rules.specs.Theorems.{Possible}
use Rattle.rules.proofs.Possible.{fresh-possible}
use Rattle.rules.proofs.Theorems.{water, start_kept, always_possible}
use Rattle.rules.specs.declared.Refusal.TheVariants.{Name}
use Rattle.records.specs.Records.{basin_of}
use Rattle.filecheck.specs.Check.{check_of}
use Rattle.places.specs.Board.{board_length}
use Rattle.boards.specs.Board.{possible, board_fits}
use Rattle.answers.specs.Answers.{accepted}
use Rattle.answers.proofs.Answers.{no-refusal}
use Rattle.fresh.specs.Fresh.{Fresh, fresh_refusal, fresh_board, fresh_settled, fresh_of}
use Rattle.fresh.proofs.Start.{fresh-size, fresh-can}
use Rattle.entries.specs.Entries.{board_at, first_named}
use Rattle.store.specs.Calls.{store_fits, name_refusal, Meant, refused, entry, meant_by, recall_means, name_means, Recalled, recall_by, recall_of}
use Rattle.entries.proofs.Numbers.{board-length}
use Rattle.account.specs.Runs.{FreshCall, RecallCall, fresh_event, recall_event}
use Rattle.account.specs.Claim.{start_of, tally_board, Standing, tallied, astray, stands_on, board_there, starts_anew, meant_answer, Follows, Kept, KeptAt, FreshBoard}
use Rattle.account.proofs.Tally.{start-possible, tally-begins, fresh-starts}
use Rattle.account.proofs.Shorts.{told-short}

-- ---- a tally that a list of entries has led to from a possible start

pub record Reached (b : Basin) (t : Tally) : Type 0 where
  pub start : Start
  pub can : Possible b start
  pub entries : List Entry
  pub is : t ≡ after_entries b (begun start) entries

entries-more : (b : Basin) (t : Tally) (xs : List Entry) (x : Entry) → after_entries b t (xs ++ (x ∷ [])) ≡ after_entry b (after_entries b t xs) x
unfolding after_entries
entries-more b t [] x = refl
entries-more b t (y ∷ xs) x = entries-more b (after_entry b t y) xs x

pub reached-more : (b : Basin) (t : Tally) → Reached b t → (x : Entry) → Reached b (after_entry b t x)
reached-more b t r x = record {
  start = r.start;
  can = r.can;
  entries = r.entries ++ (x ∷ []);
  is = ap (λ (u : Tally). after_entry b u x) r.is ∙ sym (entries-more b (begun r.start) r.entries x);
}

pub reached-begun : (b : Basin) (s : Start) → Possible b s → Reached b (begun s)
unfolding after_entries
reached-begun b s p = record { start = s; can = p; entries = []; is = refl }

pub reached-possible : (b : Basin) → Accepted b → (t : Tally) → Reached b t → Possible b (standing b t)
reached-possible b acc t r = subst (λ (u : Tally). Possible b (standing b u)) (sym r.is) (always_possible b acc r.start r.can r.entries)

-- ---- a standing that a run can come to

abbrev pub Stands : Basin → Standing → Type 0
Stands b (tallied t) = Reached b t
Stands b (astray l) = (length l ≡ board_length) × (possible b l ≡ false)

module _ (f : List ℕ) (ok : check_of f ≡ Ok tt) (acc : Accepted (basin_of f)) where
  abbrev b : Basin
  b = basin_of f

  -- what holds of it
  reached-kept : (t : Tally) → Reached b t → Kept f t
  reached-kept t r =
      let from : (after_entries b (begun r.start) r.entries).start ≡ r.start = start_kept b r.start r.entries in
      subst (Kept f) (sym r.is) (record {
        short-months = λ i h. told-short f ok acc r.start r.can r.entries i h
            ∙ ap (λ (s : Start). record { number = 0; place = 0; months = short_now s (after_entries b (begun r.start) r.entries).months i }) (sym from);
        water = water b acc r.start r.can r.entries;
      })

  pub stands-kept : (st : Standing) → Stands b st → KeptAt f st
  stands-kept (tallied t) r = reached-kept t r
  stands-kept (astray l) r = r.1

  -- ---- the standing that a board starts

  module _ (l : List ℕ) (size : length l ≡ board_length) where
    by-possible : (P : Standing → Type 0) → (possible b l ≡ true → P (tallied (begun (start_of b l)))) → (possible b l ≡ false → P (astray l)) → P (stands_on b l)
    unfolding stands_on
    by-possible P can cannot = go (possible b l) can cannot
      where
        go : (t : Bool) → (t ≡ true → P (tallied (begun (start_of b l)))) → (t ≡ false → P (astray l)) → P (cond t (tallied (begun (start_of b l))) (astray l))
        go true y n = y refl
        go false y n = n refl

    pub starts-well : Stands b (stands_on b l)
    starts-well = by-possible (Stands b) (λ can. reached-begun b (start_of b l) (start-possible b acc l size can)) (λ cannot. (size, cannot))

    pub starts-there : l ≡ board_there b (stands_on b l)
    starts-there = by-possible (λ st. l ≡ board_there b st) (λ can. tally-begins b acc l size can) (λ cannot. refl)

  -- ---- fresh

  pub fresh-facts : FreshBoard b
  fresh-facts = record { size = fresh-size b acc; is_possible = fresh-can b acc; starts = fresh-starts b acc }

  fresh-made : (board : List ℕ) → length board ≡ board_length → fresh_of f board ≡ record { answer = accepted; board = fresh_board b }
  unfolding fresh_of fresh_settled fresh_refusal or_else unless
  fresh-made board n = rw (no-refusal f ok, n)

  -- the fresh board is that of the fresh tally
  fresh-there : fresh_board b ≡ tally_board b (fresh b)
  fresh-there = tally-begins b acc (fresh_board b) (fresh-size b acc) (fresh-can b acc) ∙ ap (λ (s : Start). tally_board b (begun s)) (fresh-starts b acc)

  pub fresh-stands : Stands b (tallied (fresh b))
  fresh-stands = reached-begun b (fresh_start b) (fresh-possible b acc)

  pub follow-fresh : (st : Standing) (board : List ℕ) → length board ≡ board_length → (e : FreshCall) → e.outcome ≡ fresh_of f board → Follows f st (fresh_event e)
  follow-fresh st board n e m = record {
    answer = ap (λ (o : Fresh). o.answer) (m ∙ fresh-made board n);
    report = tt;
    board = ap (λ (o : Fresh). o.board) (m ∙ fresh-made board n) ∙ fresh-there;
  }

  -- ---- a recall

  -- a board of its length is never the cause of a refusal
  recall-means : (s n board : List ℕ) → length board ≡ board_length → recall_means s n board ≡ name_means s n
  unfolding recall_means name_means
  recall-means s n board h =
      let fits : (store_fits s n and board_fits board) ≡ store_fits s n = ap (λ (t : Bool). store_fits s n and t) (rw h (eqb_same board_length)) ∙ and-true (store_fits s n) in
      ap (λ (t : Bool). meant_by (name_refusal t n) (first_named s n) Name) fits

  recall-left : (s n board : List ℕ) → length board ≡ board_length → recall_of s n board ≡ recall_by (name_means s n) s board
  unfolding recall_of
  recall-left s n board h = ap (λ (v : Meant). recall_by v s board) (recall-means s n board h)

  recall-stands : (st : Standing) → Stands b st → (s : List ℕ) (v : Meant) → Stands b (starts_anew b st s v)
  recall-stands st p s (refused a) = p
  recall-stands st p s (entry e) = starts-well (board_at s e) (board-length s e)

  pub anew-stands : (st : Standing) → Stands b st → (e : RecallCall) → Stands b (starts_anew b st e.store (name_means e.store e.name))
  anew-stands st p e = recall-stands st p e.store (name_means e.store e.name)

  recall-answer : (s board : List ℕ) (v : Meant) → (recall_by v s board).answer ≡ meant_answer v
  unfolding recall_by
  recall-answer s board (refused a) = refl
  recall-answer s board (entry e) = refl

  recall-board : (st : Standing) (s board : List ℕ) → board ≡ board_there b st → (v : Meant) → (recall_by v s board).board ≡ board_there b (starts_anew b st s v)
  unfolding recall_by
  recall-board st s board h (refused a) = h
  recall-board st s board h (entry e) = starts-there (board_at s e) (board-length s e)

  pub follow-recall : (st : Standing) (board : List ℕ) → length board ≡ board_length → board ≡ board_there b st → (e : RecallCall) → e.outcome ≡ recall_of e.store e.name board → Follows f st (recall_event e)
  follow-recall st board n h e m =
      let v : Meant = name_means e.store e.name in
      let left : e.outcome ≡ recall_by v e.store board = m ∙ recall-left e.store e.name board n in
      record {
        answer = ap (λ (o : Recalled). o.answer) left ∙ recall-answer e.store board v;
        report = tt;
        board = ap (λ (o : Recalled). o.board) left ∙ recall-board st e.store board h v;
      }
