-- Laws of the look-up, and what a caller learns from it. Assumes nothing.
use Rattle.std.specs.Prelude.{Option, None, Some, Ok, Err, is_some, ok_or, option_map, option_copied, IfOk}
use mathlib.Core.Path.{◌≡◌, refl, sym, ◌∙◌}
use mathlib.Core.Bool.{true, false}
use mathlib.Core.List.{List}
use Prim.Native.Nat.{ℕ, ◌≤◌}
use native.Mathlib.Omega.{arith}
use denote.Ref.{Bor}
use lib.ListN.{length, drop, length-take}
use Rattle.general.proofs.Search.{first-within, some_of}
use Rattle.rules.specs.Basin.{rows}
use Rattle.rules.specs.declared.Refusal.{Refusal}
use Rattle.rules.specs.declared.Refusal.TheVariants.{Book, Year}
use Rattle.rules.specs.Answers.{Answer, told, or_else, unless}
use Rattle.rules.proofs.Answers.{or-first, or-second, unless-none}
use Rattle.records.specs.Records.{basin_of}
use Rattle.filecheck.specs.Check.{check_of}
use Rattle.filecheck.proofs.Accepted.{accepted-facts}
use Rattle.answers.specs.Answers.{refusal_of, file_refusal}
use Rattle.answers.proofs.Answers.{no-refusal, file-accepted}
use Rattle.book.specs.Book.{year_count, offset_at, body_size, book_ok, listed_at, body_of, body_where, book_refusal, lookup_refusal, part_where, year_part, Kept}
use Rattle.book.proofs.Bodies.{body-length}

body-most : (n : ℕ) (k : List ℕ) (o : Option ℕ) → length (body_where o n k) ≤ body_size n
unfolding body_where body_of
body-most n k None = omega arith
body-most n k (Some i) = omega (arith, length-take (body_size n) (drop (offset_at k i) k))

module _ (f k : List ℕ) (y : ℕ) where
  abbrev stations : ℕ
  stations = rows (basin_of f)

  -- ---- refusal by refusal

  pub file-refused : (r : Refusal) → Err r ≡ check_of f → Some (told r) ≡ lookup_refusal f k y
  unfolding lookup_refusal book_refusal file_refusal or_else
  file-refused r e = rw (← e)

  module _ (acc : check_of f ≡ Ok tt) where
    pub book-broken : book_ok stations k ≡ false → Some (told Book) ≡ lookup_refusal f k y
    unfolding lookup_refusal book_refusal or_else unless
    book-broken n = rw (no-refusal f acc, n)

    module _ (good : book_ok stations k ≡ true) where
      pub kept : Kept stations k
      kept = record { few = (accepted-facts f acc).few_rows; good = good }

      by-year : lookup_refusal f k y ≡ unless (is_some (listed_at k y)) Year
      unfolding lookup_refusal book_refusal or_else unless
      by-year = rw (no-refusal f acc, good)

      abbrev pub Told : Option (Bor (List ℕ)) → Type 0
      Told o = (refusal_of (ok_or o Year) ≡ lookup_refusal f k y) × IfOk (ok_or o Year) (λ b. b.now ≡ year_part f k y)

      -- the body as it was looked up
      pub looked-up : (o : Option (Bor (List ℕ))) → option_copied o ≡ option_map (body_of stations k) (listed_at k y) → Told o
      unfolding unless year_part part_where body_where
      looked-up o e = go o (listed_at k y) refl e
        where
          go : (o : Option (Bor (List ℕ))) (q : Option ℕ) → listed_at k y ≡ q → option_copied o ≡ option_map (body_of stations k) q → Told o
          go None None l h = (sym (by-year ∙ rw l), tt)
          go None (Some i) l h = cc
          go (Some b) None l h = cc
          go (Some b) (Some i) l h =
              let n : lookup_refusal f k y ≡ None = by-year ∙ rw l in
              let m : b.now ≡ body_of stations k i = cc in
              (sym n, m ∙ sym (rw (n, l)))

  -- ---- what a caller learns

  pub record Found : Type 0 where
    pub refused : lookup_refusal f k y ≡ None
    pub file : check_of f ≡ Ok tt
    pub size : length (year_part f k y) ≡ body_size stations

  -- of a year that is not refused
  pub found_none : lookup_refusal f k y ≡ None → Found
  unfolding lookup_refusal book_refusal year_part part_where listed_at body_where
  found_none e =
      let b = or-first (book_refusal f k) _ e in
      let acc = file-accepted f (or-first (file_refusal f) _ b) in
      let good : book_ok stations k ≡ true = unless-none _ Book (or-second (file_refusal f) _ b) in
      let q = some_of (listed_at k y) (unless-none _ Year (or-second (book_refusal f k) _ e)) in
      record {
        refused = e;
        file = acc;
        size = rw (e, q.1) (body-length stations k (kept acc good) q.0 (omega (arith, first-within _ (year_count k) 0 q.0 q.1)));
      }

  -- no part is longer than a body
  pub part-most : length (year_part f k y) ≤ body_size stations
  unfolding year_part part_where
  part-most = go (lookup_refusal f k y)
    where
      go : (v : Option Answer) → length (part_where v f k y) ≤ body_size stations
      go None = body-most stations k (listed_at k y)
      go (Some a) = omega arith
