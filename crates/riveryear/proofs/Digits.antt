-- Digits read one after another. Assumes nothing.
use Rattle.std.specs.Prelude.{Option, None, Some}
use Rattle.std.specs.Char.{IsAsciiDigit}
use mathlib.Core.Bool.{Bool, true, false}
use mathlib.Core.List.{List, [], ◌∷◌}
use mathlib.Core.Path.{◌≡◌, refl, sym, ap, ◌∙◌}
use Prim.Native.Nat.{ℕ, ◌+◌, ◌-◌, ◌*◌, ◌≤◌, ◌<◌}
use native.Mathlib.Omega.{arith}
use native.Mathlib.Numerals.{add-one}
use lib.ListN.{length, get_or, drop, drop_of_length-le}
use lib.Seq.{drop-cons}
use Rattle.std.proofs.Math.Nat.{lt_of_not-le}
use Rattle.general.specs.Tests.{◌and◌, between}
use Rattle.general.proofs.Tests.{leb_yes, leb_no, between-of}
use Rattle.riveryear.specs.Words.{read_on, most_year, year_in, year_named}

module _ (n c : ℕ) (cs : List ℕ) where
  read-digit : between 48 c 57 ≡ true → read_on n (c ∷ cs) ≡ read_on (10 * n + (c - 48)) cs
  unfolding read_on
  read-digit e = rw (e, read_on)

  read-other : between 48 c 57 ≡ false → year_in (read_on n (c ∷ cs)) ≡ None
  unfolding read_on year_in
  read-other e = rw (e, read_on)

  -- a byte that is a digit
  goes_on : IsAsciiDigit c → year_in (read_on n (c ∷ cs)) ≡ year_in (read_on (10 * n + (c - 48)) cs)
  unfolding between ◌and◌
  goes_on d = ap year_in (read-digit (rw (leb_yes 48 c d.0, leb_yes c 57 d.1)))

-- a number that is too large stays so
too_large : (cs : List ℕ) (n : ℕ) → most_year < n → year_in (read_on n cs) ≡ None
unfolding read_on year_in
too_large [] n h = rw (leb_no n most_year h)
too_large (c ∷ cs) n h = go (between 48 c 57) refl (too_large cs (10 * n + (c - 48)) (omega arith))
  where
    go : (t : Bool) → between 48 c 57 ≡ t → year_in (read_on (10 * n + (c - 48)) cs) ≡ None → year_in (read_on n (c ∷ cs)) ≡ None
    go true e later = ap year_in (read-digit n c cs e) ∙ later
    go false e later = read-other n c cs e

-- a byte that is no digit, or one digit too many
stops : (n c : ℕ) (cs : List ℕ) → (IsAsciiDigit c × (10 * n + (c - 48) ≤ most_year) → ⊥) → year_in (read_on n (c ∷ cs)) ≡ None
stops n c cs h = go (between 48 c 57) refl
  where
    go : (t : Bool) → between 48 c 57 ≡ t → year_in (read_on n (c ∷ cs)) ≡ None
    go true e =
        let large : most_year < 10 * n + (c - 48) = lt_of_not-le (λ l. h (between-of e, l)) in
        ap year_in (read-digit n c cs e) ∙ too_large cs (10 * n + (c - 48)) large
    go false e = read-other n c cs e

-- the end of the word
at_end : (n : ℕ) → n ≤ most_year → year_in (read_on n []) ≡ Some n
unfolding read_on year_in
at_end n h = rw (leb_yes n most_year h)

-- ---- the word

pub none_named : (word : List ℕ) → length word ≡ 0 → year_named word ≡ None
unfolding year_named
none_named [] h = refl
none_named (c ∷ cs) h = absurd (omega (arith, h))

pub some_named : (word : List ℕ) → (length word ≡ 0 → ⊥) → year_in (read_on 0 word) ≡ year_named word
unfolding year_named
some_named [] h = absurd (h refl)
some_named (c ∷ cs) h = refl

-- ---- byte after byte of a word

module _ (word : List ℕ) where
  -- the year that the bytes from place i on give to the number read before them
  abbrev pub year_from : ℕ → ℕ → Option ℕ
  year_from year i = year_in (read_on year (drop i word))

  module _ (year i : ℕ) where
    pub from_end : length word ≤ i → year ≤ most_year → year_from year i ≡ Some year
    from_end e h = ap (λ cs. year_in (read_on year cs)) (drop_of_length-le word {i = i} e) ∙ at_end year h

    module _ (h : i < length word) where
      cut : year_from year i ≡ year_in (read_on year (get_or word i 0 ∷ drop (i + 1) word))
      cut = ap (λ cs. year_in (read_on year cs)) (drop-cons word i 0 h ∙ ap (λ (k : ℕ). get_or word i 0 ∷ drop k word) (sym (add-one i)))

      pub from_other : (IsAsciiDigit (get_or word i 0) × (10 * year + (get_or word i 0 - 48) ≤ most_year) → ⊥) → year_from year i ≡ None
      from_other ends = cut ∙ stops year (get_or word i 0) (drop (i + 1) word) ends

      pub from_digit : IsAsciiDigit (get_or word i 0) → year_from year i ≡ year_from (10 * year + (get_or word i 0 - 48)) (i + 1)
      from_digit d = cut ∙ goes_on year (get_or word i 0) (drop (i + 1) word) d
