-- The digits of a number, put into a list. Assumes nothing.
use mathlib.Core.List.{List, [], ◌∷◌, ◌++◌, map, append_assoc, append-nil}
use mathlib.Core.Path.{◌≡◌, refl, sym, ap, ◌∙◌, subst}
use Prim.Native.Nat.{ℕ, suc, ◌+◌, ◌-◌, ◌/◌, ◌%◌, ◌≤◌, ◌<◌}
use native.Mathlib.Numerals.{add-one}
use native.Mathlib.Omega.{arith}
use lib.ListN.{length, get_or, take, drop, set, length-append, length-take, length-set}
use lib.Seq.{take-suc, take-suc-set, take_all}
use Rattle.listing.specs.Listing.{digit, decimal_text, space, line_end, line_of}
use Rattle.std.proofs.lemmas.List.{map-append}
use Rattle.lines.specs.declared.text.Text.{Text}
use Rattle.lines.specs.Texts.{bytes_of, room_of}
use Rattle.lines.specs.Putting.{Put, PutAt}
use Rattle.lines.proofs.Decimals.{one-digit, two_digits, two-more, one-long, two-long, more-long}

-- ---- stores

pub byte_put : (o : List ℕ) (at x : ℕ) → at < length o → take (at + 1) (set o at x) ≡ take at o ++ (x ∷ [])
byte_put o at x h = rw (add-one at) (take-suc-set o at x h)

-- one more byte after a text
pub byte-after : (o o' : List ℕ) (at p x : ℕ) (t : List ℕ) → p < length o' → take p o' ≡ take at o ++ t → take (p + 1) (set o' p x) ≡ take at o ++ (t ++ (x ∷ []))
byte-after o o' at p x t h e = byte_put o' p x h ∙ ap (λ (l : List ℕ). l ++ (x ∷ [])) e ∙ append_assoc (take at o) t (x ∷ [])

pub pair-after : (o o' : List ℕ) (at p x y : ℕ) (t : List ℕ) → p + 2 ≤ length o' → take p o' ≡ take at o ++ t
    → take (p + 2) (set (set o' p x) (p + 1) y) ≡ take at o ++ (t ++ (x ∷ y ∷ []))
pair-after o o' at p x y t h e =
    let n : p + 2 ≡ p + 1 + 1 = omega arith in
    rw n (byte-after o (set o' p x) at (p + 1) y (t ++ (x ∷ [])) (omega (arith, length-set o' p x)) (byte-after o o' at p x t (omega arith) e))
    ∙ ap (λ (l : List ℕ). take at o ++ l) (append_assoc t (x ∷ []) (y ∷ []))

-- ---- a number

-- x and the lists are what the calls answer
module _ (o : List ℕ) (at n : ℕ) (fits : at + length (decimal_text n) ≤ length o) where
  pub put_one : (x : ℕ) → n < 10 → x ≡ digit n → PutAt at (decimal_text n) o (set o at x) (at + 1)
  put_one x h q = record {
    put = byte_put o at x (omega (arith, one-long n h)) ∙ ap (λ (y : ℕ). take at o ++ (y ∷ [])) q ∙ ap (λ (t : List ℕ). take at o ++ t) (sym (one-digit n h));
    ends = omega (arith, one-long n h);
  }

  pub put_two : (o' : List ℕ) → 10 ≤ n → n < 100 → o' ≡ set (set o at (digit (n / 10))) (at + 1) (digit (n % 10)) → PutAt at (decimal_text n) o o' (at + 2)
  put_two o' h g q = record {
    put = ap (take (at + 2)) q ∙ pair-after o o at at (digit (n / 10)) (digit (n % 10)) [] (omega (arith, two-long n h g)) (sym (append-nil (take at o))) ∙ ap (λ (t : List ℕ). take at o ++ t) (sym (two_digits n h g));
    ends = omega (arith, two-long n h g);
  }

  put-exact : (o' o'' : List ℕ) (p : ℕ) → 100 ≤ n → length o' ≡ length o → PutAt at (decimal_text (n / 100)) o o' p
      → o'' ≡ set (set o' p (digit (n % 100 / 10))) (p + 1) (digit (n % 100 % 10)) → PutAt at (decimal_text n) o o'' (p + 2)
  put-exact o' o'' p h e w q = record {
    put = ap (take (p + 2)) q ∙ pair-after o o' at p (digit (n % 100 / 10)) (digit (n % 100 % 10)) (decimal_text (n / 100)) (omega (arith, more-long n h, w.ends)) w.put ∙ ap (λ (t : List ℕ). take at o ++ t) (sym (two-more n h));
    ends = omega (arith, more-long n h, w.ends);
  }

  -- the digits of m in front, and then the two of d
  pub put-more : (o' o'' : List ℕ) (p m d : ℕ) → 100 ≤ n → m ≡ n / 100 → d ≡ n % 100 → length o' ≡ length o → PutAt at (decimal_text m) o o' p
      → o'' ≡ set (set o' p (digit (d / 10))) (p + 1) (digit (d % 10)) → PutAt at (decimal_text n) o o'' (p + 2)
  put-more o' o'' p m d h f g e w q =
      put-exact o' o'' p h e (subst (λ (k : ℕ). PutAt at (decimal_text k) o o' p) f w)
      (q ∙ ap (λ (k : ℕ). set (set o' p (digit (k / 10))) (p + 1) (digit (k % 10))) g)

-- four digits more
pub put-four-more : (o : List ℕ) (at n : ℕ) → at + length (decimal_text n) ≤ length o → (o' o'' o''' : List ℕ) (p : ℕ) → 10000 ≤ n → length o' ≡ length o → length o'' ≡ length o
    → PutAt at (decimal_text (n / 10000)) o o' p
    → o'' ≡ set (set o' p (digit (n % 10000 / 100 / 10))) (p + 1) (digit (n % 10000 / 100 % 10))
    → o''' ≡ set (set o'' (p + 2) (digit (n % 10000 % 100 / 10))) (p + 2 + 1) (digit (n % 10000 % 100 % 10))
    → PutAt at (decimal_text n) o o''' (p + 4)
put-four-more o at n fits o' o'' o''' p h e f w q s =
    let first = put-more o at (n / 100) (omega (arith, more-long n (omega arith))) o' o'' p (n / 10000) (n % 10000 / 100) (omega arith) (omega arith) (omega arith) e w q in
    subst (λ (k : ℕ). PutAt at (decimal_text n) o o''' k) (omega arith)
    (put-more o at n fits o'' o''' (p + 2) (n / 100) (n % 10000 % 100) (omega arith) refl (omega arith) f first s)

-- ---- a line of numbers

-- words with single spaces between
abbrev pub joined : List (List ℕ) → List ℕ
joined [] = []
joined (w ∷ []) = w
joined (w ∷ v ∷ l) = w ++ (space ∷ joined (v ∷ l))

joined-more : (w : List ℕ) (l : List (List ℕ)) (v : List ℕ) → joined (w ∷ (l ++ (v ∷ []))) ≡ joined (w ∷ l) ++ (space ∷ v)
joined-more w [] v = refl
joined-more w (u ∷ l) v = ap (λ (t : List ℕ). w ++ (space ∷ t)) (joined-more u l v) ∙ sym (append_assoc w (space ∷ joined (u ∷ l)) (space ∷ v))

joined-line : (w : List ℕ) (l : List (List ℕ)) → joined (w ∷ l) ++ (line_end ∷ []) ≡ line_of (w ∷ l)
joined-line w [] = refl
joined-line w (u ∷ l) = append_assoc w (space ∷ joined (u ∷ l)) (line_end ∷ []) ∙ ap (λ (t : List ℕ). w ++ (space ∷ t)) (joined-line u l)

-- the first number and the next k
abbrev pub first_few : ℕ → List ℕ → ℕ → List ℕ
first_few n ns k = joined (decimal_text n ∷ map decimal_text (take k ns))

few-more : (n : ℕ) (ns : List ℕ) (k : ℕ) → k < length ns → first_few n ns (k + 1) ≡ first_few n ns k ++ (space ∷ decimal_text (get_or ns k 0))
few-more n ns k h =
    ap (λ (l : List ℕ). joined (decimal_text n ∷ map decimal_text l)) (ap (λ (j : ℕ). take j ns) (add-one k) ∙ take-suc ns k 0 h)
    ∙ ap (λ (l : List (List ℕ)). joined (decimal_text n ∷ l)) (map-append decimal_text (take k ns) (get_or ns k 0 ∷ []))
    ∙ joined-more (decimal_text n) (map decimal_text (take k ns)) (decimal_text (get_or ns k 0))

-- a space and one number more
pub put-more-of : {o o' o'' : List ℕ} {from at r : ℕ} (n : ℕ) (ns : List ℕ) (k : ℕ) → k < length ns → at < length o' → PutAt from (first_few n ns k) o o' at
    → PutAt (at + 1) (decimal_text (get_or ns k 0)) (set o' at space) o'' r → PutAt from (first_few n ns (k + 1)) o o'' r
put-more-of {o} {o'} {o''} {from} {at} n ns k h fits x y =
    let v = decimal_text (get_or ns k 0) in
    let e = few-more n ns k h in record {
      put = y.put ∙ ap (λ (l : List ℕ). l ++ v) (byte-after o o' from at space (first_few n ns k) fits x.put) ∙ append_assoc (take from o) (first_few n ns k ++ (space ∷ [])) v
          ∙ ap (λ (l : List ℕ). take from o ++ l) (append_assoc (first_few n ns k) (space ∷ []) v ∙ sym e);
      ends = omega (arith, x.ends, y.ends, ap length e, length-append (first_few n ns k) (space ∷ v));
    }

-- a list by its first number and the others
first-and : (ns : List ℕ) → 0 < length ns → ns ≡ get_or ns 0 0 ∷ take (length ns - 1) (drop 1 ns)
first-and [] h = absurd (omega arith)
first-and (n ∷ ns) h = ap (λ (l : List ℕ). n ∷ l) (sym (take_all (suc (length ns) - 1) ns (omega arith)))

pub other-at : (ns : List ℕ) → 0 < length ns → (k : ℕ) → get_or ns (suc k) 0 ≡ get_or (take (length ns - 1) (drop 1 ns)) k 0
other-at ns h k = ap (λ (l : List ℕ). get_or l (suc k) 0) (first-and ns h)

-- the line's end
pub put-line-end : {o o' : List ℕ} {from at : ℕ} (numbers : List ℕ) (k : ℕ) → 0 < length numbers → k ≡ length numbers - 1 → at < length o' → PutAt from (first_few (get_or numbers 0 0) (take (length numbers - 1) (drop 1 numbers)) k) o o' at
    → PutAt from (line_of (map decimal_text numbers)) o (set o' at line_end) (at + 1)
put-line-end {o} {o'} {from} {at} numbers k some e fits x =
    let n = get_or numbers 0 0 in
    let ns = take (length numbers - 1) (drop 1 numbers) in
    let whole : first_few n ns k ++ (line_end ∷ []) ≡ line_of (map decimal_text numbers) =
    ap (λ (l : List ℕ). joined (decimal_text n ∷ map decimal_text l) ++ (line_end ∷ [])) (take_all k ns (omega (arith, e, length-take (length numbers - 1) (drop 1 numbers))))
    ∙ joined-line (decimal_text n) (map decimal_text ns) ∙ ap (λ (l : List ℕ). line_of (map decimal_text l)) (sym (first-and numbers some)) in record {
      put = byte-after o o' from at line_end (first_few n ns k) fits x.put ∙ ap (λ (l : List ℕ). take from o ++ l) whole;
      ends = omega (arith, x.ends, sym (ap length whole), length-append (first_few n ns k) (line_end ∷ []));
    }

-- ---- what is put in the list, for the text

-- what a text is told of its list
module _ (t t' : Text) (line : List ℕ) (most : ℕ) (same : t'.list.ghost_name ≡ t.list.ghost_name) (fits : most ≤ room_of t) (few : length line ≤ most) (w : PutAt t.len line t.list.now t'.list.now t'.len) where
  pub put-in : length t'.list.now ≡ length t.list.now → Put most line t t'
  unfolding bytes_of room_of
  put-in long = record { bytes = w.put; room = omega (arith, w.ends, few, fits, long, t.within); within = few; same_list = same }
