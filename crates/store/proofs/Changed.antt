-- Names and boards of entries, and the first entry with a name. Assumes nothing.
use Rattle.std.specs.Prelude.{None, Some}
use mathlib.Core.Path.{◌≡◌, refl, sym, ap, ◌∙◌}
use mathlib.Core.Bool.{Bool, true, false}
use mathlib.Core.List.{List}
use Prim.Native.Nat.{ℕ, zero, suc, ◌+◌, ◌*◌, ◌≤◌, ◌<◌}
use native.Mathlib.Decide.{dec_lt}
use native.Mathlib.Omega.{arith}
use lib.Dec.{eqb}
use lib.ListN.{length, get_or, drop, length-drop}
use lib.Seq.{length-take-le, get_or-take, get_or-drop, ext_get_or}
use Rattle.general.specs.Tests.{first_at}
use Rattle.general.proofs.Tests.{absurd-bool, eqb_same, by_eqb, eq_of}
use Rattle.general.proofs.Search.{first-here, first-later, first-over, first-none, first-within, all-make, all-at}
use Rattle.general.proofs.Tables.{tab-same}
use Rattle.general.proofs.Lists.{all-at-place}
use Rattle.numbers.proofs.Words.{word_same, eight-read}
use Rattle.general.specs.Parts.{over}
use Rattle.numbers.specs.Bytes.{le64_at}
use Rattle.places.specs.Board.{board_length}
use Rattle.entries.specs.Entries.{board_bytes, store_length, name_at, board_start, board_at, bytes_of, no_name, same_name, is_named, first_named}
use Rattle.store.specs.Calls.{saved, dropped}
use Rattle.store.specs.Theorems.{Words, Unknown, Earliest, Usable, OneEntry, Freed}
use Rattle.general.proofs.Parts.{over-length, over-in, over-before, over-after}
use Rattle.entries.proofs.Numbers.{length-bytes, bytes-at, board-length, board-place}

-- ---- a first number with what it passes and what fails before it

module _ (t : ℕ → Bool) where
  first-is : (n i e : ℕ) → i ≤ e → e < i + n → t e ≡ true → ((j : ℕ) → i ≤ j → j < e → t j ≡ false) → first_at n i t ≡ Some e
  first-is zero i e h k f g = absurd (omega arith)
  first-is (suc n) i e h k f g = by_eqb i e (λ _. first_at (suc n) i t ≡ Some e)
      (λ q. first-here t n i (ap t q ∙ f) ∙ ap Some q)
      (λ q. first-later t n i (g i (omega arith) (omega arith)) ∙ first-is n (suc i) e (omega arith) (omega arith) f (λ j l m. g j (omega arith) m))

  first-never : (n i : ℕ) → ((j : ℕ) → i ≤ j → j < i + n → t j ≡ false) → first_at n i t ≡ None
  first-never zero i g = first-over t i
  first-never (suc n) i g = first-later t n i (g i (omega arith) (omega arith)) ∙ first-never n (suc i) (λ j l m. g j (omega arith) (omega arith))

  first_passes : (n i e : ℕ) → first_at n i t ≡ Some e → (t e ≡ true) × ((j : ℕ) → i ≤ j → j < e → t j ≡ false)
  first_passes zero i e f = let g : None ≡ Some e = sym (first-over t i) ∙ f in absurd (let z : ◌≡◌ {A = ℕ} 0 1 = cc in omega arith)
  first_passes (suc n) i e f = go (t i) refl (first_passes n (suc i) e)
    where
      go : (b : Bool) → t i ≡ b → (first_at n (suc i) t ≡ Some e → (t e ≡ true) × ((j : ℕ) → suc i ≤ j → j < e → t j ≡ false)) → (t e ≡ true) × ((j : ℕ) → i ≤ j → j < e → t j ≡ false)
      go true g ih = let q : Some i ≡ Some e = sym (first-here t n i g) ∙ f in let z : i ≡ e = cc in (ap t (sym z) ∙ g, λ j l m. absurd (omega arith))
      go false g ih =
          let r = ih (sym (first-later t n i g) ∙ f) in
          (r.0, λ j l m. by_eqb i j (λ _. t j ≡ false) (λ q. ap t (sym q) ∙ g) (λ q. r.1 j (omega arith) m))

-- ---- a name compared

same-is : (a b : List ℕ) → length a ≡ 8 → length b ≡ 8 → same_name a b ≡ true → a ≡ b
unfolding same_name
same-is a b ea eb h = ext_get_or 0 a b (ea ∙ sym eb) (λ i l. eq_of (all-at 8 (λ j. eqb (get_or a j 0) (get_or b j 0)) h i (omega arith)))

same_of : (a b : List ℕ) → a ≡ b → same_name a b ≡ true
unfolding same_name
same_of a b e = all-make 8 (λ j. eqb (get_or a j 0) (get_or b j 0)) (λ i l. ap (λ (x : List ℕ). eqb (get_or x i 0) (get_or b i 0)) e ∙ eqb_same (get_or b i 0))

same_not : (a b : List ℕ) → length a ≡ 8 → length b ≡ 8 → (a ≡ b → ⊥) → same_name a b ≡ false
same_not a b ea eb h = go (same_name a b) refl
  where
    go : (t : Bool) → same_name a b ≡ t → same_name a b ≡ false
    go true e = absurd (h (same-is a b ea eb e))
    go false e = e

pub no-name-length : length no_name ≡ 8
no-name-length = refl

pub used-name : (n : List ℕ) → length n ≡ 8 → (n ≡ no_name → ⊥) → same_name n no_name ≡ false
used-name n e h = same_not n no_name e no-name-length h

pub used-of : (n : List ℕ) → same_name n no_name ≡ false → n ≡ no_name → ⊥
used-of n f e = absurd-bool (same_of n no_name e) f

-- ---- the name of an entry

module _ (s : List ℕ) (ls : length s ≡ store_length) (e : ℕ) (he : e < 4) where
  pub name-length : length (name_at s e) ≡ 8
  unfolding name_at
  name-length = length-take-le 8 (drop (8 * e) s) (omega (arith, length-drop (8 * e) s))

  name-place : (j : ℕ) → j < 8 → get_or (name_at s e) j 0 ≡ get_or s (8 * e + j) 0
  unfolding name_at
  name-place j h = get_or-take 8 (drop (8 * e) s) j 0 h ∙ get_or-drop (8 * e) s j 0

  module _ (n : List ℕ) (ln : length n ≡ 8) where
    pub named-is : is_named s n e ≡ true → name_at s e ≡ n
    unfolding is_named
    named-is h = same-is (name_at s e) n name-length ln h

    pub named-of : name_at s e ≡ n → is_named s n e ≡ true
    unfolding is_named
    named-of h = same_of (name_at s e) n h

    pub named-not : (name_at s e ≡ n → ⊥) → is_named s n e ≡ false
    unfolding is_named
    named-not h = same_not (name_at s e) n name-length ln h

-- ---- the first entry with a name

module _ (s : List ℕ) (ls : length s ≡ store_length) (n : List ℕ) (ln : length n ≡ 8) where
  pub first_of : (e : ℕ) → Earliest s n e → first_named s n ≡ Some e
  unfolding first_named
  first_of e f =
      let h = f.inside in
      first-is (is_named s n) 4 0 e (omega arith) (omega arith) (named-of s ls e h n ln f.named) (λ j l m. named-not s ls j (omega arith) n ln (f.before j m))

  pub earliest-of : (e : ℕ) → first_named s n ≡ Some e → Earliest s n e
  unfolding first_named
  earliest-of e f =
      let r = first_passes (is_named s n) 4 0 e f in
      let h : e < 4 = (first-within (is_named s n) 4 0 e f).1 in
      record { inside = h; named = named-is s ls e h n ln r.0; before = λ j l g. absurd-bool (named-of s ls j (omega arith) n ln g) (r.1 j (omega arith) l) }

  pub first-unknown : Unknown s n → first_named s n ≡ None
  unfolding first_named
  first-unknown u = first-never (is_named s n) 4 0 (λ j l m. named-not s ls j (omega arith) n ln (u.nowhere j (omega arith)))

  pub unknown-of : first_named s n ≡ None → Unknown s n
  unfolding first_named
  unknown-of f = record { nowhere = λ j l g. absurd-bool (named-of s ls j l n ln g) (first-none (is_named s n) 4 0 f j (omega arith) (omega arith)) }

-- ---- entries that a change leaves

name-kept : (s s' : List ℕ) (j : ℕ) → length s ≡ store_length → length s' ≡ store_length → j < 4 → ((i : ℕ) → i < 8 → get_or s' (8 * j + i) 0 ≡ get_or s (8 * j + i) 0) → name_at s' j ≡ name_at s j
name-kept s s' j l l' h f =
    let m = name-length s l j h in
    let m' = name-length s' l' j h in
    ext_get_or 0 (name_at s' j) (name_at s j) (m' ∙ sym m) (λ i k. name-place s' l' j h i (omega arith) ∙ f i (omega arith) ∙ sym (name-place s l j h i (omega arith)))

board-kept : (s s' : List ℕ) (j : ℕ) → ((i : ℕ) → i < board_bytes → get_or s' (board_start j + i) 0 ≡ get_or s (board_start j + i) 0) → board_at s' j ≡ board_at s j
unfolding board_at
board-kept s s' j f = tab-same board_length (λ k. le64_at s' (board_start j + 8 * k)) (λ k. le64_at s (board_start j + 8 * k)) (λ k h. word_same s s' (board_start j + 8 * k) (λ i l.
    let e : board_start j + 8 * k + i ≡ board_start j + (8 * k + i) = omega arith in
    ap (λ (m : ℕ). get_or s' m 0) e ∙ f (8 * k + i) (omega arith) ∙ ap (λ (m : ℕ). get_or s m 0) (sym e)))

-- ---- a name written

module _ (s : List ℕ) (ls : length s ≡ store_length) (e : ℕ) (he : e < 4) (n : List ℕ) (ln : length n ≡ 8) where
  named-length : length (over s (8 * e) n) ≡ store_length
  named-length = over-length s (8 * e) n (omega arith) ∙ ls

  name-here : name_at (over s (8 * e) n) e ≡ n
  name-here =
      let l = name-length (over s (8 * e) n) named-length e he in
      ext_get_or 0 (name_at (over s (8 * e) n) e) n (l ∙ sym ln) (λ i k. name-place (over s (8 * e) n) named-length e he i (omega arith) ∙ over-in s (8 * e) n i (omega arith) (omega arith))

  name-elsewhere : (j : ℕ) → j < 4 → (j ≡ e → ⊥) → name_at (over s (8 * e) n) j ≡ name_at s j
  name-elsewhere j hj ne = name-kept s (over s (8 * e) n) j ls named-length hj (λ i l. pick i l (dec_lt j e))
    where
      pick : (i : ℕ) → i < 8 → Dec (j < e) → get_or (over s (8 * e) n) (8 * j + i) 0 ≡ get_or s (8 * j + i) 0
      pick i l (yes k) = over-before s (8 * e) n (8 * j + i) (omega arith) (omega arith)
      pick i l (no k) = over-after s (8 * e) n (8 * j + i) (omega arith) (omega arith)

  name-no-board : (j : ℕ) → board_at (over s (8 * e) n) j ≡ board_at s j
  name-no-board j = board-kept s (over s (8 * e) n) j (λ i l. over-after s (8 * e) n (board_start j + i) (omega arith) (omega arith))

-- ---- a board written

module _ (s : List ℕ) (ls : length s ≡ store_length) (e : ℕ) (he : e < 4) (b : List ℕ) (lb : length b ≡ board_length) where
  bytes-length : length (bytes_of b) ≡ board_bytes
  bytes-length = length-bytes b ∙ ap (λ (k : ℕ). 8 * k) lb

  boarded-length : length (over s (board_start e) (bytes_of b)) ≡ store_length
  boarded-length = over-length s (board_start e) (bytes_of b) (omega (arith, bytes-length)) ∙ ls

  board-no-name : (j : ℕ) → j < 4 → name_at (over s (board_start e) (bytes_of b)) j ≡ name_at s j
  board-no-name j h = name-kept s (over s (board_start e) (bytes_of b)) j ls boarded-length h (λ i l. over-before s (board_start e) (bytes_of b) (8 * j + i) (omega arith) (omega arith))

  board-elsewhere : (j : ℕ) → (j ≡ e → ⊥) → board_at (over s (board_start e) (bytes_of b)) j ≡ board_at s j
  board-elsewhere j ne = board-kept s (over s (board_start e) (bytes_of b)) j (λ i l. pick i l (dec_lt j e))
    where
      pick : (i : ℕ) → i < board_bytes → Dec (j < e) → get_or (over s (board_start e) (bytes_of b)) (board_start j + i) 0 ≡ get_or s (board_start j + i) 0
      pick i l (yes k) = over-before s (board_start e) (bytes_of b) (board_start j + i) (omega arith) (omega arith)
      pick i l (no k) = over-after s (board_start e) (bytes_of b) (board_start j + i) (omega arith) (omega (arith, bytes-length))

  board-here : Words b → board_at (over s (board_start e) (bytes_of b)) e ≡ b
  board-here w =
      let x = over s (board_start e) (bytes_of b) in
      let l = board-length x e in
      ext_get_or 0 (board_at x e) b (l ∙ sym lb) (λ k h. board-place x e k (omega arith) ∙ eight-read x (board_start e + 8 * k) (get_or b k 0) (all-at-place (λ y. y < 18446744073709551616) b 0 w k (omega arith))
      (λ j i.
      let q : board_start e + 8 * k + j ≡ board_start e + (8 * k + j) = omega arith in
      ap (λ (m : ℕ). get_or x m 0) q ∙ over-in s (board_start e) (bytes_of b) (8 * k + j) (omega arith) (omega (arith, bytes-length)) ∙ bytes-at b k j (omega arith) i))

-- ---- an entry saved, and one dropped

module _ (s n b : List ℕ) (e : ℕ) (u : Usable s n b) (he : e < 4) where
  one-length : length (over s (8 * e) n) ≡ store_length
  one-length = named-length s u.store e he n u.name

  pub saved-length : length (saved s e n b) ≡ store_length
  unfolding saved
  saved-length = boarded-length (over s (8 * e) n) one-length e he b u.board

  pub saved-name : name_at (saved s e n b) e ≡ n
  unfolding saved
  saved-name = board-no-name (over s (8 * e) n) one-length e he b u.board e he ∙ name-here s u.store e he n u.name

  pub saved-others : OneEntry s (saved s e n b) e
  unfolding saved
  saved-others = record {
    length = saved-length ∙ sym u.store;
    names = λ j h ne. board-no-name (over s (8 * e) n) one-length e he b u.board j h ∙ name-elsewhere s u.store e he n u.name j h ne;
    boards = λ j h ne. board-elsewhere (over s (8 * e) n) one-length e he b u.board j ne ∙ name-no-board s u.store e he n u.name j;
  }

  pub saved-board : Words b → board_at (saved s e n b) e ≡ b
  unfolding saved
  saved-board w = board-here (over s (8 * e) n) one-length e he b u.board w

module _ (s : List ℕ) (ls : length s ≡ store_length) (e : ℕ) (he : e < 4) where
  pub dropped-length : length (dropped s e) ≡ store_length
  unfolding dropped
  dropped-length = named-length s ls e he no_name no-name-length

  pub dropped-entry : Freed s e (dropped s e)
  unfolding dropped
  dropped-entry = record {
    others = record {
      length = dropped-length ∙ sym ls;
      names = λ j h ne. name-elsewhere s ls e he no_name no-name-length j h ne;
      boards = λ j h ne. name-no-board s ls e he no_name no-name-length j;
    };
    name = name-here s ls e he no_name no-name-length;
    numbers = name-no-board s ls e he no_name no-name-length e;
  }
