-- What a board may hold, read off the bodies. Assumes nothing.
use Rattle.general.proofs.Search.{all-make, all-at, all-parts, all_same}
use mathlib.Core.Path.{◌≡◌, refl, sym, ap, ◌∙◌}
use mathlib.Core.Bool.{Bool, true}
use mathlib.Core.List.{List}
use Prim.Native.Nat.{ℕ, zero, suc, ◌+◌, ◌-◌, ◌*◌, ◌^◌, ◌≤◌, ◌<◌}
use native.Mathlib.Nat.{pow-le-pow_right}
use native.Mathlib.Decide.{dec_lt}
use native.Mathlib.Omega.{arith}
use borrow.Author.Tests.{lt-leb}
use lib.Dec.{leb, ltb}
use lib.ListN.{get_or}
use Rattle.general.specs.Sums.{sum_to, only}
use Rattle.general.specs.Tests.{◌and◌, all_to}
use Rattle.general.proofs.Tests.{lt_of, leb_yes, ltb_yes, ltb_no}
use Rattle.general.proofs.Tables.{tab-at, tab-past}
use Rattle.rules.specs.Basin.{Reservoir, Right, Basin, no_reservoir, no_right}
use Rattle.rules.specs.Accepted.{Accepted}
use Rattle.rules.specs.Theorems.{most_due}
use Rattle.numbers.specs.Bytes.{le32_at}
use Rattle.records.specs.Records.{rows_of, reservoir_count, reservoir_record, reservoir_of, reservoirs_of, right_count, right_record, right_of, rights_of, basin_of, bodies}
use Rattle.records.specs.declared.bodies.Bodies.{Bodies}
use Rattle.records.specs.Bodies.{basin_in, BodiesOf}
use Rattle.records.proofs.Rows.{rows_are}
use Rattle.records.proofs.Decoded.{basin-same, reservoirs-are, rights-are}
use Rattle.places.specs.Board.{month_at, storage_at, marks_at, taken_at, due_at, word_at, taken_place, dues_of, due_place, words_from, word_place}
use Rattle.boards.specs.Board.{possible, storage_sum, due_sum}
use Rattle.boards.specs.Bodies.{storage_most, taken_most, storages_ok, taken_ok, dues_ok, words_ok, held_ok, row_ok, have_bits, Counted}

-- ---- what a place may hold

pub no-storage : (rs : List ℕ) (v : ℕ) → reservoir_count rs ≤ v → 0 ≡ storage_most rs v
unfolding storage_most reservoirs_of
no-storage rs v h = sym (ap (λ (x : Reservoir). x.capacity) (tab-past (reservoir_of rs) (reservoir_count rs) v no_reservoir h))

pub some-storage : (rs : List ℕ) (v : ℕ) → v < reservoir_count rs → le32_at rs (68 * v + 4) ≡ storage_most rs v
unfolding storage_most reservoirs_of reservoir_of reservoir_record
some-storage rs v h = sym (ap (λ (x : Reservoir). x.capacity) (tab-at (reservoir_of rs) (reservoir_count rs) v no_reservoir h))

pub no-taken : (ri : List ℕ) (i : ℕ) → right_count ri ≤ i → 0 ≡ taken_most ri i
unfolding taken_most rights_of
no-taken ri i h = sym (ap (λ (x : Right). x.limit) (tab-past (right_of ri) (right_count ri) i no_right h))

pub some-taken : (ri : List ℕ) (i : ℕ) → i < right_count ri → le32_at ri (76 * i + 16) ≡ taken_most ri i
unfolding taken_most rights_of right_of right_record
some-taken ri i h = sym (ap (λ (x : Right). x.limit) (tab-at (right_of ri) (right_count ri) i no_right h))

-- the word of eight marks is small
pub marks-small : (n : ℕ) → n ≤ 8 → 2 ^ n ≤ 256
marks-small n h = pow-le-pow_right {n = 2} (omega arith) {i = n} {j = 8} h

-- ---- a test of all places in two parts: up to n, and past it

none_left : (x y : ℕ) → 0 ≡ y → leb x y ≡ ltb x 1
none_left x y e = pick (dec_lt x 1)
  where
    pick : Dec (x < 1) → leb x y ≡ ltb x 1
    pick (yes h) = leb_yes x y (omega (arith, h)) ∙ sym (ltb_yes x 1 h)
    pick (no h) = lt-leb x y (omega (arith, h, e)) ∙ sym (ltb_no x 1 (omega (arith, h)))

in_two : (n most : ℕ) (t : ℕ → Bool) {u : ℕ → Bool} → n ≤ most → ((j : ℕ) → j < most - n → t (n + j) ≡ u j) → all_to most t ≡ (all_to n t and all_to (most - n) u)
in_two n most t h same =
    let whole : most ≡ n + (most - n) = omega (arith, h) in
    ap (λ (k : ℕ). all_to k t) whole ∙ all-parts n (most - n) t ∙ ap (λ (x : Bool). all_to n t and x) (all_same (most - n) _ _ same)

pub taken-parts : (ri board : List ℕ) → right_count ri ≤ 256 → (held_ok ri board and have_bits 0 board (taken_place (right_count ri)) (256 - right_count ri)) ≡ taken_ok ri board
unfolding held_ok have_bits taken_ok
taken-parts ri board h = sym (in_two (right_count ri) 256 _ h (λ j l.
    none_left (taken_at board (right_count ri + j)) (taken_most ri (right_count ri + j)) (no-taken ri (right_count ri + j) (omega arith))
    ∙ ap (λ (p : ℕ). ltb (get_or board p 0) 1) (omega arith)))

-- eleven dues of each of m rows are one run of places
rows_run : (t : ℕ → Bool) (from m : ℕ) → all_to m (λ w. all_to 11 (λ k. t (from + 11 * w + k))) ≡ all_to (11 * m) (λ j. t (from + j))
unfolding all_to
rows_run t from zero = refl
rows_run t from (suc m) =
    let next : 11 * suc m ≡ 11 * m + 11 = omega arith in
    let place : (k : ℕ) → from + 11 * m + k ≡ from + (11 * m + k) = λ k. omega arith in
    ap (λ (x : Bool). x and all_to 11 (λ k. t (from + 11 * m + k))) (rows_run t from m)
    ∙ ap (λ (x : Bool). all_to (11 * m) (λ j. t (from + j)) and x) (all_same 11 _ _ (λ k _. ap t (place k)))
    ∙ sym (all-parts (11 * m) 11 (λ j. t (from + j)))
    ∙ ap (λ (k : ℕ). all_to k (λ j. t (from + j))) (sym next)

pub dues-parts : (n : ℕ) (board : List ℕ) → n ≤ 64 → (all_to n (row_ok board) and have_bits 0 board (dues_of n) (words_from - dues_of n)) ≡ dues_ok n board
unfolding row_ok have_bits dues_ok
dues-parts n board h = sym (in_two n 64 _ h past ∙ (λ z. all_same n _ _ (λ w l. all_same 11 _ _ (λ k _. within w k l)) z and run z))
  where
    within : (w k : ℕ) → w < n → leb (due_at board w (suc k)) (only (ltb w n) (most_due (suc k))) ≡ leb (due_at board w (suc k)) (most_due (suc k))
    within w k l = ap (λ (t : Bool). leb (due_at board w (suc k)) (only t (most_due (suc k)))) (ltb_yes w n l)

    past : (w : ℕ) → w < 64 - n → all_to 11 (λ k. leb (due_at board (n + w) (suc k)) (only (ltb (n + w) n) (most_due (suc k)))) ≡ all_to 11 (λ k. ltb (get_or board (dues_of n + 11 * w + k) 0) 1)
    past w l = all_same 11 _ _ (λ k _.
        ap (λ (t : Bool). leb (due_at board (n + w) (suc k)) (only t (most_due (suc k)))) (ltb_no (n + w) n (omega arith))
        ∙ none_left (due_at board (n + w) (suc k)) 0 (omega arith)
        ∙ ap (λ (p : ℕ). ltb (get_or board p 0) 1) (omega arith))

    run : all_to (64 - n) (λ w. all_to 11 (λ k. ltb (get_or board (dues_of n + 11 * w + k) 0) 1)) ≡ all_to (words_from - dues_of n) (λ j. ltb (get_or board (dues_of n + j) 0) 1)
    run = rows_run (λ p. ltb (get_or board p 0) 1) (dues_of n) (64 - n) ∙ ap (λ (k : ℕ). all_to k (λ j. ltb (get_or board (dues_of n + j) 0) 1)) (omega (arith, h))

-- dues of 37 bits are all within what the past months can send
pub rows-small : (n : ℕ) (board : List ℕ) → have_bits 37 board (dues_of 0) (dues_of n - dues_of 0) ≡ true → true ≡ all_to n (row_ok board)
unfolding row_ok have_bits
rows-small n board e = sym (all-make n _ (λ w h. all-make 11 _ (λ k l. leb_yes _ _ (within w k h l))))
  where
    within : (w k : ℕ) → w < n → k < 11 → due_at board w (suc k) ≤ most_due (suc k)
    within w k h l =
        let place : dues_of 0 + (11 * w + k) ≡ due_place w k = omega arith in
        let low = lt_of {m = get_or board (dues_of 0 + (11 * w + k)) 0} {n = 2 ^ 37} (all-at (dues_of n - dues_of 0) _ e (11 * w + k) (omega (arith, h, l))) in
        omega (arith, low, ap (λ (p : ℕ). get_or board p 0) place)

pub words-parts : (n : ℕ) (board : List ℕ) → n ≤ 256 → (have_bits 12 board (word_place 0) n and have_bits 0 board (word_place n) (256 - n)) ≡ words_ok n board
unfolding have_bits words_ok
words-parts n board h = sym (in_two n 256 _ h past ∙ ap (λ (x : Bool). x and all_to (256 - n) (λ j. ltb (get_or board (word_place n + j) 0) (2 ^ 0))) (all_same n _ _ within))
  where
    within : (i : ℕ) → i < n → ltb (word_at board i) (2 ^ only (ltb i n) 12) ≡ ltb (get_or board (word_place 0 + i) 0) (2 ^ 12)
    within i l = ap (λ (t : Bool). ltb (word_at board i) (2 ^ only t 12)) (ltb_yes i n l) ∙ ap (λ (p : ℕ). ltb (get_or board p 0) (2 ^ 12)) (omega arith)

    past : (j : ℕ) → j < 256 - n → ltb (word_at board (n + j)) (2 ^ only (ltb (n + j) n) 12) ≡ ltb (get_or board (word_place n + j) 0) (2 ^ 0)
    past j l = ap (λ (t : Bool). ltb (word_at board (n + j)) (2 ^ only t 12)) (ltb_no (n + j) n (omega arith)) ∙ ap (λ (p : ℕ). ltb (get_or board p 0) (2 ^ 0)) (omega arith)

-- ---- possible, body by body

pub possible-bodies : (st rs ps ri board : List ℕ)
    → (ltb (month_at board) 12 and storages_ok rs board and ltb (marks_at board) (2 ^ reservoir_count rs) and taken_ok ri board and dues_ok (rows_of st) board and words_ok (right_count ri) board)
    ≡ possible (bodies st rs ps ri) board
unfolding bodies possible storages_ok storage_most taken_ok taken_most dues_ok words_ok
possible-bodies st rs ps ri board = rw (reservoirs-are rs, rows_are st, rights-are ri)

-- by the bodies of a file, and by the file
pub possible-told : (f : List ℕ) (w : Bodies) (board : List ℕ) {r : Bool} → BodiesOf f w → r ≡ possible (basin_in w) board → r ≡ possible (basin_of f) board
possible-told f w board o h = h ∙ ap (λ (b : Basin). possible b board) (basin-same f w o)

-- ---- the bodies of an accepted basin

pub counted : (w : Bodies) → Accepted (basin_in w) → Counted w
unfolding bodies
counted w a = record {
  rows_in = omega (arith, a.few_rows, rows_are w.stations.now);
  reservoirs_in = omega (arith, a.few_reservoirs, reservoirs-are w.reservoirs.now);
  rights_in = omega (arith, a.few_rights, rights-are w.rights.now);
}

-- ---- the sums, by body

pub storage-told : (f : List ℕ) (w : Bodies) (board : List ℕ) {n : ℕ} → BodiesOf f w → n ≡ reservoir_count w.reservoirs.now → sum_to n (storage_at board) ≡ storage_sum (basin_of f) board
unfolding storage_sum bodies
storage-told f w board o e = ap (λ (k : ℕ). sum_to k (storage_at board)) (e ∙ sym (reservoirs-are w.reservoirs.now)) ∙ ap (λ (b : Basin). storage_sum b board) (basin-same f w o)

pub due-told : (f : List ℕ) (w : Bodies) (board : List ℕ) {n : ℕ} → BodiesOf f w → n ≡ rows_of w.stations.now → sum_to n (λ u. sum_to 11 (λ k. due_at board u (suc k))) ≡ due_sum (basin_of f) board
unfolding due_sum bodies
due-told f w board o e = ap (λ (n : ℕ). sum_to n (λ u. sum_to 11 (λ k. due_at board u (suc k)))) (e ∙ sym (rows_are w.stations.now)) ∙ ap (λ (b : Basin). due_sum b board) (basin-same f w o)
