-- What a store to the board does to the storages, marks and numbers taken that it holds. Assumes nothing.
use mathlib.Core.Bool.{Bool, true, false, cond, ◌&&◌}
use mathlib.Core.List.{List, [], ◌∷◌}
use mathlib.Core.Logic.{◌≢◌}
use mathlib.Core.Path.{◌≡◌, refl, sym, ap, ◌∙◌}
use Prim.Native.Nat.{ℕ, zero, suc, ◌+◌, ◌^◌, ◌≤◌, ◌<◌}
use native.Mathlib.Omega.{arith}
use lib.Dec.{ltb, eqb}
use lib.ListN.{length, get_or, set, length-set}
use lib.Seq.{get_or-set_same, get_or-set_other}
use Rattle.places.specs.Board.{storage_place, marks_place, taken_place, dues_from, board_length, storage_at, marks_at, taken_at}
use Rattle.general.specs.Tables.{tab}
use Rattle.general.proofs.Tables.{tab-at, tab-same, tab-set}
use Rattle.general.specs.Tests.{bit}
use Rattle.turns.specs.State.{storages_of, marks_of, taken_of, short_of}
use Rattle.grants.specs.Stages.{marked_board, poured}
use Rattle.general.proofs.Bits.{bit-set, bit-other}
use Rattle.grants.proofs.RightKinds.{mark-small, nine}

-- ---- a table after one of its places is stored to

pub shorts-set : (n : ℕ) (sh : List Bool) (w : ℕ) → w < n → w < length sh → short_of n (set sh w true) ≡ set (short_of n sh) w true
unfolding short_of
shorts-set n sh w h l = tab-set n (λ k. get_or sh k false) (λ k. get_or (set sh w true) k false) w true false h (get_or-set_same sh w true false l) (λ k m z. get_or-set_other sh w k true false z)

module _ (n : ℕ) (bd : List ℕ) where
  pub storage-at : (v : ℕ) → v < n → get_or (storages_of n bd) v 0 ≡ storage_at bd v
  unfolding storages_of
  storage-at v h = tab-at (λ k. storage_at bd k) n v 0 h

  pub taken_at_lem : (i : ℕ) → i < n → get_or (taken_of n bd) i 0 ≡ taken_at bd i
  unfolding taken_of
  taken_at_lem i h = tab-at (λ k. taken_at bd k) n i 0 h

  pub mark-at : (v : ℕ) → v < n → get_or (marks_of n bd) v false ≡ bit (marks_at bd) v
  unfolding marks_of
  mark-at v h = tab-at (bit (marks_at bd)) n v false h

  pub storages-set : (v x : ℕ) → v < n → 1 + v < length bd → storages_of n (set bd (storage_place v) x) ≡ set (storages_of n bd) v x
  unfolding storages_of
  storages-set v x h l = tab-set n (λ k. storage_at bd k) (λ k. storage_at (set bd (storage_place v) x) k) v x 0 h (get_or-set_same bd (storage_place v) x 0 l) (λ k m z. get_or-set_other bd (storage_place v) (storage_place k) x 0 (λ e. z (omega arith)))

  pub taken-set : (i x : ℕ) → i < n → taken_place i < length bd → taken_of n (set bd (taken_place i) x) ≡ set (taken_of n bd) i x
  unfolding taken_of
  taken-set i x h l = tab-set n (λ k. taken_at bd k) (λ k. taken_at (set bd (taken_place i) x) k) i x 0 h (get_or-set_same bd (taken_place i) x 0 l) (λ k m z. get_or-set_other bd (taken_place i) (taken_place k) x 0 (λ e. z (omega arith)))

  -- stores elsewhere
  pub storages-off : (j x : ℕ) → n ≤ 8 → 9 ≤ j → storages_of n (set bd j x) ≡ storages_of n bd
  unfolding storages_of
  storages-off j x h l = tab-same n _ _ (λ k i. get_or-set_other bd j (storage_place k) x 0 (λ e. omega arith))

  pub taken-off : (j x : ℕ) → j < 10 → taken_of n (set bd j x) ≡ taken_of n bd
  unfolding taken_of
  taken-off j x l = tab-same n _ _ (λ k i. get_or-set_other bd j (taken_place k) x 0 (λ e. omega arith))

  pub marks-off : (j x : ℕ) → j ≢ marks_place → marks_of n (set bd j x) ≡ marks_of n bd
  unfolding marks_of
  marks-off j x l = ap (λ (w : ℕ). tab n (bit w)) (get_or-set_other bd j 9 x 0 (λ e. l (sym e)))

  -- what is the same at every place is the same
  pub places_same : (bd' : List ℕ) → n ≤ 256 → ((j : ℕ) → j < dues_from → get_or bd' j 0 ≡ get_or bd j 0) → (storages_of n bd' ≡ storages_of n bd) × (marks_of n bd' ≡ marks_of n bd) × (taken_of n bd' ≡ taken_of n bd)
  unfolding storages_of marks_of taken_of
  places_same bd' h e = (tab-same n _ _ (λ k l. e (storage_place k) (omega arith)), ap (λ (w : ℕ). tab n (bit w)) (e 9 (omega arith)), tab-same n _ _ (λ k l. e (taken_place k) (omega arith)))

-- ---- a mark that was not set

marks-set : (n : ℕ) (bd : List ℕ) (v : ℕ) → v < n → marks_place < length bd → bit (marks_at bd) v ≡ false → marks_of n (set bd marks_place (marks_at bd + 2 ^ v)) ≡ set (marks_of n bd) v true
unfolding marks_of
marks-set n bd v h l e =
    ap (λ (w : ℕ). tab n (bit w)) (get_or-set_same bd marks_place (marks_at bd + 2 ^ v) 0 l)
    ∙ tab-set n (bit (marks_at bd)) (bit (marks_at bd + 2 ^ v)) v true false h (bit-set v (marks_at bd) e) (λ k m z. bit-other v k (marks_at bd) e z)

-- ---- what is poured into a reservoir

module _ (nr ni : ℕ) (bd : List ℕ) (capacity v i d : ℕ) (few : nr ≤ 8) (hv : v < nr) (hi : i < ni) (most : ni ≤ 256) (size : length bd ≡ board_length) (free : 0 < d → bit (marks_at bd) v ≡ false) where
  abbrev once : List ℕ
  once = set bd (storage_place v) (storage_at bd v + d)

  abbrev twice : List ℕ
  twice = set once (taken_place i) (taken_at bd i + d)

  once-size : length once ≡ board_length
  once-size = length-set bd (storage_place v) (storage_at bd v + d) ∙ size

  twice-size : length twice ≡ board_length
  twice-size = length-set once (taken_place i) (taken_at bd i + d) ∙ once-size

  storages-twice : storages_of nr twice ≡ set (storages_of nr bd) v (storage_at bd v + d)
  storages-twice = storages-off nr once (taken_place i) (taken_at bd i + d) few (omega arith) ∙ storages-set nr bd v (storage_at bd v + d) hv (omega arith)

  taken_twice : taken_of ni twice ≡ set (taken_of ni bd) i (taken_at bd i + d)
  taken_twice = taken-set ni once i (taken_at bd i + d) hi (omega (arith, once-size)) ∙ ap (λ (l : List ℕ). set l i (taken_at bd i + d)) (taken-off ni bd (storage_place v) (storage_at bd v + d) (omega arith))

  marks-twice : marks_of nr twice ≡ marks_of nr bd
  marks-twice = marks-off nr once (taken_place i) (taken_at bd i + d) (λ e. omega arith) ∙ marks-off nr bd (storage_place v) (storage_at bd v + d) (λ e. omega arith)

  pub storages-poured : (t : Bool) → storages_of nr (marked_board t twice v) ≡ set (storages_of nr bd) v (storage_at bd v + d)
  storages-poured true = storages-off nr twice 9 (marks_at twice + 2 ^ v) few (omega arith) ∙ storages-twice
  storages-poured false = storages-twice

  pub taken-poured : (t : Bool) → taken_of ni (marked_board t twice v) ≡ set (taken_of ni bd) i (taken_at bd i + d)
  taken-poured true = taken-off ni twice 9 (marks_at twice + 2 ^ v) (omega arith) ∙ taken_twice
  taken-poured false = taken_twice

  pub marks-poured : (t : Bool) → (t ≡ true → 0 < d) → marks_of nr (marked_board t twice v) ≡ cond t (set (marks_of nr bd) v true) (marks_of nr bd)
  marks-poured true h = marks-set nr twice v hv (omega (arith, twice-size)) (rw (nine v i d bd (omega arith)) (free (h refl))) ∙ ap (λ (l : List Bool). set l v true) marks-twice
  marks-poured false h = marks-twice

-- ---- what a pour leaves alone, and how much a place may grow

module _ (bd : List ℕ) (capacity v i d : ℕ) (eight : v < 8) (most : i < 256) where
  pub poured-size : length (poured capacity v i d bd) ≡ length bd
  poured-size = go (ltb 0 d && eqb (storage_at bd v + d) capacity)
    where
      two : length (set (set bd (storage_place v) (storage_at bd v + d)) (taken_place i) (taken_at bd i + d)) ≡ length bd
      two = length-set (set bd (storage_place v) _) (taken_place i) _ ∙ length-set bd (storage_place v) _

      go : (t : Bool) → length (marked_board t (set (set bd (storage_place v) (storage_at bd v + d)) (taken_place i) (taken_at bd i + d)) v) ≡ length bd
      go true = length-set (set (set bd (storage_place v) _) (taken_place i) _) 9 _ ∙ two
      go false = two

  -- places of neither the storage, the marks nor the number taken
  pub poured-other : (j : ℕ) → j ≢ storage_place v → j ≢ marks_place → j ≢ taken_place i → get_or (poured capacity v i d bd) j 0 ≡ get_or bd j 0
  poured-other j a b c = go (ltb 0 d && eqb (storage_at bd v + d) capacity)
    where
      two : get_or (set (set bd (storage_place v) (storage_at bd v + d)) (taken_place i) (taken_at bd i + d)) j 0 ≡ get_or bd j 0
      two = get_or-set_other (set bd (storage_place v) _) (taken_place i) j _ 0 c ∙ get_or-set_other bd (storage_place v) j _ 0 a

      go : (t : Bool) → get_or (marked_board t (set (set bd (storage_place v) (storage_at bd v + d)) (taken_place i) (taken_at bd i + d)) v) j 0 ≡ get_or bd j 0
      go true = get_or-set_other (set (set bd (storage_place v) _) (taken_place i) _) 9 j _ 0 b ∙ two
      go false = two

-- a store that adds at most x to its place
pub grown-set : (bd l : List ℕ) (i y x : ℕ) → ((j : ℕ) → get_or l j 0 ≤ get_or bd j 0 + x) → y ≤ get_or bd i 0 + x → (j : ℕ) → get_or (set l i y) j 0 ≤ get_or bd j 0 + x
grown-set bd [] i y x h k j = h j
grown-set [] (a ∷ l) zero y x h k zero = k
grown-set [] (a ∷ l) zero y x h k (suc j) = h (suc j)
grown-set [] (a ∷ l) (suc i) y x h k zero = h 0
grown-set [] (a ∷ l) (suc i) y x h k (suc j) = grown-set [] l i y x (λ n. h (suc n)) k j
grown-set (b ∷ bd) (a ∷ l) zero y x h k zero = k
grown-set (b ∷ bd) (a ∷ l) zero y x h k (suc j) = h (suc j)
grown-set (b ∷ bd) (a ∷ l) (suc i) y x h k zero = h 0
grown-set (b ∷ bd) (a ∷ l) (suc i) y x h k (suc j) = grown-set bd l i y x (λ n. h (suc n)) k j

pub poured-grown : (bd : List ℕ) (capacity v i d x : ℕ) → v < 8 → d ≤ x → 128 ≤ x → (j : ℕ) → get_or (poured capacity v i d bd) j 0 ≤ get_or bd j 0 + x
poured-grown bd capacity v i d x h k l = go (ltb 0 d && eqb (storage_at bd v + d) capacity)
  where
    two : (j : ℕ) → get_or (set (set bd (storage_place v) (storage_at bd v + d)) (taken_place i) (taken_at bd i + d)) j 0 ≤ get_or bd j 0 + x
    two =
        let held : ℕ = storage_at bd v + d in
        let once : (j : ℕ) → get_or (set bd (storage_place v) held) j 0 ≤ get_or bd j 0 + x = grown-set bd bd (storage_place v) held x (λ j. omega arith) (omega arith) in
        grown-set bd (set bd (storage_place v) held) (taken_place i) (taken_at bd i + d) x once (omega arith)

    go : (t : Bool) (j : ℕ) → get_or (marked_board t (set (set bd (storage_place v) (storage_at bd v + d)) (taken_place i) (taken_at bd i + d)) v) j 0 ≤ get_or bd j 0 + x
    go true =
        let both : List ℕ = set (set bd (storage_place v) (storage_at bd v + d)) (taken_place i) (taken_at bd i + d) in
        grown-set bd both 9 (marks_at both + 2 ^ v) x two (omega (arith, nine v i d bd h, mark-small v h))
    go false = two
