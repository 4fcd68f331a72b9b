-- Two bodies with the same first bytes have the same first records of rights. Assumes nothing.
use mathlib.Core.Path.{◌≡◌, sym, ap, ◌∙◌}
use mathlib.Core.Logic.{inl, inr}
use mathlib.Core.List.{List}
use Prim.Native.Nat.{ℕ, ◌+◌, ◌*◌, ◌≤◌, ◌<◌}
use native.Mathlib.Omega.{arith}
use lib.ListN.{length, get_or, take}
use lib.Seq.{get_or-take, length-take-le, ext_get_or}
use Rattle.general.specs.Tables.{tab}
use Rattle.general.proofs.Tables.{tab-length, tab-same}
use Rattle.general.proofs.Lists.{all-at-place}
use Rattle.rules.specs.Basin.{Kind, direct, project, instream, storage, Right, Basin, no_right}
use Rattle.rules.specs.Accepted.{ReturnsOk, GoodRight, Accepted as Acceptable}
use Rattle.numbers.specs.Bytes.{byte_at, le16_at, le32_at}
use Rattle.sections.specs.File.{width_of, section_of}
use Rattle.records.specs.Records.{right_count, kind_byte, kind_named, right_record, amount_at, return_row, return_percent, kind_of, right_of, rights_of, bodies, basin_of}
use Rattle.records.proofs.Decoded.{rights-are, right_is}

-- ---- a right of an accepted basin has at most four return points, so that it is read off its own record

few_points : (k : Kind) (b : Basin) (r : Right) → ReturnsOk k b r → length r.points ≤ 4
few_points direct b r (inl u) = rw u.no_points (omega arith)
few_points direct b r (inr u) = u.few_points
few_points project b r (inl u) = rw u.no_points (omega arith)
few_points project b r (inr u) = u.few_points
few_points instream b r e = rw e (omega arith)
few_points storage b r e = rw e (omega arith)

points-count : (s : List ℕ) (i : ℕ) → length (right_of s i).points ≡ (right_record s i).points
unfolding right_of
points-count s i = tab-length _ (right_record s i).points

pub points-most : (f : List ℕ) → Acceptable (basin_of f) → (i : ℕ) → i < right_count (section_of f 3) → (right_record (section_of f 3) i).points ≤ 4
unfolding basin_of bodies
points-most f acc i h =
    let b : Basin = basin_of f in
    let s : List ℕ = section_of f 3 in
    let r : Right = get_or (rights_of s) i no_right in
    let g : GoodRight b r = all-at-place (GoodRight b) (rights_of s) no_right acc.rights_good i (rw (rights-are s) h) in
    let n : length r.points ≤ 4 = few_points r.kind b r g.returns-ok in
    let e : length r.points ≡ (right_record s i).points = ap (λ (q : Right). length q.points) (right_is s i h) ∙ points-count s i in
    omega arith

-- ---- the same first bytes

module _ (s t : List ℕ) (n : ℕ) (e : take n s ≡ take n t) where
  byte-same : (p : ℕ) → p < n → byte_at s p ≡ byte_at t p
  byte-same p h = sym (get_or-take n s p 0 h) ∙ ap (λ (l : List ℕ). get_or l p 0) e ∙ get_or-take n t p 0 h

  le16-same : (p : ℕ) → p + 1 < n → le16_at s p ≡ le16_at t p
  unfolding le16_at
  le16-same p h = λ z. byte-same p (omega arith) z + byte-same (p + 1) h z * 256

  le32-same : (p : ℕ) → p + 3 < n → le32_at s p ≡ le32_at t p
  unfolding le32_at
  le32-same p h = λ z. byte-same p (omega arith) z + byte-same (p + 1) (omega arith) z * 256 + byte-same (p + 2) (omega arith) z * 65536 + byte-same (p + 3) h z * 16777216

  right-same : (i : ℕ) → 76 * i + 76 ≤ n → (right_record s i).points ≤ 4 → right_of s i ≡ right_of t i
  unfolding right_of right_record kind_byte amount_at return_row return_percent
  right-same i h few = λ z. record {
    permit = le32-same (76 * i) (omega arith) z;
    date = le32-same (76 * i + 4) (omega arith) z;
    kind = kind_of (kind_named (byte-same (76 * i + 8) (omega arith) z));
    row = byte-same (76 * i + 9) (omega arith) z;
    reservoir = byte-same (76 * i + 10) (omega arith) z;
    efficiency = byte-same (76 * i + 11) (omega arith) z;
    pattern = byte-same (76 * i + 12) (omega arith) z;
    months = le16-same (76 * i + 14) (omega arith) z;
    limit = le32-same (76 * i + 16) (omega arith) z;
    amounts = tab-same 12 (amount_at s i) (amount_at t i) (λ m l. le32-same (76 * i + 20 + 4 * m) (omega arith)) z;
    points = points-same z;
  }
    where
      points-same : (right_of s i).points ≡ (right_of t i).points
      points-same =
          tab-same (byte_at s (76 * i + 13)) _ _ (λ k l. λ z. record { row = byte-same (76 * i + 68 + 2 * k) (omega arith) z; percent = byte-same (76 * i + 69 + 2 * k) (omega arith) z })
          ∙ ap (λ (c : ℕ). tab c (λ k. record { row = return_row t i k; percent = return_percent t i k })) (byte-same (76 * i + 13) (omega arith))

-- ---- the same first rights

pub first-rights : (s t : List ℕ) (k : ℕ) → take (width_of 3 * k) s ≡ take (width_of 3 * k) t → k ≤ right_count s → k ≤ right_count t
    → ((i : ℕ) → i < right_count s → (right_record s i).points ≤ 4) → take k (rights_of s) ≡ take k (rights_of t)
unfolding width_of
first-rights s t k e h j few =
    let c : length (take k (rights_of s)) ≡ k = length-take-le k (rights_of s) (rw (rights-are s) h) in
    let d : length (take k (rights_of t)) ≡ k = length-take-le k (rights_of t) (rw (rights-are t) j) in
    ext_get_or no_right (take k (rights_of s)) (take k (rights_of t)) (c ∙ sym d)
    (λ i l. get_or-take k (rights_of s) i no_right (omega arith) ∙ right_is s i (omega arith)
    ∙ right-same s t (76 * k) e i (omega arith) (few i (omega arith))
    ∙ sym (right_is t i (omega arith)) ∙ sym (get_or-take k (rights_of t) i no_right (omega arith)))
