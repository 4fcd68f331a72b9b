-- What returns of a right's diversion, as its record has the points and as the rules have them. Assumes nothing.
use mathlib.Core.List.{List, [], ◌∷◌}
use mathlib.Core.Path.{◌≡◌, refl, sym, ap, ◌∙◌, subst}
use Prim.Native.Nat.{ℕ, zero, suc, ◌-◌, ◌*◌, ◌/◌, ◌<◌}
use native.Mathlib.Omega.{arith}
use lib.ListN.{length, get_or}
use lib.Seq.{ext_get_or}
use Rattle.general.specs.Sums.{up_to}
use Rattle.general.specs.Tables.{tab, All}
use Rattle.general.proofs.Entries.{all-tab}
use Rattle.general.proofs.Sums.{sum_to-same}
use Rattle.general.proofs.Tables.{tab-length, tab-at}
use Rattle.rules.specs.Basin as rules
use Rattle.rules.specs.Basin.{Point, direct, project, instream, storage, Right, rows}
use Rattle.rules.specs.River.{Level}
use Rattle.rules.specs.Returns.{consumption, returning, shares, Part, parts_at, percents, parts_of, return_now}
use Rattle.rules.specs.Accepted.{ReturnsOk}
use Rattle.rules.proofs.Splits.{shares-length}
use Rattle.records.specs.Records.{return_row, return_percent}
use Rattle.returns.specs.Returning.{points_up_to, part_in, parts_in, return_by}
use Rattle.returns.proofs.Shares.{share-at}
use Rattle.turns.specs.Finish.{rest_of}
use Rattle.turns.proofs.Given.{RightAt, the_record, the_points, the_right}
use Rattle.turns.proofs.Facts.{path-is}
use Rattle.turns.proofs.RightFacts.{right-good, efficiency-is, points-are, point_at, point-in, points-count, percents-count, percent-at}

-- ---- parts of a return

parts-length : (qs : List Point) (xs : List ℕ) → length xs ≡ length qs → length (parts_at qs xs) ≡ length qs
unfolding parts_at
parts-length [] xs e = refl
parts-length (q ∷ qs) [] e = absurd (omega arith)
parts-length (q ∷ qs) (x ∷ xs) e = ap suc (parts-length qs xs (omega arith))

parts-at : (qs : List Point) (xs : List ℕ) (k : ℕ) (d : Part) (p : Point) → k < length qs → k < length xs → get_or (parts_at qs xs) k d ≡ record { row = (get_or qs k p).row; amount = get_or xs k 0 }
unfolding parts_at
parts-at [] xs k d p h l = absurd (omega arith)
parts-at (q ∷ qs) [] k d p h l = absurd (omega arith)
parts-at (q ∷ qs) (x ∷ xs) zero d p h l = refl
parts-at (q ∷ qs) (x ∷ xs) (suc k) d p h l = parts-at qs xs k d p (omega arith) (omega arith)

part-path : (p q : Part) → p.row ≡ q.row → p.amount ≡ q.amount → p ≡ q
part-path p q e f = λ z. record { row = e z; amount = f z }

part-row : (ri : List ℕ) (i rest k : ℕ) → return_row ri i k ≡ (part_in ri i rest k).row
unfolding part_in
part-row ri i rest k = refl

parts-zero : (ri : List ℕ) (i rest : ℕ) → parts_in ri i rest 0 ≡ []
unfolding parts_in tab
parts-zero ri i rest = refl

module _ (R : RightAt) where
  abbrev r : Right
  r = the_right R

  -- what returns at each point, by the record and by the rules
  part_same : (rest k : ℕ) → k < the_points R → get_or (shares rest (percents r)) k 0 ≡ (part_in R.rights R.place rest k).amount
  unfolding part_in
  part_same rest k h =
      let len : length (percents r) ≡ the_points R = percents-count R in
      share-at rest (percents r) k (omega arith)
      ∙ ap (λ (x : ℕ). rest * x / 100 - rest * up_to (percents r) k / 100) (sum_to-same (suc k) (λ j. get_or (percents r) j 0) (return_percent R.rights R.place) (λ j l. percent-at R j (omega arith)))
      ∙ ap (λ (x : ℕ). rest * points_up_to R.rights R.place (suc k) / 100 - rest * x / 100) (sum_to-same k (λ j. get_or (percents r) j 0) (return_percent R.rights R.place) (λ j l. percent-at R j (omega arith)))

  parts_same : (rest : ℕ) → parts_at r.points (shares rest (percents r)) ≡ parts_in R.rights R.place rest (the_points R)
  unfolding parts_in
  parts_same rest =
      ext_get_or none-part (parts_at r.points (shares rest (percents r))) (tab (the_points R) (part_in R.rights R.place rest))
      (parts-length r.points (shares rest (percents r)) (shares-length rest (percents r) ∙ percents-count R ∙ sym (points-count R))
      ∙ points-count R ∙ sym (tab-length (part_in R.rights R.place rest) (the_points R)))
      (λ k l. let h : k < the_points R = omega (arith, parts-length r.points (shares rest (percents r)) (shares-length rest (percents r) ∙ percents-count R ∙ sym (points-count R)), points-count R) in
      parts-at r.points (shares rest (percents r)) k none-part (point_at R k) (omega (arith, points-count R)) (omega (arith, shares-length rest (percents r), percents-count R))
      ∙ part-path _ (part_in R.rights R.place rest k) (ap (λ (q : Point). q.row) (point-is k h) ∙ row_same rest k) (part_same rest k h)
      ∙ sym (tab-at (part_in R.rights R.place rest) (the_points R) k none-part h))
    where
      none-part : Part
      none-part = record { row = 0; amount = 0 }

      point-is : (k : ℕ) → k < the_points R → get_or r.points k (point_at R k) ≡ point_at R k
      point-is k h = ap (λ (l : List Point). get_or l k (point_at R k)) (points-are R) ∙ tab-at (point_at R) (the_points R) k (point_at R k) h

      row_same : (rest k : ℕ) → return_row R.rights R.place k ≡ (part_in R.rights R.place rest k).row
      row_same rest k = part-row R.rights R.place rest k

  -- kinds 1 and 2 return what they do not consume; kinds 3 and 4 have no points
  no-parts : (k : rules.Kind) (d e : ℕ) → the_points R ≡ 0 → parts_of k r d ≡ parts_in R.rights R.place e (the_points R)
  unfolding parts_of
  no-parts k d e z = parts_same (returning k r d) ∙ none_in z
    where
      none_in : the_points R ≡ 0 → parts_in R.rights R.place (returning k r d) (the_points R) ≡ parts_in R.rights R.place e (the_points R)
      none_in z = rw z (nothing (returning k r d) ∙ sym (nothing e))
        where
          nothing : (x : ℕ) → parts_in R.rights R.place x 0 ≡ []
          nothing x = parts-zero R.rights R.place x

  parts-by : (k : rules.Kind) → ReturnsOk k R.basin r → (d : ℕ) → parts_of k r d ≡ parts_in R.rights R.place (rest_of d (the_record R).efficiency) (the_points R)
  unfolding parts_of returning consumption
  parts-by direct o d = parts_same (returning direct r d) ∙ ap (λ (e : ℕ). parts_in R.rights R.place (rest_of d e) (the_points R)) (efficiency-is R)
  parts-by project o d = parts_same (returning project r d) ∙ ap (λ (e : ℕ). parts_in R.rights R.place (rest_of d e) (the_points R)) (efficiency-is R)
  parts-by instream o d = no-parts instream d _ (sym (points-count R) ∙ ap length o)
  parts-by storage o d = no-parts storage d _ (sym (points-count R) ∙ ap length o)

  pub parts_is : (d : ℕ) → parts_of r.kind r d ≡ parts_in R.rights R.place (rest_of d (the_record R).efficiency) (the_points R)
  parts_is d = parts-by r.kind (right-good R).returns-ok d

  -- the table's paths are the rules'
  pub by-rules : (pat : List ℕ) (qs : List Part) (l : List Level) → All (λ (q : Part). q.row < rows R.basin) qs → return_by R.table pat qs l ≡ return_now R.basin.stations pat qs l
  unfolding return_by return_now
  by-rules pat [] l h = refl
  by-rules pat (q ∷ qs) l h = rw (path-is R.setting q.row h.0) (by-rules pat qs _ h.1)

  pub parts-rows : (d : ℕ) → All (λ (q : Part). q.row < rows R.basin) (parts_in R.rights R.place d (the_points R))
  unfolding parts_in
  parts-rows d = all-tab (λ (q : Part). q.row < rows R.basin) (the_points R) (part_in R.rights R.place d) (λ k h. subst (λ (x : ℕ). x < rows R.basin) (part-row R.rights R.place d k) (point-in R k h))
