-- A whole turn, from what its stages left in the arrays to the rules' turn. Assumes nothing.
use mathlib.Core.List.{List}
use mathlib.Core.Path.{◌≡◌, refl, sym, ap, ◌∙◌, subst}
use Prim.Native.Nat.{ℕ, suc, ◌+◌, ◌-◌, ◌≤◌, ◌<◌}
use native.Mathlib.Omega.{arith}
use lib.Dec.{ltb}
use lib.ListN.{length}
use Rattle.places.specs.Board.{due_place, due_at}
use Rattle.rules.specs.Basin.{Right, rows, pattern_of}
use Rattle.rules.specs.Returns.{Part, parts_of, returned_at, lost_deep}
use Rattle.rules.specs.Turn.{granted, Grant, turn}
use Rattle.records.specs.declared.rights.Kind.TheVariants.{Project, Storage}
use Rattle.grants.specs.declared.grants.Grant as program
use Rattle.grants.specs.Stages.{capacity_in}
use Rattle.returns.specs.Returning.{parts_in, Gave}
use Rattle.turns.specs.Finish.{rest_of}
use Rattle.turns.specs.State.{state_of, home_of, Tells, Kept, Turned}
use Rattle.turns.proofs.Given.{RightAt, the_record, the_kind, the_reservoir, the_points, the_right, BeforeTurn, the_state, AfterRiver, AfterStorage, AfterTurn, the_demand, the_part}
use Rattle.turns.proofs.Facts.{reservoirs-count, rights-count}
use Rattle.turns.proofs.RightFacts.{place-most, project-behind, storage-behind, points-ok, sums-are}
use Rattle.turns.proofs.Keeping.{kept_same, kept_on, kept-stored, kept-drawn}
use Rattle.turns.proofs.Demands.{ask-is, part-is}
use Rattle.turns.proofs.ReturnParts.{parts_is}
use Rattle.turns.proofs.StageStates.{river-stage, drawn-is, storage-stage-is, return-stage}
use Rattle.turns.proofs.Serving.{Staged, turn-after, turn-river, turn-storage, tells}
use Rattle.turns.proofs.Readying.{unmarked, size₁, board-moved, grown₂}

module _ (T : BeforeTurn) where
  abbrev R : RightAt
  R = T.right

  abbrev r : Right
  r = the_right R

  abbrev now : Grant
  now = (turn R.basin T.month R.place r (the_state T)).grant

  -- each stage in the rules' words
  abbrev staged : AfterStorage T → Staged R.basin T.month R.place r (the_state T)
  staged S =
      let D : AfterRiver T = S.river in
      record {
        ask = the_demand D;
        part = the_part D;
        drawn = S.drawn;
        after_river = state_of R.basin D.flow D.available T.short D.board;
        after_storage = state_of R.basin S.flow D.available T.short S.board;
        ask-is = D.given.asked ∙ ask-is T;
        part-is = D.given.gave.part ∙ part-is T (the_demand D);
        river-is = ap (state_of R.basin D.flow D.available T.short) D.stored
            ∙ river-stage R (the_part D) T.flow T.available D.flow D.available T.short T.board (D.took.levels (rows R.basin)) T.board-size (unmarked T D.given);
        drawn-is = S.drew.amount ∙ drawn-is R (the_demand D - the_part D) D.flow D.available T.short D.board;
        storage-is = ap (state_of R.basin S.flow D.available T.short) S.drew.board
            ∙ storage-stage-is R S.drawn D.flow D.available S.flow T.short D.board (S.drew.levels (rows R.basin) D.available) (size₁ T D);
      }

  module _ (A : AfterTurn T) where
    abbrev S : AfterStorage T
    S = A.storage

    abbrev g : Staged R.basin T.month R.place r (the_state T)
    g = staged S

    abbrev d : ℕ
    d = the_part S.river + S.drawn

    abbrev rest : ℕ
    rest = rest_of d (the_record R).efficiency

    gave-back : Gave R.table (pattern_of R.basin r) R.rights R.place (the_points R) rest S.flow S.river.available S.board A.flow A.available A.board A.grant.deep
    gave-back = A.finished.gave (pattern_of R.basin r) (sums-are R)

    both : granted now ≡ d
    both = omega (arith, turn-river R.basin T.month R.place r (the_state T) g, turn-storage R.basin T.month R.place r (the_state T) g)

    -- the parts that were given back are the rules'
    parts_same : parts_in R.rights R.place rest (the_points R) ≡ parts_of r.kind r (granted now)
    parts_same = sym (parts_is R d) ∙ ap (parts_of r.kind r) (sym both)

    dues-are : (k j : ℕ) → j < 11 → due_at A.board k (suc j) ≡ due_at T.board k (suc j) + returned_at (pattern_of R.basin r) k (suc j) (parts_of r.kind r (granted now))
    dues-are k j l = gave-back.dues k j l
        ∙ ap (λ (y : ℕ). y + returned_at (pattern_of R.basin r) k (suc j) (parts_in R.rights R.place rest (the_points R))) ((board-moved T S).dues (due_place k j) (omega arith))
        ∙ ap (λ (qs : List Part). due_at T.board k (suc j) + returned_at (pattern_of R.basin r) k (suc j) qs) parts_same

    few_points : the_points R ≤ 4
    few_points = (points-ok R).few

    few_reservoirs : length R.basin.reservoirs ≤ 8
    few_reservoirs = R.setting.accepted.few_reservoirs

    storage-there : the_kind R ≡ Storage → the_reservoir R < length R.basin.reservoirs
    storage-there e = omega (arith, reservoirs-count R.setting, storage-behind R e)

    project-there : the_kind R ≡ Project → the_reservoir R < length R.basin.reservoirs
    project-there e = omega (arith, reservoirs-count R.setting, project-behind R e)

    kept-all : Kept R.basin T.board A.board
    kept-all = kept_on R.basin T.board S.river.board A.board
        (subst (Kept R.basin T.board) (sym S.river.stored)
        (kept-stored R.basin T.board (the_reservoir R) few_reservoirs (the_kind R) (capacity_in R.reservoirs (the_reservoir R)) R.place (the_part S.river) storage-there
        (omega (arith, R.in_list, rights-count R.setting)) (place-most R) T.board-size (unmarked T S.river.given)))
        (kept_on R.basin S.river.board S.board A.board
        (subst (Kept R.basin S.river.board) (sym S.drew.board) (kept-drawn R.basin S.river.board (the_reservoir R) few_reservoirs (the_kind R) S.drawn project-there))
        (kept_same R.basin S.board A.board gave-back.same))

    pub turned : Turned R.basin R.rights R.place T.month T.flow T.available T.short T.board A.flow A.available A.short A.board A.grant
    turned = record {
      state = return-stage R d (ltb d (the_demand S.river)) S.flow S.river.available A.flow A.available T.short A.short S.board A.board (gave-back.levels (rows R.basin)) gave-back.same A.finished.marked T.marks
          ∙ sym (turn-after R.basin T.month R.place r (the_state T) g);
      tells = subst (λ (u : program.Grant). Tells now (home_of R.basin r) u) (sym A.finished.grant) (tells T g S.river.given.river S.river.given.gave refl A.grant.deep);
      dues = dues-are;
      deep = gave-back.lost ∙ ap (lost_deep (pattern_of R.basin r)) parts_same;
      month = gave-back.same 0 (omega arith) ∙ (board-moved T S).month;
      grown = λ k h. omega (arith, gave-back.grown k h, few_points, grown₂ T S k h);
      within = gave-back.within;
      filled = λ j. omega (arith, gave-back.filled j, few_points, (board-moved T S).filled j);
      deep_most = omega (arith, gave-back.lost_most, few_points);
      kept = kept-all;
    }
