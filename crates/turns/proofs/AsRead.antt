-- The stages of a turn at what the code has in hand: the right's record as it was read, and what each call left. Assumes nothing.
use mathlib.Core.Bool.{Bool}
use mathlib.Core.List.{List}
use mathlib.Core.Path.{◌≡◌, sym, ap, ◌∙◌, subst}
use Prim.Native.Nat.{ℕ, ◌-◌, ◌≤◌}
use Rattle.places.specs.Board.{board_length, storage_at, taken_at}
use Rattle.rules.specs.Basin.{Basin, Reservoir, Right, no_reservoir, no_right}
use Rattle.records.specs.declared.rights.RightRecord.{RightRecord}
use Rattle.grants.specs.declared.grants.Grant.{Grant}
use Rattle.grants.specs.declared.grants.Reason.{Reason}
use Rattle.grants.specs.declared.grants.RiverPart.{RiverPart}
use Rattle.grants.specs.Grants.{CanSee, RiverGave}
use Rattle.grants.specs.Stages.{ask_in, CanTake, Taken, capacity_in, board_stored, CanFill, CanDraw, Drawn}
use lib.ListN.{length, get_or}
use Rattle.turns.specs.Finish.{CanFinish, Finished, short_reason}
use Rattle.river.specs.Setting.{SettingOf, Describes}
use Rattle.river.specs.declared.setting.Setting.{Setting}
use Rattle.turns.specs.State.{Within, Ready}
use Rattle.turns.proofs.Given.{RightAt, the_record, BeforeTurn, RiverGiven, AfterRiver, AfterStorage, AfterTurn, share_of}
use Rattle.turns.proofs.Readying.{can-see, part-le, can-take, can-fill, can-draw, can-finish}

-- two basins of one setting have the same capacities and limits
pub within_same : {st t rs : List ℕ} {pa : List (List ℕ)} {ri : List ℕ} {b b' : Basin} → SettingOf b st t rs pa ri → SettingOf b' st t rs pa ri → (bd : List ℕ) → Within b bd → Within b' bd
within_same w w' bd h = record {
  storages = λ v l. subst (λ (x : List Reservoir). storage_at bd v ≤ (get_or x v no_reservoir).capacity) (w.reservoirs ∙ sym w'.reservoirs) (h.storages v (rw (w.reservoirs ∙ sym w'.reservoirs) l));
  taken = λ i l. subst (λ (x : List Right). taken_at bd i ≤ (get_or x i no_right).limit) (w.rights ∙ sym w'.rights) (h.taken i (rw (w.rights ∙ sym w'.rights) l));
}

-- ---- the turn that the code may begin, in any basin of the setting

module _ {s : Setting} {i m : ℕ} {f a : List ℕ} (sh : List Bool) {bd : List ℕ} (o : Ready s i m f a bd) (size : length bd ≡ board_length) (marks : 64 ≤ length sh) where
  abbrev pub turn_in : (b : Basin) → Describes s b → BeforeTurn
  turn_in b w = record {
    right = record { basin = b; stations = s.bodies.now.stations.now; table = s.below.now.rows; reservoirs = s.bodies.now.reservoirs.now; patterns = s.sums.now; rights = s.bodies.now.rights.now; setting = w; place = i; in_list = o.place };
    month = m;
    in-year = o.in-year;
    flow = f;
    available = a;
    short = sh;
    board = bd;
    river-ok = o.river;
    board-size = size;
    board-ok = o.board;
    marks = marks;
    within = within_same o.setting w bd o.within;
  }

  abbrev pub the-turn : BeforeTurn
  the-turn = turn_in o.basin o.setting

-- ---- q is the right's record as it was read

module _ (T : BeforeTurn) {q : RightRecord} (e : q ≡ the_record T.right) where
  abbrev R : RightAt
  R = T.right

  pub see-ok : CanSee R.stations R.table q.row
  see-ok = subst (λ (x : RightRecord). CanSee R.stations R.table x.row) (sym e) (can-see T)

  -- ---- the demand and the river part

  module _ {ask : ℕ} (asked : ask ≡ ask_in q.kind R.reservoirs R.rights R.place T.month T.board) {z : RiverPart} (gave : RiverGave R.stations R.table T.available T.short q.kind q.row ask z) where
    abbrev d : ℕ
    d = z.part

    abbrev pub river-given : RiverGiven T
    river-given = record {
      demand = ask;
      asked = asked ∙ ap (λ (x : RightRecord). ask_in x.kind R.reservoirs R.rights R.place T.month T.board) e;
      river = z;
      gave = subst (λ (x : RightRecord). RiverGave R.stations R.table T.available T.short x.kind x.row ask z) e gave;
    }

    pub part-ok : d ≤ ask
    part-ok = part-le T river-given

    pub take-ok : CanTake q.kind R.table q.row d T.flow T.available
    take-ok = subst (λ (x : RightRecord). CanTake x.kind R.table x.row d T.flow T.available) (sym e) (can-take T river-given)

    pub fill-ok : CanFill q.kind R.reservoirs q.reservoir R.place d T.board
    fill-ok = subst (λ (x : RightRecord). CanFill x.kind R.reservoirs x.reservoir R.place d T.board) (sym e) (can-fill T river-given)

    -- ---- after the river part

    module _ {f₁ a₁ bd₁ : List ℕ} (took : Taken q.kind R.table q.row d T.flow T.available f₁ a₁) (stored : bd₁ ≡ board_stored q.kind (capacity_in R.reservoirs q.reservoir) q.reservoir R.place d T.board) where
      abbrev pub after_river : AfterRiver T
      after_river = record {
        given = river-given;
        flow = f₁;
        available = a₁;
        board = bd₁;
        took = subst (λ (x : RightRecord). Taken x.kind R.table x.row d T.flow T.available f₁ a₁) e took;
        stored = stored ∙ ap (λ (x : RightRecord). board_stored x.kind (capacity_in R.reservoirs x.reservoir) x.reservoir R.place d T.board) e;
      }

      pub draw-ok : CanDraw q.kind R.table R.reservoirs q.reservoir (ask - d) f₁ bd₁
      draw-ok = subst (λ (x : RightRecord). CanDraw x.kind R.table R.reservoirs x.reservoir (ask - d) f₁ bd₁) (sym e) (can-draw T after_river)

      -- ---- after the part from storage

      module _ {x : ℕ} {f₂ bd₂ : List ℕ} (drew : Drawn q.kind R.table R.reservoirs q.reservoir q.row (ask - d) f₁ bd₁ f₂ bd₂ x) where
        abbrev pub after_storage : AfterStorage T
        after_storage = record {
          river = after_river;
          drawn = x;
          flow = f₂;
          board = bd₂;
          drew = subst (λ (u : RightRecord). Drawn u.kind R.table R.reservoirs u.reservoir u.row (ask - d) f₁ bd₁ f₂ bd₂ x) e drew;
        }

        pub finish-ok : (y : Reason) → CanFinish R.patterns R.rights R.place q (share_of ask d x y) f₂ a₁ bd₂
        finish-ok y = subst (λ (u : RightRecord). CanFinish R.patterns R.rights R.place u (share_of ask d x y) f₂ a₁ bd₂) (sym e) (can-finish T after_storage y)

        -- ---- after the returns

        abbrev pub after_turn : {y : Reason} → y ≡ short_reason q.kind z.reason → {f₃ a₃ : List ℕ} {sh₃ : List Bool} {bd₃ : List ℕ} {g : Grant}
            → Finished R.table R.patterns R.rights R.place q (share_of ask d x y) f₂ a₁ T.short bd₂ f₃ a₃ sh₃ bd₃ g → AfterTurn T
        after_turn {y} yw {f₃} {a₃} {sh₃} {bd₃} {g} fi = record {
          storage = after_storage;
          flow = f₃;
          available = a₃;
          short = sh₃;
          board = bd₃;
          grant = g;
          finished = subst (λ (u : Reason). Finished R.table R.patterns R.rights R.place (the_record R) (share_of ask d x u) f₂ a₁ T.short bd₂ f₃ a₃ sh₃ bd₃ g) (yw ∙ ap (λ (u : RightRecord). short_reason u.kind z.reason) e)
              (subst (λ (u : RightRecord). Finished R.table R.patterns R.rights R.place u (share_of ask d x y) f₂ a₁ T.short bd₂ f₃ a₃ sh₃ bd₃ g) e fi);
        }
