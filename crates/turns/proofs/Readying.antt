-- What each stage of a turn asks for, from what the stages before it left. Assumes nothing.
use mathlib.Core.Bool.{Bool, true, false}
use mathlib.Core.List.{List}
use mathlib.Core.Path.{◌≡◌, refl, sym, ap, ◌∙◌, subst}
use Prim.Native.Nat.{ℕ, ◌+◌, ◌-◌, ◌≤◌, ◌<◌}
use native.Mathlib.Omega.{arith}
use lib.ListN.{length, get_or, length-set}
use lib.Seq.{get_or-set_other}
use Rattle.general.specs.Tests.{has, bit}
use Rattle.places.specs.Board.{dues_from, board_length, marks_at}
use Rattle.rules.specs.Basin.{Right}
use Rattle.records.specs.declared.rights.Kind.{Kind}
use Rattle.records.specs.declared.rights.Kind.TheVariants.{Direct, Project, Instream, Storage}
use Rattle.records.specs.Records.{reservoir_count}
use Rattle.river.specs.declared.Seen.{Seen}
use Rattle.river.specs.declared.Seen.TheVariants as seen
use Rattle.river.specs.Arrays.{seen_on}
use Rattle.records.proofs.Table.{by-self}
use Rattle.river.proofs.Table.{by_in}
use Rattle.rules.specs.Accepted.{most_amount}
use Rattle.grants.specs.declared.grants.Reason.{Reason}
use Rattle.grants.specs.Grants.{CanSee, seen_by, part_of}
use Rattle.turns.specs.Finish.{CanFinish}
use Rattle.grants.specs.Stages.{is_instream, CanAsk, CanTake, capacity_in, board_stored, CanFill, drawn_in, board_drawn, home_row, CanDraw}
use Rattle.turns.proofs.Given.{RightAt, the_record, the_kind, the_row, the_reservoir, the_path, BeforeTurn, RiverGiven, AfterRiver, AfterStorage, the_part, the_demand, the_share}
use Rattle.turns.proofs.Facts.{rows-st, few, downhill, path-in, reservoirs-count, rights-count, right_is, capacity-is, home-in}
use Rattle.turns.proofs.RightFacts.{right-good, place-most, limit_is, row_in, row_on, efficiency-is, points-ok, project-behind, storage-behind}
use Rattle.turns.proofs.Places.{poured-size, poured-grown, poured-other}
use Rattle.turns.proofs.RowReads.{taken-read, release-read, lowered}
use Rattle.grants.proofs.Looks.{seen-along}
use Rattle.turns.proofs.Demands.{ask-most, ask-marked, low-least}

pub few_reservoirs : (R : RightAt) → reservoir_count R.reservoirs ≤ 8
few_reservoirs R = omega (arith, reservoirs-count R.setting, R.setting.accepted.few_reservoirs)

-- what may change on the board from one stage to the next: storages, marks and water taken, by no more than a grant
pub record BoardMoved (before after : List ℕ) (most : ℕ) : Type 0 where
  pub size : length after ≡ length before
  pub filled : (j : ℕ) → get_or after j 0 ≤ get_or before j 0 + most
  pub dues : (j : ℕ) → dues_from ≤ j → get_or after j 0 ≡ get_or before j 0
  pub month : get_or after 0 0 ≡ get_or before 0 0

unmoved : (l : List ℕ) (most : ℕ) → BoardMoved l l most
unmoved l most = record { size = refl; filled = λ j. omega arith; dues = λ j h. refl; month = refl }

module _ (T : BeforeTurn) where
  abbrev R : RightAt
  R = T.right

  -- ---- the demand, and a look down the river

  pub can-ask : CanAsk R.reservoirs R.rights R.place T.month T.board
  can-ask = record {
    place = R.in_list;
    most = place-most R;
    in-year = T.in-year;
    stores = λ z. let there : the_reservoir R < reservoir_count R.reservoirs = storage-behind R z in record {
      there = there;
      eight = omega (arith, few_reservoirs R);
      taken = omega (arith, T.within.taken R.place (omega (arith, R.in_list, rights-count R.setting)), ap (λ (x : Right). x.limit) (right_is R.setting R.place R.in_list), limit_is R);
      held = omega (arith, T.within.storages (the_reservoir R) (omega (arith, there, reservoirs-count R.setting)), capacity-is R.setting (the_reservoir R) there);
    };
  }

  pub can-see : CanSee R.stations R.table (the_row R)
  can-see = record {
    on = row_on R;
    stationed = λ q h. omega (arith, path-in R.setting (the_row R) (row_in R) q h, rows-st R.setting);
  }

  -- ---- the river part fits

  module _ (G : RiverGiven T) where
    abbrev ask : ℕ
    ask = G.demand

    abbrev d : ℕ
    d = G.river.part

    part-most : (y : Seen) → part_of T.available ask y ≤ ask
    unfolding part_of
    part-most (seen.Called q) = omega arith
    part-most (seen.Low q) = omega arith

    pub part-le : d ≤ ask
    part-le = omega (arith, G.gave.part, part-most (seen_by (the_kind R) R.table T.available T.short (the_row R)))

    pub ask-small : ask ≤ most_amount
    ask-small = omega (arith, G.asked, ask-most T (the_kind R))

    path-fits : (y : Seen) → seen_on T.short T.available (the_row R) (the_path R) ≡ y → (k : ℕ) → has k (the_path R) ≡ true → part_of T.available ask y ≤ get_or T.available k 0
    unfolding part_of
    path-fits (seen.Called q) e k h = omega arith
    path-fits (seen.Low q) e k h = omega (arith, low-least T q e k h)

    along-fits : is_instream (the_kind R) ≡ false → (k : ℕ) → has k (the_path R) ≡ true → d ≤ get_or T.available k 0
    along-fits n k h = omega (arith, G.gave.part, ap (part_of T.available ask) (seen-along (the_kind R) R.table T.available T.short (the_row R) n), path-fits (seen_on T.short T.available (the_row R) (the_path R)) refl k h)

    self : has (the_row R) (the_path R) ≡ true
    self = by-self R.table (downhill R.setting) (the_row R) (row_on R)

    own-fits : (k : Kind) → part_of T.available ask (seen_by k R.table T.available T.short (the_row R)) ≤ get_or T.available (the_row R) 0
    unfolding part_of
    own-fits Direct = path-fits (seen_on T.short T.available (the_row R) (the_path R)) refl (the_row R) self
    own-fits Project = path-fits (seen_on T.short T.available (the_row R) (the_path R)) refl (the_row R) self
    own-fits Instream = omega arith
    own-fits Storage = path-fits (seen_on T.short T.available (the_row R) (the_path R)) refl (the_row R) self

    in_path : (k : ℕ) → has k (the_path R) ≡ true → k < 64
    in_path = by_in R.table (downhill R.setting) (the_row R) (row_on R)

    pub can-take : CanTake (the_kind R) R.table (the_row R) d T.flow T.available
    can-take = record {
      on = row_on R;
      divert_ok = λ n. record {
        on = row_on R;
        flows = record { at_least = λ k h. omega (arith, along-fits n k h, T.river-ok.within k (in_path k h)) };
        availables = record { at_least = along-fits n };
      };
      enough = omega (arith, G.gave.part, own-fits (the_kind R));
    }

    pub can-fill : CanFill (the_kind R) R.reservoirs (the_reservoir R) R.place d T.board
    can-fill = record {
      most = place-most R;
      small = omega (arith, part-le, ask-small);
      board = T.board-ok;
      there = λ z. (omega (arith, storage-behind R z, few_reservoirs R), storage-behind R z);
    }

    -- a storage right that gets something had no mark
    pub unmarked : the_kind R ≡ Storage → 0 < d → bit (marks_at T.board) (the_reservoir R) ≡ false
    unmarked z h = go (bit (marks_at T.board) (the_reservoir R)) refl
      where
        go : (c : Bool) → bit (marks_at T.board) (the_reservoir R) ≡ c → bit (marks_at T.board) (the_reservoir R) ≡ false
        go true e = absurd (omega (arith, h, part-le, G.asked, ask-marked T z e))
        go false e = e

  -- ---- after the river part

  module _ (D : AfterRiver T) where
    flow-less : (k : ℕ) → k < 64 → get_or D.flow k 0 ≤ get_or T.flow k 0
    flow-less k h = (taken-read 64 (the_kind R) (the_part D) R.table (the_row R) T.flow T.available D.flow D.available (D.took.levels 64) k h).0

    within₁ : (k : ℕ) → k < 64 → get_or D.available k 0 ≤ get_or D.flow k 0
    within₁ k h = (taken-read 64 (the_kind R) (the_part D) R.table (the_row R) T.flow T.available D.flow D.available (D.took.levels 64) k h).1 (T.river-ok.within k h)

    stored_moved : (k : Kind) → (k ≡ Storage → the_reservoir R < 8) → BoardMoved T.board (board_stored k (capacity_in R.reservoirs (the_reservoir R)) (the_reservoir R) R.place (the_part D) T.board) most_amount
    unfolding board_stored
    stored_moved Direct o = unmoved T.board most_amount
    stored_moved Project o = unmoved T.board most_amount
    stored_moved Instream o = unmoved T.board most_amount
    stored_moved Storage o =
        let e : the_reservoir R < 8 = o refl in
        let c = place-most R in
        let capacity : ℕ = capacity_in R.reservoirs (the_reservoir R) in
        record {
          size = poured-size T.board capacity (the_reservoir R) R.place (the_part D) e c;
          filled = poured-grown T.board capacity (the_reservoir R) R.place (the_part D) most_amount e (omega (arith, part-le D.given, ask-small D.given)) (omega arith);
          dues = λ j h. poured-other T.board capacity (the_reservoir R) R.place (the_part D) e c j (λ z. omega arith) (λ z. omega arith) (λ z. omega arith);
          month = poured-other T.board capacity (the_reservoir R) R.place (the_part D) e c 0 (λ z. omega arith) (λ z. omega arith) (λ z. omega arith);
        }

    moved₁ : BoardMoved T.board D.board most_amount
    moved₁ = subst (λ (l : List ℕ). BoardMoved T.board l most_amount) (sym D.stored) (stored_moved (the_kind R) (λ z. omega (arith, storage-behind R z, few_reservoirs R)))

    pub size₁ : length D.board ≡ board_length
    size₁ = moved₁.size ∙ T.board-size

    home-on : the_reservoir R < reservoir_count R.reservoirs → home_row R.reservoirs (the_reservoir R) < 64
    home-on h = omega (arith, home-in R.setting (the_reservoir R) h, few R.setting)

    pub can-draw : CanDraw (the_kind R) R.table R.reservoirs (the_reservoir R) (the_demand D - the_part D) D.flow D.board
    can-draw = record {
      there = λ z. let h : the_reservoir R < reservoir_count R.reservoirs = project-behind R z in (h, omega (arith, few_reservoirs R));
      release_ok = λ z x l. let h : the_reservoir R < reservoir_count R.reservoirs = project-behind R z in record {
        on = home-on h;
        flows = record { fits = λ k q. let c : k < 64 = by_in R.table (downhill R.setting) (home_row R.reservoirs (the_reservoir R)) (home-on h) k q in omega (arith, l, flow-less k c, T.river-ok.room k c, ask-small D.given) };
      };
    }

  -- ---- after the part from storage

  module _ (S : AfterStorage T) where
    abbrev lacking : ℕ
    lacking = the_demand S.river - the_part S.river

    drawn-le : (k : Kind) → drawn_in k lacking (the_reservoir R) S.river.board ≤ lacking
    unfolding drawn_in
    drawn-le Direct = omega arith
    drawn-le Project = omega arith
    drawn-le Instream = omega arith
    drawn-le Storage = omega arith

    both_small : the_part S.river + S.drawn ≤ most_amount
    both_small = omega (arith, S.drew.amount, drawn-le (the_kind R), part-le S.river.given, ask-small S.river.given)

    drawn-moved : (k : Kind) → (k ≡ Project → the_reservoir R < 8) → BoardMoved S.river.board (board_drawn k S.drawn (the_reservoir R) S.river.board) 0
    unfolding board_drawn
    drawn-moved Direct o = unmoved S.river.board 0
    drawn-moved Project o =
        let e : the_reservoir R < 8 = o refl in
        let l : List ℕ = S.river.board in
        record {
          size = length-set l (1 + the_reservoir R) (get_or l (1 + the_reservoir R) 0 - S.drawn);
          filled = λ j. omega (arith, lowered l (1 + the_reservoir R) S.drawn j);
          dues = λ j h. get_or-set_other l (1 + the_reservoir R) j _ 0 (λ z. omega arith);
          month = get_or-set_other l (1 + the_reservoir R) 0 _ 0 (λ z. omega arith);
        }
    drawn-moved Instream o = unmoved S.river.board 0
    drawn-moved Storage o = unmoved S.river.board 0

    moved₂ : BoardMoved S.river.board S.board 0
    moved₂ = subst (λ (l : List ℕ). BoardMoved S.river.board l 0) (sym S.drew.board) (drawn-moved (the_kind R) (λ z. omega (arith, project-behind R z, few_reservoirs R)))

    -- from the turn's beginning
    pub board-moved : BoardMoved T.board S.board most_amount
    board-moved = record {
      size = moved₂.size ∙ (moved₁ S.river).size;
      filled = λ j. omega (arith, moved₂.filled j, (moved₁ S.river).filled j);
      dues = λ j h. moved₂.dues j h ∙ (moved₁ S.river).dues j h;
      month = moved₂.month ∙ (moved₁ S.river).month;
    }

    pub grown₂ : (k : ℕ) → k < 64 → get_or S.flow k 0 ≤ get_or T.flow k 0 + most_amount
    grown₂ k h = omega (arith, (release-read 64 (the_kind R) S.drawn R.table (home_row R.reservoirs (the_reservoir R)) (the_row R) S.river.flow S.river.available S.flow (S.drew.levels 64 S.river.available) k h).0, flow-less S.river k h, both_small)

    within₂ : (k : ℕ) → k < 64 → get_or S.river.available k 0 ≤ get_or S.flow k 0
    within₂ k h = omega (arith, (release-read 64 (the_kind R) S.drawn R.table (home_row R.reservoirs (the_reservoir R)) (the_row R) S.river.flow S.river.available S.flow (S.drew.levels 64 S.river.available) k h).1, within₁ S.river k h)

    pub can-finish : (y : Reason) → CanFinish R.patterns R.rights R.place (the_record R) (the_share S y) S.flow S.river.available S.board
    can-finish y = record {
      small = both_small;
      efficient = omega (arith, (right-good R).efficiency_most, efficiency-is R);
      on = row_on R;
      points-ok = points-ok R;
      river = record {
        room = λ k h. omega (arith, grown₂ k h, T.river-ok.room k h);
        within = within₂;
      };
      board = record { room = λ j. omega (arith, board-moved.filled j, T.board-ok.room j) };
    }
