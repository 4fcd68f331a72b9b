-- The theorems of specs/Theorems.antt, and of specs/Elders.antt. Assumes nothing.
use mathlib.Core.Path.{◌≡◌, sym, ap, ◌∙◌, subst}
use mathlib.Core.List.{List}
use Rattle.general.specs.Tables.{tab}
use Rattle.rules.specs.Basin.{rows}
use Rattle.rules.specs.Tally.{Call, Tally, begun, standing, after_calls}
use Rattle.rules.specs.Years.{all_calls}
use Rattle.rules.specs.Water.{WaterKept}
use Rattle.rules.specs.Shortness.{how_many, shorts_of, short_now}
use Rattle.rules.specs.Turn.{path_of}
use Rattle.rules.specs.River.{available_at, lowest}
use Rattle.rules.specs.Elders.{FirstTurns, FirstTurnsOfMonth}
use Rattle.rules.specs.Theorems.{Splitting, DeepBounds, Paths, TightSpots, Areas, Possible, Fresh, CountsAsCalls, Water, StartKept, ShortMonths, Checkpoints, Unclipped, PendingOn, PendingEnds, PendingBegins, AlwaysPossible, Resumed, OctoberAccepted}
use Rattle.rules.proofs.Path.{path-ends, path-once, path-rising}
use Rattle.rules.proofs.Tight.{called-first, low_first}
use Rattle.rules.proofs.River.{lesser-signed, lowest-least}
use Rattle.rules.proofs.Splits.{shares-deep, deep_none, deep-all}
use Rattle.rules.proofs.Areas.{area-facts}
use Rattle.rules.proofs.Months.{month-ok}
use Rattle.rules.proofs.Years.{entries-calls, resumes}
use Rattle.rules.proofs.Pending.{pending-on, pending-ends, pending-begins}
use Rattle.rules.proofs.Sums.{begun_ok, calls-ok, calls-start, water-kept}
use Rattle.rules.proofs.ElderTurns.{first-turns}
use Rattle.rules.proofs.ElderMonths.{first-of-month}
use Rattle.rules.proofs.October.{october-facts}
use Rattle.rules.proofs.Shortness.{calls-short}
use Rattle.rules.proofs.Possible.{fresh-facts, begun-possible, calls-possible}

pub splitting : Splitting
splitting a ps h = shares-deep a ps h

pub deep_bounds : DeepBounds
deep_bounds a ps = record { none = deep_none a ps; all = deep-all a ps }

pub paths : Paths
paths b c r h = record { ends = path-ends b c r h; once = path-once b c r h; rising = path-rising b.stations r h }

pub tight_spots : TightSpots
tight_spots b r h s = record { called-out = called-first b r s; river-low = low_first b r h s }

pub areas : Areas
areas v r = area-facts v r

pub fresh : Fresh
fresh b acc = fresh-facts b acc

pub counts_as_calls : CountsAsCalls
counts_as_calls b t xs = entries-calls b t xs

pub water : Water
water b acc s p xs =
    let cs : List Call = all_calls b (begun s) xs in
    subst (WaterKept b) (sym (entries-calls b (begun s) xs)) (water-kept b (after_calls b (begun s) cs) (calls-ok b acc (begun s) cs (begun_ok b s p.storages_count)))

pub start_kept : StartKept
unfolding begun
start_kept b s xs = ap (λ (t : Tally). t.start) (entries-calls b (begun s) xs) ∙ calls-start b (begun s) (all_calls b (begun s) xs)

pub short_months : ShortMonths
short_months b s p xs i l =
    subst (λ (t : Tally). how_many (shorts_of t.carried i) ≡ short_now s t.months i) (sym (entries-calls b (begun s) xs)) (calls-short b s i l p (all_calls b (begun s) xs))

pub checkpoints : Checkpoints
checkpoints b acc s p runoff = (month-ok b acc s.carried p.storages_count runoff (tab (rows b) (λ w. s.due w 1))).sound

pub unclipped : Unclipped
unclipped b r s a k = record {
  on_path = lesser-signed a (lowest s.levels (path_of b r)) (lowest-least s.levels (path_of b r) k.sound);
  at_row = lesser-signed a (available_at s.levels r.row) (k.sound r.row).not_negative;
}

pub pending_on : PendingOn
pending_on b s hs h w k l = pending-on b s h w hs k l

pub pending_ends : PendingEnds
pending_ends b s hs w k l = pending-ends b s hs w k l

pub pending_begins : PendingBegins
pending_begins b s w k l = pending-begins b s w k l

pub always_possible : AlwaysPossible
always_possible b acc s p xs =
    let cs : List Call = all_calls b (begun s) xs in
    subst (λ (t : Tally). Possible b (standing b t)) (sym (entries-calls b (begun s) xs)) (calls-possible b acc (begun s) cs (begun-possible b s p))

pub resumed : Resumed
resumed b t xs = resumes b t xs

pub first_turns : FirstTurns
first_turns = first-turns

pub first_turns_of_month : FirstTurnsOfMonth
first_turns_of_month = first-of-month

pub october_accepted : OctoberAccepted
october_accepted = october-facts
