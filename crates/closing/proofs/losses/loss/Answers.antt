-- `closing::losses::loss` meets its contract. Assumes nothing.
use mathlib.Core.Path.{sym, ap, ◌∙◌}
use native.Mathlib.Omega.{arith}
use Prim.Native.Nat.{ℕ, ◌*◌, min}
use Rattle.general.proofs.Tables.{tab-at}
use Rattle.rules.specs.Month.{area_at, evaporation}
use Rattle.records.specs.Records.{depth_at, reservoir_of}
use Rattle.closing.proofs.losses.loss.Goals as goal

pub returns : goal.returns
unfolding evaporation reservoir_of
returns c =
    let s = c.args in
    let rs = s.reservoirs.now in
    let d = c.from-depth.ensures ∙ c.depth_at.ensures ∙ sym (tab-at (depth_at rs s.v) 12 s.m 0 c.requires.1) in (
      c.min.ensures ∙ ap (λ (x : ℕ). min s.storage (x * c.from-depth.result)) c.lake_area-area.ensures.0 ∙ ap (λ (x : ℕ). min s.storage (area_at (reservoir_of rs s.v) s.storage * x)) d,
      omega (arith, c.min.ensures),
    )
