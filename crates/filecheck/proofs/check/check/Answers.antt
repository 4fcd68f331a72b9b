-- `filecheck::check::check` meets its contract. An accepted layout has 1 to 64 stations. Assumes nothing.
use mathlib.Core.Path.{◌≡◌, sym, ◌∙◌}
use mathlib.Core.Bool.{true}
use Prim.Native.Nat.{◌≤◌, ◌<◌}
use native.Mathlib.Omega.{arith}
use Rattle.sections.specs.File.{layout_ok, section_of}
use Rattle.records.specs.Records.{rows_of}
use Rattle.sections.proofs.Parts.{laid}
use Rattle.records.proofs.Counted.{rows-counted}
use Rattle.filecheck.proofs.check.check.Goals as goal

pub check_bodies-requires : goal.check_bodies-requires
check_bodies-requires c =
    let f = c.args.file.now in
    let e : layout_ok f ≡ true = sym c.layout_ok.ensures ∙ c.if-not-layout_ok.false in
    let n : 0 < rows_of (section_of f 0) = omega (arith, (laid f e).stations, rows-counted f e) in
    let m : rows_of (section_of f 0) ≤ 64 = omega (arith, (laid f e).stations, rows-counted f e) in
    (rw c.of.ensures.stations n, rw c.of.ensures.stations m)
