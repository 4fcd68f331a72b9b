-- `turns::lines::serve_line` meets its contract. Assumes nothing.
use mathlib.Core.Path.{refl, sym, ap, ◌∙◌, subst}
use native.Mathlib.Omega.{arith}
use Rattle.records.specs.declared.rights.RightRecord.{RightRecord}
use Rattle.turns.specs.State.{named_by}
use Rattle.turns.specs.Lines.{reservoir_station, CanName, line_of}
use Rattle.turns.proofs.Given.{the_state}
use Rattle.turns.proofs.RightFacts.{place-most}
use Rattle.turns.proofs.AsRead.{turn_in, the-turn}
use Rattle.turns.proofs.Naming.{can-name, name-same}
use Rattle.turns.proofs.lines.serve_line.Goals as goal

pub name-station-requires : goal.name-station-requires
name-station-requires c =
    let s = c.args.setting.now.bodies.now in
    let made = c.serve_right-grant.result in
    let q = c.requires.ready in
    let t = the-turn c.args.short.now c.requires.ready (omega arith) (omega arith) in
    subst (λ (x : RightRecord). CanName s.stations.now s.reservoirs.now x.reservoir made.reason) (sym c.right_at-right.ensures) (can-name t.right t.month (the_state t) made (c.serve_right-grant.ensures q.basin q.setting).tells)

pub put_line-requires : goal.put_line-requires
put_line-requires c =
    let t = the-turn c.args.short.now c.requires.ready (omega arith) (omega arith) in
    (place-most t.right, c.requires.line)

pub returns : goal.returns
returns c =
    let s = c.args.setting.now.bodies.now in
    let made = c.serve_right-grant.result in
    λ b w.
    let turned = c.serve_right-grant.ensures b w in
    let t = turn_in c.args.short.now c.requires.ready (omega arith) (omega arith) b w in
    let able = can-name t.right t.month (the_state t) made turned.tells in
    let named = c.name-station.ensures ∙ ap (λ (x : RightRecord). named_by (reservoir_station s.stations.now s.reservoirs.now x.reservoir) made.reason) c.right_at-right.ensures ∙ name-same t.right made.reason able in
    record {
      made = made;
      turned = turned;
      written = c.put_line.ensures ∙ ap (line_of c.args.report.now c.args.turn.right made) named;
      lost = refl;
    }
