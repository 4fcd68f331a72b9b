-- `lister::Listing::refuse` meets its contract. Assumes nothing.
use mathlib.Core.Path.{refl}
use native.Mathlib.Omega.{arith}
use Rattle.lines.specs.Texts.{room_of}
use Rattle.lines.specs.Putting.{most_text}
use Rattle.lines.proofs.Texts.{list_kept}
use Rattle.lines.proofs.Digits.{put-in}
use Rattle.lister.specs.Lister.{text_of}
use Rattle.lister.proofs.Listing.refuse.Goals as goal

pub refusal_in-self-requires : goal.refusal_in-self-requires
unfolding room_of
refusal_in-self-requires c = omega (arith, c.requires)

pub invariant_of-self : goal.invariant_of-self
unfolding room_of
invariant_of-self c = record { within = omega (arith, c.requires, c.refusal_in-self.ensures.within, c.refusal_in-self.auto.list) }

pub returns : goal.returns
returns c =
    let r = c.refusal_in-self in
    let q = put-in (text_of c.args.self.now) _ _ most_text refl c.requires (omega (arith, r.ensures.within, r.ensures.line.ends)) r.ensures.line r.auto.list in
    record { put = q; months = refl; board = refl; report = refl; more = refl; kept = record { file = refl; same_board = refl; same_report = refl; same_list = refl; report = refl; text = list_kept q } }
