-- Room is made in the list of the listing, and nothing else is changed.
use Rattle.std.proofs.Common.{arith, refl}
use Rattle.lines.specs.Texts.{room_of}
use Rattle.lines.proofs.Texts.{list-long}
use Rattle.lister.specs.Lister.{text_of}
use Rattle.printing.proofs.Keeping.{as-long}
use Rattle.printing.proofs.output.room_for_month.Goals as goal

pub room_in-requires : goal.room_in-requires
room_in-requires g c = let l = c.args.listing.now in (omega (arith, l.within), omega (arith, c.requires, list-long (text_of l)))

pub returns-in_err-listing-clause-made : goal.returns-in_err-listing-clause-made
returns-in_err-listing-clause-made g c =
    let k = c.room_in.ensures.kept in
    record { list = k; board = refl; report = refl; months = refl; more = refl; kept = record { file = refl; same_board = refl; same_report = refl; same_list = refl; report = refl; text = as-long (text_of c.args.listing.now) _ k } }

pub returns-clause-made : goal.returns-clause-made
returns-clause-made g c =
    let k = c.room_in.ensures.kept in
    record { list = k; board = refl; report = refl; months = refl; more = refl; kept = record { file = refl; same_board = refl; same_report = refl; same_list = refl; report = refl; text = as-long (text_of c.args.listing.now) _ k } }

pub returns-clause-room : goal.returns-clause-room
unfolding room_of
returns-clause-room g c = omega (arith, c.in_ok-listing.ensures.room, c.room_in.auto.list)

pub returns-clause-as_it_was : goal.returns-clause-as_it_was
unfolding room_of
returns-clause-as_it_was g c = λ h. c.in_ok-listing.ensures.as_it_was (omega (arith, h, c.args.listing.now.within))

pub returns-clause-begins_again : goal.returns-clause-begins_again
unfolding room_of
returns-clause-begins_again g c = λ h. c.in_ok-listing.ensures.begins_again (omega (arith, h, c.args.listing.now.within))
