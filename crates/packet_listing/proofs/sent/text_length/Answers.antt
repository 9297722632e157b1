use Rattle.packet_listing.proofs.Zeros.{first_zero, no_zero}
use Rattle.packet_listing.proofs.sent.text_length.Goals as goal

pub returns-in-Some : goal.returns-in-Some
returns-in-Some c = first_zero c.args.field.now c.in-Some.place c.in-Some.ensures.0 c.in-Some.ensures.1

pub returns-in-None : goal.returns-in-None
returns-in-None c = no_zero c.args.field.now c.in-None.ensures
