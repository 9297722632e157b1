use Rattle.script_errors.proofs.Places.{is_on}
use Rattle.script_errors.proofs.said.message_on.Goals as goal

pub returns : goal.returns
returns c = λ text number some is.
    is_on text number c.args.line c.args.code c.place_mark.result.at c.with.result c.place_mark.ensures.from c.place_mark.ensures.to
    (c.with.ensures.error c.args.code c.place_mark.result.at c.at-message.ensures) some is
