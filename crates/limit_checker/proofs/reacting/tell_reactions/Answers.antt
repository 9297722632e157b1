use Rattle.limit_checker.proofs.Requesting.{still_may_send, turn_alone, turn_and_failure}
use Rattle.limit_checker.proofs.reacting.tell_reactions.Goals as goal

pub tell_failure-requires-clause-sends : goal.tell_failure-requires-clause-sends
tell_failure-requires-clause-sends c =
    still_may_send c.telling_goes_on.ensures.keeps c.args.from.now _ c.args.services.now c.tell_turn.new.services c.tell_turn.ensures.told c.requires.sends

pub returns-in-None-clause-told : goal.returns-in-None-clause-told
returns-in-None-clause-told c = λ this is.
    turn_alone c.args.from.now this c.args.rule c.args.reactions c.args.services.now c.tell_turn.new.services c.in-None.is c.tell_turn.ensures.told

pub returns-in-Some-clause-told : goal.returns-in-Some-clause-told
returns-in-Some-clause-told c = λ this is.
    turn_and_failure c.telling_goes_on.ensures.goes_on c.args.from.now this c.args.rule c.args.reactions c.in-Some.failure
    c.args.services.now c.tell_turn.new.services c.tell_failure.new.services c.in-Some.is c.tell_turn.ensures.told (c.tell_failure.ensures.told this is)
