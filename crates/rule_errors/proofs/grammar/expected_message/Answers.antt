use Rattle.rule_errors.proofs.grammar.expected_message.Goals as goal

pub returns : goal.returns
returns c = c.with.ensures.error 11 c.args.at c.in_ok-message.ensures
