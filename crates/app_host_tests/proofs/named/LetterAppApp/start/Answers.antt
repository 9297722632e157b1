use Rattle.app_host_tests.proofs.named.LetterAppApp.start.Goals as goal

pub returns-clause-rules : goal.returns-clause-rules
returns-clause-rules c = c.seats_are_kept_by_the_rules.ensures.opening_starts c.args.seat _ _ c.args.services.now c.open.new.self c.open.ensures c.requires.free
