use Rattle.app_host_tests.proofs.Spoken.{is_started}
use Rattle.app_host_tests.proofs.speaking.SpeakingApp.start.Goals as goal

pub returns-clause-rules : goal.returns-clause-rules
returns-clause-rules c =
    is_started c.args.seat c.args.self.now.name c.args.services.now c.open.new.self c.tell.new.self
    (c.seats_are_kept_by_the_rules.ensures.opening_starts c.args.seat _ _ c.args.services.now c.open.new.self c.open.ensures c.requires.free) _ c.tell.ensures.told c.open.ensures.outgoing c.requires.free.idle
    c.tell.ensures.size
