use Rattle.app_host_tests.proofs.Spoken.{writes}
use Rattle.app_host_tests.proofs.speaking.SpeakingApp.on_packet.Goals as goal

pub returns-clause-rules : goal.returns-clause-rules
returns-clause-rules c =
    writes c.seats_are_kept_by_the_rules.ensures.silence_answers c.args.self.now.seat c.args.self.now.name c.args._packet.now c.args.services.now c.append.new.self c.requires.home c.requires.given c.args.self.now.one
    c.append.ensures
