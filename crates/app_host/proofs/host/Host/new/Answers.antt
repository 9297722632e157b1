use Rattle.app_host.proofs.Fresh.{first_whole, first_numbers}
use Rattle.app_host.proofs.host.Host.new.Goals as goal

pub returns-in-Ok-clause-whole : goal.returns-in-Ok-clause-whole
returns-in-Ok-clause-whole g c =
    first_whole _ c.in-Ok.services 8192 c.in-Ok.ensures.bus c.in-Ok.ensures.events c.in-Ok.ensures.tables c.in-Ok.ensures.counts c.requires.spares c.in-Ok.ensures.outgoing

pub returns-in-Ok-clause-first : goal.returns-in-Ok-clause-first
returns-in-Ok-clause-first g c =
    first_numbers _ c.in-Ok.services 8192 c.in-Ok.ensures.bus c.in-Ok.ensures.events c.in-Ok.ensures.tables c.in-Ok.ensures.counts
