use Rattle.lc_model.specs.Tables.InForce.{layouts}
use Rattle.app_host.proofs.AtHome.{started_is_home, given_is_home}
use Rattle.app_host.proofs.laws.objects_are_at_home.Goals as goal

pub returns-clause-started : goal.returns-clause-started
returns-clause-started c = started_is_home (c.calls_go_with_services.ensures.start layouts)

pub returns-clause-given : goal.returns-clause-given
returns-clause-given c = given_is_home (c.calls_go_with_services.ensures.packet layouts)
