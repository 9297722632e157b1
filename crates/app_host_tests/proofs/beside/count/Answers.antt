use Rattle.std.proofs.Common.{arith}
use Rattle.lc_model.specs.Packet.{counter_mid}
use Rattle.app_host_tests.proofs.Besides.{hearers_known}
use Rattle.app_host_tests.proofs.beside.count.Goals as goal

pub counts_among-requires : goal.counts_among-requires
counts_among-requires g c =
    let steps = c.in_ok-step.ensures.stepped.handled c.requires.open in (
      omega arith,
      (c.in_ok-step.ensures.between, (steps.is_open, hearers_known counter_mid _ _ (steps.known c.requires.known (tt, c.requires.spare)))),
    )
