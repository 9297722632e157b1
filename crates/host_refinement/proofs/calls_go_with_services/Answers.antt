use Rattle.lc_model.specs.Tables.HalvesAndBytes.{as_bytes}
use Rattle.host_refinement.proofs.Keeps.{starts_go_with, packets_keep, calls_keep_others, the_host_keeps, copies_serve, publishes_few}
use Rattle.host_refinement.proofs.calls_go_with_services.Goals as goal

pub returns-clause-start : goal.returns-clause-start
returns-clause-start c layouts = starts_go_with (as_bytes layouts)

pub returns-clause-packet : goal.returns-clause-packet
returns-clause-packet c layouts = packets_keep (as_bytes layouts)

pub returns-clause-others : goal.returns-clause-others
returns-clause-others c layouts = calls_keep_others (as_bytes layouts)

pub returns-clause-host : goal.returns-clause-host
returns-clause-host c layouts = the_host_keeps (as_bytes layouts)

pub returns-clause-copies : goal.returns-clause-copies
returns-clause-copies c layouts = copies_serve (as_bytes layouts)

pub returns-clause-publications : goal.returns-clause-publications
returns-clause-publications c layouts = publishes_few (as_bytes layouts)
