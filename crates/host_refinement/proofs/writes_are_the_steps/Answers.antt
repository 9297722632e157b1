use Rattle.lc_model.specs.Tables.HalvesAndBytes.{as_bytes}
use Rattle.host_refinement.proofs.StationsWrite.{writes_are_the_steps, calls_are_bounded, open_hosts_take}
use Rattle.host_refinement.proofs.writes_are_the_steps.Goals as goal

pub returns-clause-packets : goal.returns-clause-packets
returns-clause-packets c layouts moment = writes_are_the_steps (as_bytes layouts) moment

pub returns-clause-calls : goal.returns-clause-calls
returns-clause-calls c layouts moment = calls_are_bounded (as_bytes layouts) moment

pub returns-clause-taken : goal.returns-clause-taken
returns-clause-taken c layouts moment room host input is = open_hosts_take (as_bytes layouts) moment room host input is
