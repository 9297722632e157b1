use Rattle.lc_model.specs.Tables.HalvesAndBytes.{as_bytes}
use Rattle.host_refinement.proofs.Bounds.{writes_little, starts_write_little, bytes_have_short_rules}
use Rattle.host_refinement.proofs.calls_write_little.Goals as goal

pub returns-clause-start : goal.returns-clause-start
returns-clause-start c layouts = starts_write_little (as_bytes layouts) (bytes_have_short_rules layouts)

pub returns-clause-packet : goal.returns-clause-packet
returns-clause-packet c layouts = writes_little (as_bytes layouts) (bytes_have_short_rules layouts)
