use Rattle.std.proofs.Common.{rules}
use Rattle.flight_core.specs.Compiled.{sources_of}
use Rattle.flight_core.proofs.Outset.{whole_files}
use Rattle.flight_core.proofs.feeding.FedHost.new.Goals as goal

pub returns-in-Ok-clause-ready : goal.returns-in-Ok-clause-ready
returns-in-Ok-clause-ready g c = record {
  between = record { whole = c.in-Ok.ensures.whole; quiet = λ is. c.in-Ok.ensures.quiet };
  texts = search rules;
  files = whole_files (sources_of c.args.texts.now) c.in_ok-pairs.pairs.items c.in_ok-pairs.ensures.compiled;
}
