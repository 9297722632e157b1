use Rattle.std.proofs.Common.{rules}
use Rattle.run_stepper.specs.declared.handled.Handled.TheVariants.{Whole, NoRecord, Part}
use Rattle.run_stepper.specs.Stepping.{host_in}
use Rattle.run_stepper.proofs.Alone.{handled_alone}
use Rattle.run_stepper.proofs.stepping.Stepping.handle.Goals as goal

pub returns-in-Ok-Some-clause-alone : goal.returns-in-Ok-Some-clause-alone
returns-in-Ok-Some-clause-alone c = λ goes. handled_alone (host_in c.args.self.now) _ c.handle.new.writer.bytes.items Whole goes (search rules)

pub returns-in-Ok-None-clause-alone : goal.returns-in-Ok-None-clause-alone
returns-in-Ok-None-clause-alone c = λ goes. handled_alone (host_in c.args.self.now) _ c.handle.new.writer.bytes.items Part goes (search rules)

pub returns-in-Err-NoRecord-clause-alone : goal.returns-in-Err-NoRecord-clause-alone
returns-in-Err-NoRecord-clause-alone c =
    λ goes. handled_alone (host_in c.args.self.now) (host_in (record { fed = c.handle.new.self; written = c.handle.new.writer })) c.handle.new.writer.bytes.items NoRecord goes (search rules)
