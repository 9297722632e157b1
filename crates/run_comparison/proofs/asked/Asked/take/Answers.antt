use Rattle.std.proofs.Common.{rules}
use Rattle.run_comparison.proofs.Asking.{more_asked}
use Rattle.run_comparison.proofs.asked.Asked.take.Goals as goal

pub returns : goal.returns
returns c = λ olds news even has.
    more_asked olds news c.args.old.now c.args.new.now even c.args.self.now _ has (search rules) (search rules) (search rules)
