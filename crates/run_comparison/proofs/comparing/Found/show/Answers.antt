use Rattle.std.proofs.Common.{rules, refl}
use Rattle.run_stepper.specs.Stepping.{written_by}
use Rattle.run_comparison.proofs.Finding.{found_more}
use Rattle.run_comparison.proofs.comparing.Found.show.Goals as goal

pub returns-clause-found : goal.returns-clause-found
returns-clause-found c = λ olds news has.
    found_more c.args.self.now _ olds news (written_by c.args.old.now) (written_by c.args.new.now) c.in-Some.number c.in_ok-met.met has (search rules) c.in_ok-met.ensures (search rules) refl refl
    (λ even was. search rules)
