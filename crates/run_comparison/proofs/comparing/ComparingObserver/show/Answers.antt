use Rattle.run_stepper.specs.Watching.{step_shown}
use Rattle.run_comparison.specs.Comparing.{written_in}
use Rattle.run_comparison.proofs.Runs.{compared_more, on_ok}
use Rattle.run_comparison.proofs.comparing.ComparingObserver.show.Goals as goal

pub returns : goal.returns
returns c = λ first taken steps has.
    on_ok c.show.result _ _
    (compared_more first.beside c.args.self.now.beside c.step.new.self c.stepping.result.now first.found c.args.self.now.found c.show.new.self steps (step_shown c.args.stepping.now) c.last_record.result.now has
    c.last_record.ensures c.in_ok-step.ensures c.stepping.ensures.run c.show.ensures.keeps)
    (c.show.ensures.found (written_in steps) (written_in has.news) has.has)
