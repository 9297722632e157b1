use Rattle.std.proofs.Common.{◌∙◌, ap, subst, sym, []}
use Rattle.flight_core.specs.Compiled.{sources_of}
use Rattle.run_stepper.specs.Stepping.{BeginsWith, host_in}
use Rattle.run_comparison.specs.Comparing.{HasFound}
use Rattle.run_comparison.specs.declared.comparing.Found.{Found}
use Rattle.run_comparison.proofs.Runs.{is_comparison, nothing_compared}
use Rattle.run_comparison.proofs.comparison.watch_both.Goals as goal

pub returns-in-Ok-clause-compared : goal.returns-in-Ok-clause-compared
returns-in-Ok-clause-compared g c = λ olds even begins.
    is_comparison c.steps_are_a_run.ensures olds (sources_of c.args.texts.now) c.args.schedule.now c.args.keeps_all (host_in c.args.old.now) c.new-comparing.result.beside c.watch-watched.new.observer.beside
    c.new-comparing.result.found c.watch-watched.new.observer.found (g.R.ByteSource.source c.args.reader.now).rest (g.R.ByteSource.source c.watch-watched.new.reader).rest c.in-Ok.ending
    even begins
    (subst (λ it. BeginsWith (sources_of c.args.texts.now) c.args.schedule.now (host_in it)) (sym c.new-comparing.ensures.beside) c.requires.begun)
    (ap (λ (it : Found). it.keeps_all) c.new-comparing.ensures.found ∙ c.requires.keeps)
    (c.in-Ok.ensures.watched (nothing_compared c.new-comparing.result.beside c.new-comparing.result.found (subst (λ it. HasFound it [] []) (sym c.new-comparing.ensures.found) c.requires.found)))
    c.comparison_of.result
    (c.comparison_of.ensures.records ∙ ap (λ (it : Found). it.records) c.end-found.ensures)
    (c.comparison_of.ensures.asked ∙ ap (λ (it : Found). it.asked) c.end-found.ensures)
    c.comparison_of.ensures.ending
