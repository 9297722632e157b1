use Rattle.std.proofs.Common.{◌≡◌, ◌∙◌, ap, sym, option_map, Some}
use Rattle.run_account.specs.Samples.{requests_of, result_of}
use Rattle.run_account.proofs.ResultLists.{are_results}
use Rattle.run_account.proofs.results.take_results.Goals as goal

pub returns-in-Some : goal.returns-in-Some
returns-in-Some c = λ is rule found there.
    are_results (requests_of c.args.requests.now) (Some c.in-Some.engine.now) c.args.results.now c.fill.new.results c.fill.ensures rule found there
    ∙ (λ i. result_of (requests_of c.args.requests.now) (option_map (λ engine. engine.now) (sym c.in-Some.is i)) rule)
