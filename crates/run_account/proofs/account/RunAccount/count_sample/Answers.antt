use Rattle.std.proofs.Common.{rules, option_map}
use Rattle.run_account.specs.Samples.{requests_of}
use Rattle.run_account.proofs.ResultLists.{shown_are}
use Rattle.run_account.proofs.account.RunAccount.count_sample.Goals as goal

pub count_rows-requires : goal.count_rows-requires
count_rows-requires c =
    shown_are (requests_of c.args.requests.now) (option_map (λ engine. engine.now) c.args.engine) c.take_results-self.result c.take_results-self.new.results c.shown_results-results.result.now
    (search rules) (search rules)

pub count_lanes-requires : goal.count_lanes-requires
count_lanes-requires c =
    shown_are (requests_of c.args.requests.now) (option_map (λ engine. engine.now) c.args.engine) c.take_results-self.result c.take_results-self.new.results c.shown_results-results.result.now
    (search rules) (search rules)
