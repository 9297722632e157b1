use Rattle.std.proofs.Common.{◌≡◌, ◌∙◌, sym, map, option_map}
use Rattle.run_account.specs.Counts.{row_sampled}
use Rattle.run_account.specs.Samples.{requests_of}
use Rattle.run_account.proofs.Rows.{no_text}
use Rattle.run_account.proofs.counts.count_rows.Goals as goal

pub returns-in-None : goal.returns-in-None
returns-in-None c =
    no_text (requests_of c.args.requests.now) (option_map (λ engine. engine.now) c.args.engine) c.args.rows.now
    ∙ (λ i. map (row_sampled (requests_of c.args.requests.now) (option_map (λ engine. engine.now) c.args.engine) (sym c.in-None.is i)) c.args.rows.now)
