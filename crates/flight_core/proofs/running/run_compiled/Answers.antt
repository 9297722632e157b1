use Rattle.std.proofs.Common.{rules, arith}
use Rattle.flight_core.proofs.Fitting.{begun}
use Rattle.flight_core.proofs.Outset.{runs_so}
use Rattle.flight_core.proofs.Reasons.{runs_for}
use Rattle.flight_core.proofs.running.run_compiled.Goals as goal

pub returns-in-Ok-clause-run : goal.returns-in-Ok-clause-run
returns-in-Ok-clause-run g c = λ profile. runs_so _ _ _ _ _ c.in-Ok.ensures.first profile _ c.handle_all-result.ensures.outcome

pub returns-in-Ok-clause-judged : goal.returns-in-Ok-clause-judged
returns-in-Ok-clause-judged g c = begun _ _ c.handle_all-result.ensures.begun

pub returns-in-Ok-clause-reasons : goal.returns-in-Ok-clause-reasons
returns-in-Ok-clause-reasons g c = runs_for _ _ _ _ _ _ c.in-Ok.ensures.first _ c.close.ensures.closed _ c.handle_all-result.ensures.reasons

pub new-requires-2 : goal.new-requires-2
new-requires-2 g c = let fits = c.host_fits.ensures (search rules) in (omega arith, c.requires.spares)

pub close-requires : goal.close-requires
close-requires g c = let fits = c.host_fits.ensures (search rules) in (omega arith, c.handle_all-result.ensures.between.whole)

pub handle_all-result-requires : goal.handle_all-result-requires
handle_all-result-requires g c = let fits = c.host_fits.ensures (search rules) in (
  omega arith,
  (search rules, (search rules, (c.requires.files, (record { whole = c.in-Ok.ensures.whole; quiet = λ is. c.in-Ok.ensures.quiet }, (search rules, (c.requires.unread, (c.requires.readable, (c.requires.writable, (c.requires.empty, (c.requires.had, c.requires.most)))))))))),
)
