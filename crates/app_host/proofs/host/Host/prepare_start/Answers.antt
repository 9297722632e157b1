use Rattle.std.proofs.Common.{sym, ◌∙◌}
use Rattle.app_host.proofs.Prepared.{start_ready}
use Rattle.app_host.proofs.MadeWay.{start_made}
use Rattle.app_host.proofs.host.Host.prepare_start.Goals as goal

pub returns-in-Some-free-clause-prepared : goal.returns-in-Some-free-clause-prepared
returns-in-Some-free-clause-prepared g c =
    start_ready _ c.args.name.now c.requires.whole _ c.runs_at.ensures.kept (sym c.is_some.ensures ∙ c.if-is_some.false) _ _ c.in-Some.place c.first_spare.ensures.kept c.in-Some.is c.free.ensures.kept c.in-Some-free.seat
    c.in-Some-free.is

pub returns-in-Some-free-clause-own : goal.returns-in-Some-free-clause-own
returns-in-Some-free-clause-own g c =
    start_made _ _ c.args.name.now _ _ _ c.runs_at.ensures.own (sym c.is_some.ensures ∙ c.if-is_some.false) c.first_spare.ensures.own c.free.ensures.own c.in-Some.place c.in-Some-free.seat c.in-Some.is c.in-Some-free.is
