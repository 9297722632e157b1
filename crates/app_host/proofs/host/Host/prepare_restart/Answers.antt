use Rattle.std.proofs.Common.{sym, ◌∙◌, arith}
use Rattle.app_host.proofs.Prepared.{runs_there, is_there, restart_ready}
use Rattle.app_host.proofs.MadeWay.{restarted}
use Rattle.app_host.proofs.host.Host.prepare_restart.Goals as goal

pub withdraw-requires : goal.withdraw-requires
withdraw-requires g c = (
  omega arith,
  (c.requires.whole.seated, (c.requires.whole.idle, is_there _ c.args.name.now c.requires.whole _ c.in-Some.seat c.runs_at.ensures.kept c.in-Some.is)),
)

pub returns-in-Some-clause-prepared : goal.returns-in-Some-clause-prepared
returns-in-Some-clause-prepared g c = restart_ready _ c.args.name.now c.requires.whole _ c.runs_at.ensures.kept c.in-Some.seat c.in-Some.is _ _ c.withdraw.ensures.withdrawn

pub returns-in-Some-clause-own : goal.returns-in-Some-clause-own
returns-in-Some-clause-own g c =
    restarted _ _ _ c.args.name.now c.requires.whole c.in-Some.seat _ c.withdraw.ensures.withdrawn c.withdraw.ensures.boxes _ c.runs_at.ensures.own c.in-Some.is
    (runs_there _ c.args.name.now c.requires.whole c.in-Some.seat (sym c.in-Some.is ∙ c.runs_at.ensures.kept))
