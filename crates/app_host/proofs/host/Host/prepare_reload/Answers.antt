use Rattle.std.proofs.Common.{arith}
use Rattle.app_host.proofs.Prepared.{is_there, reload_ready}
use Rattle.app_host.proofs.MadeWay.{reload_made}
use Rattle.app_host.proofs.host.Host.prepare_reload.Goals as goal

pub withdraw-requires : goal.withdraw-requires
withdraw-requires g c = (
  omega arith,
  (c.requires.whole.seated, (c.requires.whole.idle, is_there _ c.args.name.now c.requires.whole _ c.in-Some.seat c.runs_at.ensures.kept c.in-Some.is)),
)

pub returns-in-Some-first_spare-clause-prepared : goal.returns-in-Some-first_spare-clause-prepared
returns-in-Some-first_spare-clause-prepared g c =
    reload_ready _ c.args.name.now c.requires.whole _ c.runs_at.ensures.kept c.in-Some.seat c.in-Some.is _ _ c.withdraw.ensures.withdrawn _ c.in-Some-first_spare.place c.first_spare.ensures.kept c.in-Some-first_spare.is

pub returns-in-Some-first_spare-clause-own : goal.returns-in-Some-first_spare-clause-own
returns-in-Some-first_spare-clause-own g c =
    reload_made _ _ _ c.args.name.now c.in-Some.seat _ c.withdraw.ensures.withdrawn c.withdraw.ensures.boxes _ c.runs_at.ensures.own c.in-Some.is _ c.in-Some-first_spare.place c.first_spare.ensures.own c.in-Some-first_spare.is
