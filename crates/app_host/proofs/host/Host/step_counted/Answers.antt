use Rattle.std.proofs.Common.{rules}
use Rattle.app_host.specs.Step.{input_by}
use Rattle.app_host.proofs.Stepping.{handled_once, steps, counts_then}
use Rattle.app_host.proofs.Responses.{responds_then, responds_so}
use Rattle.app_host.proofs.Boxes.{gone_then}
use Rattle.app_host.proofs.host.Host.step_counted.Goals as goal

pub returns-clause-stepped : goal.returns-clause-stepped
returns-clause-stepped g c = record {
  closed = search rules;
  handled = λ is_open. steps c.args.entry.now.moment (input_by c.args.entry.now.body) _ _ c.begin_step.ensures.begun _ _ _ c.handle.result is_open c.handle.ensures.handled;
  own = λ is_open.
      responds_so _ _ _ _ _ _ c.handle.result (responds_then c.args.entry.now.moment c.args.entry.now.body _ _ _ c.begin_step.ensures.begun _ _ c.handle.result c.handle.ensures.own);
  not_retried = handled_once _ _ _ _ _ _ _ _ c.handle.result c.handle.ensures.handled;
  gone = λ is_open. gone_then _ _ c.args.entry.now.body _ _ c.begin_step.ensures.begun _ _ c.begin_step.ensures.boxes c.handle.ensures.gone;
}

pub returns-clause-count : goal.returns-clause-count
returns-clause-count g c = λ is_open. counts_then c.args.entry.now.moment (input_by c.args.entry.now.body) _ _ c.begin_step.ensures.begun _ _ _ c.handle.result c.handle.ensures.handled

pub returns-clause-counted : goal.returns-clause-counted
returns-clause-counted g c = λ is_open. responds_then c.args.entry.now.moment c.args.entry.now.body _ _ _ c.begin_step.ensures.begun _ _ c.handle.result c.handle.ensures.own
