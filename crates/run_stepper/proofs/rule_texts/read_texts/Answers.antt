use Rattle.flight_core.specs.Compiled.{sources_of}
use Rattle.run_stepper.proofs.TextsRead.{all_within, one_more, refused}
use Rattle.run_stepper.proofs.rule_texts.read_texts.Goals as goal

pub returns-in-Err-clause-refused : goal.returns-in-Err-clause-refused
returns-in-Err-clause-refused c =
    refused (sources_of c.args.texts.now) c.loop-number.found.items c.loop-number.number c.text_at.result.now c.in-Err.error c.text_at.ensures
    c.loop-number.invariant.0 c.loop-number.invariant.1 c.in-Err.ensures.refused c.in-Err.ensures.named c.refusal.result c.refusal.ensures

pub loop-number-preserved : goal.loop-number-preserved
loop-number-preserved c = (
  one_more (sources_of c.args.texts.now) c.loop-number.found.items c.push.new.self.items c.loop-number.number c.text_at.result.now c.in-Ok.text
      c.text_at.ensures c.in_ok-push-in-Ok.ensures.items c.loop-number.invariant.0
      (record { bytes = c.in-Ok.ensures.bytes; reads = c.in-Ok.ensures.reads }),
  all_within c.loop-number.found.items c.push.new.self.items c.in-Ok.text c.in_ok-push-in-Ok.ensures.items c.loop-number.invariant.1 c.in-Ok.ensures.within,
)
