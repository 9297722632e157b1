use Rattle.rule_errors.proofs.Inside.{begins_written, inside_written, nothing_written}
use Rattle.rule_errors.proofs.faults.messages.Goals as goal

pub returns-clause-quiet : goal.returns-clause-quiet
returns-clause-quiet c rules compiles =
    nothing_written c.args.text.now c.in_ok-told.told.len c.in_ok-told.told.items c.as_mut_slice.result.now c.keep_inside.new.told
    c.as_mut_slice.ensures.value c.as_mut_slice.ensures.len c.keep_inside.ensures (c.in_ok-told.ensures.quiet rules compiles)

pub returns-clause-first : goal.returns-clause-first
returns-clause-first c refusal refused =
    begins_written c.args.text.now refusal c.in_ok-told.told.len c.in_ok-told.told.items c.as_mut_slice.result.now c.keep_inside.new.told
    c.as_mut_slice.ensures.value c.as_mut_slice.ensures.len c.keep_inside.ensures (c.in_ok-told.ensures.first refusal refused)

pub returns-clause-inside : goal.returns-clause-inside
returns-clause-inside c =
    inside_written c.args.text.now c.in_ok-told.told.len c.in_ok-told.told.items c.as_mut_slice.result.now c.keep_inside.new.told
    c.as_mut_slice.ensures.value c.as_mut_slice.ensures.len c.keep_inside.ensures
