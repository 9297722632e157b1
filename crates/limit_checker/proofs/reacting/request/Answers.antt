use Rattle.limit_checker.proofs.Requesting.{requested}
use Rattle.std.proofs.Common.{sym, ap, ◌∙◌}
use Rattle.lc_model.specs.Name.{lc_name}
use Rattle.lc_model.specs.Events.Request.{Event}
use Rattle.limit_checker.proofs.reacting.request.Goals as goal

pub returns-clause-told : goal.returns-clause-told
returns-clause-told c = λ this is.
    requested c.telling_goes_on.ensures.goes_on c.seats_are_kept_by_the_rules.ensures.telling_is_by_name c.args.from.now this c.args.event.now c.args.rule c.args.run c.as_bytes.result.now c.args.services.now c.request_sequence.new.self c.tell.new.services is
    c.requires.sends c.request_sequence.ensures.told c.tell.ensures.told
    (ap (Event lc_name this.event_id this.event_kind) c.as_bytes.ensures.bytes ∙ c.rule_failed-text.ensures this (sym is.text) (sym is.sequence)) c.ranges.run.fits
