use Rattle.app_host.proofs.CameIn.{nobody_came, came_in, failed_then, failed_so, entered, not_entered, nobody_entered, not_entered_so}
use Rattle.app_host.proofs.host.Host.come_in.Goals as goal

pub returns-in_err-sent-clause-comes : goal.returns-in_err-sent-clause-comes
returns-in_err-sent-clause-comes g c =
    failed_so _ _ _ _ _ c.from_residual.result c.in_err-sent.field-0.0 c.from_residual.ensures.1
    (nobody_came _ _ _ _ _ c.requires.spares c.flush.ensures.flushed c.in_err-sent.field-0.0.sent c.in_err-sent.ensures.sent)

pub returns-in_err-total-clause-comes : goal.returns-in_err-total-clause-comes
returns-in_err-total-clause-comes g c =
    failed_so _ _ _ _ _ c.from_residual-in_err-total.result c.in_err-total.field-0.0 c.from_residual-in_err-total.ensures.1
    (failed_then _ _ _ _ _ c.in_ok-sent.sent _ _ _ c.requires.fits c.flush.ensures.flushed c.in_ok-sent.ensures.sent c.bring_in.ensures c.flush-2.ensures.flushed c.in_err-total.field-0.0.sent c.in_err-total.ensures.sent)

pub returns-clause-comes : goal.returns-clause-comes
returns-clause-comes g c =
    came_in _ _ _ _ _ c.in_ok-sent.sent _ _ _ c.requires.fits c.flush.ensures.flushed c.in_ok-sent.ensures.sent c.bring_in.ensures c.flush-2.ensures.flushed c.in_ok-total.total c.in_ok-total.ensures.sent

pub returns-in_err-sent-clause-own : goal.returns-in_err-sent-clause-own
returns-in_err-sent-clause-own g c =
    not_entered_so _ _ _ _ _ c.from_residual.result c.in_err-sent.field-0.0 c.from_residual.ensures.1
    (nobody_entered _ _ _ _ _ c.requires.fits c.flush.ensures.flushed c.in_err-sent.field-0.0.sent c.in_err-sent.ensures.sent)

pub returns-in_err-total-clause-own : goal.returns-in_err-total-clause-own
returns-in_err-total-clause-own g c =
    not_entered_so _ _ _ _ _ c.from_residual-in_err-total.result c.in_err-total.field-0.0 c.from_residual-in_err-total.ensures.1
    (not_entered _ _ _ _ _ c.in_ok-sent.sent _ _ _ c.requires.fits c.flush.ensures.flushed c.in_ok-sent.ensures.sent c.bring_in.ensures c.flush-2.ensures.flushed c.in_err-total.field-0.0.sent c.in_err-total.ensures.sent)

pub returns-clause-own : goal.returns-clause-own
returns-clause-own g c =
    entered _ _ _ _ _ c.in_ok-sent.sent _ _ _ c.requires.fits c.flush.ensures.flushed c.in_ok-sent.ensures.sent c.bring_in.ensures c.flush-2.ensures.flushed c.in_ok-total.total c.in_ok-total.ensures.sent
