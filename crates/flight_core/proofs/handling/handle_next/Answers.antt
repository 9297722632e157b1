use Rattle.std.proofs.Common.{rules, ◌≡◌}
use Rattle.flight_core.specs.Records.{after_next}
use Rattle.flight_core.proofs.NextHandled.{handled, cut_short, leaves, meets_none, texts_stay}
use Rattle.flight_core.proofs.handling.handle_next.Goals as goal

pub returns-in-Ok-clause-next : goal.returns-in-Ok-clause-next
returns-in-Ok-clause-next g c =
    let goes : c.next.follows.lender-at-none ≡ after_next c.args.records.now = search rules in
    handled c.args.pairs.now c.args.records.now c.next.follows.lender-at-none c.in-Some.found c.in-Some-record_of.entry c.record_of.result c.record_of.ensures c.in-Some-record_of.is
    c.in-Some.ensures.found goes c.in-Some.ensures.shorter _ _ _ _ c.in-Ok.ensures.between c.in-Ok.total (c.in-Ok.ensures.stepped.handled c.requires.open) (c.in-Ok.ensures.counted c.requires.open) (c.in-Ok.ensures.count c.requires.open)

pub returns-in-Err-clause-next : goal.returns-in-Err-clause-next
returns-in-Err-clause-next g c =
    let goes : c.next.follows.lender-at-none ≡ after_next c.args.records.now = search rules in
    cut_short c.args.pairs.now c.args.records.now c.next.follows.lender-at-none c.in-Some.found c.in-Some-record_of.entry c.record_of.result c.record_of.ensures c.in-Some-record_of.is
    c.in-Some.ensures.found goes c.in-Some.ensures.shorter _ _ _ _ c.in-Err.ensures.between c.in-Err.fault.sent (c.in-Err.ensures.stepped.handled c.requires.open) (c.in-Err.ensures.counted c.requires.open)

pub returns-in-None-record_of-clause-next : goal.returns-in-None-record_of-clause-next
returns-in-None-record_of-clause-next g c =
    let goes : c.next.follows.lender-at-none ≡ after_next c.args.records.now = search rules in
    meets_none c.args.pairs.now c.args.records.now c.next.follows.lender-at-none c.in-Some.found c.record_of.result c.record_of.ensures c.in-None-record_of.is c.in-Some.ensures.found goes _ _

pub returns-in-Ok-clause-texts : goal.returns-in-Ok-clause-texts
returns-in-Ok-clause-texts g c = texts_stay c.args.records.now _ (let goes : c.next.follows.lender-at-none ≡ after_next c.args.records.now = search rules in goes)

pub returns-in-Err-clause-texts : goal.returns-in-Err-clause-texts
returns-in-Err-clause-texts g c = texts_stay c.args.records.now _ (let goes : c.next.follows.lender-at-none ≡ after_next c.args.records.now = search rules in goes)

pub returns-in-Ok-clause-gone : goal.returns-in-Ok-clause-gone
returns-in-Ok-clause-gone g c =
    let goes : c.next.follows.lender-at-none ≡ after_next c.args.records.now = search rules in
    leaves c.args.pairs.now c.args.records.now c.next.follows.lender-at-none c.in-Some.found c.in-Some-record_of.entry c.record_of.result c.record_of.ensures c.in-Some-record_of.is
    c.in-Some.ensures.found goes c.in-Some.ensures.shorter _ _ _ (c.in-Ok.ensures.stepped.gone c.requires.open)

pub returns-in-Err-clause-gone : goal.returns-in-Err-clause-gone
returns-in-Err-clause-gone g c =
    let goes : c.next.follows.lender-at-none ≡ after_next c.args.records.now = search rules in
    leaves c.args.pairs.now c.args.records.now c.next.follows.lender-at-none c.in-Some.found c.in-Some-record_of.entry c.record_of.result c.record_of.ensures c.in-Some-record_of.is
    c.in-Some.ensures.found goes c.in-Some.ensures.shorter _ _ _ (c.in-Err.ensures.stepped.gone c.requires.open)

pub returns-in-Ok-clause-not_retried : goal.returns-in-Ok-clause-not_retried
returns-in-Ok-clause-not_retried g c = c.in-Ok.ensures.stepped.not_retried

pub returns-in-Err-clause-not_retried : goal.returns-in-Err-clause-not_retried
returns-in-Err-clause-not_retried g c = c.in-Err.ensures.stepped.not_retried
