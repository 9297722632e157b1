use Rattle.std.proofs.Common.{◌≡◌, ◌≤◌, ◌+◌, ◌*◌, take, length}
use Rattle.lc_model.specs.Events.Request.{numbered}
use Rattle.event_service.proofs.event_text.EventText.push_numbers.Given as goal

abbrev pub invariant-loop-number : goal.invariant-loop-number
invariant-loop-number l =
    (l.self ≡ numbered l.initial.self (take l.number-index l.numbers)) × (length l.self ≤ length l.initial.self + 11 * l.number-index)
