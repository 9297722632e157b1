use Rattle.std.proofs.Common.{arith, sym, ◌∙◌, ◌≡◌, ◌≤◌, length, List, Option}
use Rattle.app_host.specs.Hosted.{Object, shown}
use Rattle.flight_profile.specs.Checkers.{slot_of}
use Rattle.flight_profile.proofs.Engines.{none_behind}
use Rattle.flight_profile.proofs.schedulers.slot_on.Goals as goal

pub returns : goal.returns
returns g c =
    let seats : List (Option Object) = (shown g.B.App.meaning c.args.host.now).seats in
    let eight : length seats ≡ 8 = c.requires.seated.eight in
    let behind : length seats ≤ c.loop-number.number = omega (arith, eight, c.loop-number-test.false) in
    sym (none_behind slot_of seats c.loop-number.number behind) ∙ c.loop-number.invariant
