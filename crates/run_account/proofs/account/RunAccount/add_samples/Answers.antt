use Rattle.std.proofs.Common.{List, Option, false, option_map, rules, subst, sym}
use Rattle.flight_profile.specs.Checkers.{engine_among}
use Rattle.lc_model.specs.Kept.Summary.{LcOwn}
use Rattle.lc_model.specs.declared.mode.ApResult.{ApResult}
use Rattle.run_stepper.specs.Stepping.{host_in}
use Rattle.run_account.specs.Account.{HasCounted, HasSampled}
use Rattle.run_account.specs.Repeats.{IsRepeat}
use Rattle.run_account.specs.Samples.{requests_of}
use Rattle.run_account.specs.declared.account.RunAccount.{RunAccount}
use Rattle.run_account.specs.declared.lanes.Lane.{Lane}
use Rattle.run_account.proofs.Accounts.{none_counted, one_counted, one_noted}
use Rattle.run_account.proofs.Taking.{none_sampled}
use Rattle.run_account.proofs.account.RunAccount.add_samples.Goals as goal

pub returns-then-is_nothing : goal.returns-then-is_nothing
returns-then-is_nothing c =
    let checker : Option LcOwn = engine_among (host_in c.args.stepping.now).host.seats in
    none_counted c.args.self.now false (requests_of c.args.requests.now) checker c.args.self.now.force.number
    (none_sampled (requests_of c.args.requests.now) checker (c.is_nothing.ensures c.if-is_nothing.true))

pub returns-then-not-is_sampled : goal.returns-then-not-is_sampled
returns-then-not-is_sampled c =
    none_counted c.args.self.now false (requests_of c.args.requests.now) (engine_among (host_in c.args.stepping.now).host.seats) c.args.self.now.force.number (search rules)

pub returns-then-is_repeat : goal.returns-then-is_repeat
returns-then-is_repeat c =
    subst (λ (it : RunAccount). HasSampled c.args.self.now it (requests_of c.args.requests.now) (engine_among (host_in c.args.stepping.now).host.seats) c.args.self.now.force.number) (sym c.note_repeat.ensures)
    (one_noted c.args.self.now (requests_of c.args.requests.now) (engine_among (host_in c.args.stepping.now).host.seats) _ _ (search rules) (search rules)
    (subst (λ (x : List (Option ApResult) × List Lane × Option LcOwn). IsRepeat c.args.self.now.repeats x.0 x.1 (requests_of c.args.requests.now) x.2 c.args.self.now.force.number c.args.self.now.clock)
    (λ i. (c.as_slice.ensures.value i, c.as_slice-2.ensures.value i, c.checker-engine.ensures i)) (c.is_repeat.ensures (search rules))))

pub returns : goal.returns
returns c =
    one_counted c.args.self.now c.settle.new.self c.count_sample.new.self false _ _ (requests_of c.args.requests.now) (engine_among (host_in c.args.stepping.now).host.seats) (search rules) (search rules) c.settle.ensures
    (subst (λ (checker : Option LcOwn). HasCounted c.settle.new.self c.count_sample.new.self (requests_of c.args.requests.now) checker) c.checker-engine.ensures c.count_sample.ensures)
