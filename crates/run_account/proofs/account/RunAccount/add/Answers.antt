use Rattle.std.proofs.Common.{◌≡◌, ◌∙◌, ap, rules}
use Rattle.run_stepper.specs.Watching.{step_shown}
use Rattle.run_account.specs.Clock.{is_back, more_if, time_of}
use Rattle.run_account.specs.Samples.{requests_of}
use Rattle.run_account.proofs.Accounts.{accounts, added_so}
use Rattle.run_account.proofs.account.RunAccount.add.Goals as goal

pub returns-clause-account : goal.returns-clause-account
returns-clause-account c = λ steps is.
    accounts c.args.self.now _ steps (step_shown c.args.stepping.now)
    (added_so c.args.self.now c.add_packet.new.self c.add_samples.new.self (step_shown c.args.stepping.now) (requests_of c.requests_in-requests.result) c.next_slot-self.result c.after-self.result c.take-is_back.new.self
    c.saturating_add-self.result c.more_if-self.result (search rules) (search rules) (search rules) (search rules)
    (c.more_if-self.ensures
    ∙ ap (λ is. more_if is c.args.self.now.steps_back) (c.take-is_back.ensures.back ∙ ap (λ bytes. is_back c.args.self.now.clock.last (time_of bytes)) c.last_record-bytes.ensures)) (search rules) (search rules) (search rules))
    is
