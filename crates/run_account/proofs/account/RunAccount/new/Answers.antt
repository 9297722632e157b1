use Rattle.std.proofs.Common.{◌≡◌, ◌∙◌, ap, sym, refl, rules}
use Rattle.lc_model.specs.Tables.Image.{numbers_below}
use Rattle.run_account.proofs.Accounts.{none_yet}
use Rattle.run_account.proofs.account.RunAccount.new.Goals as goal

pub returns-clause-account : goal.returns-clause-account
returns-clause-account c =
    none_yet _ c.none.ensures refl c.first.ensures c.new.ensures refl refl refl refl (search rules) (search rules) c.in_ok-lanes_of.ensures.lanes
    (c.in_ok-lanes_of.ensures.numbered ∙ ap numbers_below (sym c.in_ok-lanes_of.ensures.count))
