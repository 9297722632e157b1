use Rattle.std.proofs.Common.{rules}
use Rattle.rule_changes.proofs.Fitting.{rules_fit}
use Rattle.rule_changes.proofs.sequences.kept_fits.Goals as goal

pub returns : goal.returns
returns c = λ old new parts condition is.
    rules_fit c.args.claim old new (c.are_kept.ensures old new parts (search rules)).0 (c.are_kept.ensures old new parts (search rules)).1
    (c.counts_fit.ensures old.fails new.fails parts.fails (search rules)) (c.condition_fits.ensures old.condition new.condition condition is)
