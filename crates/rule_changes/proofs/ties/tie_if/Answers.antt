use Rattle.std.proofs.Common.{sym, ◌∙◌}
use Rattle.lc_model.specs.Condition.{condition_of}
use Rattle.rule_changes.proofs.Tied.{tie_more}
use Rattle.rule_changes.proofs.ties.tie_if.Goals as goal

pub returns : goal.returns
returns c = λ q tied.
    tie_more c.args.terms.now c.args.term.now c.args.other.now (condition_of c.args.question) (condition_of c.in_ok-tied.tied) q c.requires.term c.requires.other
    (sym c.is_known_with.ensures ∙ c.if-not-is_known_with.false) c.in_ok-tied.ensures tied
