use Rattle.std.proofs.Common.{◌≡◌, ◌∙◌, ap, rules}
use Rattle.lc_model.specs.Tables.Compiling.{limit_refusal}
use Rattle.lc_model.specs.Tables.InForce.{limits}
use Rattle.rpn_compiler.specs.declared.error.CompileError.TheVariants.{Memory}
use Rattle.rule_errors.proofs.Begins.{begins_read, begins_unread}
use Rattle.rule_errors.proofs.faults.told_of_text.Goals as goal

pub returns-in-Ok-clause-quiet : goal.returns-in-Ok-clause-quiet
returns-in-Ok-clause-quiet c said compiles =
    c.told_of_read.ensures.quiet (ap (limit_refusal limits) (c.in-Ok.ensures.accepts said compiles.0) ∙ compiles.1)

pub returns-in-Ok-clause-first : goal.returns-in-Ok-clause-first
returns-in-Ok-clause-first c =
    begins_read c.args.text.now c.in-Ok.text.bytes.now c.in-Ok.text.rules.rules c.told_of_read.result c.in-Ok.ensures.bytes
    (λ refusal why. c.in-Ok.ensures.refuses refusal why) (λ said reads. c.in-Ok.ensures.accepts said reads) c.told_of_read.ensures.first

pub returns-in-Err : goal.returns-in-Err
returns-in-Err c =
    let other : c.in-Err.error ≡ Memory → ⊥ = (search rules) in record {
      quiet = λ said compiles. absurd (other (c.in-Err.ensures.accepts said compiles.0));
      first = begins_unread c.args.text.now c.told_of.result c.in-Err.error other (λ said reads. c.in-Err.ensures.accepts said reads)
          (λ refusal why. c.in-Err.ensures.refuses refusal why) c.told_of.ensures;
    }
