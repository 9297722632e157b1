use Rattle.std.proofs.Common.{◌∙◌, sym, ap₂, ◌||◌, ℕ, pos}
use Rattle.std.specs.Prelude.{int_lt}
use Rattle.field_checker.proofs.faults.Faults.refuse_number.Goals as goal

pub returns-clause-names : goal.returns-clause-names
returns-clause-names c = λ items before named.
    c.refuse_outside.ensures.names items before (λ outside. (
      c.args.kind,
      named
          (ap₂ (λ (least most : ℕ). int_lt c.args.number.value (pos least) || int_lt (pos most) c.args.number.value) (sym c.least.ensures) (sym c.most.ensures)
          ∙ outside),
    ))
