-- The limits of the tables. This project's own.
use Rattle.std.specs.Prelude.{◌≡◌, ℕ, Option, Some, option_map}
use Rattle.lc_model.specs.Text.Reading.{TextRefusal, ForRule}
use Rattle.lc_model.specs.Rule.{NamedRule}
use Rattle.lc_model.specs.Tables.Compiling.{equation_fault}
use Rattle.lc_model.specs.Tables.InForce.{limits}
use Rattle.rpn_compiler.specs.declared.error.CompileError.{CompileError}
use Rattle.rpn_compiler.specs.Fault.{refusal_of}

-- The error is this refusal.
abbrev pub IsRefusal : Option TextRefusal → CompileError → Type 0
IsRefusal refusal error = (r : TextRefusal) × (refusal_of error ≡ Some r) × (refusal ≡ Some r)

-- The refusal of rule `number`, if its equation is too long.
abbrev pub refusal_of_rule : ℕ → NamedRule → Option TextRefusal
refusal_of_rule number rule = option_map (λ code. ForRule code number) (equation_fault limits rule)
