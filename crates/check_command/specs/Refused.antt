-- How the fault of a refused rule text is reported. This project's own.
use Rattle.std.specs.Prelude.{◌≡◌, List, ℕ, ⊤}
use Rattle.std.specs.Borrow.{Bor}
use Rattle.rpn_compiler.specs.declared.error.CompileError.{CompileError}
use Rattle.tool_faults.specs.declared.fault.Fault.{Fault}
use Rattle.tool_faults.specs.declared.fault.Fault.TheVariants as fault

-- such a text is reported with lines, or with its refusal
abbrev pub AreLinesOf : Bor (List ℕ) → CompileError → Fault → Type 0
AreLinesOf name error (fault.Lines page) = ⊤
AreLinesOf name error found = found ≡ fault.Rules name error

-- every other fault is reported unchanged
abbrev pub IsToldAs : Fault → Fault → Type 0
IsToldAs (fault.Rules name error) found = AreLinesOf name error found
IsToldAs other found = found ≡ other
