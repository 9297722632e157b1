-- What the errors of scripts say. This project's own.
use Rattle.std.specs.Prelude.{◌≡◌, ℕ, Result, Ok, Err, ⊤}
use Rattle.stream_script.specs.declared.error.Reason.{Reason}
use Rattle.stream_script.specs.declared.error.StatementFault.{StatementFault}
use Rattle.stream_script.specs.declared.error.StatementFault.TheVariants as fault
use Rattle.stream_script.specs.declared.error.ScriptError.{ScriptError}
use Rattle.stream_script.specs.declared.error.ScriptError.TheVariants as error

-- a refused line, and why
pub record ScriptFault : Type 0 where
  pub line : ℕ
  pub reason : Reason

infixl 10 ◌>>=◌
-- the second step, unless the first is refused
abbrev pub ◌>>=◌ : {A B : Type 0} → Result A Reason → (A → Result B Reason) → Result B Reason
(Ok x) >>= next = next x
(Err reason) >>= next = Err reason

-- the line was refused for this reason, unless memory ran out
abbrev pub IsRefused : {A : Type 0} → Result A Reason → StatementFault → Type 0
IsRefused said (fault.Line reason) = said ≡ Err reason
IsRefused said fault.Memory = ⊤

-- the script was refused at this line for this reason, unless memory ran out
abbrev pub IsScriptError : {A : Type 0} → Result A ScriptFault → ScriptError → Type 0
IsScriptError said (error.Line n reason) = said ≡ Err (record { line = n; reason = reason })
IsScriptError said error.Memory = ⊤
