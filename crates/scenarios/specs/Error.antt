-- What the errors of scenarios say. This project's own.
use Rattle.std.specs.Prelude.{◌≡◌, ℕ, Result, Ok, Err, ⊤}
use Rattle.scenarios.specs.declared.error.Reason.{Reason}
use Rattle.scenarios.specs.declared.error.LineRefusal.{LineRefusal}
use Rattle.scenarios.specs.declared.error.LineRefusal.TheVariants as fault
use Rattle.scenarios.specs.declared.error.ScenarioError.{ScenarioError}
use Rattle.scenarios.specs.declared.error.ScenarioError.TheVariants as error

-- a line that says nothing, and why
pub record ScenarioFault : Type 0 where
  pub line : ℕ
  pub reason : Reason

infixl 10 ◌>>=◌
-- the second step, unless the first is refused
abbrev pub ◌>>=◌ : {A B : Type 0} → Result A Reason → (A → Result B Reason) → Result B Reason
(Ok x) >>= next = next x
(Err reason) >>= next = Err reason

-- the line was refused for this reason, want of memory aside
abbrev pub IsRefused : {A : Type 0} → Result A Reason → LineRefusal → Type 0
IsRefused said (fault.Line reason) = said ≡ Err reason
IsRefused said fault.Memory = ⊤

-- the scenario was refused at this line for this reason, want of memory aside
abbrev pub IsScenarioError : {A : Type 0} → Result A ScenarioFault → ScenarioError → Type 0
IsScenarioError said (error.Line n reason) = said ≡ Err (record { line = n; reason = reason })
IsScenarioError said error.Memory = ⊤
