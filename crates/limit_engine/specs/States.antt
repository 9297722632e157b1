-- The mode and the rules' states after a command, and its refusal.
use Rattle.std.specs.Prelude.{ℕ, [], ◌∷◌, Result, Ok, Err}
use Rattle.lc_model.specs.Refusal.{Refusal}
use Rattle.limit_engine.specs.declared.states.StateRefusal.{StateRefusal}
use Rattle.limit_engine.specs.declared.states.StateRefusal.TheVariants.{BadIndex, BadMode, NotSettable}

-- The number of a refusal, 153 to 155.
abbrev pub refusal_number : StateRefusal → ℕ
refusal_number BadIndex = 153
refusal_number BadMode = 154
refusal_number NotSettable = 155

-- A call's result with its refusal as a number.
abbrev pub answered : Result (Unit {0}) StateRefusal → Result (Unit {0}) Refusal
answered (Ok done) = Ok tt
answered (Err refusal) = Err (refusal_number refusal ∷ [])

-- The result without its value.
abbrev pub outcome : {A : Type 0} → Result A Refusal → Result (Unit {0}) Refusal
outcome (Ok x) = Ok tt
outcome (Err refusal) = Err refusal

-- The value, or the one before if the command is refused.
abbrev pub unless_refused : {A : Type 0} → Result A Refusal → A → A
unless_refused (Ok x) before = x
unless_refused (Err refusal) before = before
