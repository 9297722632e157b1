-- What is done for the words of a command line. This project's own.
use Rattle.std.specs.Prelude.{◌≡◌, ◌⊎◌, ℕ, List, map, Option, Ok, Err, ⊤}
use Rattle.flight_run_args.specs.declared.command_line.Plan.{Plan}
use Rattle.flight_run_args.specs.declared.command_line.Plan.TheVariants as plan
use Rattle.flight_run_args.specs.Words.{HoldsWords}
use Rattle.program_io.specs.FileCall.{FileCall}
use Rattle.flight_run.specs.declared.done.Done.{Done}
use Rattle.flight_run.specs.declared.done.Done.TheVariants.{Stored, Compiled, Flown}
use Rattle.flight_run.specs.declared.fault.Fault.{Fault}
use Rattle.flight_run.specs.declared.fault.Fault.TheVariants.{Words, Memory}
use Rattle.flight_run.specs.Commands.{IsCompileDone, IsRunDone, compile_order, run_order}
use Rattle.flight_run.specs.Stops.{StopsIn}

abbrev pub IsStored : Done → Type 0
IsStored (Stored packets) = ⊤
IsStored (Compiled watchpoints rules) = ⊥
IsStored (Flown report) = ⊥

abbrev pub IsFlown : Done → Type 0
IsFlown (Stored packets) = ⊥
IsFlown (Compiled watchpoints rules) = ⊥
IsFlown (Flown report) = ⊤

-- a plan was carried out, over the files that it names and over no others
abbrev pub IsCarriedOut : Plan → (before now : Option (List FileCall)) → Done → Type 0
IsCarriedOut plan.Stored before now done = IsStored done × (now ≡ before)
IsCarriedOut (plan.Compile rules wdt adt) before now done = IsCompileDone rules.now wdt.now adt.now before now done
IsCarriedOut (plan.Run schedule stream out rules) before now done =
    IsRunDone schedule.now stream.now out.now (map (λ name. name.now) rules.items) before now (Ok done)

-- what the words say was done
pub record IsAskedFor (words : List (List ℕ)) (before now : Option (List FileCall)) (done : Done) : Type 0 where
  pub plan : Plan
  pub of_words : HoldsWords words plan
  pub carried_out : IsCarriedOut plan before now done

-- `run` stopped for this fault: it is the host's, or that of a call before the host ran
abbrev pub IsRunStopped : (schedule stream out : List ℕ) (rules : List (List ℕ)) → (before now : Option (List FileCall)) → Fault → Type 0
IsRunStopped schedule stream out rules before now fault =
    IsRunDone schedule stream out rules before now (Err fault) ⊎ StopsIn (run_order schedule stream out rules) before now fault

-- a plan was begun, and stopped for this fault
abbrev pub IsStopped : Plan → (before now : Option (List FileCall)) → Fault → Type 0
IsStopped plan.Stored before now fault = now ≡ before
IsStopped (plan.Compile rules wdt adt) before now fault = StopsIn (compile_order rules.now wdt.now adt.now) before now fault
IsStopped (plan.Run schedule stream out rules) before now fault = IsRunStopped schedule.now stream.now out.now (map (λ name. name.now) rules.items) before now fault

-- what the words say was begun, and stopped for this fault
pub record StopsAsAsked (words : List (List ℕ)) (before now : Option (List FileCall)) (fault : Fault) : Type 0 where
  pub plan : Plan
  pub of_words : HoldsWords words plan
  pub stopped : IsStopped plan before now fault

-- the words are at fault, or there is no memory for them
abbrev pub IsOfWords : Fault → Type 0
IsOfWords (Words error) = ⊤
IsOfWords Memory = ⊤
IsOfWords fault = ⊥

-- no file is touched where the words are no command
abbrev pub IsStoppedFor : List (List ℕ) → (before now : Option (List FileCall)) → Fault → Type 0
IsStoppedFor words before now fault = ((now ≡ before) × IsOfWords fault) ⊎ StopsAsAsked words before now fault
