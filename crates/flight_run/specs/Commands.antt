-- The commands of the program, by the calls on files that they make, in their order. This project's own.
use Rattle.std.specs.Prelude.{◌≡◌, ℕ, Bool, true, false, List, [], ◌∷◌, ◌++◌, length, map, Option, Some, None, Result, Ok, Err}
use Rattle.lc_model.specs.Device.{Sink}
use Rattle.lc_model.specs.Host.Outcome.{Devices}
use Rattle.lc_model.specs.Host.Promise.{Mission}
use Rattle.lc_model.specs.Host.Schedule.{Schedule}
use Rattle.lc_model.specs.Host.ScheduleText.{schedule_in}
use Rattle.rpn_compiler.specs.declared.files.TablePair.{TablePair}
use Rattle.flight_core.specs.Compiled.{IsCompiled}
use Rattle.flight_profile.specs.Stock.{own_mission}
use Rattle.program_io.specs.FileCall.{FileCall, Reads, Opens, Compares, Makes, Closes, Leaves, Writes, all_apart, all_read, followed_by}
use Rattle.flight_run.specs.declared.done.Done.{Done}
use Rattle.flight_run.specs.declared.done.Done.TheVariants.{Compiled}
use Rattle.flight_run.specs.declared.fault.Fault.{Fault}
use Rattle.flight_run.specs.declared.fault.Fault.TheVariants.{File, Memory, Text}
use Rattle.flight_run.specs.Flown.{Flies}

-- ---- `compile RULES WDT ADT`

abbrev pub compile_calls : (rules wdt adt text : List ℕ) → TablePair → List FileCall
compile_calls rules wdt adt text pair = Reads rules (Some text)
    ∷ Compares wdt rules false ∷ Compares adt rules false ∷ Compares adt wdt false
    ∷ Writes wdt pair.wdt.items true ∷ Writes adt pair.adt.items true ∷ []

-- and those of any other, of which it makes the first
abbrev pub compile_order : (rules wdt adt : List ℕ) → List FileCall
compile_order rules wdt adt = Reads rules None ∷ Compares wdt rules false ∷ Compares adt rules false ∷ Compares adt wdt false ∷ Writes wdt [] false ∷ Writes adt [] false ∷ []

-- the text of the first file was compiled into the other two
pub record IsCompileDone (rules wdt adt : List ℕ) (before now : Option (List FileCall)) (done : Done) : Type 0 where
  pub text : List ℕ
  pub pair : TablePair
  pub of_text : IsCompiled text pair
  pub calls : now ≡ followed_by before (compile_calls rules wdt adt text pair)
  pub counts : done ≡ Compiled pair.watchpoints pair.rules

-- ---- `run --schedule S --stream IN --out OUT RULES..`

-- how the output is closed: it stays as it was if nothing was run, since a text is refused or memory ran out
abbrev pub last_call : (ran : Result Done Fault) → Sink → (is_done : Bool) → FileCall
last_call (Ok done) sink is_done = Closes sink is_done
last_call (Err (Text error)) sink is_done = Leaves sink
last_call (Err Memory) sink is_done = Leaves sink
last_call (Err fault) sink is_done = Closes sink is_done

-- the fault is that of the file of this name
abbrev pub IsOfFile : List ℕ → Fault → Type 0
IsOfFile name (File other) = other.now ≡ name
IsOfFile name fault = ⊥

-- the answer is what came of the run; but if the run went well and the output's old bytes could not be removed, it is the output's fault
abbrev pub IsAnswer : (out : List ℕ) (is_done : Bool) (ran answer : Result Done Fault) → Type 0
IsAnswer out false (Ok done) (Ok other) = ⊥
IsAnswer out false (Ok done) (Err fault) = IsOfFile out fault
IsAnswer out false (Err fault) answer = answer ≡ Err fault
IsAnswer out true ran answer = answer ≡ ran

-- after a run the output was closed, and this is the answer
pub record IsEnded (out : List ℕ) (sink : Sink) (before now : Option (List FileCall)) (ran answer : Result Done Fault) : Type 0 where
  pub is_done : Bool
  pub closed : now ≡ followed_by before (last_call ran sink is_done ∷ [])
  pub answers : IsAnswer out is_done ran answer

-- its calls on files, of which the last closes the output
abbrev pub run_calls : (schedule stream out : List ℕ) (rules : List (List ℕ)) (text : List ℕ) (texts : List (List ℕ)) → Devices → (last : FileCall) → List FileCall
run_calls schedule stream out rules text texts d last = ((Reads schedule (Some text) ∷ []) ++ all_read rules texts)
    ++ ((Opens stream (Some d.source) ∷ Compares out schedule false ∷ Compares out stream false ∷ []) ++ all_apart out rules)
    ++ (Makes out (Some d.sink) ∷ last ∷ [])

-- and those before the host runs
abbrev pub run_order : (schedule stream out : List ℕ) (rules : List (List ℕ)) → List FileCall
run_order schedule stream out rules = ((Reads schedule None ∷ []) ++ map (λ name. Reads name None) rules)
    ++ ((Opens stream None ∷ Compares out schedule false ∷ Compares out stream false ∷ []) ++ all_apart out rules)
    ++ (Makes out None ∷ [])

-- what is run: these texts, with this schedule and this profile's stock
abbrev pub mission_of : List (List ℕ) → Schedule → Mission
mission_of texts plan = record (own_mission [] plan) { sources = texts }

-- the texts were run with the schedule, from the stream's file to the output's, and this is the answer
pub record IsRunDone (schedule stream out : List ℕ) (rules : List (List ℕ)) (before now : Option (List FileCall)) (answer : Result Done Fault) : Type 0 where
  pub text : List ℕ
  pub plan : Schedule
  pub texts : List (List ℕ)
  pub devices : Devices
  pub says : schedule_in text ≡ Ok plan
  pub each : length texts ≡ length rules
  pub ran : Result Done Fault
  pub is_done : Bool
  pub calls : now ≡ followed_by before (run_calls schedule stream out rules text texts devices (last_call ran devices.sink_after is_done))
  pub flies : Flies (mission_of texts plan) devices ran
  pub answers : IsAnswer out is_done ran answer
