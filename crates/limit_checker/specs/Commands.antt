-- Commands to the application, as they are read and executed. From the cFS Limit Checker user's guide; the refusals are this
-- project's own.
use Rattle.std.specs.Prelude.{ℕ, List, [], ◌∷◌, Result, Ok, Err}
use Rattle.lc_model.specs.declared.command.CommandRefusal.{CommandRefusal}
use Rattle.lc_model.specs.Command as command
use Rattle.lc_model.specs.Command.{LcCommand, lc_command, mode_numbered}
use Rattle.lc_model.specs.Kept.Summary.{LcOwn}
use Rattle.lc_model.specs.LimitChecker.Steps.{one_set, states_set, turned_permanently_off}
use Rattle.lc_model.specs.Packet.{function_code, payload}
use Rattle.lc_model.specs.Refusal.{Refusal, ◌>>=◌, found}
use Rattle.limit_engine.specs.States as states
use Rattle.limit_checker.specs.declared.command.Command.{Command}
use Rattle.limit_checker.specs.declared.command.Command.TheVariants.{NoOperation, SetMode, SetState, TurnPermanentlyOff}
use Rattle.limit_checker.specs.declared.command.Refused.{Refused}
use Rattle.limit_checker.specs.declared.command.Refused.TheVariants.{Unread, Unobeyed}

-- The program's command as one of the model.
abbrev pub command_of : Command → LcCommand
command_of NoOperation = command.NoOperation
command_of (SetMode number) = command.SetMode number
command_of (SetState index number) = command.SetState index number
command_of (TurnPermanentlyOff index) = command.TurnPermanentlyOff index

-- The result of reading a command, with its refusal as a number.
abbrev pub read_of : Result Command CommandRefusal → Result LcCommand Refusal
read_of (Ok command) = Ok (command_of command)
read_of (Err refusal) = Err (command.refusal_number refusal ∷ [])

-- The number of a refusal, 151 to 155.
abbrev pub refusal_number : Refused → ℕ
refusal_number (Unread refusal) = command.refusal_number refusal
refusal_number (Unobeyed refusal) = states.refusal_number refusal

-- A call's result with its refusal as a number.
abbrev pub answered : Result (Unit {0}) Refused → Result (Unit {0}) Refusal
answered (Ok done) = Ok tt
answered (Err refusal) = Err (refusal_number refusal ∷ [])

-- The object after a command, or the command's refusal.
abbrev pub own_obeyed : LcCommand → LcOwn → Result LcOwn Refusal
own_obeyed command.NoOperation own = Ok own
own_obeyed (command.SetMode number) own = do
  mode ← found (mode_numbered number) 154
  Ok (record own { mode = mode })
own_obeyed (command.SetState index number) own = do
  points ← states_set index number own.points
  Ok (record own { points = points })
own_obeyed (command.TurnPermanentlyOff index) own = do
  points ← one_set index turned_permanently_off own.points
  Ok (record own { points = points })

-- The object after a packet 0x18A4, or the refusal of its command.
abbrev pub own_commanded : List ℕ → LcOwn → Result LcOwn Refusal
own_commanded packet own = do
  command ← lc_command (function_code packet) (payload packet)
  own_obeyed command own
