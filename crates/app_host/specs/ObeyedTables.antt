-- Commands to table services, over the services by seats.
use Rattle.std.specs.Prelude.{ℕ, List, Option, Some, None, Result}
use Rattle.lc_model.specs.Name.{Name, name_in, name_size}
use Rattle.lc_model.specs.Refusal.{Refusal, ◌>>=◌, refused, unknown_function}
use Rattle.lc_model.specs.Tables.Slot as slot
use Rattle.lc_model.specs.Command as model
use Rattle.lc_model.specs.Command.{TableCommand, Manage, of_length}
use Rattle.lc_model.specs.Services.Tables.{TableService, table_commanded}
use Rattle.app_host.specs.declared.table_commands.Action.{Action}
use Rattle.app_host.specs.declared.table_commands.Action.TheVariants.{Load, Validate, Activate, Abort}

-- The table command of an action, with the name of a file or table.
abbrev pub command_of : Action → Name → TableCommand
command_of Load name = model.Load name
command_of Validate name = Manage slot.Validate name
command_of Activate name = Manage slot.Activate name
command_of Abort name = Manage slot.Abort name

-- The table command of an action, with the name in the payload: 151 for a code without an action, 152 for a payload that is not
-- 40 bytes.
abbrev pub command_by : Option Action → List ℕ → Result TableCommand Refusal
command_by None bytes = refused unknown_function
command_by (Some action) bytes = of_length name_size bytes (command_of action (name_in bytes))

-- The table services after a command that was read, or the refusal.
abbrev pub tables_by : Result TableCommand Refusal → TableService → Result TableService Refusal
tables_by r service = do
  command ← r
  table_commanded command service
