-- The errors of sharing. This project's own.
use Rattle.std.specs.Prelude.{◌≡◌, ℕ, ◌<◌, ◌⊎◌, List, length, Option, Some, None}
use Rattle.lc_model.specs.declared.field.Term.{Term}
use Rattle.lc_model.specs.Codes.{table_entries}
use Rattle.lc_model.specs.Tables.Compiling.{too_many_watchpoints}
use Rattle.watch_sharing.specs.declared.error.ShareError.{ShareError}
use Rattle.watch_sharing.specs.declared.error.ShareError.TheVariants.{TooManyWatchpoints, Memory}

-- The refusal number of an error, 31; `None` for lack of memory.
abbrev pub error_code : ShareError → Option ℕ
error_code TooManyWatchpoints = Some too_many_watchpoints
error_code Memory = None

-- The error is lack of memory, or there are more than 176 of these watchpoints.
abbrev pub IsTooManyUnlessMemory : List Term → ShareError → Type 0
IsTooManyUnlessMemory terms error = (error ≡ Memory) ⊎ ((error ≡ TooManyWatchpoints) × (table_entries < length terms))
