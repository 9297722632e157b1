-- The numbers of the refusals, and results as the model gives them. This project's own.
use Rattle.std.specs.Prelude.{ℕ, [], ◌∷◌, Option, Some, None, unwrap_or, Result, Ok, Err}
use Rattle.lc_model.specs.Refusal.{Refusal, no_file, file_fault, unknown_table, wrong_image_size, update_pending, nothing_loaded, not_validated, store_full, file_too_long, no_slot}
use Rattle.table_file.specs.Error as file
use Rattle.tbl_service.specs.declared.error.TableError.{TableError}
use Rattle.tbl_service.specs.declared.error.TableError.TheVariants.{NoFile, FileFault, UnknownTable, WrongSize, UpdatePending, NothingLoaded, NotValidated, StoreFull, FileTooLong, NoSlot, Memory}

-- The number of a refusal, 111 to 120; `None` for lack of memory.
abbrev pub error_code : TableError → Option ℕ
error_code NoFile = Some no_file
error_code (FileFault fault) = Some file_fault
error_code UnknownTable = Some unknown_table
error_code WrongSize = Some wrong_image_size
error_code UpdatePending = Some update_pending
error_code NothingLoaded = Some nothing_loaded
error_code NotValidated = Some not_validated
error_code StoreFull = Some store_full
error_code FileTooLong = Some file_too_long
error_code NoSlot = Some no_slot
error_code Memory = None

-- The refusal as numbers, for an event's text; for 112 the file's fault follows.
abbrev pub refusal_of : TableError → Refusal
refusal_of NoFile = no_file ∷ []
refusal_of (FileFault fault) = file_fault ∷ unwrap_or (file.error_code fault) 0 ∷ []
refusal_of UnknownTable = unknown_table ∷ []
refusal_of WrongSize = wrong_image_size ∷ []
refusal_of UpdatePending = update_pending ∷ []
refusal_of NothingLoaded = nothing_loaded ∷ []
refusal_of NotValidated = not_validated ∷ []
refusal_of StoreFull = store_full ∷ []
refusal_of FileTooLong = file_too_long ∷ []
refusal_of NoSlot = no_slot ∷ []
refusal_of Memory = []

-- A call's result as one of the model: the state after it, or the refusal.
abbrev pub answered : {A B : Type 0} → Result B TableError → A → Result A Refusal
answered (Ok done) now = Ok now
answered (Err error) now = Err (refusal_of error)
