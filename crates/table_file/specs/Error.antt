-- The numbers of a file's faults, and results by these numbers. This project's own.
use Rattle.std.specs.Prelude.{◌≡◌, ℕ, Option, Some, None, Result, Ok, Err, MatchOption}
use Rattle.table_file.specs.declared.error.FileError.{FileError}
use Rattle.table_file.specs.declared.error.FileError.TheVariants.{ShortFile, NotCfe, WrongSubtype, HeaderLength, PartialLoad, SizeMismatch, Memory}
use Rattle.lc_model.specs.Tables.File.{short_file, not_cfe, wrong_subtype, wrong_header_length, partial_load, size_mismatch}

-- The number of a file's fault; `None` for lack of memory.
abbrev pub error_code : FileError → Option ℕ
error_code ShortFile = Some short_file
error_code NotCfe = Some not_cfe
error_code WrongSubtype = Some wrong_subtype
error_code HeaderLength = Some wrong_header_length
error_code PartialLoad = Some partial_load
error_code SizeMismatch = Some size_mismatch
error_code Memory = None

-- The program's result is the value that the definition gives, or the error with the number that it gives.
abbrev pub Answers : {X : Type 0} → Result X FileError → Result X ℕ → Type 0
Answers (Ok x) meant = meant ≡ Ok x
Answers (Err error) meant = MatchOption (error_code error) ⊥ (λ code. meant ≡ Err code)
