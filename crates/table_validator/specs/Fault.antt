-- The validator's faults as faults of the model. This project's own.
use Rattle.std.specs.Prelude.{ℕ, Option, Some, None, Result, Ok, Err}
use Rattle.lc_model.specs.Tables.Image.{ImageFault}
use Rattle.table_validator.specs.declared.fault.FaultCode.{FaultCode}
use Rattle.table_validator.specs.declared.fault.FaultCode.TheVariants.{WrongVersion, WrongKind, WrongSize, WrongCounts, NotBlank, UnknownType, UnknownOperator, WrongMessageId, WrongMask, WrongValue, UnknownState, WrongEvent, WrongText, NoEqual, WordAfterEqual, UnknownWord, UnknownWatchpoint, MissingOperand, TooManyOperands, OperandsLeft, ZeroSequenceOrFails}
use Rattle.table_validator.specs.declared.fault.TableFault.{TableFault}

-- The number of a fault's code, 61 to 81.
abbrev pub code_number : FaultCode → ℕ
code_number WrongVersion = 61
code_number WrongKind = 62
code_number WrongSize = 63
code_number WrongCounts = 64
code_number NotBlank = 65
code_number UnknownType = 66
code_number UnknownOperator = 67
code_number WrongMessageId = 68
code_number WrongMask = 69
code_number WrongValue = 70
code_number UnknownState = 71
code_number WrongEvent = 72
code_number WrongText = 73
code_number NoEqual = 74
code_number WordAfterEqual = 75
code_number UnknownWord = 76
code_number UnknownWatchpoint = 77
code_number MissingOperand = 78
code_number TooManyOperands = 79
code_number OperandsLeft = 80
code_number ZeroSequenceOrFails = 81

-- The program's fault as one of the model.
abbrev pub fault_in : TableFault → ImageFault
fault_in fault = record { code = code_number fault.code; entry = fault.entry }

-- The fault in a result of the validator; `None` if the image is sound.
abbrev pub refusal : {X : Type 0} → Result X TableFault → Option ImageFault
refusal (Ok image) = None
refusal (Err fault) = Some (fault_in fault)
