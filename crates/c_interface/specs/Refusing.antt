-- Why a text is refused, in numbers for C. This project's own.
use Rattle.std.specs.Prelude.{ℕ, Option, Some, None}
use Rattle.lc_model.specs.Text.Reading.{ParseFault, Expected, TooNested, TextRefusal, ForText, AtPlace, Unparsed, ForRule}
use Rattle.c_interface.specs.declared.refusal.Refusal.{Refusal}

-- lack of memory
abbrev pub no_memory : ℕ
no_memory = 255

-- the lengths of texts do not add up to their bytes
abbrev pub unfit : ℕ
unfit = 252

-- what a refusal's place counts: nothing, bytes of the text before the fault, rules before it
abbrev pub nothing : ℕ
nothing = 0

abbrev pub bytes : ℕ
bytes = 1

abbrev pub rules : ℕ
rules = 2

-- at a place in the text with this number
abbrev at_place : (text code at : ℕ) → Refusal
at_place text code at = record { code = code; of = bytes; at = at; text = text }

abbrev unparsed : ℕ → ParseFault → Refusal
unparsed text (Expected at what) = at_place text 11 at
unparsed text (TooNested at) = at_place text 12 at

abbrev pub numbers_of_refusal : ℕ → TextRefusal → Refusal
numbers_of_refusal text (ForText code) = record { code = code; of = nothing; at = 0; text = text }
numbers_of_refusal text (AtPlace fault) = at_place text fault.code fault.at
numbers_of_refusal text (Unparsed fault) = unparsed text fault
numbers_of_refusal text (ForRule code rule) = record { code = code; of = rules; at = rule; text = text }

-- `None` stands for lack of memory
abbrev pub numbers_of : ℕ → Option TextRefusal → Refusal
numbers_of text None = record { code = no_memory; of = nothing; at = 0; text = text }
numbers_of text (Some refusal) = numbers_of_refusal text refusal
