-- The words for numbers in packets, and the text of a time. This project's own.
use Rattle.std.specs.Prelude.{ℕ, List, [], ◌++◌, ◌*◌, ◌/◌, ◌==◌, ◌^◌, ◌-◌, false, codes, Option, Some, None, if◌then◌else◌}
use Rattle.std.specs.Fmt.{decimal, digits, format_spec, padded_integral}
use Rattle.lc_model.specs.declared.rule.EventKind.{EventKind}
use Rattle.lc_model.specs.Codes.{event_numbered}
use Rattle.lc_model.specs.Words.{event_word}

-- the word for a number, or `type` and the number if no type has it
abbrev pub word_by : ℕ → Option EventKind → List ℕ
word_by n None = codes "type " ++ decimal n
word_by n (Some kind) = event_word kind

abbrev pub type_word : ℕ → List ℕ
type_word n = word_by n (event_numbered n)

-- the mode of the Limit Checker, or the state of a rule
abbrev pub state_word : ℕ → List ℕ
state_word n = if n == 1 then codes "active" else (if n == 2 then codes "passive" else (if n == 3 then codes "disabled"
    else (if n == 4 then codes "off" else codes "state " ++ decimal n)))

-- the result of a rule
abbrev pub result_word : ℕ → List ℕ
result_word n = if n == 0 then codes "none" else (if n == 1 then codes "pass" else (if n == 2 then codes "fail"
    else (if n == 3 then codes "stale" else (if n == 4 then codes "error" else codes "result " ++ decimal n))))

-- five decimal digits
abbrev pub five_digits : ℕ → List ℕ
five_digits n = padded_integral (format_spec 32 0 4 5 (2 ^ 64 - 1)) false [] (digits 10 false n)

-- a time: seconds, and parts of a second from 65,536ths, rounded down to five digits
abbrev pub time_text : ℕ → ℕ → List ℕ
time_text seconds part = decimal seconds ++ (codes "." ++ five_digits (part * 100000 / 65536))
