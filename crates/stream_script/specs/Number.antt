-- Numbers and bytes in scripts. This project's own.
use Rattle.std.specs.Prelude.{ℕ, List, [], length, codes, bytes_eq, nat_le, ◌==◌, Option, Some, None, Result, Ok, Err, if◌then◌else◌}
use Rattle.hex.specs.Hex.{decode_of, encode_lower}
use Rattle.text_lines.specs.Number as number
use Rattle.stream_script.specs.declared.error.Reason.{Reason}
use Rattle.stream_script.specs.declared.error.Reason.TheVariants.{BadNumber, BadBytes}

-- a number of 1 to 10 decimal digits
abbrev pub decimal_number : List ℕ → Option ℕ
decimal_number word = number.decimal_number 10 word

-- a number that is not over the greatest
abbrev pub at_most : ℕ → Option ℕ → Result ℕ Reason
at_most most None = Err BadNumber
at_most most (Some number) = if nat_le number most then Ok number else Err BadNumber

-- the number that a word writes, from 0 to the greatest
abbrev pub number_in : ℕ → List ℕ → Result ℕ Reason
number_in most word = at_most most (decimal_number word)

-- the bytes that a word writes: `-` for none, else two hexadecimal digits for each
abbrev pub bytes_in : List ℕ → Result (List ℕ) Reason
bytes_in word =
    if bytes_eq word (codes "-") then Ok []
    else elim (decode_of word) [ Ok bytes ↦ Ok bytes | Err e ↦ Err BadBytes ]

-- the word that writes them
abbrev pub bytes_word : List ℕ → List ℕ
bytes_word bytes = if length bytes == 0 then codes "-" else encode_lower bytes
