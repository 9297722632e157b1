-- The line of a script that says telemetry. This project's own.
use Rattle.std.specs.Prelude.{◌≡◌, ℕ, ◌-◌, ◌<◌, ◌≤◌, ◌^◌, List, ◌++◌, length, codes, decimal, Ok}
use Rattle.hex.specs.Hex.{IsBytes}
use Rattle.lc_model.specs.Bytes.{u16}
use Rattle.lc_model.specs.Host.ScheduleText.{words_of}
use Rattle.lc_model.specs.Packet.{count_end, longest_packet, telemetry_header_size}
use Rattle.stream_script.specs.Number.{bytes_word}
use Rattle.stream_script.specs.Script.{Said, line_said, told}

-- `telemetry MID COUNT BYTES`
abbrev pub telemetry_line : (mid count : ℕ) → List ℕ → List ℕ
telemetry_line mid count payload =
    codes "telemetry " ++ bytes_word (u16 mid) ++ codes " " ++ decimal count ++ codes " " ++ bytes_word payload

-- the law: the line says one record, at the moment: telemetry with this message id, count and payload, and the moment as its time
abbrev pub SaysTelemetry : Type 0
SaysTelemetry = (said : Said) (mid count : ℕ) (payload : List ℕ) → mid < 2 ^ 16 → count < count_end → IsBytes payload →
    length payload ≤ longest_packet - telemetry_header_size →
    line_said said (words_of (telemetry_line mid count payload)) ≡ Ok (told mid count payload said)
