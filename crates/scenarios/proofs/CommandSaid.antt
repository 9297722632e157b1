-- A line that is read back says its packet; a command that is built.
use Rattle.std.proofs.Common.{◌≡◌, refl, sym, ◌∙◌, ap, ℕ, ◌+◌, true, List, [], ◌∷◌, ◌++◌, length, take, arith, Result, Ok, Err}
use Rattle.std.specs.List.{list_all}
use Rattle.std.proofs.lemmas.Slice.Eq.{bytes_eq-Decides}
use Rattle.lc_model.specs.Packet.{command}
use Rattle.lc_model.proofs.Facts.{and_both}
use Rattle.stream_script.specs.Error.{ScriptFault}
use Rattle.stream_script.specs.Script.{script_in}
use Rattle.scenarios.specs.CommandWords.{SaysPacket, is_printable, is_script_of, is_stream_of, one_packet, says_packet}
use Rattle.scenarios.specs.Declarations.{Declarations}
use Rattle.scenarios.specs.Error.{ScenarioFault}
use Rattle.scenarios.specs.Plain.{PlainScript, plain_in}

stream_is : (packet : List ℕ) (stream : Result (List ℕ) ScriptFault) → is_stream_of packet stream ≡ true → stream ≡ Ok (one_packet packet)
stream_is packet (Ok stream) is = let same = (bytes_eq-Decides stream (one_packet packet)).0 is in rw same refl
stream_is packet (Err fault) is = absurd (cc is)

record IsPlain (packet : List ℕ) (said : Result PlainScript ScenarioFault) : Type 0 where
  plain : PlainScript
  short : said ≡ Ok plain
  says : script_in plain.script ≡ Ok (one_packet packet)

plain_is : (packet : List ℕ) (said : Result PlainScript ScenarioFault) → is_script_of packet said ≡ true → IsPlain packet said
plain_is packet (Ok plain) is = record { plain = plain; short = refl; says = stream_is packet (script_in plain.script) is }
plain_is packet (Err fault) is = absurd (cc is)

pub says : (declared : Declarations) (line packet : List ℕ) → says_packet declared line packet ≡ true → SaysPacket declared line packet
says declared line packet is =
    let both = and_both (list_all is_printable line) (is_script_of packet (plain_in declared [] line)) is in
    let it = plain_is packet (plain_in declared [] line) both.1 in
    record { printable = both.0; plain = it.plain; short = it.short; says = it.says }

-- ---- a command that is written to the front of a buffer

in_front : (xs ys : List ℕ) → take (length xs) (xs ++ ys) ≡ xs
in_front [] ys = refl
in_front (x ∷ xs) ys = ap (λ (rest : List ℕ). x ∷ rest) (in_front xs ys)

command_length : (mid code : ℕ) (payload : List ℕ) → length (command mid 0 code payload) ≡ 8 + length payload
command_length mid code payload = omega arith

pub command_in_front : (mid code : ℕ) (payload behind buffer packet : List ℕ) (size : ℕ) → size ≡ 8 + length payload → buffer ≡ command mid 0 code payload ++ behind →
    packet ≡ take size buffer → packet ≡ command mid 0 code payload
command_in_front mid code payload behind buffer packet size is written front =
    front ∙ ((λ i. take ((is ∙ sym (command_length mid code payload)) i) (written i)) ∙ in_front (command mid 0 code payload) behind)
