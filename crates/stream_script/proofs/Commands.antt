-- Commands and names as they are laid into buffers.
use Rattle.std.proofs.Common.{◌≡◌, refl, sym, ◌∙◌, ap, ℕ, ◌+◌, ◌≤◌, Bool, List, [], ◌∷◌, ◌++◌, length, take, drop, replicate, arith, Result, Ok, Err, if◌then◌else◌}
use Rattle.std.proofs.lemmas.List.{drop-replicate}
use Rattle.lc_model.specs.Bytes.{zero_filled}
use Rattle.lc_model.specs.Packet.{command, telemetry}
use Rattle.lc_model.specs.declared.record.Moment.{Moment}
use Rattle.lc_model.proofs.Facts.{test_at_most}
use Rattle.stream_script.specs.declared.error.Reason.{Reason}
use Rattle.stream_script.specs.declared.error.Reason.TheVariants.{LongName, UnknownStatement}
use Rattle.stream_script.specs.declared.kind.RecordKind.{RecordKind}
use Rattle.stream_script.specs.Error.{◌>>=◌}
use Rattle.stream_script.specs.Kind.{kind_in}
use Rattle.stream_script.specs.Number.{bytes_in}
use Rattle.stream_script.specs.Script.{Said, brought, name_field, record_brought, some_kind, some_words}
use denote.Ref.{Bor}
use Rattle.text_lines.specs.Lines.{texts_of}

in_front : (xs ys : List ℕ) → take (length xs) (xs ++ ys) ≡ xs
in_front [] ys = refl
in_front (x ∷ xs) ys = ap (λ (rest : List ℕ). x ∷ rest) (in_front xs ys)

command_length : (mid code : ℕ) (payload : List ℕ) → length (command mid 0 code payload) ≡ 8 + length payload
command_length mid code payload = omega arith

pub command_in_front : (mid code : ℕ) (payload behind buffer packet : List ℕ) (size : ℕ) → size ≡ 8 + length payload → buffer ≡ command mid 0 code payload ++ behind →
    packet ≡ take size buffer → packet ≡ command mid 0 code payload
command_in_front mid code payload behind buffer packet size is written front =
    front ∙ ((λ i. take ((is ∙ sym (command_length mid code payload)) i) (written i)) ∙ in_front (command mid 0 code payload) behind)

telemetry_length : (mid count : ℕ) (moment : Moment) (payload : List ℕ) → length (telemetry mid count moment payload) ≡ 12 + length payload
telemetry_length mid count moment payload = omega arith

pub telemetry_in_front : (mid count : ℕ) (moment : Moment) (payload behind buffer packet : List ℕ) (size : ℕ) → size ≡ 12 + length payload →
    buffer ≡ telemetry mid count moment payload ++ behind → packet ≡ take size buffer → packet ≡ telemetry mid count moment payload
telemetry_in_front mid count moment payload behind buffer packet size is written front =
    front ∙ ((λ i. take ((is ∙ sym (telemetry_length mid count moment payload)) i) (written i)) ∙ in_front (telemetry mid count moment payload) behind)

-- ---- names

abbrev okay : List ℕ → Result (List ℕ) Reason
okay xs = Ok xs

pub name_is : (size : ℕ) (word new : List ℕ) → new ≡ word → length word ≤ size → okay (new ++ drop (length word) (replicate size 0)) ≡ name_field size word
name_is size word new is few =
    ap okay (λ i. is i ++ drop-replicate (length word) size 0 i)
    ∙ sym (ap (λ (b : Bool). if b then okay (zero_filled size word) else Err LongName) (test_at_most (length word) size few))

-- ---- a record's kind and body

pub record_is : (said : Said) (kind_text body_text : List ℕ) (kind : RecordKind) (body bytes : List ℕ) → Ok kind ≡ some_kind (kind_in kind_text) → bytes_in body_text ≡ Ok body → bytes ≡ body →
    brought kind bytes said ≡ record_brought said kind_text body_text
record_is said kind_text body_text kind body bytes known read same =
    (λ i. brought kind (same i) said)
    ∙ (λ i. known i >>= (λ (k : RecordKind). sym read i >>= (λ (b : List ℕ). brought k b said)))

-- ---- lines of too many words

pub many_said : (said : Said) (words : List (Bor (List ℕ))) → 6 ≤ length words → some_words said (texts_of words) ≡ Err UnknownStatement
many_said said [] many = absurd (omega (arith, many))
many_said said (a ∷ []) many = absurd (omega (arith, many))
many_said said (a ∷ b ∷ []) many = absurd (omega (arith, many))
many_said said (a ∷ b ∷ c ∷ []) many = absurd (omega (arith, many))
many_said said (a ∷ b ∷ c ∷ d ∷ []) many = absurd (omega (arith, many))
many_said said (a ∷ b ∷ c ∷ d ∷ e ∷ []) many = absurd (omega (arith, many))
many_said said (a ∷ b ∷ c ∷ d ∷ e ∷ f ∷ words) many = refl
