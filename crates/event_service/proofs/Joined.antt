-- The fields of an event packet, laid one after the other over zeros.
use Rattle.std.proofs.Common.{◌≡◌, ℕ, ◌+◌, ◌≤◌, ◌-◌, List, [], ◌++◌, length, replicate, refl, ap, sym, ◌∙◌, arith, length-append, append_assoc}
use Rattle.std.proofs.lemmas.List.{drop-replicate}
use Rattle.std.proofs.Math.Seq.{take-append_seam, drop-append-add}
use Rattle.lc_model.specs.Bytes.{u16, u32, zero_filled}
use Rattle.lc_model.specs.declared.record.Moment.{Moment}
use Rattle.lc_model.specs.declared.rule.EventKind.{EventKind}
use Rattle.lc_model.specs.Codes.{event_code}
use Rattle.lc_model.specs.Packet.{telemetry, event_mid}
use Rattle.lc_model.specs.Events.Outgoing.{event_packet}
use Rattle.lc_model.proofs.Tables.EntryLengths.{length-zero_filled}
use Rattle.event_service.specs.Packet.{laid}

-- a field behind what is written so far
laid_next : (at left : ℕ) (written field old new : List ℕ) → length written ≡ at → old ≡ written ++ replicate left 0 → new ≡ laid at field old →
    new ≡ (written ++ field) ++ replicate (left - length field) 0
laid_next at left written field old new here is laid_is =
    laid_is ∙ (λ i. laid (sym here i) field (is i))
    ∙ (λ i. take-append_seam written (replicate left 0) i ++ (field ++ (drop-append-add written (replicate left 0) (length field) ∙ drop-replicate (length field) left 0) i))
    ∙ sym (append_assoc written field (replicate (left - length field) 0))

longer : (m n : ℕ) (written field : List ℕ) → length written ≡ m → length field ≡ n → length (written ++ field) ≡ m + n
longer m n written field e f = length-append written field ∙ (λ i. e i + f i)

-- an event's payload
payload_size : (sender text : List ℕ) (id code : ℕ) → length sender ≤ 20 → length text ≤ 121 →
    length (zero_filled 20 sender ++ u16 id ++ u16 code ++ u32 66 ++ u32 1 ++ zero_filled 124 text) ≡ 156
payload_size sender text id code s t =
    longer 32 124 (zero_filled 20 sender ++ u16 id ++ u16 code ++ u32 66 ++ u32 1) (zero_filled 124 text)
    (longer 28 4 (zero_filled 20 sender ++ u16 id ++ u16 code ++ u32 66) (u32 1)
    (longer 24 4 (zero_filled 20 sender ++ u16 id ++ u16 code) (u32 66)
    (longer 22 2 (zero_filled 20 sender ++ u16 id) (u16 code) (longer 20 2 (zero_filled 20 sender) (u16 id) (length-zero_filled 20 sender s) refl) refl) refl) refl)
    (length-zero_filled 124 text (omega arith))

in_groups : (a b d e f g h i j k l m n : List ℕ) →
    (((((((((((a ++ b) ++ d) ++ e) ++ f) ++ g) ++ h) ++ i) ++ j) ++ k) ++ l) ++ m) ++ n ≡ (a ++ b ++ d) ++ e ++ f ++ ((g ++ h) ++ i ++ j ++ k ++ l ++ (m ++ n))
in_groups a b d e f g h i j k l m n = simp append_assoc

-- the whole packet
pub written : (count : ℕ) (moment : Moment) (sender text : List ℕ) (id code : ℕ) (kind : EventKind) → code ≡ event_code kind → length sender ≤ 20 → length text ≤ 121 →
    (s₀ s₁ s₂ s₃ s₄ s₅ s₆ s₇ s₈ s₉ s₁₀ s₁₁ : List ℕ) → s₀ ≡ replicate 168 0 →
    s₁ ≡ laid 0 (u16 0x0808) s₀ → s₂ ≡ laid 2 (u16 (49152 + count)) s₁ → s₃ ≡ laid 4 (u16 161) s₂ → s₄ ≡ laid 6 (u32 moment.seconds) s₃ →
    s₅ ≡ laid 10 (u16 moment.subseconds) s₄ → s₆ ≡ laid 12 (zero_filled 20 sender) s₅ → s₇ ≡ laid 32 (u16 id) s₆ → s₈ ≡ laid 34 (u16 code) s₇ → s₉ ≡ laid 36 (u32 66) s₈ →
    s₁₀ ≡ laid 40 (u32 1) s₉ → s₁₁ ≡ laid 44 text s₁₀ → s₁₁ ≡ event_packet count moment sender id kind text
written count moment sender text id code kind its_code short_name short_text s₀ s₁ s₂ s₃ s₄ s₅ s₆ s₇ s₈ s₉ s₁₀ s₁₁ e₀ e₁ e₂ e₃ e₄ e₅ e₆ e₇ e₈ e₉ e₁₀ e₁₁ =
    p₁₁ ∙ in_groups a b d e f sender (replicate (20 - length sender) 0) (u16 id) (u16 code) (u32 66) (u32 1) text (replicate (124 - length text) 0)
    ∙ ap (λ n. (u16 0x0808 ++ u16 (49152 + count) ++ u16 (12 + n - 7)) ++ e ++ f ++ payload code) (sym (payload_size sender text id code short_name short_text))
    ∙ ap (λ c. telemetry event_mid count moment (payload c)) its_code
  where
    a : List ℕ
    a = u16 0x0808

    b : List ℕ
    b = u16 (49152 + count)

    d : List ℕ
    d = u16 161

    e : List ℕ
    e = u32 moment.seconds

    f : List ℕ
    f = u16 moment.subseconds

    payload : ℕ → List ℕ
    payload c = zero_filled 20 sender ++ u16 id ++ u16 c ++ u32 66 ++ u32 1 ++ zero_filled 124 text

    p₁ : s₁ ≡ a ++ replicate 166 0
    p₁ = laid_next 0 168 [] a s₀ s₁ refl e₀ e₁

    p₂ : s₂ ≡ (a ++ b) ++ replicate 164 0
    p₂ = laid_next 2 166 a b s₁ s₂ refl p₁ e₂

    p₃ : s₃ ≡ ((a ++ b) ++ d) ++ replicate 162 0
    p₃ = laid_next 4 164 (a ++ b) d s₂ s₃ refl p₂ e₃

    p₄ : s₄ ≡ (((a ++ b) ++ d) ++ e) ++ replicate 158 0
    p₄ = laid_next 6 162 ((a ++ b) ++ d) e s₃ s₄ refl p₃ e₄

    p₅ : s₅ ≡ ((((a ++ b) ++ d) ++ e) ++ f) ++ replicate 156 0
    p₅ = laid_next 10 158 (((a ++ b) ++ d) ++ e) f s₄ s₅ refl p₄ e₅

    header : List ℕ
    header = (((a ++ b) ++ d) ++ e) ++ f

    named : List ℕ
    named = (header ++ sender) ++ replicate (20 - length sender) 0

    p₆ : s₆ ≡ named ++ replicate 136 0
    p₆ =
        laid_next 12 156 header (zero_filled 20 sender) s₅ s₆ refl p₅ e₆
        ∙ (λ i. sym (append_assoc header sender (replicate (20 - length sender) 0)) i ++ replicate (156 - length-zero_filled 20 sender short_name i) 0)

    named_size : length named ≡ 32
    named_size = ap length (append_assoc header sender (replicate (20 - length sender) 0)) ∙ longer 12 20 header (zero_filled 20 sender) refl (length-zero_filled 20 sender short_name)

    p₇ : s₇ ≡ (named ++ u16 id) ++ replicate 134 0
    p₇ = laid_next 32 136 named (u16 id) s₆ s₇ named_size p₆ e₇

    size₇ : length (named ++ u16 id) ≡ 34
    size₇ = longer 32 2 named (u16 id) named_size refl

    p₈ : s₈ ≡ ((named ++ u16 id) ++ u16 code) ++ replicate 132 0
    p₈ = laid_next 34 134 (named ++ u16 id) (u16 code) s₇ s₈ size₇ p₇ e₈

    size₈ : length ((named ++ u16 id) ++ u16 code) ≡ 36
    size₈ = longer 34 2 (named ++ u16 id) (u16 code) size₇ refl

    p₉ : s₉ ≡ (((named ++ u16 id) ++ u16 code) ++ u32 66) ++ replicate 128 0
    p₉ = laid_next 36 132 ((named ++ u16 id) ++ u16 code) (u32 66) s₈ s₉ size₈ p₈ e₉

    size₉ : length (((named ++ u16 id) ++ u16 code) ++ u32 66) ≡ 40
    size₉ = longer 36 4 ((named ++ u16 id) ++ u16 code) (u32 66) size₈ refl

    p₁₀ : s₁₀ ≡ ((((named ++ u16 id) ++ u16 code) ++ u32 66) ++ u32 1) ++ replicate 124 0
    p₁₀ = laid_next 40 128 (((named ++ u16 id) ++ u16 code) ++ u32 66) (u32 1) s₉ s₁₀ size₉ p₉ e₁₀

    size₁₀ : length ((((named ++ u16 id) ++ u16 code) ++ u32 66) ++ u32 1) ≡ 44
    size₁₀ = longer 40 4 (((named ++ u16 id) ++ u16 code) ++ u32 66) (u32 1) size₉ refl

    p₁₁ : s₁₁ ≡ (((((named ++ u16 id) ++ u16 code) ++ u32 66) ++ u32 1) ++ text) ++ replicate (124 - length text) 0
    p₁₁ = laid_next 44 124 ((((named ++ u16 id) ++ u16 code) ++ u32 66) ++ u32 1) text s₁₀ s₁₁ size₁₀ p₁₀ e₁₁
