-- A rule's text in its parts.
use Rattle.std.proofs.Common.{◌≡◌, ℕ, List, [], ◌∷◌, ◌++◌, ap, sym, ◌∙◌, append_assoc, codes, decimal}
use Rattle.std.specs.List.{flat_map}
use Rattle.lc_model.specs.Name.{lc_name}
use Rattle.lc_model.specs.Rule.{Actionpoint}
use Rattle.lc_model.specs.Events.Request.{Event, numbered, rule_failed}

-- the numbers of a text
abbrev spaced : ℕ → List ℕ
spaced n = flat_map (λ m. codes " " ++ decimal m) (n ∷ [])

grouped : (x b r c s : List ℕ) → (((x ++ b) ++ r) ++ c) ++ s ≡ (x ++ (b ++ r)) ++ (c ++ s)
grouped x b r c s = simp append_assoc

-- two texts with a number behind each, behind a text
apart : (x b c : List ℕ) (run sequence : ℕ) → numbered (numbered (x ++ b) (run ∷ []) ++ c) (sequence ∷ []) ≡ (x ++ numbered b (run ∷ [])) ++ numbered c (sequence ∷ [])
apart x b c run sequence = grouped x b (spaced run) c (spaced sequence)

pub in_parts : (own : List ℕ) (point run sequence p r s : ℕ) (t₀ t₁ t₂ t₃ t₄ t₅ t₆ : List ℕ) → p ≡ point → r ≡ run → s ≡ sequence → t₀ ≡ own →
    t₁ ≡ t₀ ++ codes ": AP =" → t₂ ≡ numbered t₁ (p ∷ []) → t₃ ≡ t₂ ++ codes ", FailCount =" → t₄ ≡ numbered t₃ (r ∷ []) → t₅ ≡ t₄ ++ codes ", RTS =" → t₆ ≡ numbered t₅ (s ∷ []) →
    (rule : Actionpoint) → rule.text ≡ own → rule.sequence ≡ sequence → Event lc_name rule.event_id rule.event_kind t₆ ≡ rule_failed rule point run
in_parts own point run sequence p r s t₀ t₁ t₂ t₃ t₄ t₅ t₆ ep er es e₀ e₁ e₂ e₃ e₄ e₅ e₆ rule same_text same_sequence =
    ap (Event lc_name rule.event_id rule.event_kind)
    (p₆ ∙ apart (numbered (own ++ a) (point ∷ [])) b c run sequence
    ∙ (λ i. (numbered (sym same_text i ++ a) (point ∷ []) ++ numbered b (run ∷ [])) ++ numbered c (sym same_sequence i ∷ [])))
  where
    a : List ℕ
    a = codes ": AP ="

    b : List ℕ
    b = codes ", FailCount ="

    c : List ℕ
    c = codes ", RTS ="

    p₂ : t₂ ≡ numbered (own ++ a) (point ∷ [])
    p₂ = e₂ ∙ (λ i. numbered ((e₁ ∙ ap (λ t. t ++ a) e₀) i) (ep i ∷ []))

    p₄ : t₄ ≡ numbered (numbered (own ++ a) (point ∷ []) ++ b) (run ∷ [])
    p₄ = e₄ ∙ (λ i. numbered ((e₃ ∙ ap (λ t. t ++ b) p₂) i) (er i ∷ []))

    p₆ : t₆ ≡ numbered (numbered (numbered (own ++ a) (point ∷ []) ++ b) (run ∷ []) ++ c) (sequence ∷ [])
    p₆ = e₆ ∙ (λ i. numbered ((e₅ ∙ ap (λ t. t ++ c) p₄) i) (es i ∷ []))
