-- The words of fields, three at a time.
use Rattle.std.proofs.Common.{◌≡◌, sym, ◌∙◌, ap, ℕ, suc, ◌-◌, ◌≤◌, List, [], ◌∷◌, length, take, drop, get_or, arith, Result, Ok}
use Rattle.std.proofs.lemmas.List.{take_all}
use Rattle.stream_script.specs.declared.error.Reason.{Reason}
use Rattle.stream_script.specs.Error.{◌>>=◌}
use Rattle.stream_script.specs.Fields.{field_set, fields_set}
use denote.Ref.{Bor}
use Rattle.text_lines.specs.Lines.{texts_of}

all_but_three : {A : Type 0} (more : List A) → take (suc (suc (suc (length more))) - 3) more ≡ more
all_but_three more = take_all (suc (suc (suc (length more))) - 3) more (omega arith)

-- the field of the first three words is set, and the other words are left
pub one_field : (payload after : List ℕ) (words : List (Bor (List ℕ))) (none : Bor (List ℕ)) → 3 ≤ length words →
    field_set payload (get_or words 0 none).now (get_or words 1 none).now (get_or words 2 none).now ≡ Ok after →
    fields_set after (texts_of (take (length words - 3) (drop 3 words))) ≡ fields_set payload (texts_of words)
one_field payload after [] none many set = absurd (omega (arith, many))
one_field payload after (a ∷ []) none many set = absurd (omega (arith, many))
one_field payload after (a ∷ b ∷ []) none many set = absurd (omega (arith, many))
one_field payload after (a ∷ b ∷ c ∷ more) none many set =
    ap (λ (left : List (Bor (List ℕ))). fields_set after (texts_of left)) (all_but_three more)
    ∙ sym (ap (λ (r : Result (List ℕ) Reason). r >>= (λ (next : List ℕ). fields_set next (texts_of more))) set)
