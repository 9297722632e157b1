-- Names that gaps part: the first one, and the others.
use Rattle.std.proofs.Common.{◌≡◌, sym, ◌∙◌, ap, ℕ, suc, ◌==◌, false, true, List, [], ◌∷◌, length, take, drop, arith}
use Rattle.std.specs.List.{position_or_len, prefix_len}
use Rattle.text_lines.proofs.Parts as parts
use Rattle.rule_lints.specs.Quiet.{is_gap, names_in}

not_none : (n : ℕ) → (suc n == 0) ≡ false
not_none n = grind arith

pub no_names : (line from : List ℕ) (n : ℕ) → n ≡ prefix_len is_gap line → from ≡ drop n line → (length from == 0) ≡ true → names_in line ≡ []
no_names line [] n gaps is none =
    parts.full_parts_by_front is_gap line ∙ (λ i. parts.by_front is_gap (drop (sym gaps i) line)) ∙ ap (parts.by_front is_gap) (sym is)
no_names line (x ∷ from) n gaps is none = absurd (cc (sym (not_none (length from)) ∙ none))

pub more_names : (line from name rest : List ℕ) (n m : ℕ) → n ≡ prefix_len is_gap line → from ≡ drop n line → (length from == 0) ≡ false →
    m ≡ position_or_len is_gap from → name ≡ take m from → rest ≡ drop m from → names_in line ≡ name ∷ names_in rest
more_names line [] name rest n m gaps is some place here left = absurd (cc some)
more_names line (x ∷ from) name rest n m gaps is some place here left =
    parts.full_parts_by_front is_gap line
    ∙ (λ i. parts.by_front is_gap (drop (sym gaps i) line))
    ∙ ap (parts.by_front is_gap) (sym is)
    ∙ (λ i. take (sym place i) (x ∷ from) ∷ names_in (drop (sym place i) (x ∷ from)))
    ∙ (λ i. sym here i ∷ names_in (sym left i))
