-- The name of a comment with a number, and what is told up to a place of a text.
use Rattle.std.proofs.Common.{◌≡◌, ◌++◌, ◌+◌, ◌∙◌, ℕ, zero, suc, true, false, nat_lt, List, [], ◌∷◌, length, slice_get, slice_index_or, Some, None, ap, refl, sym, arith}
use mathlib.Core.List.{append_assoc}
use denote.Ref.{Bor}
use Rattle.rule_lints.specs.declared.warning.Warning.{Warning}
use Rattle.rule_lints.specs.declared.comments.Placed.{Placed}
use Rattle.rule_lints.specs.Quiet.{of_place, spare_below}
use Rattle.rule_lints.specs.Words.{texts_of}
use Rattle.rule_lints.proofs.Nothing.{both_less, none_less, some_less}

pub named_at : (names : List (Bor (List ℕ))) (n : ℕ) (other name : Bor (List ℕ)) → true ≡ nat_lt n (length names) → name ≡ slice_index_or names n other
    → Some name.now ≡ slice_get (texts_of names) n
named_at [] n other name is here = absurd (cc (is ∙ none_less n))
named_at (first ∷ names) zero other name is here = ap (λ (b : Bor (List ℕ)). Some b.now) here
named_at (first ∷ names) (suc n) other name is here = named_at names n other name (is ∙ both_less n (length names)) here

pub unnamed_at : (names : List (Bor (List ℕ))) (n : ℕ) → false ≡ nat_lt n (length names) → None ≡ slice_get (texts_of names) n
unnamed_at [] n is = refl
unnamed_at (first ∷ names) zero is = absurd (cc (is ∙ some_less (length names)))
unnamed_at (first ∷ names) (suc n) is = unnamed_at names n (is ∙ both_less n (length names))

one_more : (n : ℕ) → n + 1 ≡ suc n
one_more n = omega arith

pub next_place : (first found new : List Warning) (text : List ℕ) (all : List Placed) (at : ℕ) → found ≡ first ++ spare_below text all at
    → new ≡ found ++ of_place text all at → new ≡ first ++ spare_below text all (at + 1)
next_place first found new text all at so_far is =
    is ∙ ap (λ list. list ++ of_place text all at) so_far ∙ append_assoc first (spare_below text all at) (of_place text all at)
    ∙ ap (λ n. first ++ spare_below text all n) (sym (one_more at))
