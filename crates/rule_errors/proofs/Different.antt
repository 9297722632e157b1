-- Different watchpoints, as mentions bring them.
use Rattle.std.proofs.Common.{◌≡◌, refl, sym, ◌∙◌, ap, ℕ, ◌+◌, ◌<◌, ◌==◌, Bool, true, false, not, ◌&&◌, List, [], ◌∷◌, ◌++◌, length, take, get_or, true≢false}
use Rattle.std.specs.List.{list_any, filter}
use Rattle.std.proofs.lemmas.List.{take_more}
use Rattle.std.proofs.lemmas.Bool.{eqb-true}
use Rattle.lc_model.specs.Codes.{table_entries}
use Rattle.lc_model.specs.declared.field.Term.{Term}
use Rattle.lc_model.specs.Tables.Equation.{distinct, same_term}
use Rattle.watch_sharing.specs.Numbering.{added, added_all}
use Rattle.watch_sharing.proofs.Distinct.{added_all_is}
use Rattle.watch_sharing.proofs.Numbers.{added_all_append}
use Rattle.rule_errors.specs.Places.{IsBeyond}

all_kept : (ts : List Term) → filter (λ t. not (list_any (same_term t) [])) ts ≡ ts
all_kept [] = refl
all_kept (t ∷ ts) = ap (λ us. t ∷ us) (all_kept ts)

different_are : (ts : List Term) → added_all [] ts ≡ distinct ts
different_are ts = added_all_is [] ts ∙ all_kept (distinct ts)

-- one more mention adds its watchpoint
pub one_more : (ts : List Term) (t : Term) → added (distinct ts) t ≡ distinct (ts ++ t ∷ [])
unfolding added_all
one_more ts t =
    ap (λ us. added us t) (sym (different_are ts)) ∙ sym (added_all_append [] ts (t ∷ [])) ∙ different_are (ts ++ t ∷ [])

pub goes_on : (ts : List Term) (i : ℕ) (t : Term) (old new : List Term) → i < length ts → t ≡ get_or ts i t → old ≡ distinct (take i ts) →
    new ≡ added old t → new ≡ distinct (take (i + 1) ts)
goes_on ts i t old new within is so_far one =
    one ∙ ap (λ us. added us t) so_far ∙ one_more (take i ts) t
    ∙ ap distinct (ap (λ u. take i ts ++ u ∷ []) is ∙ sym (take_more ts i t within))

-- the mention that brings one too many
pub beyond_here : (ts : List Term) (i : ℕ) (t : Term) (old new : List Term) → old ≡ distinct (take i ts) → new ≡ distinct (take (i + 1) ts) →
    new ≡ added old t → (length old == table_entries && length (added old t) == table_entries + 1) ≡ true → IsBeyond ts i
beyond_here ts i t old new before behind one is =
    by (length old == table_entries) refl (length (added old t) == table_entries + 1) refl is
  where
    by : (a : Bool) → (length old == table_entries) ≡ a → (b : Bool) → (length (added old t) == table_entries + 1) ≡ b → (a && b) ≡ true →
        IsBeyond ts i
    by true e true f both = record {
      before = sym (ap length before) ∙ eqb-true (length old) table_entries e;
      behind = sym (ap length behind) ∙ ap length one ∙ eqb-true (length (added old t)) (table_entries + 1) f;
    }
    by true e false f both = absurd (true≢false (sym both))
    by false e b f both = absurd (true≢false (sym both))
