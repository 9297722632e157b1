-- Entries of actionpoints that are used, in each layout that has them.
use Rattle.std.proofs.Common.{◌≡◌, sym, ◌∙◌, ap, ◌⊎◌, inl, inr, refl, ℕ, ◌<◌, nat_lt, List}
use Rattle.lc_model.specs.declared.kind.Kind.TheVariants.{Adt}
use Rattle.lc_model.specs.Tables.Image as model
use Rattle.lc_model.specs.Tables.Image.{Watchpoints, Actionpoints, WideActionpoints, kind_of, own_count, watchpoint_count, entry_at, entry_code, used_code, actionpoint_code}
use Rattle.lc_model.proofs.Facts.{test_less}
use Rattle.table_file.specs.declared.layout.Layout.{Layout}
use Rattle.table_file.specs.declared.layout.Layout.TheVariants as layouts
use Rattle.table_file.specs.Layout.{layout_of}

pub of_actionpoints : (layout : Layout) → (layout ≡ layouts.Actionpoints) ⊎ (layout ≡ layouts.WideActionpoints) → kind_of (layout_of layout) ≡ Adt
of_actionpoints layout (inl is) = ap (λ l. kind_of (layout_of l)) is
of_actionpoints layout (inr is) = ap (λ l. kind_of (layout_of l)) is

-- its fields are judged
pub judged : (l : model.Layout) → kind_of l ≡ Adt → (count : ℕ) (e : List ℕ) → used_code l count e ≡ actionpoint_code count e
judged Watchpoints kind count e = absurd (cc kind)
judged Actionpoints kind count e = refl
judged WideActionpoints kind count e = refl

pub entry_judged : (l : model.Layout) (image : List ℕ) (n own count : ℕ) (e : List ℕ) → kind_of l ≡ Adt → own ≡ own_count image → n < own →
    count ≡ watchpoint_count image → e ≡ entry_at l image n → entry_code l image n ≡ actionpoint_code count e
entry_judged l image n own count e kind own_is used count_is e_is =
    let test : nat_lt n (own_count image) ≡ nat_lt n own = ap (nat_lt n) (sym own_is) in
    let code : entry_code l image n ≡ used_code l (watchpoint_count image) (entry_at l image n) = rw (test, test_less n own used) refl in
    code ∙ judged l kind (watchpoint_count image) (entry_at l image n) ∙ (λ i. actionpoint_code (sym count_is i) (sym e_is i))
