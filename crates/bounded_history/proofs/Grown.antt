-- Lists that are told one more, and lists that are widened.
use Rattle.std.proofs.Common.{◌≡◌, ℕ, List, [], ◌∷◌, ◌++◌, true, false, Bool, ap, sym, ◌∙◌, subst, ◌*◌, ◌/◌, ◌-◌, ◌+◌, ◌^◌, ◌≤◌, ◌<◌, arith, suc, pow-suc, Result, Ok, Err, OnOk}
use Rattle.std.proofs.Math.Nat.{div-div-eq-div-mul}
use Rattle.bounded_history.specs.declared.entry.Entry.{Entry}
use Rattle.bounded_history.specs.declared.changes.Changes.{Changes}
use Rattle.bounded_history.specs.Changes.{is_said_last, changes, reduced}
use Rattle.bounded_history.specs.Laws.{ToldAgain}
use Rattle.bounded_history.specs.Telling.{Tells, entry_count, width_of}
use Rattle.bounded_history.proofs.Reduced.{IsWider, twice}
use Rattle.bounded_history.proofs.Said.{last_of_changes, last_reduced, said_last, not_said_last}

-- what the list says last is what was told last
said_so : (list : Changes) (told : List Entry) (entry : Entry) (b : Bool) → is_said_last list.entries.items entry ≡ b → Tells list told → is_said_last (changes told) entry ≡ b
said_so list told entry b said tells = sym (last_reduced (width_of list) (changes told) entry) ∙ ap (λ entries. is_said_last entries entry) (sym tells.entries) ∙ said

pub told_last : (list : Changes) (told : List Entry) (entry : Entry) → is_said_last (changes told) entry ≡ true → Tells list told → Tells list (told ++ entry ∷ [])
told_last list told entry said tells = record {
  entries = tells.entries ∙ ap (reduced (width_of list)) (sym (said_last told entry said));
  widest = tells.widest;
  few = tells.few;
}

pub told_again : (list : Changes) (told : List Entry) (entry : Entry) → is_said_last list.entries.items entry ≡ true → Tells list told → Tells list (told ++ entry ∷ [])
told_again list told entry said tells = told_last list told entry (said_so list told entry true said tells) tells

pub told_again_is_told : ToldAgain
told_again_is_told list told entry said tells = told_last list told entry (last_of_changes told entry ∙ said) tells

pub told_new : (old new : Changes) (told : List Entry) (entry : Entry) → is_said_last old.entries.items entry ≡ false → new.doublings ≡ old.doublings →
    new.entries.items ≡ reduced (width_of old) (changes told ++ entry ∷ []) → (64 ≤ old.doublings → entry_count old ≤ 2 → entry_count new ≤ 2) →
    Tells old told → Tells new (told ++ entry ∷ [])
told_new old new told entry said same placed few tells = record {
  entries = placed ∙ ap (reduced (width_of old)) (sym (not_said_last told entry (said_so old told entry false said tells)))
      ∙ ap (λ doublings. reduced (2 ^ doublings) (changes (told ++ entry ∷ []))) (sym same);
  widest = subst (λ doublings. doublings ≤ 64) (sym same) tells.widest;
  few = λ last. few (omega (arith, sym same ∙ last)) (tells.few (sym same ∙ last));
}

pub wider : (width : ℕ) → IsWider width (width * 2)
wider width a b same = sym (div-div-eq-div-mul (a - 1) width 2) ∙ ap (λ column. column / 2) same ∙ div-div-eq-div-mul (b - 1) width 2

doubled : (doublings : ℕ) → 2 ^ (doublings + 1) ≡ 2 ^ doublings * 2
doubled doublings = ap (λ n. 2 ^ n) (one_more doublings) ∙ pow-suc 2 doublings where
  one_more : (n : ℕ) → n + 1 ≡ suc n
  one_more n = omega arith

pub told_wide : (old new : Changes) (told : List Entry) → new.doublings ≡ old.doublings + 1 → new.entries.items ≡ reduced (2 ^ (old.doublings + 1)) old.entries.items →
    old.doublings < 64 → (64 ≤ old.doublings + 1 → entry_count new ≤ 2) → Tells old told → Tells new told
told_wide old new told more reduced_is below few tells = record {
  entries = reduced_is ∙ ap (reduced (2 ^ (old.doublings + 1))) tells.entries
      ∙ twice (width_of old) (2 ^ (old.doublings + 1)) (subst (IsWider (width_of old)) (sym (doubled old.doublings)) (wider (width_of old))) (changes told)
      ∙ ap (λ doublings. reduced (2 ^ doublings) (changes told)) (sym more);
  widest = omega (arith, more, below);
  few = λ last. few (omega (arith, more, last));
}

-- two facts about what a call gives
pub on_ok_both : {X E A B P Q R : Type 0} (result : Result X E) → (P → (A → B → Q) → R) → OnOk result P → (A → B → OnOk result Q) → OnOk result R
on_ok_both (Ok x) use_both fact other = use_both fact other
on_ok_both (Err e) use_both fact other = tt
