-- Lists that all tell what stands at their places.
use Rattle.std.proofs.Common.{◌≡◌, ℕ, ◌<◌, ◌≤◌, List, [], ◌∷◌, ◌++◌, length, set, get_or, zero, suc, sym, subst, arith}
use Rattle.bounded_history.specs.declared.entry.Entry.{Entry}
use Rattle.bounded_history.specs.declared.changes.Changes.{Changes}
use Rattle.bounded_history.specs.Telling.{Tells, AllTell, told_to}

pub all_more : (lists : List Changes) (told : List (List Entry)) (list : Changes) → AllTell lists told → Tells list [] → AllTell (lists ++ list ∷ []) (told ++ [] ∷ [])
all_more [] [] list all tells = (tells, tt)
all_more [] (one ∷ told) list all tells = absurd all
all_more (one ∷ lists) [] list all tells = absurd all
all_more (one ∷ lists) (first ∷ told) list all tells = (all.0, all_more lists told list all.1 tells)

-- another list in the place of one that tells all that this one told
pub all_set : (lists : List Changes) (told : List (List Entry)) (n : ℕ) (old new : Changes) → n < length lists → old ≡ get_or lists n old →
    ((it : List Entry) → Tells old it → Tells new it) → AllTell lists told → AllTell (set lists n new) told
all_set [] told n old new within is keeps all = absurd (omega arith)
all_set (list ∷ lists) [] n old new within is keeps all = absurd all
all_set (list ∷ lists) (first ∷ told) zero old new within is keeps all = (keeps first (subst (λ it. Tells it first) (sym is) all.0), all.1)
all_set (list ∷ lists) (first ∷ told) (suc n) old new within is keeps all = (all.0, all_set lists told n old new (omega arith) is keeps all.1)

-- .. and one entry more
pub all_told : (lists : List Changes) (told : List (List Entry)) (n : ℕ) (old new : Changes) (entry : Entry) → n < length lists → old ≡ get_or lists n old →
    ((it : List Entry) → Tells old it → Tells new (it ++ entry ∷ [])) → AllTell lists told → AllTell (set lists n new) (told_to n entry told)
all_told [] told n old new entry within is keeps all = absurd (omega arith)
all_told (list ∷ lists) [] n old new entry within is keeps all = absurd all
all_told (list ∷ lists) (first ∷ told) zero old new entry within is keeps all = (keeps first (subst (λ it. Tells it first) (sym is) all.0), all.1)
all_told (list ∷ lists) (first ∷ told) (suc n) old new entry within is keeps all = (all.0, all_told lists told n old new entry (omega arith) is keeps all.1)

-- there is no list of this number
pub all_beyond : (lists : List Changes) (told : List (List Entry)) (n : ℕ) (entry : Entry) → length lists ≤ n → AllTell lists told → AllTell lists (told_to n entry told)
all_beyond [] [] n entry beyond all = tt
all_beyond [] (first ∷ told) n entry beyond all = absurd all
all_beyond (list ∷ lists) [] n entry beyond all = absurd all
all_beyond (list ∷ lists) (first ∷ told) zero entry beyond all = absurd (omega arith)
all_beyond (list ∷ lists) (first ∷ told) (suc n) entry beyond all = (all.0, all_beyond lists told n entry (omega arith) all.1)
