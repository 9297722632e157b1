-- What one more entry makes of those that are there.
use Rattle.std.proofs.Common.{◌≡◌, ℕ, List, [], ◌∷◌, ◌++◌, true, false, refl, ap, sym, ◌∙◌, length, arith}
use Rattle.std.proofs.lemmas.Bool.{cond-true, cond-false}
use Rattle.bounded_history.specs.declared.entry.Entry.{Entry}
use Rattle.bounded_history.specs.Changes.{is_third, reduced, joined}
use Rattle.bounded_history.proofs.Reduced.{behind, behind_all, behind_two}

pub none_there : (entries : List Entry) → length entries ≡ 0 → entries ≡ []
none_there [] none = refl
none_there (entry ∷ entries) none = absurd (omega arith)

-- where there are these, and then one more
pub behind_these : (width : ℕ) (told these : List Entry) (entry : Entry) → these ≡ reduced width told →
    behind width these entry ≡ reduced width (told ++ entry ∷ [])
behind_these width told these entry is = ap (λ entries. behind width entries entry) is ∙ sym (behind_all width told entry)

pub placed_first : (width : ℕ) (told old rest new : List Entry) (entry : Entry) → length old ≡ 0 → length rest ≡ 0 → new ≡ rest ++ entry ∷ [] →
    old ≡ reduced width told → new ≡ reduced width (told ++ entry ∷ [])
placed_first width told old rest new entry none none_left added is =
    added ∙ ap (λ entries. entries ++ entry ∷ []) (none_there rest none_left)
    ∙ behind_these width told [] entry (sym (none_there old none) ∙ is)

pub placed_second : (width : ℕ) (told old middle rest new : List Entry) (other entry : Entry) → old ≡ middle ++ other ∷ [] → length middle ≡ 0 →
    length rest ≡ 0 → new ≡ (rest ++ other ∷ []) ++ entry ∷ [] → old ≡ reduced width told → new ≡ reduced width (told ++ entry ∷ [])
placed_second width told old middle rest new other entry taken none none_left added is =
    added ∙ ap (λ entries. (entries ++ other ∷ []) ++ entry ∷ []) (none_there rest none_left)
    ∙ behind_these width told (other ∷ []) entry (sym (taken ∙ ap (λ entries. entries ++ other ∷ []) (none_there middle none)) ∙ is)

pub placed_third : (width : ℕ) (told old middle front new : List Entry) (one other entry : Entry) → old ≡ middle ++ other ∷ [] → middle ≡ front ++ one ∷ [] →
    is_third width one other entry ≡ true → new ≡ (front ++ joined one other ∷ []) ++ entry ∷ [] → old ≡ reduced width told →
    new ≡ reduced width (told ++ entry ∷ [])
placed_third width told old middle front new one other entry taken before third added is =
    added ∙ sym (behind_two width front one other entry ∙ cond-true (is_third width one other entry) _ _ third)
    ∙ behind_these width told ((front ++ one ∷ []) ++ other ∷ []) entry (sym (taken ∙ ap (λ entries. entries ++ other ∷ []) before) ∙ is)

pub placed_more : (width : ℕ) (told old middle front new : List Entry) (one other entry : Entry) → old ≡ middle ++ other ∷ [] → middle ≡ front ++ one ∷ [] →
    is_third width one other entry ≡ false → new ≡ ((front ++ one ∷ []) ++ other ∷ []) ++ entry ∷ [] → old ≡ reduced width told →
    new ≡ reduced width (told ++ entry ∷ [])
placed_more width told old middle front new one other entry taken before third added is =
    added ∙ sym (behind_two width front one other entry ∙ cond-false (is_third width one other entry) _ _ third)
    ∙ behind_these width told ((front ++ one ∷ []) ++ other ∷ []) entry (sym (taken ∙ ap (λ entries. entries ++ other ∷ []) before) ∙ is)
