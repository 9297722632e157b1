-- The subscriptions of a pipe change, one change after the other.
use Rattle.std.proofs.Common.{◌≡◌, refl, ap, sym, ◌∙◌, subst, ℕ, zero, suc, ◌<◌, List, [], ◌∷◌, length, arith, Option, Some, None, true≢false}
use Rattle.std.specs.Prelude.{IfSome, IsSomeAnd, IsTrue, is_some, slice_index_or}
use Rattle.std.proofs.lemmas.List.{get_or-set_same, set-set}
use Rattle.lc_model.specs.Kept.Call.{with_mids}
use Rattle.lc_model.specs.Services.Bus.{Bus, Queue, pipe_at, with_pipe}

-- no message id more
pub no_more : (mids : List ℕ) → with_mids [] mids ≡ mids
unfolding with_mids
no_more mids = refl

-- what is there is inside the list
pub inside_of : {A : Type 0} (places : List (Option A)) (k : ℕ) → IsTrue (is_some (slice_index_or places k None)) → k < length places
inside_of [] k there = absurd (true≢false (sym there))
inside_of (place ∷ places) zero there = omega arith
inside_of (place ∷ places) (suc k) there = let further = inside_of places k there in omega (arith, further)

-- the pipe is there, with other subscriptions
pub still_there : (seat : ℕ) (first now : Bus) (subscriptions : Queue → List ℕ) → IsTrue (is_some (pipe_at seat first)) →
    IfSome (pipe_at seat first) (λ (queue : Queue). now ≡ with_pipe seat first (record queue { subscriptions = subscriptions queue })) →
    (queue : Queue) → pipe_at seat first ≡ Some queue → pipe_at seat now ≡ Some (record queue { subscriptions = subscriptions queue })
still_there seat first now subscriptions there is queue e =
    ap (pipe_at seat) (subst (λ (place : Option Queue). IfSome place (λ (queue : Queue). now ≡ with_pipe seat first (record queue { subscriptions = subscriptions queue }))) e is)
    ∙ get_or-set_same first seat (Some (record queue { subscriptions = subscriptions queue })) None (inside_of first seat there)

-- one change after the other
pub both_changes : (seat : ℕ) (first between last : Bus) (one other : List ℕ → List ℕ) → IsTrue (is_some (pipe_at seat first)) →
    IfSome (pipe_at seat first) (λ (queue : Queue). between ≡ with_pipe seat first (record queue { subscriptions = one queue.subscriptions })) →
    IfSome (pipe_at seat between) (λ (queue : Queue). last ≡ with_pipe seat between (record queue { subscriptions = other queue.subscriptions })) →
    IfSome (pipe_at seat first) (λ (queue : Queue). last ≡ with_pipe seat first (record queue { subscriptions = other (one queue.subscriptions) }))
both_changes seat first between last one other there was is = by_place (pipe_at seat first) refl
  where
    with_queue : (queue : Queue) → pipe_at seat first ≡ Some queue → last ≡ with_pipe seat first (record queue { subscriptions = other (one queue.subscriptions) })
    with_queue queue e =
        let middle : Queue = record queue { subscriptions = one queue.subscriptions } in
        let changed : between ≡ with_pipe seat first middle = subst (λ (place : Option Queue). IfSome place (λ (q : Queue). between ≡ with_pipe seat first (record q { subscriptions = one q.subscriptions }))) e was in
        subst (λ (place : Option Queue). IfSome place (λ (q : Queue). last ≡ with_pipe seat between (record q { subscriptions = other q.subscriptions })))
        (still_there seat first between (λ q. one q.subscriptions) there was queue e) is
        ∙ ap (λ b. with_pipe seat b (record middle { subscriptions = other middle.subscriptions })) changed
        ∙ set-set first seat (Some middle) (Some (record middle { subscriptions = other middle.subscriptions }))

    by_place : (place : Option Queue) → pipe_at seat first ≡ place → IfSome place (λ (queue : Queue). last ≡ with_pipe seat first (record queue { subscriptions = other (one queue.subscriptions) }))
    by_place None e = tt
    by_place (Some queue) e = with_queue queue e

-- a pipe of which something is so is there
pub is_there : (P : Queue → Type 0) (place : Option Queue) → IsSomeAnd place P → IsTrue (is_some place)
is_there P None has = absurd has
is_there P (Some queue) has = refl
