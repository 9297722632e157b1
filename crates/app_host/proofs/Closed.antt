-- Seat by seat all objects retire.
use Rattle.std.proofs.Common.{◌≡◌, ◌≢◌, refl, ap, sym, ◌∙◌, subst, inl, inr, ℕ, zero, suc, ◌+◌, ◌<◌, ◌≤◌, Bool, true, false, nat_le, List, [], length, arith, Option, Some, None}
use Rattle.std.specs.Prelude.{◌⊎◌, slice_set}
use Rattle.std.proofs.lemmas.List.{get_or-set_other, get_or_past, length-set}
use Rattle.std.proofs.lemmas.Bool.{leb-true, leb-false}
use Rattle.std.proofs.lemmas.Grind.{get_or-set_at}
use Rattle.app_host.specs.declared.services.Services.{Services}
use Rattle.app_host.specs.Hosted.{Object, Hosted, object_at}
use Rattle.app_host.specs.Objects.{IfBoth, HasRetired}
use Rattle.app_host.specs.Left.{LeftBy, GoesFrom, GivesBack, GiveBack, HasClosed, HasVacated}
use Rattle.app_host.specs.Writing.{written_off}
use Rattle.app_host.specs.Whole.{AreSeated, IsWhole}

below_or_from : (n m : ℕ) → (n < m) ⊎ (m ≤ n)
below_or_from n m = by_test (nat_le m n) refl
  where
    by_test : (b : Bool) → nat_le m n ≡ b → (n < m) ⊎ (m ≤ n)
    by_test true e = inr (leb-true m n e)
    by_test false e = inl (leb-false m n e)

-- who goes from a seat
pub goes_from : (seat : ℕ) (before after : Services) (there gone : Option Object) → LeftBy seat before after there → IfBoth there gone (HasRetired seat before after) → GoesFrom seat before after there gone
goes_from seat before after None None same nothing = same
goes_from seat before after None (Some gone) same nothing = nothing
goes_from seat before after (Some o) None left nothing = nothing
goes_from seat before after (Some o) (Some gone) left retired = retired

-- ---- one seat after the other

-- what is handed on later changes nothing of what was handed on before
same_below : (index : ℕ) (there gone gone' : List (Option Object)) (first now : Services) → ((seat : ℕ) → seat < index → object_at seat gone ≡ object_at seat gone') → GiveBack index there gone first now →
    GiveBack index there gone' first now
unfolding GiveBack
same_below zero there gone gone' first now same back = back
same_below (suc index) there gone gone' first now same (before, earlier, this) = (
  before,
  same_below index there gone gone' first before (λ seat less. same seat (omega (arith, less))) earlier,
  subst (λ (x : Option Object). GivesBack index (object_at index there) x before now) (same index (omega arith)) this,
)

-- one seat more
one_more_back : (index : ℕ) (there gone : List (Option Object)) (it : Option Object) (first before now : Services) → index < length gone → GiveBack index there gone first before →
    GivesBack index (object_at index there) it before now → GiveBack (index + 1) there (slice_set gone index it) first now
unfolding GiveBack
one_more_back index there gone it first before now inside earlier this =
    let next : index + 1 ≡ suc index = omega arith in
    subst (λ n. GiveBack n there (slice_set gone index it) first now) (sym next) (before, so_far, subst (λ (x : Option Object). GivesBack index (object_at index there) x before now) (sym here) this)
  where
    here : object_at index (slice_set gone index it) ≡ it
    here = get_or-set_at gone index index it None (λ i. index) inside

    so_far : GiveBack index there (slice_set gone index it) first before
    so_far = same_below index there gone (slice_set gone index it) first before
        (λ seat less. let another : seat ≢ index = (λ same. let nothing : ⊥ = omega (arith, less, same) in nothing) in sym (get_or-set_other gone index seat it None another))
        earlier

-- the seats below this number are empty, and who stood there has retired and is handed on; the others are as they were
pub record EmptyBelow (index : ℕ) (old now : Hosted) (handed : List (Option Object)) : Type 0 where
  pub stock : now.stock ≡ old.stock
  pub is_closed : now.is_closed ≡ old.is_closed
  pub calls : now.calls ≡ old.calls
  pub seated : AreSeated now.seats now.services
  pub gone : (seat : ℕ) → seat < index → object_at seat now.seats ≡ None
  pub rest : (seat : ℕ) → index ≤ seat → object_at seat now.seats ≡ object_at seat old.seats
  pub idle : now.services.outgoing ≡ []
  pub eight : length handed ≡ 8
  pub retired : GiveBack index old.seats handed old.services now.services

-- one seat more
one_seat_more : (index : ℕ) (old now new : Hosted) (handed : List (Option Object)) (it : Option Object) → EmptyBelow index old now handed → index < 8 → new.stock ≡ now.stock → new.is_closed ≡ now.is_closed →
    new.calls ≡ now.calls → AreSeated new.seats new.services →
    new.seats ≡ slice_set now.seats index None → new.services.outgoing ≡ [] → GivesBack index (object_at index now.seats) it now.services new.services → EmptyBelow (index + 1) old new (slice_set handed index it)
one_seat_more index old now new handed it below inside stock is_closed calls seated emptied idle back = record {
  stock = stock ∙ below.stock;
  is_closed = is_closed ∙ below.is_closed;
  calls = calls ∙ below.calls;
  seated = seated;
  gone = gone;
  rest = λ seat above. let another : seat ≢ index = (λ same. let nothing : ⊥ = omega (arith, above, same) in nothing) in
      let from : index ≤ seat = omega (arith, above) in
      ap (object_at seat) emptied ∙ get_or-set_other now.seats index seat None None another ∙ below.rest seat from;
  idle = idle;
  eight = length-set handed index it ∙ below.eight;
  retired = one_more_back index old.seats handed it old.services now.services new.services (let long : length handed ≡ 8 = below.eight in omega (arith, inside, long)) below.retired
      (subst (λ (x : Option Object). GivesBack index x it now.services new.services) (below.rest index (omega arith)) back);
}
  where
    eight : index < length now.seats
    eight = let long : length now.seats ≡ 8 = below.seated.eight in omega (arith, inside, long)

    here : object_at index new.seats ≡ None
    here = ap (object_at index) emptied ∙ get_or-set_at now.seats index index None None (λ i. index) eight

    gone : (seat : ℕ) → seat < index + 1 → object_at seat new.seats ≡ None
    gone seat less = by_place (below_or_from seat index)
      where
        by_place : (seat < index) ⊎ (index ≤ seat) → object_at seat new.seats ≡ None
        by_place (inl before) = let another : seat ≢ index = (λ same. let nothing : ⊥ = omega (arith, before, same) in nothing) in
            ap (object_at seat) emptied ∙ get_or-set_other now.seats index seat None None another ∙ below.gone seat before
        by_place (inr from) = let same : index ≡ seat = omega (arith, from, less) in subst (λ n. object_at n new.seats ≡ None) same here

-- all seats are empty
pub all_empty : (index : ℕ) (old now : Hosted) (handed : List (Option Object)) → EmptyBelow index old now handed → index ≤ 8 → 8 ≤ index → HasClosed old now handed
all_empty index old now handed below most past = record {
  stock = below.stock;
  is_closed = below.is_closed;
  calls = below.calls;
  gone = gone;
  free = λ seat. below.seated.free seat (gone seat);
  retired = let eight : index ≡ 8 = omega (arith, most, past) in subst (λ n. GiveBack n old.seats handed old.services now.services) eight below.retired;
}
  where
    gone : (seat : ℕ) → object_at seat now.seats ≡ None
    gone seat = by_place (below_or_from seat index)
      where
        by_place : (seat < index) ⊎ (index ≤ seat) → object_at seat now.seats ≡ None
        by_place (inl before) = below.gone seat before
        by_place (inr from) = get_or_past now.seats seat None (let long : length now.seats ≡ 8 = below.seated.eight in omega (arith, from, past, long))

-- nobody has retired yet
pub none_empty : (old : Hosted) (handed : List (Option Object)) → IsWhole old → length handed ≡ 8 → EmptyBelow 0 old old handed
unfolding GiveBack
none_empty old handed whole eight = record {
  stock = refl;
  is_closed = refl;
  calls = refl;
  seated = whole.seated;
  gone = λ seat less. absurd (omega (arith, less));
  rest = λ seat above. refl;
  idle = whole.idle;
  eight = eight;
  retired = refl;
}

-- by a seat that was vacated, and what waited behind that let go
pub one_vacated : (index seat : ℕ) (old now mid new : Hosted) (handed : List (Option Object)) (it : Option Object) → EmptyBelow index old now handed → index < 8 → seat ≡ index → HasVacated seat now mid →
    GoesFrom seat now.services mid.services (object_at seat now.seats) it → new.stock ≡ mid.stock → new.is_closed ≡ mid.is_closed → new.calls ≡ mid.calls → new.seats ≡ mid.seats → new.services ≡ written_off mid.services → AreSeated new.seats new.services →
    EmptyBelow (index + 1) old new (slice_set handed index it)
one_vacated index seat old now mid new handed it below inside same vacated goes stock is_closed calls seats services seated =
    one_seat_more index old now new handed it below inside (stock ∙ vacated.stock) (is_closed ∙ vacated.is_closed) (calls ∙ vacated.calls) seated (seats ∙ vacated.seats ∙ ap (λ n. slice_set now.seats n None) same) (ap (λ (s : Services). s.outgoing) services)
    (subst (λ n. GivesBack n (object_at n now.seats) it now.services new.services) same (record { behind = mid.services; goes = goes; let_go = services }))
