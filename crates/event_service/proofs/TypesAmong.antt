-- The types of the sender of a name, found by going over the senders one by one.
use Rattle.std.proofs.Common.{◌≡◌, ℕ, ◌+◌, ◌<◌, ◌≤◌, true, false, List, ◌∷◌, length, drop, get_or, ap, sym, ◌∙◌, Option, Some, None, if◌then◌else◌}
use Rattle.std.proofs.lemmas.List.{drop_more, drop_all}
use Rattle.lc_model.specs.declared.rule.EventKind.{EventKind}
use Rattle.lc_model.specs.Events.Log.{has_kind}
use Rattle.lc_model.specs.Name.{Name, is_named}
use Rattle.lc_model.specs.Services.Events.{Sender, events_among}
use Rattle.event_service.specs.Types.{is_type_on}

module _ (places : List (Option Sender)) (name : Name) (n : ℕ) where
  -- nobody before this place has the name
  abbrev pub IsNotBefore : Type 0
  IsNotBefore = events_among places name ≡ events_among (drop n places) name

  module _ (item : Option Sender) (inside : n < length places) (at : item ≡ get_or places n item) (so_far : IsNotBefore) where
    here : events_among places name ≡ events_among (item ∷ drop (n + 1) places) name
    here =
        so_far ∙ ap (λ (ps : List (Option Sender)). events_among ps name)
        (drop_more places n item inside ∙ ap (λ (it : Option Sender). it ∷ drop (n + 1) places) (sym at))

    pub nobody_here : item ≡ None → events_among places name ≡ events_among (drop (n + 1) places) name
    nobody_here is = here ∙ ap (λ (it : Option Sender). events_among (it ∷ drop (n + 1) places) name) is

    some_here : (sender : Sender) → item ≡ Some sender →
        events_among places name ≡ (if is_named name sender.name then Some sender.events else events_among (drop (n + 1) places) name)
    some_here sender is = here ∙ ap (λ (it : Option Sender). events_among (it ∷ drop (n + 1) places) name) is

    pub another_here : (sender : Sender) → item ≡ Some sender → is_named name sender.name ≡ false → events_among places name ≡ events_among (drop (n + 1) places) name
    another_here sender is named = some_here sender is ∙ ap (λ test. if test then Some sender.events else events_among (drop (n + 1) places) name) named

    pub type_here : (kind : EventKind) (sender : Sender) → item ≡ Some sender → is_named name sender.name ≡ true →
        is_type_on kind (events_among places name) ≡ has_kind sender.events.on kind
    type_here kind sender is named =
        ap (is_type_on kind) (some_here sender is ∙ ap (λ test. if test then Some sender.events else events_among (drop (n + 1) places) name) named)

  pub nobody_anywhere : (kind : EventKind) → IsNotBefore → length places ≤ n → is_type_on kind (events_among places name) ≡ false
  nobody_anywhere kind so_far done = ap (is_type_on kind) (so_far ∙ ap (λ (ps : List (Option Sender)). events_among ps name) (drop_all n places done))
