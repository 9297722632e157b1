-- The box that left a seat.
use Rattle.std.proofs.Common.{◌≡◌, ◌≢◌, refl, sym, ap, ◌∙◌, subst, ℕ, zero, suc, ◌<◌, List, [], ◌∷◌, length, map, get_or, arith, Option, Some, None, Result, Ok, Err}
use Rattle.std.specs.Prelude.{IfSome, IsSomeAnd, slice_index_or}
use Rattle.lc_model.proofs.Facts.{test_unequal}
use Rattle.lc_model.specs.declared.record.Body.{Body}
use Rattle.lc_model.specs.declared.record.Body.TheVariants as variant
use Rattle.lc_model.specs.declared.record.Moment.{Moment}
use Rattle.lc_model.specs.Packet.{stream_fault, message_id, event_services_mid, table_services_mid, executive_services_mid}
use Rattle.lc_model.specs.Command.{event_command_in, table_command_in}
use Rattle.lc_model.specs.Refusal.{Refusal}
use Rattle.lc_model.specs.Services.Events.{EventService}
use Rattle.lc_model.specs.Services.Tables.{TableService, file_put}
use Rattle.app_host.specs.declared.services.Services.{Services}
use Rattle.app_host.specs.Shared.{at_moment}
use Rattle.app_host.specs.Object.{Object}
use Rattle.app_host.specs.Hosted.{Hosted, object_at, object_in}
use Rattle.app_host.specs.Objects.{MayRetire, HasRetired}
use Rattle.app_host.specs.Obeyed.{events_by}
use Rattle.app_host.specs.ObeyedTables.{tables_by}
use Rattle.app_host.specs.Boxes.{BoxHasGone}
use Rattle.app_host.specs.Roster.{Succession, roster_of, succession_by}
use Rattle.app_host.specs.Response.{Response, filing, obeying_events, obeying_tables, obeying_orders, routed_to, response_to_packet, response_to}
use Rattle.app_host.specs.Step.{StepHasBegun}
use Rattle.app_host.proofs.Found.{shown_in}
use Rattle.app_host.proofs.Responses.{is_for_events, is_for_tables, is_for_orders, is_refused, begun_response}

module _ (Gone : ℕ → Type 0) where
  -- of a response
  abbrev By : Response → Type 0
  By response = IfSome response.leaves Gone

  -- ---- an order

  pub left_obeyed : (packet : List ℕ) (h : Hosted) (answer : Result Succession Refusal) (s : Succession) → answer ≡ Ok s → IfSome s.leaves Gone → By (obeying_orders packet h answer)
  left_obeyed packet h answer s is gone = subst (λ (r : Result Succession Refusal). By (obeying_orders packet h r)) (sym is) gone

  pub none_left : (packet : List ℕ) (h : Hosted) (answer : Result Succession Refusal) (refusal : Refusal) → answer ≡ Err refusal → By (obeying_orders packet h answer)
  none_left packet h answer refusal is = subst (λ (r : Result Succession Refusal). By (obeying_orders packet h r)) (sym is) tt

  -- ---- other records: nobody leaves

  by_events : (packet : List ℕ) (h : Hosted) (answer : Result EventService Refusal) → By (obeying_events packet h answer)
  by_events packet h (Ok events) = tt
  by_events packet h (Err refusal) = tt

  by_tables : (packet : List ℕ) (h : Hosted) (answer : Result TableService Refusal) → By (obeying_tables packet h answer)
  by_tables packet h (Ok tables) = tt
  by_tables packet h (Err refusal) = tt

  by_files : (h : Hosted) (answer : Result TableService Refusal) → By (filing h answer)
  by_files h (Ok tables) = tt
  by_files h (Err refusal) = tt

  module _ (packet : List ℕ) (h : Hosted) where
    pub routed_events : message_id packet ≡ event_services_mid → By (routed_to packet h)
    routed_events is = subst By (is_for_events packet h is) (by_events packet h (events_by (event_command_in packet) h.services.events))

    pub routed_tables : message_id packet ≡ table_services_mid → By (routed_to packet h)
    routed_tables is = subst By (is_for_tables packet h is) (by_tables packet h (tables_by (table_command_in packet) h.services.tables))

    pub routed_others : message_id packet ≢ event_services_mid → message_id packet ≢ table_services_mid → message_id packet ≢ executive_services_mid → By (routed_to packet h)
    routed_others no_events no_tables no_orders = rw (test_unequal _ _ no_events, test_unequal _ _ no_tables, test_unequal _ _ no_orders) tt

    pub routed_orders : message_id packet ≡ executive_services_mid → By (obeying_orders packet h (succession_by packet (roster_of h))) → By (routed_to packet h)
    routed_orders is gone = subst By (is_for_orders packet h is) gone

    pub turned_away : (reason : ℕ) → stream_fault packet ≡ Some reason → By (response_to_packet packet h)
    turned_away reason is = subst By (is_refused packet h reason is) tt

  pub filed : (h : Hosted) (name bytes : _) (body : Body) → body ≡ variant.File name bytes → By (response_to body h)
  filed h name bytes body is = subst (λ (b : Body). By (response_to b h)) (sym is) (by_files h (file_put name.now bytes.now h.services.tables))

-- ---- a place

module _ {B : Type 0} (meaning : B → Object) (seats : List (Option B)) (before after : Services) (app : B) where
  box_at : (seat : ℕ) (place : Option B) → slice_index_or seats seat None ≡ place → IsSomeAnd (object_in meaning place) (MayRetire seat before) →
      IfSome (object_in meaning place) (λ (o : Object). HasRetired seat before after o (meaning app)) → IfSome place (λ (there : B). (meaning app).called ≡ (meaning there).called) → BoxHasGone meaning seats before seat
  box_at seat None at there left same = absurd there
  box_at seat (Some box) at there left same = record {
    after = after;
    gone = app;
    retired = subst (λ (p : Option B). IsSomeAnd p (λ (x : B). ((meaning app).called ≡ (meaning x).called) × HasRetired seat before after (meaning x) (meaning app))) (sym at) (same, left);
  }

  same_place : (xs : List (Option B)) (i : ℕ) (x : Option B) → i < length xs → get_or xs i None ≡ get_or xs i x
  same_place [] i x less = absurd (omega arith)
  same_place (y ∷ xs) zero x less = refl
  same_place (y ∷ xs) (suc i) x less = same_place xs i x (omega arith)

  pub box_there : (k seat : ℕ) (old : Option B) → k ≡ seat → k < 8 → length seats ≡ 8 → IsSomeAnd (object_at seat (map (object_in meaning) seats)) (MayRetire seat before) →
      IfSome (object_in meaning (get_or seats k old)) (λ (o : Object). HasRetired seat before after o (meaning app)) → IfSome (get_or seats k old) (λ (there : B). (meaning app).called ≡ (meaning there).called) →
      BoxHasGone meaning seats before seat
  box_there k seat old is less eight there left same =
      let inside : k < length seats = omega (arith, less, eight) in
      box_at seat (get_or seats k old) (ap (λ i. get_or seats i None) (sym is) ∙ same_place seats k old inside)
      (subst (λ (p : Option Object). IsSomeAnd p (MayRetire seat before)) (ap (λ i. object_at i (map (object_in meaning) seats)) (sym is) ∙ shown_in (object_in meaning) seats k old None inside) there) left same

-- ---- a step

module _ {B : Type 0} (meaning : B → Object) where
  pub gone_then : (moment : Moment) (body : Body) (old begun : Hosted) (began : StepHasBegun moment old begun) (seats seats' : List (Option B)) → seats' ≡ seats →
      IfSome (response_to body begun).leaves (BoxHasGone meaning seats' begun.services) → IfSome (response_to body old).leaves (BoxHasGone meaning seats (at_moment moment old.services))
  gone_then moment body old begun began seats seats' same gone =
      subst (λ (x : Response × List (Option B) × Services). IfSome x.0.leaves (BoxHasGone meaning x.1 x.2)) (λ i. (begun_response moment body old begun began i, same i, began.services i)) gone
