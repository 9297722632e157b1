-- A seat is taken and given back, by the answers of the services.
use Rattle.std.proofs.Common.{◌≡◌, refl, ap, sym, ◌∙◌, subst, ℕ, zero, suc, ◌+◌, ◌≤◌, ◌<◌, Bool, true, false, ◌||◌, ◌==◌, List, [], ◌∷◌, ◌++◌, length, length-append, arith, if◌then◌else◌, Option, Some, None, Result, Ok, Err, true≢false, get_or}
use Rattle.std.specs.Prelude.{IfSome, IfOk, IsOk, IsSomeAnd, drop, IsTrue, IsFalse, is_some, option_map, nat_lt, slice_index_or, slice_set}
use Rattle.std.specs.List.{list_any, position_from}
use Rattle.std.proofs.lemmas.List.{get_or-set_same, set-get_or, set-set, drop_more}
use Rattle.lc_model.specs.Name.{Name, is_named, host_name}
use Rattle.lc_model.specs.Refusal.{Refusal, ◌>>=◌, refused, found}
use Rattle.lc_model.specs.Kept.Call.{with_mid, with_mids, with_at, new_sender}
use Rattle.lc_model.specs.Kept.Executive.{seat_count}
use Rattle.lc_model.specs.Laws.Senders.{RegisteringByName}
use Rattle.lc_model.specs.Services.Bus.{Bus, Queue, new_pipe, pipe_at, with_pipe, pipe_added, pipe_removed, subscribed, joined, is_subscribed, most_subscriptions, after, refusal_of}
use Rattle.lc_model.specs.Services.Events.{Sender, EventService, IsEventService, is_sender, events_among, sender_named, origin_named, sender_at, registered_at, unregistered_at}
use Rattle.lc_model.proofs.Facts.{or_true, test_less}
use Rattle.lc_model.proofs.Services.SenderNames.{IsFirst, first, first_is_some, first_has}
use Rattle.lc_model.specs.Services.Seen.{services_seen}
use Rattle.packet_bus.specs.declared.error.BusError.{BusError}
use Rattle.packet_bus.specs.Error.{refusal_in}
use Rattle.event_service.specs.declared.error.EventError.{EventError}
use Rattle.event_service.specs.Error.{answered}
use Rattle.lc_model.proofs.Services.SenderLaws.{without_sender}
use Rattle.lc_model.proofs.Services.Subscriptions.{no_more}
use Rattle.app_host.specs.declared.services.Services.{Services}
use Rattle.app_host.specs.Shared.{shared}
use Rattle.app_host.specs.Seating.{IsOpened}

-- ---- subscriptions

pub with_mid_length : (mid : ℕ) (mids : List ℕ) → length (with_mid mid mids) ≤ length mids + 1
with_mid_length mid mids = by_test (list_any (λ other. mid == other) mids)
  where
    by_test : (test : Bool) → length (if test then mids else mids ++ mid ∷ []) ≤ length mids + 1
    by_test true = omega arith
    by_test false = omega (arith, length-append mids (mid ∷ []))

-- with this list of subscriptions so far, the rest makes all of them
pub record SubscribedSoFar (seat : ℕ) (all left : List ℕ) (first now : Bus) (queue : Queue) : Type 0 where
  pub subscriptions : List ℕ
  pub bus : now ≡ with_pipe seat first (record queue { subscriptions = subscriptions })
  pub rest : with_mids left subscriptions ≡ with_mids all queue.subscriptions
  pub room : length subscriptions + length left ≤ 256
  pub inside : seat < length first

pub subscribed_first : (seat : ℕ) (all : List ℕ) (first : Bus) (queue : Queue) → pipe_at seat first ≡ Some queue → seat < length first →
    length queue.subscriptions + length all ≤ 256 → SubscribedSoFar seat all all first first queue
subscribed_first seat all first queue there inside room = record {
  subscriptions = queue.subscriptions;
  bus = sym (set-get_or first seat None) ∙ ap (slice_set first seat) there;
  rest = refl;
  room = room;
  inside = inside;
}

-- the next subscription is made
pub subscribed_next : (seat mid : ℕ) (all left : List ℕ) (first now : Bus) (queue : Queue) (far : SubscribedSoFar seat all (mid ∷ left) first now queue) →
    subscribed seat mid now ≡ Ok (with_pipe seat first (record queue { subscriptions = with_mid mid far.subscriptions }))
subscribed_next seat mid all left first now queue far =
    let old : Queue = record queue { subscriptions = far.subscriptions } in
    let there : pipe_at seat now ≡ Some old = ap (pipe_at seat) far.bus ∙ get_or-set_same first seat (Some old) None far.inside in
    let few : (is_subscribed mid old || nat_lt (length far.subscriptions) most_subscriptions) ≡ true =
    ap (λ b. is_subscribed mid old || b) (test_less (length far.subscriptions) 256 (let room = far.room in omega (arith, room))) ∙ or_true (is_subscribed mid old) in
    let more : Queue = record queue { subscriptions = with_mid mid far.subscriptions } in
    let fits : joined mid old ≡ Ok more = ap (λ b. if b then Ok more else refused 95) few in
    ap (λ (p : Option Queue). found p 93 >>= (λ q. joined mid q >>= (λ m. Ok (with_pipe seat now m)))) there
    ∙ ap (λ (r : Result Queue Refusal). r >>= (λ m. Ok (with_pipe seat now m))) fits
    ∙ ap (λ b. Ok (with_pipe seat b more)) far.bus
    ∙ ap Ok (set-set first seat (Some old) (Some more))

pub one_subscription_more : (mid : ℕ) (left mids all : List ℕ) → with_mids (mid ∷ left) mids ≡ all → with_mids left (with_mid mid mids) ≡ all
unfolding with_mids
one_subscription_more mid left mids all e = e

pub subscribed_after : (seat mid : ℕ) (all left : List ℕ) (first now new : Bus) (queue : Queue) → SubscribedSoFar seat all (mid ∷ left) first now queue →
    new ≡ after now (subscribed seat mid now) → SubscribedSoFar seat all left first new queue
subscribed_after seat mid all left first now new queue far is = record {
  subscriptions = with_mid mid far.subscriptions;
  bus = is ∙ ap (after now) (subscribed_next seat mid all left first now queue far);
  rest = one_subscription_more mid left far.subscriptions (with_mids all queue.subscriptions) far.rest;
  room = let one = with_mid_length mid far.subscriptions in let room = far.room in omega (arith, one, room);
  inside = far.inside;
}

-- what is at a place of a list is inside it
pub inside : {A : Type 0} (places : List (Option A)) (k : ℕ) (x : A) → slice_index_or places k None ≡ Some x → k < length places
inside [] k x e = cc
inside (place ∷ places) zero x e = omega arith
inside (place ∷ places) (suc k) x e = let further = inside places k x e in omega (arith, further)

-- at the seat's pipe, so many of these subscriptions are made
abbrev pub AreSubscribed : (seat k : ℕ) (all : List ℕ) (first now : Bus) → Type 0
AreSubscribed seat k all first now = IsSomeAnd (pipe_at seat first) (λ (queue : Queue). SubscribedSoFar seat all (drop k all) first now queue)

pub none_yet : (seat : ℕ) (all : List ℕ) (first : Bus) → IsSomeAnd (pipe_at seat first) (λ (queue : Queue). length queue.subscriptions + length all ≤ 256) →
    AreSubscribed seat 0 all first first
none_yet seat all first room = by_place (pipe_at seat first) refl room
  where
    by_place : (place : Option Queue) → pipe_at seat first ≡ place → IsSomeAnd place (λ (queue : Queue). length queue.subscriptions + length all ≤ 256) →
        IsSomeAnd place (λ (queue : Queue). SubscribedSoFar seat all all first first queue)
    by_place None e room = room
    by_place (Some queue) e room = subscribed_first seat all first queue e (inside first seat queue e) room

pub takes_one_more : (seat k : ℕ) (all : List ℕ) (first now : Bus) → k < length all → AreSubscribed seat k all first now →
    refusal_of (subscribed seat (get_or all k 0) now) ≡ None
takes_one_more seat k all first now more far = by_place (pipe_at seat first) far
  where
    by_place : (place : Option Queue) → IsSomeAnd place (λ (queue : Queue). SubscribedSoFar seat all (drop k all) first now queue) →
        refusal_of (subscribed seat (get_or all k 0) now) ≡ None
    by_place None far = absurd far
    by_place (Some queue) far = ap refusal_of (subscribed_next seat (get_or all k 0) all (drop (k + 1) all) first now queue
        (subst (λ left. SubscribedSoFar seat all left first now queue) (drop_more all k 0 more) far))

pub one_more : (seat k : ℕ) (all : List ℕ) (first now new : Bus) → k < length all → AreSubscribed seat k all first now →
    new ≡ after now (subscribed seat (get_or all k 0) now) → AreSubscribed seat (k + 1) all first new
one_more seat k all first now new more far is = by_place (pipe_at seat first) far
  where
    by_place : (place : Option Queue) → IsSomeAnd place (λ (queue : Queue). SubscribedSoFar seat all (drop k all) first now queue) →
        IsSomeAnd place (λ (queue : Queue). SubscribedSoFar seat all (drop (k + 1) all) first new queue)
    by_place None far = absurd far
    by_place (Some queue) far = subscribed_after seat (get_or all k 0) all (drop (k + 1) all) first now new queue
        (subst (λ left. SubscribedSoFar seat all left first now queue) (drop_more all k 0 more) far) is

pub all_made : (seat k : ℕ) (all : List ℕ) (first now : Bus) → drop k all ≡ [] → AreSubscribed seat k all first now →
    IfSome (pipe_at seat first) (λ (queue : Queue). now ≡ with_pipe seat first (record queue { subscriptions = with_mids all queue.subscriptions }))
all_made seat k all first now none far = by_place (pipe_at seat first) far
  where
    by_place : (place : Option Queue) → IsSomeAnd place (λ (queue : Queue). SubscribedSoFar seat all (drop k all) first now queue) →
        IfSome place (λ (queue : Queue). now ≡ with_pipe seat first (record queue { subscriptions = with_mids all queue.subscriptions }))
    by_place None far = tt
    by_place (Some queue) far = far.bus
        ∙ ap (λ mids. with_pipe seat first (record queue { subscriptions = mids }))
        (sym (no_more far.subscriptions) ∙ ap (λ left. with_mids left far.subscriptions) (sym none) ∙ far.rest)

pub is_taken : (r : Result (Unit {0}) BusError) → refusal_in r ≡ None → IsOk r
is_taken (Ok done) e = refl
is_taken (Err error) e = cc

-- ---- pipes

pub pipe_is_added : (seat : ℕ) (bus : Bus) → pipe_at seat bus ≡ None → pipe_added seat bus ≡ Ok (with_pipe seat bus new_pipe)
pipe_is_added seat bus lacks = cc

pub new_pipe_there : (seat : ℕ) (bus now : Bus) → seat < length bus → pipe_at seat bus ≡ None → now ≡ after bus (pipe_added seat bus) →
    (now ≡ with_pipe seat bus new_pipe) × (pipe_at seat now ≡ Some new_pipe)
new_pipe_there seat bus now inside lacks is =
    let same : now ≡ with_pipe seat bus new_pipe = is ∙ ap (after bus) (pipe_is_added seat bus lacks) in
    (same, ap (pipe_at seat) same ∙ get_or-set_same bus seat (Some new_pipe) None inside)

-- ---- senders

-- a name that has nothing stands nowhere
nowhere : (name : Name) (places : List (Option Sender)) → events_among places name ≡ None → position_from (is_sender name) 0 places ≡ None
nowhere name places nothing = by_place (position_from (is_sender name) 0 places) refl
  where
    by_sender : (k : ℕ) → IsFirst name places k → (place : Option Sender) → slice_index_or places k None ≡ place → position_from (is_sender name) 0 places ≡ None
    by_sender k here None e = absurd (first_is_some name places k here e)
    by_sender k here (Some sender) e = let some : events_among places name ≡ Some sender.events = (first_has name sender places k here e).1 in let never : None ≡ Some sender.events = sym nothing ∙ some in cc

    by_place : (place : Option ℕ) → position_from (is_sender name) 0 places ≡ place → position_from (is_sender name) 0 places ≡ None
    by_place None e = e
    by_place (Some k) e = by_sender k (first name k places e) (slice_index_or places k None) refl

-- the services with one sender more
abbrev pub with_new : ℕ → Name → EventService → EventService
with_new seat name service = record service { places = slice_set service.places seat (Some (record { name = name; events = new_sender })) }

pub may_register : (seat : ℕ) (name : Name) (service : EventService) → IsFalse (is_named name host_name) → sender_at (Some seat) service ≡ None →
    sender_named service name ≡ None → registered_at seat name service ≡ Ok (with_new seat name service)
may_register seat name service own free unused =
    let nothing : events_among service.places name ≡ None = sym (ap (λ b. if b then Some service.host else events_among service.places name) own) ∙ unused in
    let no_origin : origin_named name service ≡ None =
    ap (λ b. if b then Some None else option_map Some (position_from (is_sender name) 0 service.places)) own
    ∙ ap (option_map Some) (nowhere name service.places nothing) in
    ap (λ (p : Option Sender). if is_some p || is_some (origin_named name service) then refused 103 else Ok (with_new seat name service)) free
    ∙ ap (λ (o : Option (Option ℕ)). if is_some o then refused 103 else Ok (with_new seat name service)) no_origin

pub opened : (seat : ℕ) (name : Name) (mids : List ℕ) (before after : Services) → RegisteringByName → IsEventService before.events → seat < seat_count → seat < length before.bus →
    registered_at seat name before.events ≡ Ok (with_new seat name before.events) →
    after.bus ≡ with_pipe seat before.bus (record { subscriptions = mids; waiting = [] }) →
    after.events ≡ with_new seat name before.events →
    after.tables ≡ before.tables → after.counts ≡ before.counts → after.moment ≡ before.moment → after.outgoing ≡ before.outgoing →
    IsOpened seat name mids before after
unfolding shared
opened seat name mids before after law sound inside on_the_bus registers bus events tables counts moment outgoing = record {
  bus = bus;
  events = events;
  shared = (λ i. services_seen (events i) (tables i) (counts i))
      ∙ (λ i. record (shared before) {
        events = subst (λ r. IfOk r (λ after. sender_named after ≡ with_at name (Some new_sender) (sender_named before.events))) registers
            (law seat name before.events inside sound) i;
      });
  tables = tables;
  moment = moment;
  outgoing = outgoing;
  on_the_bus = on_the_bus;
  among_senders = let eight = sound.seats in omega (arith, eight, inside);
}

-- ---- a seat that is given back

pub pipe_is_removed : (seat : ℕ) (bus : Bus) → IsTrue (is_some (pipe_at seat bus)) → pipe_removed seat bus ≡ Ok (slice_set bus seat None)
pipe_is_removed seat bus has = by_place (pipe_at seat bus) refl has
  where
    by_place : (place : Option Queue) → pipe_at seat bus ≡ place → IsTrue (is_some place) → pipe_removed seat bus ≡ Ok (slice_set bus seat None)
    by_place None e has = absurd (true≢false (sym has))
    by_place (Some queue) e has = cc

pub may_unregister : (seat : ℕ) (service : EventService) → IsTrue (is_some (sender_at (Some seat) service)) → unregistered_at seat service ≡ Ok (without_sender seat service)
may_unregister seat service has = ap (λ b. if b then Ok (without_sender seat service) else refused 101) has

-- ---- the answers of the event services

pub is_answered : {A B : Type 0} (r : Result B EventError) (now x : A) → answered r now ≡ Ok x → IsOk r
is_answered (Ok done) now x e = refl
is_answered (Err error) now x e = cc

pub answered_by : {A B : Type 0} (r : Result B EventError) (now x : A) → answered r now ≡ Ok x → now ≡ x
answered_by (Ok done) now x e = cc
answered_by (Err error) now x e = cc

-- a new pipe that is subscribed to all of these
pub subscribed_all : (seat : ℕ) (mids : List ℕ) (first begun now : Bus) → begun ≡ with_pipe seat first new_pipe → pipe_at seat begun ≡ Some new_pipe →
    IfSome (pipe_at seat begun) (λ (queue : Queue). now ≡ with_pipe seat begun (record queue { subscriptions = with_mids mids queue.subscriptions })) →
    now ≡ with_pipe seat first (record { subscriptions = with_mids mids []; waiting = [] })
subscribed_all seat mids first begun now is there made =
    let heard : now ≡ with_pipe seat begun (record { subscriptions = with_mids mids []; waiting = [] }) =
    subst (λ (place : Option Queue). IfSome place (λ (queue : Queue). now ≡ with_pipe seat begun (record queue { subscriptions = with_mids mids queue.subscriptions }))) there made in
    heard ∙ ap (λ b. with_pipe seat b (record { subscriptions = with_mids mids []; waiting = [] })) is
    ∙ set-set first seat (Some new_pipe) (Some (record { subscriptions = with_mids mids []; waiting = [] }))
