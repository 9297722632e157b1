-- Packets are published, and one is delivered.
use Rattle.std.proofs.Common.{◌≡◌, ℕ, zero, suc, ◌+◌, Bool, true, false, ◌||◌, ◌==◌, List, [], ◌∷◌, ◌++◌, map, slice_set, slice_index_or, refl, ap, ap₂, sym, ◌∙◌, arith, Option, Some, None, option_map, unwrap_or, if◌then◌else◌, IsFalse}
use Rattle.std.specs.Option.{option_map_or}
use Rattle.std.specs.List.{list_any, position_from}
use Rattle.std.proofs.lemmas.Bool.Decides.{Decides-eqb}
use Rattle.lc_model.specs.declared.record.Moment.{Moment}
use Rattle.lc_model.specs.Packet.{message_id}
use Rattle.lc_model.specs.Tables.Interpretation.{Interpretation}
use Rattle.lc_model.specs.Host.Schedule.{Schedule}
use Rattle.lc_model.specs.Kept.Call.{Called, with_mid, with_mids, next_on_packet}
use Rattle.lc_model.specs.Kept.Executive.{Member, Executive, Written, Pipe, no_member, offered, published_to, all_published_to, has_some, is_ready, ready_seat, seated, followed, after_call, after_taking, handed, delivered_at, drained}
use Rattle.lc_model.proofs.Facts.{or_false, or_true, or_assoc}
use Rattle.host_refinement.specs.Keeping.{App, name_of, holds, Queues, no_packets, seat_with, pipe_with, Numbers, state_in, subscriptions_in, executive_of}
use Rattle.host_refinement.proofs.Places.{Stands, place_found, at_place, set_place, holds_own}
use Rattle.host_refinement.proofs.Seats.{Agree}

-- these packets wait for one application, and none for the others
abbrev pub only : App → List (List ℕ) → Queues
only app packets other = if holds app (Some other) then packets else []

-- whether an application hears a packet
abbrev pub heard : List ℕ → List ℕ → Bool
heard packet mids = list_any (λ mid. message_id packet == mid) mids

-- the queues after a packet
abbrev pub queued : (App → List ℕ) → List ℕ → Queues → Queues
queued subscriptions packet queues app = if heard packet (subscriptions app) then queues app ++ packet ∷ [] else queues app

pub published_alike : (subscriptions : App → List ℕ) (queues : Queues) (packet : List ℕ) (order : List (Option App)) →
    published_to (map (pipe_with subscriptions queues) order) packet ≡ map (pipe_with subscriptions (queued subscriptions packet queues)) order
published_alike subscriptions queues packet [] = refl
published_alike subscriptions queues packet (seat ∷ order) = ap₂ (λ x xs. x ∷ xs) (at seat) (published_alike subscriptions queues packet order)
  where
    either : (test : Bool) (mids : List ℕ) (waiting : List (List ℕ)) →
        let pipe : Pipe = record { subscriptions = mids; waiting = waiting } in
        (if test then record pipe { waiting = waiting ++ packet ∷ [] } else pipe) ≡ record { subscriptions = mids; waiting = if test then waiting ++ packet ∷ [] else waiting }
    either true mids waiting = refl
    either false mids waiting = refl

    at : (seat : Option App) → option_map (offered packet) (pipe_with subscriptions queues seat) ≡ pipe_with subscriptions (queued subscriptions packet queues) seat
    at None = refl
    at (Some app) = ap Some (either (heard packet (subscriptions app)) (subscriptions app) (queues app))

-- ---- subscriptions

any_append : (test : ℕ → Bool) (xs ys : List ℕ) → list_any test (xs ++ ys) ≡ (list_any test xs || list_any test ys)
any_append test [] ys = refl
any_append test (x ∷ xs) ys = ap (λ b. test x || b) (any_append test xs ys) ∙ sym (or_assoc (test x) (list_any test xs) (list_any test ys))

heard_more : (packet : List ℕ) (mid : ℕ) (mids : List ℕ) → heard packet (with_mid mid mids) ≡ (heard packet mids || (message_id packet == mid))
heard_more packet mid mids = by_test (list_any (λ other. mid == other) mids) refl
  where
    m : ℕ
    m = message_id packet

    there : (b : Bool) → (m == mid) ≡ b → list_any (λ other. mid == other) mids ≡ true → heard packet mids ≡ (heard packet mids || b)
    there true e is = ap (λ n. list_any (λ other. n == other) mids) ((Decides-eqb m mid).0 e) ∙ is ∙ sym (or_true (heard packet mids))
    there false e is = sym (or_false (heard packet mids))

    by_test : (b : Bool) → list_any (λ other. mid == other) mids ≡ b → list_any (λ other. m == other) (if b then mids else mids ++ mid ∷ []) ≡ (heard packet mids || (m == mid))
    by_test true is = there (m == mid) refl is
    by_test false is = any_append (λ other. m == other) mids (mid ∷ []) ∙ ap (λ b. heard packet mids || b) (or_false (m == mid))

heard_with : (packet : List ℕ) (more mids : List ℕ) → heard packet (with_mids more mids) ≡ (heard packet mids || heard packet more)
unfolding with_mids
heard_with packet [] mids = sym (or_false (heard packet mids))
heard_with packet (mid ∷ more) mids =
    heard_with packet more (with_mid mid mids) ∙ ap (λ b. b || heard packet more) (heard_more packet mid mids)
    ∙ or_assoc (heard packet mids) (message_id packet == mid) (heard packet more)

-- a pipe that was subscribed to these message ids hears them
pub heard_by_all : (packet : List ℕ) (mids : List ℕ) → heard packet (with_mids mids []) ≡ heard packet mids
heard_by_all packet mids = heard_with packet mids []

-- ---- deliveries

module _ {Image : Type 0} (images : Interpretation Image) (schedule : Schedule) (moment : Moment) where
  -- where no packet waits, nothing happens
  none_ready : (subscriptions : App → List ℕ) (n : ℕ) (order : List (Option App)) → position_from is_ready n (map (pipe_with subscriptions no_packets) order) ≡ None
  none_ready subscriptions n [] = refl
  none_ready subscriptions n (None ∷ order) = none_ready subscriptions (n + 1) order
  none_ready subscriptions n (Some app ∷ order) = none_ready subscriptions (n + 1) order

  pub idle : (most : ℕ) (stock : List Member) (order : List (Option App)) (n : Numbers Image) →
      drained images moment most (executive_of images schedule stock order no_packets n) ≡ (executive_of images schedule stock order no_packets n, [])
  unfolding drained
  idle zero stock order n = refl
  idle (suc most) stock order n =
      let e : Executive Image = executive_of images schedule stock order no_packets n in
      ap (λ (o : Option ℕ). option_map_or (λ k. followed (delivered_at images moment k e) (λ after. drained images moment most after)) o (e, [])) (none_ready (subscriptions_in images schedule n) 0 order)

  -- the executive after one delivery
  abbrev pub delivered_one : App → List (List ℕ) → List Member → List (Option App) → Numbers Image → List (List ℕ) → Executive Image
  delivered_one app rest stock order m published = record {
    stock = stock;
    seats = map (seat_with (state_in images schedule m)) order;
    pipes = all_published_to (map (pipe_with (subscriptions_in images schedule m) (only app rest)) order) published;
    services = m.services;
  }

  pub delivery : (app : App) (k most : ℕ) (packet : List ℕ) (rest : List (List ℕ)) (stock : List Member) (order : List (Option App)) (n m : Numbers Image) (outgoing published : List (List ℕ)) →
      Stands app k order → Agree images schedule app n m →
      next_on_packet images moment (state_in images schedule n app) packet n.services
      ≡ Some (record { state = state_in images schedule m app; mids = subscriptions_in images schedule m app; services = m.services; outgoing = outgoing; published = published }) →
      drained images moment (suc most) (executive_of images schedule stock order (only app (packet ∷ rest)) n)
      ≡ followed (delivered_one app rest stock order m published, outgoing) (λ after. drained images moment most after)
  unfolding drained
  delivery app k most packet rest stock order n m outgoing published at agree call =
      ap (λ (o : Option ℕ). option_map_or (λ k. followed (delivered_at images moment k e) next) o (e, [])) ready
      ∙ ap (λ (s : Written Image). followed s next) (ap (λ (o : Option Pipe). option_map_or (λ (pipe : Pipe). handed images moment k (seated e.seats k) pipe pipe.waiting e) o (e, [])) pipe
      ∙ ap (λ (o : Option Member). handed images moment k (unwrap_or o no_member) own_pipe (packet ∷ rest) e) member
      ∙ ap (λ (o : Option (Called Image)). option_map_or (after_call k (name_of app) rest e) o (after_taking k own_pipe rest e)) call
      ∙ (λ i. (record { stock = stock; seats = seats i; pipes = all_published_to (pipes i) published; services = m.services }, outgoing)))
    where
      e : Executive Image
      e = executive_of images schedule stock order (only app (packet ∷ rest)) n

      next : Executive Image → Written Image
      next after = drained images moment most after

      f : Option App → Option Pipe
      f = pipe_with (subscriptions_in images schedule n) (only app (packet ∷ rest))

      g : Option App → Option Pipe
      g = pipe_with (subscriptions_in images schedule m) (only app rest)

      own_pipe : Pipe
      own_pipe = record { subscriptions = subscriptions_in images schedule n app; waiting = packet ∷ rest }

      own_is : f (Some app) ≡ Some own_pipe
      own_is = ap (λ (b : Bool). Some (record { subscriptions = subscriptions_in images schedule n app; waiting = if b then packet ∷ rest else [] })) (holds_own app)

      not_ready : (seat : Option App) → IsFalse (holds app seat) → IsFalse (is_ready (f seat))
      not_ready None h = refl
      not_ready (Some other) h = ap (λ (b : Bool). has_some (if b then packet ∷ rest else [])) h

      ready : ready_seat e.pipes ≡ Some k
      ready = place_found app f is_ready (ap is_ready own_is) not_ready 0 k order at ∙ (let same : 0 + k ≡ k = omega arith in ap Some same)

      pipe : slice_index_or e.pipes k None ≡ Some own_pipe
      pipe = at_place app f None k order at ∙ own_is

      member : slice_index_or e.seats k None ≡ Some (record { called = name_of app; state = state_in images schedule n app })
      member = at_place app (seat_with (state_in images schedule n)) None k order at

      seats : slice_set e.seats k (Some (record { called = name_of app; state = state_in images schedule m app })) ≡ map (seat_with (state_in images schedule m)) order
      seats = set_place app (seat_with (state_in images schedule n)) (seat_with (state_in images schedule m)) agree.seats k order at

      after_own : Some (record { subscriptions = subscriptions_in images schedule m app; waiting = rest }) ≡ g (Some app)
      after_own = sym (ap (λ (b : Bool). Some (record { subscriptions = subscriptions_in images schedule m app; waiting = if b then rest else [] })) (holds_own app))

      others : (seat : Option App) → IsFalse (holds app seat) → f seat ≡ g seat
      others None h = refl
      others (Some other) h =
          ap (λ (b : Bool). Some (record { subscriptions = subscriptions_in images schedule n other; waiting = if b then packet ∷ rest else [] })) h
          ∙ agree.pipes (Some other) h
          ∙ sym (ap (λ (b : Bool). Some (record { subscriptions = subscriptions_in images schedule m other; waiting = if b then rest else [] })) h)

      pipes : slice_set e.pipes k (Some (record { subscriptions = subscriptions_in images schedule m app; waiting = rest })) ≡ map g order
      pipes = ap (λ p. slice_set e.pipes k p) after_own ∙ set_place app f g others k order at
