-- An application takes a seat, and leaves it.
use Rattle.std.proofs.Common.{◌≡◌, ℕ, Bool, true, false, List, [], ◌∷◌, length, slice_set, refl, ap, sym, ◌∙◌, Option, Some, None, option_map, unwrap_or, if◌then◌else◌, IsFalse, true≢false}
use Rattle.std.specs.Option.{option_map_or}
use Rattle.std.proofs.lemmas.List.{map-set}
use Rattle.std.proofs.Math.Nat.{zero-mod}
use Rattle.lc_model.specs.declared.kind.Kind.TheVariants.{Wdt, Adt}
use Rattle.lc_model.specs.declared.record.Moment.{Moment}
use Rattle.lc_model.specs.Name.{Name, is_named, lc_name, sch_name, counter_name}
use Rattle.lc_model.specs.Packet.{tick_mid, counter_mid}
use Rattle.lc_model.specs.Tables.File.{table_name}
use Rattle.lc_model.specs.Tables.Slot.{Slot}
use Rattle.lc_model.specs.Tables.Interpretation.{Interpretation, Pair}
use Rattle.lc_model.specs.Events.Request.{Request}
use Rattle.lc_model.specs.Events.Log.{Log}
use Rattle.lc_model.specs.LimitChecker.Steps.{by_lists, lc_start, started_with, default_pair}
use Rattle.lc_model.specs.LimitChecker.Watch.{History}
use Rattle.lc_model.specs.LimitChecker.Past.{Past}
use Rattle.lc_model.specs.LimitChecker.Steps.{LcStep}
use Rattle.lc_model.specs.Host.Schedule.{Schedule}
use Rattle.lc_model.specs.Host.World.{World, Running, Lc, log_in, log_of}
use Rattle.lc_model.specs.Host.Run.{Sent, all_delivered}
use Rattle.lc_model.specs.Kept.Effort.{Effort, no_effort}
use Rattle.lc_model.specs.Kept.Summary.{LcNow, LcOwn, lc_now, lc_own, LcState, SchState, CounterState, Other, event_state, counts_of}
use Rattle.lc_model.specs.Kept.Call.{with_at, ServicesNow, Called, registered, leaving, sent_by, lc_told, lc_subscriptions, next_start, next_retire}
use Rattle.lc_model.specs.Kept.Executive.{Member, Executive, no_member, after_call, left_from, begun_on, all_published_to}
use Rattle.lc_model.proofs.LimitChecker.StepLaws.{same_start}
use Rattle.host_refinement.specs.Keeping.{App, LimitChecker, Scheduler, Counter, name_of, holds, times, no_packets, seat_with, pipe_with, Standing, standing_of, events_of, Numbers, numbers_by, numbers_of, slot_now, slots_in, state_in, subscriptions_in, executive_of}
use Rattle.host_refinement.proofs.Names.{four, lc_changed, sch_changed, counter_changed, pushed}
use Rattle.host_refinement.proofs.Deliveries.{AreOf, all_stand, services_with, sent_alike}
use Rattle.host_refinement.proofs.Places.{Stands, map_absent, at_place, times_left}
use Rattle.host_refinement.proofs.Steps.{kept}

-- ---- senders

module _ {Image : Type 0} (w : World Image) (x : Option Log) where
  pub lc_events : (λ name. option_map event_state (four (Some w.host) x (log_in w.sch) (log_in w.counter) None name)) ≡ with_at lc_name (option_map event_state x) (events_of w)
  lc_events i name = (ap (option_map event_state) (lc_changed (Some w.host) (log_in w.lc) (log_in w.sch) (log_in w.counter) None x name)
      ∙ pushed (option_map event_state) x (log_of w name) (is_named name lc_name)) i

  pub sch_events : (λ name. option_map event_state (four (Some w.host) (log_in w.lc) x (log_in w.counter) None name)) ≡ with_at sch_name (option_map event_state x) (events_of w)
  sch_events i name = (ap (option_map event_state) (sch_changed (Some w.host) (log_in w.lc) (log_in w.sch) (log_in w.counter) None x name)
      ∙ pushed (option_map event_state) x (log_of w name) (is_named name sch_name)) i

  pub counter_events : (λ name. option_map event_state (four (Some w.host) (log_in w.lc) (log_in w.sch) x None name)) ≡ with_at counter_name (option_map event_state x) (events_of w)
  counter_events i name = (ap (option_map event_state) (counter_changed (Some w.host) (log_in w.lc) (log_in w.sch) (log_in w.counter) None x name)
      ∙ pushed (option_map event_state) x (log_of w name) (is_named name counter_name)) i

-- a world in which an application runs, or doesn't
module _ {Image : Type 0} where
  abbrev pub lc_off : World Image → ℕ → World Image
  lc_off w spares = record w { lc = record { running = None; spares = spares } }

  abbrev pub lc_on : World Image → ℕ → Running (Lc Image) → World Image
  lc_on w spares r = record w { lc = record { running = Some r; spares = spares } }

  abbrev pub sch_off : World Image → ℕ → World Image
  sch_off w spares = record w { sch = record { running = None; spares = spares } }

  abbrev pub sch_on : World Image → ℕ → Running ℕ → World Image
  sch_on w spares r = record w { sch = record { running = Some r; spares = spares } }

  abbrev pub counter_off : World Image → ℕ → World Image
  counter_off w spares = record w { counter = record { running = None; spares = spares } }

  abbrev pub counter_on : World Image → ℕ → Running ℕ → World Image
  counter_on w spares r = record w { counter = record { running = Some r; spares = spares } }

module _ {Image : Type 0} (images : Interpretation Image) (schedule : Schedule) where
  -- two sets of numbers differ in this application alone
  pub record Agree (app : App) (n m : Numbers Image) : Type 0 where
    pub seats : (seat : Option App) → IsFalse (holds app seat) → seat_with (state_in images schedule n) seat ≡ seat_with (state_in images schedule m) seat
    pub pipes : (seat : Option App) → IsFalse (holds app seat) → pipe_with (subscriptions_in images schedule n) no_packets seat ≡ pipe_with (subscriptions_in images schedule m) no_packets seat

  -- ---- leaving

  leaves_by : (app : App) (n m : Numbers Image) (stock : List Member) (order : List (Option App)) (k : ℕ) → Agree app n m → Stands app k order →
      next_retire (state_in images schedule n app) n.services ≡ Some m.services →
      left_from k (executive_of images schedule stock order no_packets n) ≡ executive_of images schedule stock (slice_set order k None) no_packets m
  leaves_by app n m stock order k agree at retired =
      let seats = sym (map-set (seat_with (state_in images schedule n)) order k None)
      ∙ map_absent app (seat_with (state_in images schedule n)) (seat_with (state_in images schedule m)) agree.seats (slice_set order k None) (times_left app k order at) in
      let pipes = sym (map-set (pipe_with (subscriptions_in images schedule n) no_packets) order k None)
      ∙ map_absent app (pipe_with (subscriptions_in images schedule n) no_packets) (pipe_with (subscriptions_in images schedule m) no_packets) agree.pipes (slice_set order k None) (times_left app k order at) in
      let services = ap (λ (seat : Option Member). unwrap_or (next_retire (unwrap_or seat no_member).state n.services) n.services) (at_place app (seat_with (state_in images schedule n)) None k order at)
      ∙ ap (λ (o : Option (ServicesNow Image)). unwrap_or o n.services) retired in
      λ i. record { stock = stock; seats = seats i; pipes = pipes i; services = services i }

  -- ---- starting

  begins_by : (app : App) (n m : Numbers Image) (stock : List Member) (order : List (Option App)) (k : ℕ) (moment : Moment) (member : Member) (services : ServicesNow Image × List (List ℕ)) →
      Agree app n m → times app order ≡ 0 → member.called ≡ name_of app → services.0 ≡ m.services →
      next_start images moment member.state n.services ≡ Some (leaving (state_in images schedule m app) (subscriptions_in images schedule m app) services) →
      begun_on images moment k member (executive_of images schedule stock order no_packets n)
      ≡ (executive_of images schedule stock (slice_set order k (Some app)) no_packets m, services.1)
  unfolding all_published_to
  begins_by app n m stock order k moment member services agree none called same begins =
      let e : Executive Image = executive_of images schedule stock order no_packets n in
      let seats = ap (λ xs. slice_set xs k (seat_with (state_in images schedule m) (Some app))) (map_absent app (seat_with (state_in images schedule n)) (seat_with (state_in images schedule m)) agree.seats order none)
      ∙ sym (map-set (seat_with (state_in images schedule m)) order k (Some app)) in
      let pipes = ap (λ xs. slice_set xs k (pipe_with (subscriptions_in images schedule m) no_packets (Some app))) (map_absent app (pipe_with (subscriptions_in images schedule n) no_packets) (pipe_with (subscriptions_in images schedule m) no_packets) agree.pipes order none)
      ∙ sym (map-set (pipe_with (subscriptions_in images schedule m) no_packets) order k (Some app)) in
      ap (λ (o : Option (Called Image)). option_map_or (after_call k member.called [] e) o (e, [])) begins
      ∙ ap (λ name. after_call k name [] e (leaving (state_in images schedule m app) (subscriptions_in images schedule m app) services)) called
      ∙ (λ i. (record { stock = stock; seats = seats i; pipes = pipes i; services = same i }, services.1))

  -- ---- the Limit Checker

  pub lc_agree : (n m : Numbers Image) → n.sch ≡ m.sch → n.counter ≡ m.counter → Agree LimitChecker n m
  lc_agree n m sch counter = record { seats = seats; pipes = pipes }
    where
      seats : (seat : Option App) → IsFalse (holds LimitChecker seat) → seat_with (state_in images schedule n) seat ≡ seat_with (state_in images schedule m) seat
      seats None h = refl
      seats (Some LimitChecker) h = absurd (true≢false h)
      seats (Some Scheduler) h = ap (λ o. Some (record { called = sch_name; state = option_map_or (SchState schedule) o Other })) sch
      seats (Some Counter) h = ap (λ o. Some (record { called = counter_name; state = option_map_or CounterState o Other })) counter

      pipes : (seat : Option App) → IsFalse (holds LimitChecker seat) → pipe_with (subscriptions_in images schedule n) no_packets seat ≡ pipe_with (subscriptions_in images schedule m) no_packets seat
      pipes None h = refl
      pipes (Some LimitChecker) h = absurd (true≢false h)
      pipes (Some Scheduler) h = refl
      pipes (Some Counter) h = refl

  pub lc_leaves : (effort : Effort) (w : World Image) (spares : ℕ) (r : Running (Lc Image)) (stock : List Member) (order : List (Option App)) (k : ℕ) → Stands LimitChecker k order →
      left_from k (kept images schedule effort stock order (lc_on w spares r)) ≡ kept images schedule effort stock (slice_set order k None) (lc_off w spares)
  lc_leaves effort w spares r stock order k at =
      leaves_by LimitChecker (numbers_of images schedule effort (lc_on w spares r)) (numbers_of images schedule effort (lc_off w spares)) stock order k
      (lc_agree _ _ refl refl) at
      (λ i. Some (record { files = w.files; slots = λ name. slots (is_named name (table_name Wdt)) (is_named name (table_name Adt)) i; events = sym (lc_events (lc_on w spares r) None) i; counts = counts_of w.sent }))
    where
      now : LcNow Image
      now = lc_now images r.state

      slots : (a b : Bool) → (if b then None else if a then None else option_map (λ kind. slot_now images schedule kind now) (if a then Some Wdt else if b then Some Adt else None)) ≡ None
      slots true true = refl
      slots true false = refl
      slots false true = refl
      slots false false = refl

  pub lc_begins : (effort : Effort) (moment : Moment) (w : World Image) (spares : ℕ) (stock : List Member) (order : List (Option App)) (k : ℕ) (own : LcOwn) → times LimitChecker order ≡ 0 →
      let start : LcStep Image History Past = lc_start by_lists images w.files in
      let t : Sent Image = all_delivered moment start.1 (lc_on w spares (record { state = start.0; log = [] })) in
      begun_on images moment k (record { called = lc_name; state = LcState own }) (kept images schedule effort stock order (lc_off w spares))
      ≡ (kept images schedule no_effort stock (slice_set order k (Some LimitChecker)) t.0, t.1)
  lc_begins effort moment w spares stock order k own none =
      begins_by LimitChecker (numbers_of images schedule effort (lc_off w spares)) after stock order k moment (record { called = lc_name; state = LcState own }) (services_with w.files slots t.0, t.1)
      (lc_agree _ _ refl refl) none refl refl
      (ap (λ (step : LcNow Image × List Request). Some (lc_told images moment no_effort step (registered lc_name (numbers_of images schedule effort (lc_off w spares)).services))) (same_start images w.files)
      ∙ ap (λ (services : ServicesNow Image). Some (leaving (LcState (lc_own images no_effort now)) (lc_subscriptions images now) (sent_by moment lc_name start.1 services)))
      (λ i. record { files = w.files; slots = λ name. tables (is_named name (table_name Wdt)) (is_named name (table_name Adt)) i; events = sym (lc_events (lc_off w spares) (Some [])) i; counts = counts_of w.sent })
      ∙ ap (λ s. Some (leaving (LcState (lc_own images no_effort now)) (lc_subscriptions images now) s)) (sent_alike moment start.1 lc_name [] v w.files slots (own_requests (default_pair images w.files)) refl))
      ∙ ap (λ (s : Standing Image). (executive_of images schedule stock (slice_set order k (Some LimitChecker)) no_packets (numbers_by images schedule no_effort s (events_of t.0) (counts_of t.0.sent)), t.1)) (sym (all_stand moment start.1 v))
    where
      start : LcStep Image History Past
      start = lc_start by_lists images w.files

      now : LcNow Image
      now = lc_now images start.0

      v : World Image
      v = lc_on w spares (record { state = start.0; log = [] })

      t : Sent Image
      t = all_delivered moment start.1 v

      slots : Name → Option (Slot Image)
      slots = slots_in images schedule (Some now)

      after : Numbers Image
      after = numbers_by images schedule no_effort (standing_of v) (events_of t.0) (counts_of t.0.sent)

      own_requests : (o : Option (Pair Image)) → AreOf lc_name (started_with by_lists images o).1
      own_requests None = (refl, tt)
      own_requests (Some pair) = (refl, tt)

      tables : (a b : Bool) → (if a then Some now.wdt else if b then Some now.adt else None) ≡ option_map (λ kind. slot_now images schedule kind now) (if a then Some Wdt else if b then Some Adt else None)
      tables true b = refl
      tables false true = refl
      tables false false = refl

  -- ---- the scheduler

  pub sch_agree : (n m : Numbers Image) → n.effort ≡ m.effort → n.lc ≡ m.lc → n.counter ≡ m.counter → Agree Scheduler n m
  sch_agree n m effort lc counter = record { seats = seats; pipes = pipes }
    where
      seats : (seat : Option App) → IsFalse (holds Scheduler seat) → seat_with (state_in images schedule n) seat ≡ seat_with (state_in images schedule m) seat
      seats None h = refl
      seats (Some LimitChecker) h = λ i. Some (record { called = lc_name; state = option_map_or (λ (lc : LcNow Image). LcState (lc_own images (effort i) lc)) (lc i) Other })
      seats (Some Scheduler) h = absurd (true≢false h)
      seats (Some Counter) h = ap (λ o. Some (record { called = counter_name; state = option_map_or CounterState o Other })) counter

      pipes : (seat : Option App) → IsFalse (holds Scheduler seat) → pipe_with (subscriptions_in images schedule n) no_packets seat ≡ pipe_with (subscriptions_in images schedule m) no_packets seat
      pipes None h = refl
      pipes (Some LimitChecker) h = ap (λ o. Some (record { subscriptions = option_map_or (lc_subscriptions images) o []; waiting = [] })) lc
      pipes (Some Scheduler) h = absurd (true≢false h)
      pipes (Some Counter) h = refl

  pub sch_leaves : (effort : Effort) (w : World Image) (spares : ℕ) (r : Running ℕ) (stock : List Member) (order : List (Option App)) (k : ℕ) → Stands Scheduler k order →
      left_from k (kept images schedule effort stock order (sch_on w spares r)) ≡ kept images schedule effort stock (slice_set order k None) (sch_off w spares)
  sch_leaves effort w spares r stock order k at =
      let n : Numbers Image = numbers_of images schedule effort (sch_on w spares r) in
      leaves_by Scheduler n (numbers_of images schedule effort (sch_off w spares)) stock order k (sch_agree _ _ refl refl refl) at
      (λ i. Some (record n.services { events = sym (sch_events (sch_on w spares r) None) i }))

  pub sch_begins : (effort : Effort) (moment : Moment) (w : World Image) (spares slot : ℕ) (stock : List Member) (order : List (Option App)) (k : ℕ) → times Scheduler order ≡ 0 →
      begun_on images moment k (record { called = sch_name; state = SchState schedule slot }) (kept images schedule effort stock order (sch_off w spares))
      ≡ (kept images schedule effort stock (slice_set order k (Some Scheduler)) (sch_on w spares (record { state = 0; log = [] })), [])
  sch_begins effort moment w spares slot stock order k none =
      let n : Numbers Image = numbers_of images schedule effort (sch_off w spares) in
      let m : Numbers Image = numbers_of images schedule effort (sch_on w spares (record { state = 0; log = [] })) in
      begins_by Scheduler n m stock order k moment (record { called = sch_name; state = SchState schedule slot }) (m.services, []) (sch_agree _ _ refl refl refl) none refl refl
      (λ i. Some (leaving (SchState schedule (sym (zero-mod (length schedule)) i)) (tick_mid ∷ []) (record n.services { events = sym (sch_events (sch_off w spares) (Some [])) i }, [])))

  -- ---- the counter

  pub counter_agree : (n m : Numbers Image) → n.effort ≡ m.effort → n.lc ≡ m.lc → n.sch ≡ m.sch → Agree Counter n m
  counter_agree n m effort lc sch = record { seats = seats; pipes = pipes }
    where
      seats : (seat : Option App) → IsFalse (holds Counter seat) → seat_with (state_in images schedule n) seat ≡ seat_with (state_in images schedule m) seat
      seats None h = refl
      seats (Some LimitChecker) h = λ i. Some (record { called = lc_name; state = option_map_or (λ (lc : LcNow Image). LcState (lc_own images (effort i) lc)) (lc i) Other })
      seats (Some Scheduler) h = ap (λ o. Some (record { called = sch_name; state = option_map_or (SchState schedule) o Other })) sch
      seats (Some Counter) h = absurd (true≢false h)

      pipes : (seat : Option App) → IsFalse (holds Counter seat) → pipe_with (subscriptions_in images schedule n) no_packets seat ≡ pipe_with (subscriptions_in images schedule m) no_packets seat
      pipes None h = refl
      pipes (Some LimitChecker) h = ap (λ o. Some (record { subscriptions = option_map_or (lc_subscriptions images) o []; waiting = [] })) lc
      pipes (Some Scheduler) h = refl
      pipes (Some Counter) h = absurd (true≢false h)

  pub counter_leaves : (effort : Effort) (w : World Image) (spares : ℕ) (r : Running ℕ) (stock : List Member) (order : List (Option App)) (k : ℕ) → Stands Counter k order →
      left_from k (kept images schedule effort stock order (counter_on w spares r)) ≡ kept images schedule effort stock (slice_set order k None) (counter_off w spares)
  counter_leaves effort w spares r stock order k at =
      let n : Numbers Image = numbers_of images schedule effort (counter_on w spares r) in
      leaves_by Counter n (numbers_of images schedule effort (counter_off w spares)) stock order k (counter_agree _ _ refl refl refl) at
      (λ i. Some (record n.services { events = sym (counter_events (counter_on w spares r) None) i }))

  pub counter_begins : (effort : Effort) (moment : Moment) (w : World Image) (spares count : ℕ) (stock : List Member) (order : List (Option App)) (k : ℕ) → times Counter order ≡ 0 →
      begun_on images moment k (record { called = counter_name; state = CounterState count }) (kept images schedule effort stock order (counter_off w spares))
      ≡ (kept images schedule effort stock (slice_set order k (Some Counter)) (counter_on w spares (record { state = 0; log = [] })), [])
  counter_begins effort moment w spares count stock order k none =
      let n : Numbers Image = numbers_of images schedule effort (counter_off w spares) in
      let m : Numbers Image = numbers_of images schedule effort (counter_on w spares (record { state = 0; log = [] })) in
      begins_by Counter n m stock order k moment (record { called = counter_name; state = CounterState count }) (m.services, []) (counter_agree _ _ refl refl refl) none refl refl
      (λ i. Some (leaving (CounterState 0) (counter_mid ∷ []) (record n.services { events = sym (counter_events (counter_off w spares) (Some [])) i }, [])))
