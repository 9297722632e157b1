-- Packets that go to the counter or to the Limit Checker.
use Rattle.std.proofs.Common.{◌≡◌, ℕ, suc, Bool, true, false, ◌||◌, ◌==◌, List, [], ◌∷◌, ◌++◌, map, refl, ap, ap₂, sym, ◌∙◌, Option, Some, None, option_map, if◌then◌else◌, IsFalse, IsTrue, IfSome, true≢false}
use Rattle.std.specs.Option.{option_map_or}
use Rattle.std.specs.List.{list_any, AllByRecursion}
use Rattle.std.proofs.lemmas.Bool.Decides.{Decides-eqb}
use Rattle.std.proofs.lemmas.List.{append-nil}
use Rattle.lc_model.specs.declared.kind.Kind.TheVariants.{Wdt, Adt}
use Rattle.lc_model.specs.Tables.File.{table_name}
use Rattle.lc_model.specs.declared.record.Moment.{Moment}
use Rattle.lc_model.specs.declared.field.Term.{Term}
use Rattle.lc_model.specs.Name.{Name, is_named, lc_name, counter_name}
use Rattle.lc_model.specs.Packet.{tick_mid, counter_mid, message_id, is_telemetry_mid}
use Rattle.lc_model.specs.Tables.Slot.{Slot}
use Rattle.lc_model.specs.Tables.Interpretation.{Interpretation, Pair}
use Rattle.lc_model.specs.Events.Request.{Request}
use Rattle.lc_model.specs.LimitChecker.Watch.{History}
use Rattle.lc_model.specs.LimitChecker.Past.{Past}
use Rattle.lc_model.specs.LimitChecker.Steps.{LcStep, by_lists, in_force, lc_mids, lc_packet}
use Rattle.lc_model.specs.Host.Schedule.{Schedule}
use Rattle.lc_model.specs.Host.World.{World, Running, Lc}
use Rattle.lc_model.specs.Host.React.{counter_packet, to_counter, to_lc}
use Rattle.lc_model.specs.Host.Run.{Sent, all_delivered}
use Rattle.lc_model.specs.Kept.Effort.{Effort}
use Rattle.lc_model.specs.Kept.Summary.{LcNow, lc_now, lc_own, count_now, LcState, CounterState, counts_of}
use Rattle.lc_model.specs.Kept.Next.{next_count}
use Rattle.lc_model.specs.Kept.Call.{effort_after, with_at, Called, leaving, sent_by, counter_told, lc_told, lc_subscriptions, counter_subscriptions}
use Rattle.lc_model.specs.Kept.Executive.{Member, Executive, Written, all_published_to, followed, drained, most_deliveries, passed_on}
use Rattle.lc_model.specs.Laws.LimitChecker.{IsSettled, InForceIsSensible}
use Rattle.lc_model.proofs.Events.SendLaws.{same_count}
use Rattle.lc_model.proofs.LimitChecker.StepLaws.{same_packet_step}
use Rattle.lc_model.proofs.Host.UnheardLaws.{unheard_packet}
use Rattle.lc_model.proofs.Facts.{or_false}
use Rattle.host_refinement.specs.Keeping.{App, LimitChecker, Scheduler, Counter, holds, times, no_packets, pipe_with, Standing, standing_of, events_of, Numbers, numbers_by, numbers_of, slot_now, slots_in, subscriptions_in, executive_of, IsSeated}
use Rattle.host_refinement.proofs.Copies.{world_so}
use Rattle.host_refinement.proofs.Deliveries.{all_stand, services_with, sent_alike}
use Rattle.host_refinement.proofs.OwnRequests.{counter_own, lc_own_requests}
use Rattle.host_refinement.proofs.Places.{Stands, stands, map_absent}
use Rattle.host_refinement.proofs.Seats.{lc_agree, counter_agree, lc_on, lc_off, counter_on, counter_off}
use Rattle.host_refinement.proofs.Queues.{only, heard, published_alike, heard_by_all, idle, delivery}
use Rattle.host_refinement.proofs.Steps.{by_lc, by_counter, kept, StepKept}

module _ {Image : Type 0} (images : Interpretation Image) (schedule : Schedule) (moment : Moment) where
  -- what is asked of a running Limit Checker
  pub record LcFits (lc : Lc Image) : Type 0 where
    pub settled : IsSettled images lc
    pub sensible : InForceIsSensible images lc
    pub telemetry : (pair : Pair Image) → in_force images lc ≡ Some pair → AllByRecursion (λ (t : Term). IsTrue (is_telemetry_mid t.mid)) (images.terms pair)

  -- ---- who hears a packet

  pub published_only : (app : App) (packet : List ℕ) (stock : List Member) (order : List (Option App)) (n : Numbers Image) →
      ((other : App) → heard packet (subscriptions_in images schedule n other) ≡ holds app (Some other)) →
      passed_on images moment packet (executive_of images schedule stock order no_packets n)
      ≡ drained images moment most_deliveries (executive_of images schedule stock order (only app (packet ∷ [])) n)
  published_only app packet stock order n who =
      ap (λ pipes. drained images moment most_deliveries (record (executive_of images schedule stock order no_packets n) { pipes = pipes }))
      (published_alike (subscriptions_in images schedule n) no_packets packet order
      ∙ ap (λ queues. map (pipe_with (subscriptions_in images schedule n) queues) order) (λ i other. if who other i then packet ∷ [] else []))

  pub published_none : (packet : List ℕ) (stock : List Member) (order : List (Option App)) (n : Numbers Image) →
      ((other : App) → IsFalse (heard packet (subscriptions_in images schedule n other))) →
      passed_on images moment packet (executive_of images schedule stock order no_packets n) ≡ (executive_of images schedule stock order no_packets n, [])
  published_none packet stock order n who =
      ap (λ pipes. drained images moment most_deliveries (record (executive_of images schedule stock order no_packets n) { pipes = pipes }))
      (published_alike (subscriptions_in images schedule n) no_packets packet order
      ∙ ap (λ queues. map (pipe_with (subscriptions_in images schedule n) queues) order) (λ i other. if who other i then packet ∷ [] else []))
      ∙ idle images schedule moment most_deliveries stock order n

  -- what waits for an application without a seat is nothing
  pub nobody : (app : App) (packets : List (List ℕ)) (stock : List Member) (order : List (Option App)) (n : Numbers Image) → times app order ≡ 0 →
      executive_of images schedule stock order (only app packets) n ≡ executive_of images schedule stock order no_packets n
  nobody app packets stock order n none =
      ap (λ pipes. record (executive_of images schedule stock order no_packets n) { pipes = pipes })
      (map_absent app (pipe_with (subscriptions_in images schedule n) (only app packets)) (pipe_with (subscriptions_in images schedule n) no_packets) agree order none)
    where
      agree : (seat : Option App) → IsFalse (holds app seat) → pipe_with (subscriptions_in images schedule n) (only app packets) seat ≡ pipe_with (subscriptions_in images schedule n) no_packets seat
      agree None h = refl
      agree (Some other) h = ap (λ (b : Bool). Some (record { subscriptions = subscriptions_in images schedule n other; waiting = if b then packets else [] })) h

  pub no_more : (app : App) (stock : List Member) (order : List (Option App)) (n : Numbers Image) →
      executive_of images schedule stock order (only app []) n ≡ executive_of images schedule stock order no_packets n
  no_more app stock order n = ap (λ queues. executive_of images schedule stock order queues n) (λ i other. none (holds app (Some other)) i)
    where
      nothing : List (List ℕ)
      nothing = []

      none : (b : Bool) → (let packets : List (List ℕ) = if b then [] else [] in packets) ≡ []
      none true = refl
      none false = refl

  -- a message id that is no telemetry and none of the requests
  unheard_terms : (mid : ℕ) → IsFalse (is_telemetry_mid mid) → (terms : List Term) → AllByRecursion (λ (t : Term). IsTrue (is_telemetry_mid t.mid)) terms →
      IsFalse (list_any (λ other. mid == other) (map (λ (t : Term). t.mid) terms))
  unheard_terms mid outside [] all = refl
  unheard_terms mid outside (t ∷ terms) all = ap₂ (λ a b. a || b) (by_test (mid == t.mid) refl) (unheard_terms mid outside terms all.1)
    where
      by_test : (b : Bool) → (mid == t.mid) ≡ b → IsFalse (mid == t.mid)
      by_test true e = absurd (true≢false (sym all.0 ∙ ap is_telemetry_mid (sym ((Decides-eqb mid t.mid).0 e)) ∙ outside))
      by_test false e = e

  terms_in_force : (lc : Lc Image) → LcFits lc → AllByRecursion (λ (t : Term). IsTrue (is_telemetry_mid t.mid)) (option_map_or images.terms (in_force images lc) [])
  terms_in_force lc fits = by_force (in_force images lc) refl
    where
      by_force : (o : Option (Pair Image)) → in_force images lc ≡ o → AllByRecursion (λ (t : Term). IsTrue (is_telemetry_mid t.mid)) (option_map_or images.terms o [])
      by_force None e = tt
      by_force (Some pair) e = fits.telemetry pair e

  -- the Limit Checker hears neither the counter's commands nor ticks
  pub lc_deaf : (packet : List ℕ) (lc : Lc Image) → LcFits lc → (mid : ℕ) → message_id packet ≡ mid → IsFalse (is_telemetry_mid mid) →
      IsFalse ((mid == 0x18A4) || ((mid == 0x18A5) || (mid == 0x18A6))) → IsFalse (heard packet (lc_subscriptions images (lc_now images lc)))
  lc_deaf packet lc fits mid is outside three =
      heard_by_all packet (lc_mids images (lc_now images lc)) ∙ ap (λ m. list_any (λ other. m == other) (lc_mids images lc)) is
      ∙ three_or (mid == 0x18A4) (mid == 0x18A5) (mid == 0x18A6) _ three
      ∙ unheard_terms mid outside (option_map_or images.terms (in_force images lc) []) (terms_in_force lc fits)
    where
      three_or : (a b c d : Bool) → IsFalse (a || (b || c)) → (a || (b || (c || d))) ≡ d
      three_or true b c d h = absurd (true≢false h)
      three_or false true c d h = absurd (true≢false h)
      three_or false false true d h = absurd (true≢false h)
      three_or false false false d h = refl

  -- ---- the counter

  counter_delivered : (effort : Effort) (packet : List ℕ) (w : World Image) (spares : ℕ) (r : Running ℕ) (stock : List Member) (order : List (Option App)) (k most : ℕ) → Stands Counter k order → message_id packet ≡ counter_mid →
      let answer : ℕ × List Request = counter_packet packet r.state in
      let t : Sent Image = all_delivered moment answer.1 (counter_on w spares (record r { state = answer.0 })) in
      drained images moment (suc most) (executive_of images schedule stock order (only Counter (packet ∷ [])) (numbers_of images schedule effort (counter_on w spares r)))
      ≡ (kept images schedule effort stock order t.0, t.1)
  unfolding all_published_to
  counter_delivered effort packet w spares r stock order k most at is =
      delivery images schedule moment Counter k most packet [] stock order n m t.1 [] at (counter_agree images schedule n m refl refl refl)
      (ap (λ (mid : ℕ). Some (if mid == counter_mid then counter_told moment (next_count packet (count_now r.state)) n.services else other)) is
      ∙ ap (λ (answer : ℕ × List Request). Some (counter_told moment answer n.services)) (same_count packet r.state)
      ∙ ap (λ s. Some (leaving (CounterState (count_now answer.0)) counter_subscriptions s)) (sent_alike moment answer.1 counter_name r.log v w.files n.services.slots (counter_own packet r.state) refl))
      ∙ ap (λ e. followed (e, t.1) (λ after. drained images moment most after)) (no_more Counter stock order m)
      ∙ ap (λ (s : Written Image). (s.0, t.1 ++ s.1)) (idle images schedule moment most stock order m)
      ∙ ap (λ packets. (executive_of images schedule stock order no_packets m, packets)) (append-nil t.1)
      ∙ ap (λ (s : Standing Image). (executive_of images schedule stock order no_packets (numbers_by images schedule effort s (events_of t.0) (counts_of t.0.sent)), t.1)) (sym (all_stand moment answer.1 v))
    where
      answer : ℕ × List Request
      answer = counter_packet packet r.state

      v : World Image
      v = counter_on w spares (record r { state = answer.0 })

      t : Sent Image
      t = all_delivered moment answer.1 v

      n : Numbers Image
      n = numbers_of images schedule effort (counter_on w spares r)

      m : Numbers Image
      m = numbers_by images schedule effort (standing_of v) (events_of t.0) (counts_of t.0.sent)

      other : Called Image
      other = record { state = CounterState (count_now r.state); mids = counter_subscriptions; services = n.services; outgoing = []; published = [] }

  -- the effort of a Limit Checker after a packet
  abbrev pub effort_by : Effort → List ℕ → Lc Image → Effort
  effort_by effort packet lc = effort_after packet (lc_own images effort (lc_now images lc))

  -- one packet for the Limit Checker
  pub lc_delivered : (effort : Effort) (packet : List ℕ) (rest : List (List ℕ)) (w : World Image) (spares : ℕ) (r : Running (Lc Image)) (stock : List Member) (order : List (Option App)) (k most : ℕ) → Stands LimitChecker k order → LcFits r.state →
      let step : LcStep Image History Past = lc_packet by_lists images packet r.state in
      let t : Sent Image = all_delivered moment step.1 (lc_on w spares (record r { state = step.0 })) in
      drained images moment (suc most) (executive_of images schedule stock order (only LimitChecker (packet ∷ rest)) (numbers_of images schedule effort (lc_on w spares r)))
      ≡ followed (executive_of images schedule stock order (only LimitChecker rest) (numbers_of images schedule (effort_by effort packet r.state) t.0), t.1) (λ after. drained images moment most after)
  unfolding all_published_to
  lc_delivered effort packet rest w spares r stock order k most at fits =
      delivery images schedule moment LimitChecker k most packet rest stock order n m t.1 [] at (lc_agree images schedule n m refl refl)
      (ap (λ (s : LcNow Image × List Request). Some (lc_told images moment later s n.services)) (world_so images effort packet r.state ∙ same_packet_step images packet r.state fits.settled fits.sensible)
      ∙ ap (λ (slots : Name → Option (Slot Image)). Some (leaving (LcState (lc_own images later now)) (lc_subscriptions images now) (sent_by moment lc_name step.1 (services_with w.files slots v)))) tables
      ∙ ap (λ s. Some (leaving (LcState (lc_own images later now)) (lc_subscriptions images now) s)) (sent_alike moment step.1 lc_name r.log v w.files (slots_in images schedule (Some now)) (lc_own_requests images packet r.state) refl))
      ∙ ap (λ (s : Standing Image). followed (executive_of images schedule stock order (only LimitChecker rest) (numbers_by images schedule later s (events_of t.0) (counts_of t.0.sent)), t.1) (λ after. drained images moment most after)) (sym (all_stand moment step.1 v))
    where
      later : Effort
      later = effort_by effort packet r.state

      step : LcStep Image History Past
      step = lc_packet by_lists images packet r.state

      now : LcNow Image
      now = lc_now images step.0

      v : World Image
      v = lc_on w spares (record r { state = step.0 })

      t : Sent Image
      t = all_delivered moment step.1 v

      n : Numbers Image
      n = numbers_of images schedule effort (lc_on w spares r)

      m : Numbers Image
      m = numbers_by images schedule later (standing_of v) (events_of t.0) (counts_of t.0.sent)

      tables : with_at (table_name Wdt) (Some now.wdt) (with_at (table_name Adt) (Some now.adt) (slots_in images schedule (Some (lc_now images r.state)))) ≡ slots_in images schedule (Some now)
      tables i name = of_kind (is_named name (table_name Wdt)) (is_named name (table_name Adt)) i
        where
          of_kind : (a b : Bool) → (if a then Some now.wdt else if b then Some now.adt else option_map (λ kind. slot_now images schedule kind (lc_now images r.state)) (if a then Some Wdt else if b then Some Adt else None))
              ≡ option_map (λ kind. slot_now images schedule kind now) (if a then Some Wdt else if b then Some Adt else None)
          of_kind true b = refl
          of_kind false true = refl
          of_kind false false = refl

  -- ---- whole records

  -- what is asked of a world
  abbrev pub Fits : World Image → Type 0
  Fits w = IfSome w.lc.running (λ (r : Running (Lc Image)). LcFits r.state)

  -- the Limit Checker that may run hears neither the counter's commands nor ticks
  pub deaf_in : (effort : Effort) (packet : List ℕ) (mid : ℕ) → message_id packet ≡ mid → IsFalse (is_telemetry_mid mid) → IsFalse ((mid == 0x18A4) || ((mid == 0x18A5) || (mid == 0x18A6))) → (w : World Image) → Fits w →
      IsFalse (heard packet (subscriptions_in images schedule (numbers_of images schedule effort w) LimitChecker))
  deaf_in effort packet mid is outside three =
      by_lc (λ w. Fits w → IsFalse (heard packet (subscriptions_in images schedule (numbers_of images schedule effort w) LimitChecker)))
      (λ w spares fits. refl) (λ w spares r fits. lc_deaf packet r.state fits mid is outside three)

  pub counter_kept : (effort : Effort) (packet : List ℕ) (w : World Image) (stock : List Member) (order : List (Option App)) → IsSeated images schedule (standing_of w) stock order → Fits w → message_id packet ≡ counter_mid →
      StepKept images schedule moment (to_counter packet w) (passed_on images moment packet (kept images schedule effort stock order w))
  counter_kept effort packet w stock order h fits is =
      by_counter (λ w. IsSeated images schedule (standing_of w) stock order → Fits w → StepKept images schedule moment (to_counter packet w) (passed_on images moment packet (kept images schedule effort stock order w)))
      off on w h fits
    where
      who : (w : World Image) → Fits w → (other : App) → heard packet (subscriptions_in images schedule (numbers_of images schedule effort w) other) ≡ holds Counter (Some other)
      who w fits LimitChecker = deaf_in effort packet counter_mid is refl refl w fits
      who w fits Scheduler = ap (λ m. (m == tick_mid) || false) is
      who w fits Counter = ap (λ m. (m == counter_mid) || false) is

      off : (w : World Image) (spares : ℕ) → IsSeated images schedule (standing_of (counter_off w spares)) stock order → Fits (counter_off w spares) →
          StepKept images schedule moment (counter_off w spares, []) (passed_on images moment packet (kept images schedule effort stock order (counter_off w spares)))
      off w spares h fits =
          let v : World Image = counter_off w spares in
          let n : Numbers Image = numbers_of images schedule effort v in
          record {
            stock = stock;
            order = order;
            effort = effort;
            seated = h;
            same = published_only Counter packet stock order n (who v fits) ∙ ap (drained images moment most_deliveries) (nobody Counter (packet ∷ []) stock order n (h.placed Counter))
                ∙ idle images schedule moment most_deliveries stock order n;
          }

      on : (w : World Image) (spares : ℕ) (r : Running ℕ) → IsSeated images schedule (standing_of (counter_on w spares r)) stock order → Fits (counter_on w spares r) →
          StepKept images schedule moment (to_counter packet (counter_on w spares r)) (passed_on images moment packet (kept images schedule effort stock order (counter_on w spares r)))
      on w spares r h fits =
          let v : World Image = counter_on w spares r in
          let at = stands Counter order (h.placed Counter) in
          record {
            stock = stock;
            order = order;
            effort = effort;
            seated = record { eight = h.eight; placed = h.placed; profile = h.profile; spares = h.spares };
            same = published_only Counter packet stock order (numbers_of images schedule effort v) (who v fits) ∙ counter_delivered effort packet w spares r stock order at.0 519 at.1 is;
          }

  -- a packet that the Limit Checker does not hear leaves its numbers as they are
  lc_unheard : (effort : Effort) (packet : List ℕ) (w : World Image) (spares : ℕ) (r : Running (Lc Image)) (stock : List Member) (order : List (Option App)) → LcFits r.state →
      IsFalse (list_any (λ mid. message_id packet == mid) (lc_mids images r.state)) →
      let step : LcStep Image History Past = lc_packet by_lists images packet r.state in
      let t : Sent Image = all_delivered moment step.1 (lc_on w spares (record r { state = step.0 })) in
      (let e : Executive Image = kept images schedule effort stock order (lc_on w spares r) in let s : Written Image = (e, []) in s) ≡ (kept images schedule effort stock order t.0, t.1)
  lc_unheard effort packet w spares r stock order fits unheard =
      ap (λ (s : LcNow Image × List Request). (executive_of images schedule stock order no_packets (numbers_at s.0), [])) same
      ∙ ap (λ (s : LcNow Image × List Request). (kept images schedule effort stock order (all_delivered moment s.1 v).0, (all_delivered moment s.1 v).1)) same
    where
      step : LcStep Image History Past
      step = lc_packet by_lists images packet r.state

      v : World Image
      v = lc_on w spares (record r { state = step.0 })

      quiet : LcNow Image × List Request
      quiet = (lc_now images r.state, [])

      same : quiet ≡ (lc_now images step.0, step.1)
      same = sym (unheard_packet images packet r.state unheard) ∙ same_packet_step images packet r.state fits.settled fits.sensible

      numbers_at : LcNow Image → Numbers Image
      numbers_at now = record (numbers_of images schedule effort v) { lc = Some now; services = record (numbers_of images schedule effort v).services { slots = slots_in images schedule (Some now) } }

  pub lc_kept : (effort : Effort) (packet : List ℕ) (w : World Image) (stock : List Member) (order : List (Option App)) → IsSeated images schedule (standing_of w) stock order → Fits w →
      IsFalse (message_id packet == counter_mid) → IsFalse (message_id packet == tick_mid) →
      StepKept images schedule moment (to_lc images packet w) (passed_on images moment packet (kept images schedule effort stock order w))
  lc_kept effort packet w stock order h fits not_counter not_tick =
      by_lc (λ w. IsSeated images schedule (standing_of w) stock order → Fits w → StepKept images schedule moment (to_lc images packet w) (passed_on images moment packet (kept images schedule effort stock order w)))
      off on w h fits
    where
      off : (w : World Image) (spares : ℕ) → IsSeated images schedule (standing_of (lc_off w spares)) stock order → Fits (lc_off w spares) →
          StepKept images schedule moment (lc_off w spares, []) (passed_on images moment packet (kept images schedule effort stock order (lc_off w spares)))
      off w spares h fits = record { stock = stock; order = order; effort = effort; seated = h; same = published_none packet stock order (numbers_of images schedule effort (lc_off w spares)) who }
        where
          who : (other : App) → IsFalse (heard packet (subscriptions_in images schedule (numbers_of images schedule effort (lc_off w spares)) other))
          who LimitChecker = refl
          who Scheduler = or_false (message_id packet == tick_mid) ∙ not_tick
          who Counter = or_false (message_id packet == counter_mid) ∙ not_counter

      on : (w : World Image) (spares : ℕ) (r : Running (Lc Image)) → IsSeated images schedule (standing_of (lc_on w spares r)) stock order → Fits (lc_on w spares r) →
          StepKept images schedule moment (to_lc images packet (lc_on w spares r)) (passed_on images moment packet (kept images schedule effort stock order (lc_on w spares r)))
      on w spares r h fits = record {
        stock = stock;
        order = order;
        effort = later heard_here;
        seated = record { eight = h.eight; placed = h.placed; profile = h.profile; spares = h.spares };
        same = by_test heard_here refl;
      }
        where
          heard_here : Bool
          heard_here = list_any (λ mid. message_id packet == mid) (lc_mids images r.state)

          later : Bool → Effort
          later b = if b then effort_by effort packet r.state else effort

          v : World Image
          v = lc_on w spares r

          n : Numbers Image
          n = numbers_of images schedule effort v

          step : LcStep Image History Past
          step = lc_packet by_lists images packet r.state

          t : Sent Image
          t = all_delivered moment step.1 (lc_on w spares (record r { state = step.0 }))

          at : (k : ℕ) × Stands LimitChecker k order
          at = stands LimitChecker order (h.placed LimitChecker)

          who : (b : Bool) → list_any (λ mid. message_id packet == mid) (lc_mids images r.state) ≡ b → (other : App) → heard packet (subscriptions_in images schedule n other) ≡ (let yes : Bool = holds LimitChecker (Some other) in if yes then b else false)
          who b e LimitChecker = heard_by_all packet (lc_mids images (lc_now images r.state)) ∙ e
          who b e Scheduler = or_false (message_id packet == tick_mid) ∙ not_tick
          who b e Counter = or_false (message_id packet == counter_mid) ∙ not_counter

          who_true : list_any (λ mid. message_id packet == mid) (lc_mids images r.state) ≡ true → (other : App) → heard packet (subscriptions_in images schedule n other) ≡ holds LimitChecker (Some other)
          who_true e LimitChecker = who true e LimitChecker
          who_true e Scheduler = who true e Scheduler
          who_true e Counter = who true e Counter

          who_false : list_any (λ mid. message_id packet == mid) (lc_mids images r.state) ≡ false → (other : App) → IsFalse (heard packet (subscriptions_in images schedule n other))
          who_false e LimitChecker = who false e LimitChecker
          who_false e Scheduler = who false e Scheduler
          who_false e Counter = who false e Counter

          by_test : (b : Bool) → list_any (λ mid. message_id packet == mid) (lc_mids images r.state) ≡ b →
              passed_on images moment packet (kept images schedule effort stock order v) ≡ (kept images schedule (later b) stock order t.0, t.1)
          by_test false e = published_none packet stock order n (who_false e) ∙ lc_unheard effort packet w spares r stock order fits e
          by_test true e =
              published_only LimitChecker packet stock order n (who_true e)
              ∙ lc_delivered effort packet [] w spares r stock order at.0 519 at.1 fits
              ∙ ap (λ e. followed (e, t.1) (λ after. drained images moment 519 after)) (no_more LimitChecker stock order (numbers_of images schedule (later true) t.0))
              ∙ ap (λ (s : Written Image). (s.0, t.1 ++ s.1)) (idle images schedule moment 519 stock order (numbers_of images schedule (later true) t.0))
              ∙ ap (λ packets. (kept images schedule (later true) stock order t.0, packets)) (append-nil t.1)
