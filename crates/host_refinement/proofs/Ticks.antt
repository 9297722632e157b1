-- A tick: the scheduler publishes, and the Limit Checker has one packet after the other.
use Rattle.std.proofs.Common.{◌≡◌, ℕ, zero, suc, ◌+◌, ◌≤◌, Bool, true, false, ◌||◌, ◌==◌, List, [], ◌∷◌, ◌++◌, map, length, slice_index_or, refl, ap, sym, ◌∙◌, subst, arith, Option, Some, None, is_some, if◌then◌else◌, IsFalse, IsTrue, IfSome, true≢false}
use Rattle.std.specs.Option.{option_map_or}
use Rattle.std.specs.List.{list_any, AllByRecursion}
use Rattle.std.proofs.lemmas.List.{append-nil, append_assoc, length-map}
use Rattle.lc_model.specs.declared.record.Moment.{Moment}
use Rattle.lc_model.specs.Name.{is_named, host_name, lc_name, sch_name, counter_name}
use Rattle.lc_model.specs.Packet.{event_mid, tick_mid, counter_mid, message_id, stream_fault, event_services_mid, table_services_mid, executive_services_mid}
use Rattle.lc_model.specs.Tables.Interpretation.{Interpretation}
use Rattle.lc_model.specs.Events.Request as asked
use Rattle.lc_model.specs.Events.Request.{Request, Event, Sequence, bad_packet, event_services, table_services, executive_services}
use Rattle.lc_model.specs.Events.Log.{Log, Requested, chosen}
use Rattle.lc_model.specs.Events.Outgoing.{event_packet}
use Rattle.lc_model.specs.LimitChecker.Watch.{History}
use Rattle.lc_model.specs.LimitChecker.Past.{Past}
use Rattle.lc_model.specs.LimitChecker.Steps.{LcStep, by_lists, lc_mids, lc_packet}
use Rattle.lc_model.specs.Host.Schedule.{Schedule, ScheduleEntry, Sample, Housekeeping, entry_packet, slot_number, entries_at}
use Rattle.lc_model.specs.Host.World.{World, Running, Lc, logged, become, log_of, sequence_count}
use Rattle.lc_model.specs.Host.React.{Step, answered, event_service, table_service, executive_service, to_counter, routed, on_packet, on_packets, to_lc, on_tick}
use Rattle.lc_model.specs.Host.Run.{Sent, sent, event_sent, delivered, all_delivered}
use Rattle.lc_model.specs.Kept.Effort.{Effort}
use Rattle.lc_model.specs.Kept.Summary.{LcNow, lc_now}
use Rattle.lc_model.specs.Kept.Call.{sch_told, lc_subscriptions}
use Rattle.lc_model.specs.Kept.Executive.{Member, Written, all_published_to, followed, drained, most_deliveries, passed_on, tick_packet}
use Rattle.lc_model.proofs.Events.SendLaws.{same_tick}
use Rattle.lc_model.proofs.Facts.{some_same}
use Rattle.host_refinement.specs.Keeping.{App, LimitChecker, Scheduler, Counter, holds, no_packets, pipe_with, state_of, Standing, standing_of, Numbers, numbers_of, subscriptions_in, executive_of, IsSeated}
use Rattle.host_refinement.proofs.Deliveries.{all_stand}
use Rattle.host_refinement.proofs.Places.{Stands, stands}
use Rattle.host_refinement.proofs.Seats.{sch_agree, lc_on, lc_off, sch_on, sch_off}
use Rattle.host_refinement.proofs.Queues.{only, heard, published_alike, heard_by_all, idle, delivery}
use Rattle.host_refinement.proofs.Steps.{by_lc, by_sch, kept, StepKept, delivered_in_parts}
use Rattle.host_refinement.proofs.PacketRecords.{effort_by, LcFits, Fits, published_only, nobody, no_more, deaf_in, lc_delivered}

-- ---- sending and the Limit Checker's steps do not touch one another

-- the world with the running Limit Checker in this state
abbrev pub put_lc : {Image : Type 0} → Lc Image → World Image → World Image
put_lc lc w = record w { lc = become lc w.lc }

module _ {Image : Type 0} where
  one_commutes : (moment : Moment) (request : Request) (lc : Lc Image) (w : World Image) →
      delivered moment request (put_lc lc w) ≡ (put_lc lc (delivered moment request w).0, (delivered moment request w).1)
  one_commutes moment (Sequence number) lc w = refl
  one_commutes moment (asked.Housekeeping mode points) lc w = refl
  one_commutes moment (Event sender id kind text) lc w =
      by_lc (λ w. delivered moment (Event sender id kind text) (put_lc lc w) ≡ (put_lc lc (delivered moment (Event sender id kind text) w).0, (delivered moment (Event sender id kind text) w).1))
      (λ w spares. by_log (record w { lc = record { running = None; spares = spares } }) (log_of (record w { lc = record { running = None; spares = spares } }) sender) (off w spares))
      (λ w spares r. by_log (record w { lc = record { running = Some r; spares = spares } }) (log_of (record w { lc = record { running = Some r; spares = spares } }) sender) (on w spares r)) w
    where
      packet : List (List ℕ) → List ℕ
      packet before = event_packet (sequence_count event_mid before) moment sender id kind text

      with_tests : Bool → Bool → Bool → Bool → Log → World Image → World Image
      with_tests a b c d log w = if a then record w { host = log } else if b then record w { lc = logged log w.lc } else if c then record w { sch = logged log w.sch }
          else if d then record w { counter = logged log w.counter } else w

      by_log : (w : World Image) (o : Option Log) → ((log : Log) → event_sent moment sender id kind text log (put_lc lc w) ≡ (put_lc lc (event_sent moment sender id kind text log w).0, (event_sent moment sender id kind text log w).1)) →
          option_map_or (λ log. event_sent moment sender id kind text log (put_lc lc w)) o (put_lc lc w, [])
          ≡ (let d : Sent Image = option_map_or (λ log. event_sent moment sender id kind text log w) o (w, []) in (put_lc lc d.0, d.1))
      by_log w None each = refl
      by_log w (Some log) each = each log

      tested : (v u : World Image) (p : List ℕ) (test : Bool) → v ≡ put_lc lc u →
          (let s : Sent Image = if test then sent p v else (v, []) in s) ≡ (let s : Sent Image = if test then sent p u else (u, []) in (put_lc lc s.0, s.1))
      tested v u p true e = ap (sent p) e
      tested v u p false e = ap (λ v. (v, [])) e

      off_tests : (w : World Image) (spares : ℕ) (log : Log) (a b c d : Bool) →
          with_tests a b c d log (put_lc lc (record w { lc = record { running = None; spares = spares } })) ≡ put_lc lc (with_tests a b c d log (record w { lc = record { running = None; spares = spares } }))
      off_tests w spares log true b c d = refl
      off_tests w spares log false true c d = refl
      off_tests w spares log false false true d = refl
      off_tests w spares log false false false true = refl
      off_tests w spares log false false false false = refl

      on_tests : (w : World Image) (spares : ℕ) (r : Running (Lc Image)) (log : Log) (a b c d : Bool) →
          with_tests a b c d log (put_lc lc (record w { lc = record { running = Some r; spares = spares } })) ≡ put_lc lc (with_tests a b c d log (record w { lc = record { running = Some r; spares = spares } }))
      on_tests w spares r log true b c d = refl
      on_tests w spares r log false true c d = refl
      on_tests w spares r log false false true d = refl
      on_tests w spares r log false false false true = refl
      on_tests w spares r log false false false false = refl

      off : (w : World Image) (spares : ℕ) (log : Log) →
          let v : World Image = record w { lc = record { running = None; spares = spares } } in
          event_sent moment sender id kind text log (put_lc lc v) ≡ (put_lc lc (event_sent moment sender id kind text log v).0, (event_sent moment sender id kind text log v).1)
      off w spares log =
          tested _ _ (packet w.sent) (chosen id kind log) (off_tests w spares (Requested id kind ∷ log) (is_named sender host_name) (is_named sender lc_name) (is_named sender sch_name) (is_named sender counter_name))

      on : (w : World Image) (spares : ℕ) (r : Running (Lc Image)) (log : Log) →
          let v : World Image = record w { lc = record { running = Some r; spares = spares } } in
          event_sent moment sender id kind text log (put_lc lc v) ≡ (put_lc lc (event_sent moment sender id kind text log v).0, (event_sent moment sender id kind text log v).1)
      on w spares r log =
          tested _ _ (packet w.sent) (chosen id kind log) (on_tests w spares r (Requested id kind ∷ log) (is_named sender host_name) (is_named sender lc_name) (is_named sender sch_name) (is_named sender counter_name))

  pub all_commute : (moment : Moment) (requests : List Request) (lc : Lc Image) (w : World Image) →
      all_delivered moment requests (put_lc lc w) ≡ (put_lc lc (all_delivered moment requests w).0, (all_delivered moment requests w).1)
  all_commute moment [] lc w = refl
  all_commute moment (request ∷ requests) lc w =
      let first : Sent Image = delivered moment request w in
      ap (λ (d : Sent Image). let others : Sent Image = all_delivered moment requests d.0 in (others.0, d.1 ++ others.1)) (one_commutes moment request lc w)
      ∙ ap (λ (others : Sent Image). (others.0, first.1 ++ others.1)) (all_commute moment requests lc first.0)

  put_twice : (lc other : Lc Image) (w : World Image) → put_lc lc (put_lc other w) ≡ put_lc lc w
  put_twice lc other = by_lc (λ w. put_lc lc (put_lc other w) ≡ put_lc lc w) (λ w spares. refl) (λ w spares r. refl)

module _ {Image : Type 0} (images : Interpretation Image) where
  -- packets for the Limit Checker, one after the other
  pub lc_packets : List (List ℕ) → Lc Image → LcStep Image History Past
  lc_packets [] lc = (lc, [])
  lc_packets (packet ∷ packets) lc =
      let first : LcStep Image History Past = lc_packet by_lists images packet lc in
      let others : LcStep Image History Past = lc_packets packets first.0 in
      (others.0, first.1 ++ others.1)

  -- a packet that goes to it alone
  pub record IsForLc (packet : List ℕ) : Type 0 where
    pub good : stream_fault packet ≡ None
    pub event : IsFalse (message_id packet == event_services_mid)
    pub table : IsFalse (message_id packet == table_services_mid)
    pub executive : IsFalse (message_id packet == executive_services_mid)
    pub counter : IsFalse (message_id packet == counter_mid)
    pub tick : IsFalse (message_id packet == tick_mid)
    pub heard : (more : List ℕ) → IsTrue (list_any (λ mid. message_id packet == mid) (0x18A4 ∷ 0x18A5 ∷ 0x18A6 ∷ more))

  pub entry_for_lc : (entry : ScheduleEntry) → IsForLc (entry_packet entry)
  entry_for_lc Housekeeping = record { good = refl; event = refl; table = refl; executive = refl; counter = refl; tick = refl; heard = λ more. refl }
  entry_for_lc (Sample first last true) = record { good = refl; event = refl; table = refl; executive = refl; counter = refl; tick = refl; heard = λ more. refl }
  entry_for_lc (Sample first last false) = record { good = refl; event = refl; table = refl; executive = refl; counter = refl; tick = refl; heard = λ more. refl }

  for_lc_routed : (packet : List ℕ) (w : World Image) → IsForLc packet → on_packet images packet w ≡ to_lc images packet w
  for_lc_routed packet w f = ap (λ (o : Option ℕ). option_map_or (λ reason. (w, bad_packet reason ∷ [])) o (routed images packet w)) f.good
      ∙ (λ i. if f.event i then answered event_services packet w (event_service packet w)
      else if f.table i then answered table_services packet w (table_service images packet w)
      else if f.executive i then answered executive_services packet w (executive_service images packet w)
      else if f.counter i then to_counter packet w
      else to_lc images packet w)

  packets_on : (schedule : Schedule) (packets : List (List ℕ)) → AllByRecursion IsForLc packets → (w : World Image) (spares : ℕ) (r : Running (Lc Image)) →
      on_packets images packets (lc_on w spares r) ≡ (lc_on w spares (record r { state = (lc_packets packets r.state).0 }), (lc_packets packets r.state).1)
  unfolding lc_packets
  packets_on schedule [] all w spares r = refl
  packets_on schedule (packet ∷ packets) all w spares r =
      let first : LcStep Image History Past = lc_packet by_lists images packet r.state in
      ap (λ (s : Step Image). let others : Step Image = on_packets images packets s.0 in (others.0, s.1 ++ others.1)) (for_lc_routed packet (lc_on w spares r) all.0)
      ∙ ap (λ (others : Step Image). (others.0, first.1 ++ others.1)) (packets_on schedule packets all.1 w spares (record r { state = first.0 }))

  packets_off : (schedule : Schedule) (packets : List (List ℕ)) → AllByRecursion IsForLc packets → (w : World Image) (spares : ℕ) →
      on_packets images packets (lc_off w spares) ≡ (let s : Step Image = (lc_off w spares, []) in s)
  packets_off schedule [] all w spares = refl
  packets_off schedule (packet ∷ packets) all w spares =
      ap (λ (s : Step Image). let others : Step Image = on_packets images packets s.0 in (others.0, s.1 ++ others.1)) (for_lc_routed packet (lc_off w spares) all.0)
      ∙ packets_off schedule packets all.1 w spares

  entries_for_lc : (entries : List ScheduleEntry) → AllByRecursion IsForLc (map entry_packet entries)
  entries_for_lc [] = tt
  entries_for_lc (entry ∷ entries) = (entry_for_lc entry, entries_for_lc entries)

-- ---- the Limit Checker's packets are delivered

state_put : {Image : Type 0} (w : World Image) (lc x : Lc Image) → state_of w.lc ≡ Some lc → state_of (put_lc x w).lc ≡ Some x
state_put w lc x = by_lc (λ w. state_of w.lc ≡ Some lc → state_of (put_lc x w).lc ≡ Some x)
    (λ w spares e. absurd (true≢false (sym (ap is_some e)))) (λ w spares r e. refl) w

put_own : {Image : Type 0} (w : World Image) (lc : Lc Image) → state_of w.lc ≡ Some lc → w ≡ put_lc lc w
put_own w lc = by_lc (λ w. state_of w.lc ≡ Some lc → w ≡ put_lc lc w)
    (λ w spares e. absurd (true≢false (sym (ap is_some e))))
    (λ w spares r e i. record w { lc = record { running = Some (record r { state = some_same r.state lc e i }); spares = spares } }) w

module _ {Image : Type 0} (images : Interpretation Image) (schedule : Schedule) (moment : Moment) (Good : Lc Image → Type 0)
    (fits : (lc : Lc Image) → Good lc → LcFits images schedule moment lc) (keeps : (packet : List ℕ) (lc : Lc Image) → Good lc → Good (lc_packet by_lists images packet lc).0)
    (stock : List Member) (order : List (Option App)) (k : ℕ) (at : Stands LimitChecker k order) where
  first_drained : (effort : Effort) (packet : List ℕ) (rest : List (List ℕ)) (most : ℕ) (w : World Image) (lc : Lc Image) → state_of w.lc ≡ Some lc → Good lc →
      let s : LcStep Image History Past = lc_packet by_lists images packet lc in
      let d : Sent Image = all_delivered moment s.1 (put_lc s.0 w) in
      drained images moment (suc most) (executive_of images schedule stock order (only LimitChecker (packet ∷ rest)) (numbers_of images schedule effort w))
      ≡ followed (executive_of images schedule stock order (only LimitChecker rest) (numbers_of images schedule (effort_by images schedule moment effort packet lc) d.0), d.1) (λ after. drained images moment most after)
  first_drained effort packet rest most w lc is good =
      by_lc (λ w. state_of w.lc ≡ Some lc → Drains w lc) (λ w spares e. absurd (true≢false (sym (ap is_some e))))
      (λ w spares r e. subst (Drains (lc_on w spares r)) (some_same r.state lc e)
      (lc_delivered images schedule moment effort packet rest w spares r stock order k most at (fits r.state (subst Good (sym (some_same r.state lc e)) good)))) w is
    where
      Drains : World Image → Lc Image → Type 0
      Drains w lc =
          let s : LcStep Image History Past = lc_packet by_lists images packet lc in
          let d : Sent Image = all_delivered moment s.1 (put_lc s.0 w) in
          drained images moment (suc most) (executive_of images schedule stock order (only LimitChecker (packet ∷ rest)) (numbers_of images schedule effort w))
          ≡ followed (executive_of images schedule stock order (only LimitChecker rest) (numbers_of images schedule (effort_by images schedule moment effort packet lc) d.0), d.1) (λ after. drained images moment most after)

  -- all packets of the Limit Checker are delivered, whatever its effort becomes
  pub AllDrained : (effort : Effort) (packets : List (List ℕ)) (most : ℕ) (w : World Image) (lc : Lc Image) → Type 0
  AllDrained effort packets most w lc =
      let f : LcStep Image History Past = lc_packets images packets lc in
      let d : Sent Image = all_delivered moment f.1 (put_lc f.0 w) in
      (later : Effort)
      × (drained images moment most (executive_of images schedule stock order (only LimitChecker packets) (numbers_of images schedule effort w)) ≡ (kept images schedule later stock order d.0, d.1))

  pub all_drained : (effort : Effort) (packets : List (List ℕ)) (most : ℕ) (w : World Image) (lc : Lc Image) → length packets ≤ most → state_of w.lc ≡ Some lc → Good lc →
      AllDrained effort packets most w lc
  unfolding lc_packets AllDrained
  all_drained effort [] most w lc less is good = (
    effort,
    ap (drained images moment most) (no_more images schedule moment LimitChecker stock order (numbers_of images schedule effort w))
        ∙ idle images schedule moment most stock order (numbers_of images schedule effort w)
        ∙ ap (λ w. (kept images schedule effort stock order w, [])) (put_own w lc is),
  )
  all_drained effort (packet ∷ packets) zero w lc less is good = absurd (let none : ⊥ = omega arith in none)
  all_drained effort (packet ∷ packets) (suc most) w lc less is good =
      let s : LcStep Image History Past = lc_packet by_lists images packet lc in
      let d : Sent Image = all_delivered moment s.1 (put_lc s.0 w) in
      let o : LcStep Image History Past = lc_packets images packets s.0 in
      let x : Sent Image = all_delivered moment s.1 w in
      let others = all_drained (effort_by images schedule moment effort packet lc) packets most d.0 s.0 (omega arith)
      (ap (λ (st : Standing Image). st.lc) (all_stand moment s.1 (put_lc s.0 w)) ∙ state_put w lc s.0 is) (keeps packet lc good) in
      let joined : Sent Image → Written Image = λ (y : Sent Image). let b : Sent Image = all_delivered moment o.1 y.0 in (kept images schedule others.0 stock order b.0, y.1 ++ b.1) in (
        others.0,
        first_drained effort packet packets most w lc is good
            ∙ ap (λ (y : Written Image). (y.0, d.1 ++ y.1)) others.1
            ∙ ap joined (ap (λ (y : Sent Image). (put_lc o.0 y.0, y.1)) (all_commute moment s.1 s.0 w) ∙ ap (λ u. (u, x.1)) (put_twice o.0 s.0 x.0) ∙ sym (all_commute moment s.1 o.0 w))
            ∙ ap (λ (y : Sent Image). (kept images schedule others.0 stock order y.0, y.1)) (sym (delivered_in_parts moment s.1 o.1 (put_lc o.0 w))),
      )

-- ---- what the scheduler publishes

module _ {Image : Type 0} (images : Interpretation Image) (schedule : Schedule) where
  or_none : (b : Bool) → (b || false) ≡ b
  or_none true = refl
  or_none false = refl

  -- who hears packets that are for the Limit Checker
  all_for_lc : (subscriptions : App → List ℕ) (order : List (Option App)) →
      ((packet : List ℕ) → IsForLc images packet → (other : App) → heard packet (subscriptions other) ≡ holds LimitChecker (Some other)) →
      (waiting packets : List (List ℕ)) → AllByRecursion (IsForLc images) packets →
      all_published_to (map (pipe_with subscriptions (only LimitChecker waiting)) order) packets ≡ map (pipe_with subscriptions (only LimitChecker (waiting ++ packets))) order
  unfolding all_published_to
  all_for_lc subscriptions order who waiting [] all = ap (λ ps. map (pipe_with subscriptions (only LimitChecker ps)) order) (sym (append-nil waiting))
  all_for_lc subscriptions order who waiting (packet ∷ packets) all =
      ap (λ pipes. all_published_to pipes packets) (published_alike subscriptions (only LimitChecker waiting) packet order
      ∙ ap (λ queues. map (pipe_with subscriptions queues) order) (λ i other. (ap (λ (b : Bool). if b then only LimitChecker waiting other ++ packet ∷ [] else only LimitChecker waiting other) (who packet all.0 other) ∙ either (holds LimitChecker (Some other))) i))
      ∙ all_for_lc subscriptions order who (waiting ++ packet ∷ []) packets all.1
      ∙ ap (λ ps. map (pipe_with subscriptions (only LimitChecker ps)) order) (append_assoc waiting (packet ∷ []) packets)
    where
      either : (b : Bool) → (let own : List (List ℕ) = if b then waiting else [] in if b then own ++ packet ∷ [] else own) ≡ (let own : List (List ℕ) = if b then waiting ++ packet ∷ [] else [] in own)
      either true = refl
      either false = refl

  nobody_hears : (subscriptions : App → List ℕ) (order : List (Option App)) →
      ((packet : List ℕ) → IsForLc images packet → (other : App) → IsFalse (heard packet (subscriptions other))) →
      (packets : List (List ℕ)) → AllByRecursion (IsForLc images) packets →
      all_published_to (map (pipe_with subscriptions no_packets) order) packets ≡ map (pipe_with subscriptions no_packets) order
  unfolding all_published_to
  nobody_hears subscriptions order who [] all = refl
  nobody_hears subscriptions order who (packet ∷ packets) all =
      ap (λ pipes. all_published_to pipes packets) (published_alike subscriptions no_packets packet order
      ∙ ap (λ queues. map (pipe_with subscriptions queues) order) (λ i other. if who packet all.0 other i then packet ∷ [] else []))
      ∙ nobody_hears subscriptions order who packets all.1

  lc_hears : (n : Numbers Image) (now : LcNow Image) → n.lc ≡ Some now → (packet : List ℕ) → IsForLc images packet → (other : App) → heard packet (subscriptions_in images schedule n other) ≡ holds LimitChecker (Some other)
  lc_hears n now on packet f LimitChecker = ap (λ (o : Option (LcNow Image)). heard packet (option_map_or (lc_subscriptions images) o [])) on ∙ heard_by_all packet (lc_mids images now) ∙ f.heard _
  lc_hears n now on packet f Scheduler = or_none (message_id packet == tick_mid) ∙ f.tick
  lc_hears n now on packet f Counter = or_none (message_id packet == counter_mid) ∙ f.counter

  none_hears : (n : Numbers Image) → n.lc ≡ None → (packet : List ℕ) → IsForLc images packet → (other : App) → IsFalse (heard packet (subscriptions_in images schedule n other))
  none_hears n off packet f LimitChecker = ap (λ (o : Option (LcNow Image)). heard packet (option_map_or (lc_subscriptions images) o [])) off
  none_hears n off packet f Scheduler = or_none (message_id packet == tick_mid) ∙ f.tick
  none_hears n off packet f Counter = or_none (message_id packet == counter_mid) ∙ f.counter

  some_entries : (xs : Schedule) (i : ℕ) → AllByRecursion (λ (entries : List ScheduleEntry). length entries ≤ 8) xs → length (slice_index_or xs i []) ≤ 8
  some_entries [] i all = omega arith
  some_entries (x ∷ xs) zero all = all.0
  some_entries (x ∷ xs) (suc i) all = some_entries xs i all.1

  module _ (moment : Moment) (effort : Effort) (Good : Lc Image → Type 0)
      (fits : (lc : Lc Image) → Good lc → LcFits images schedule moment lc) (keeps : (packet : List ℕ) (lc : Lc Image) → Good lc → Good (lc_packet by_lists images packet lc).0)
      (stock : List Member) (order : List (Option App)) where
    -- what was published is delivered
    published_drained : (packets : List (List ℕ)) (most : ℕ) → AllByRecursion (IsForLc images) packets → length packets ≤ most → (w : World Image) →
        IsSeated images schedule (standing_of w) stock order → IfSome w.lc.running (λ (r : Running (Lc Image)). Good r.state) →
        StepKept images schedule moment (on_packets images packets w)
        (drained images moment most (record (kept images schedule effort stock order w) { pipes = all_published_to (map (pipe_with (subscriptions_in images schedule (numbers_of images schedule effort w)) no_packets) order) packets }))
    unfolding AllDrained
    published_drained packets most all less =
        by_lc (λ w. IsSeated images schedule (standing_of w) stock order → IfSome w.lc.running (λ (r : Running (Lc Image)). Good r.state) →
        StepKept images schedule moment (on_packets images packets w)
        (drained images moment most (record (kept images schedule effort stock order w) { pipes = all_published_to (map (pipe_with (subscriptions_in images schedule (numbers_of images schedule effort w)) no_packets) order) packets })))
        off on
      where
        nothing : (b : Bool) → [] ≡ (let own : List (List ℕ) = if b then [] else [] in own)
        nothing true = refl
        nothing false = refl

        Drained : World Image → Step Image → Type 0
        Drained w step = StepKept images schedule moment step
            (drained images moment most (record (kept images schedule effort stock order w) { pipes = all_published_to (map (pipe_with (subscriptions_in images schedule (numbers_of images schedule effort w)) no_packets) order) packets }))

        off : (w : World Image) (spares : ℕ) → IsSeated images schedule (standing_of (lc_off w spares)) stock order →
            IfSome (lc_off w spares).lc.running (λ (r : Running (Lc Image)). Good r.state) →
            Drained (lc_off w spares) (on_packets images packets (lc_off w spares))
        off w spares h good =
            subst (Drained (lc_off w spares)) (sym (packets_off images schedule packets all w spares)) (record {
              stock = stock;
              order = order;
              effort = effort;
              seated = h;
              same = ap (λ pipes. drained images moment most (record (kept images schedule effort stock order (lc_off w spares)) { pipes = pipes }))
                  (nobody_hears (subscriptions_in images schedule (numbers_of images schedule effort (lc_off w spares))) order (none_hears (numbers_of images schedule effort (lc_off w spares)) refl) packets all)
                  ∙ idle images schedule moment most stock order (numbers_of images schedule effort (lc_off w spares));
            })

        on : (w : World Image) (spares : ℕ) (r : Running (Lc Image)) → IsSeated images schedule (standing_of (lc_on w spares r)) stock order → Good r.state →
            Drained (lc_on w spares r) (on_packets images packets (lc_on w spares r))
        on w spares r h good =
            let v : World Image = lc_on w spares r in
            let n : Numbers Image = numbers_of images schedule effort v in
            let seat = stands LimitChecker order (h.placed LimitChecker) in
            let all_of = all_drained images schedule moment Good fits keeps stock order seat.0 seat.1 effort packets most v r.state less refl good in
            subst (Drained v) (sym (packets_on images schedule packets all w spares r)) (record {
              stock = stock;
              order = order;
              effort = all_of.0;
              seated = record { eight = h.eight; placed = h.placed; profile = h.profile; spares = h.spares };
              same = ap (λ pipes. drained images moment most (record (kept images schedule effort stock order v) { pipes = pipes }))
                  (ap (λ queues. all_published_to (map (pipe_with (subscriptions_in images schedule n) queues) order) packets) (λ i other. nothing (holds LimitChecker (Some other)) i)
                  ∙ all_for_lc (subscriptions_in images schedule n) order (lc_hears n (lc_now images r.state) refl) [] packets all)
                  ∙ all_of.1;
            })

    -- a tick
    pub tick_kept : (w : World Image) → AllByRecursion (λ (entries : List ScheduleEntry). length entries ≤ 8) schedule →
        IsSeated images schedule (standing_of w) stock order → IfSome w.lc.running (λ (r : Running (Lc Image)). Good r.state) → Fits images schedule moment w →
        StepKept images schedule moment (on_tick images schedule w) (passed_on images moment tick_packet (kept images schedule effort stock order w))
    unfolding all_published_to
    tick_kept w short =
        by_sch (λ w. IsSeated images schedule (standing_of w) stock order → IfSome w.lc.running (λ (r : Running (Lc Image)). Good r.state) → Fits images schedule moment w →
        StepKept images schedule moment (on_tick images schedule w) (passed_on images moment tick_packet (kept images schedule effort stock order w)))
        off on w
      where
        nothing : (b : Bool) → (let own : List (List ℕ) = if b then [] else [] in own) ≡ []
        nothing true = refl
        nothing false = refl

        fewer : (n m : ℕ) → n ≡ m → m ≤ 8 → n ≤ 519
        fewer n m e less = omega arith

        who : (w : World Image) → Fits images schedule moment w → (other : App) → heard tick_packet (subscriptions_in images schedule (numbers_of images schedule effort w) other) ≡ holds Scheduler (Some other)
        who w fits LimitChecker = deaf_in images schedule moment effort tick_packet tick_mid refl refl refl w fits
        who w fits Scheduler = refl
        who w fits Counter = refl

        off : (w : World Image) (spares : ℕ) → IsSeated images schedule (standing_of (sch_off w spares)) stock order → IfSome w.lc.running (λ (r : Running (Lc Image)). Good r.state) → Fits images schedule moment (sch_off w spares) →
            StepKept images schedule moment (sch_off w spares, []) (passed_on images moment tick_packet (kept images schedule effort stock order (sch_off w spares)))
        off w spares h good fit =
            let v : World Image = sch_off w spares in
            let n : Numbers Image = numbers_of images schedule effort v in
            record {
              stock = stock;
              order = order;
              effort = effort;
              seated = h;
              same = published_only images schedule moment Scheduler tick_packet stock order n (who v fit)
                  ∙ ap (drained images moment most_deliveries) (nobody images schedule moment Scheduler (tick_packet ∷ []) stock order n (h.placed Scheduler))
                  ∙ idle images schedule moment most_deliveries stock order n;
            }

        on : (w : World Image) (spares : ℕ) (r : Running ℕ) → IsSeated images schedule (standing_of (sch_on w spares r)) stock order → IfSome w.lc.running (λ (r : Running (Lc Image)). Good r.state) → Fits images schedule moment (sch_on w spares r) →
            StepKept images schedule moment (on_tick images schedule (sch_on w spares r)) (passed_on images moment tick_packet (kept images schedule effort stock order (sch_on w spares r)))
        on w spares r h good fit =
            let v : World Image = sch_on w spares r in
            let u : World Image = sch_on w spares (record r { state = r.state + 1 }) in
            let n : Numbers Image = numbers_of images schedule effort v in
            let m : Numbers Image = numbers_of images schedule effort u in
            let seat = stands Scheduler order (h.placed Scheduler) in
            let entries : List ScheduleEntry = entries_at schedule (slot_number schedule r.state) in
            let packets : List (List ℕ) = map entry_packet entries in
            let few : length packets ≤ 519 = fewer (length packets) (length entries) (length-map entries entry_packet) (some_entries schedule (slot_number schedule r.state) short) in
            subst (StepKept images schedule moment (on_packets images packets u))
            (sym (published_only images schedule moment Scheduler tick_packet stock order n (who v fit)
            ∙ delivery images schedule moment Scheduler seat.0 519 tick_packet [] stock order n m [] packets seat.1 (sch_agree images schedule n m refl refl refl)
            (ap (λ (tick : ℕ × List (List ℕ)). Some (sch_told tick schedule n.services)) (same_tick schedule r.state))
            ∙ ap (λ queues. drained images moment 519 (record (kept images schedule effort stock order u) { pipes = all_published_to (map (pipe_with (subscriptions_in images schedule m) queues) order) packets }))
            (λ i other. nothing (holds Scheduler (Some other)) i)))
            (published_drained packets 519 (entries_for_lc images entries) few u
            (record { eight = h.eight; placed = h.placed; profile = h.profile; spares = h.spares }) good)
