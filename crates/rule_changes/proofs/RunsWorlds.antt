-- A host that flies the old text beside one that flies the new one: each record keeps their worlds compared.
use Rattle.std.proofs.Common.{◌≡◌, ℕ, ◌+◌, ◌-◌, Bool, true, false, not, ◌==◌, List, [], ◌∷◌, ◌++◌, map, refl, ap, sym, ◌∙◌, subst, Option, Some, None, option_map, is_some, Result, Ok, Err, IsTrue, true≢false}
use Rattle.std.specs.Prelude.{⊤}
use Rattle.std.specs.Option.{option_map_or}
use Rattle.std.specs.List.{AllByRecursion}
use Rattle.lc_model.specs.Name.{Name, is_named, lc_name, sch_name, counter_name}
use Rattle.lc_model.specs.Packet.{stream_fault, message_id, lc_command_mid, event_services_mid, table_services_mid, executive_services_mid, counter_mid}
use Rattle.lc_model.specs.Refusal.{Refusal, ◌>>=◌, refused}
use Rattle.lc_model.specs.Tables.Interpretation.{FileMeaning, FileMeanings, Pair, Interpretation}
use Rattle.lc_model.specs.Events.Request.{executive_services, bad_packet}
use Rattle.lc_model.specs.Command.{Order, Start, Stop, Restart, Reload, order_in}
use Rattle.lc_model.specs.LimitChecker.Steps.{by_lists, lc_start, lc_packet}
use Rattle.lc_model.specs.Host.Schedule.{Schedule, ScheduleEntry, Sample, Housekeeping, entry_packet, slot_number, entries_at}
use Rattle.lc_model.specs.Host.Stream.{StreamEntry}
use Rattle.lc_model.specs.Host.World.{World, Running, Lc, become, first_world}
use Rattle.lc_model.specs.Host.React.{Input, Packet, Tick, File, Step, on_file, answered, lc_begun, lc_become, ordered, executive_service, to_lc, routed, on_packet, on_packets, scheduled, on_tick, react}
use Rattle.lc_model.specs.Host.Run.{input_of, all_delivered}
use Rattle.lc_model.specs.Laws.Correspondence.{BothOrNone, SoundAlike, Agrees, InputAlike}
use Rattle.lc_model.proofs.Host.TwoReadings.{branch}
use Rattle.lc_model.proofs.Host.SameCore.{Core, core_of, state_in, numbers_in, all_sent}
use Rattle.lc_model.proofs.Host.SameCoreSteps.{Both, events_idle, counter_idle, left_by, taken_by, started_by, ordered_by, by_names, order_idle, answered_idle}
use Rattle.rule_changes.specs.Runs.{requests_from}
use Rattle.rule_changes.proofs.RunsSeats.{fresh_seats}
use Rattle.rule_changes.proofs.RunsComparison.{Comparison, Seats, PaysOver, pays_numbers, numbers-append}
use Rattle.rule_changes.proofs.RunsOneChecker.{shape}
use Rattle.rule_changes.proofs.RunsStations as stations
use Rattle.rule_changes.proofs.RunsLimitChecker as lc
use Rattle.rule_changes.proofs.RunsCores as cores
use Rattle.rule_changes.proofs.RunsCores.{both_if, both_provided, some_state, same_ticks}

module _ {A B : Type 0} (alike : A → B → Type 0) (images : Interpretation A) (others : Interpretation B) (c : Comparison) (agree : Agrees alike (shape images) (shape others)) where
  abbrev Stored : List (Name × FileMeaning A) → List (Name × FileMeaning B) → Type 0
  Stored = cores.Stored alike images others c agree

  abbrev Lcs : ℕ → Lc A → Lc B → Type 0
  Lcs = cores.Lcs alike images others c agree

  abbrev Cores : ℕ → Core A → Core B → Type 0
  Cores = cores.Cores alike images others c agree

  abbrev pub Worlds : ℕ → World A → World B → Type 0
  Worlds d w v = Cores d (core_of w) (core_of v)

  abbrev Steps : ℕ → Step A → Step B → Type 0
  Steps d s t = (e : ℕ) × Worlds e s.0 t.0 × c.Pays d e (numbers_in s.1) (numbers_in t.1)

  at_rest : (d : ℕ) → c.Pays d d [] []
  at_rest = cores.at_rest alike images others c agree

  module _ (kin : (p : Pair A) (q : Pair B) → SoundAlike alike (shape images) (shape others) p q → IsTrue (images.matches p) →
      Seats c 0 (fresh_seats (images.rules p)) (fresh_seats (others.rules q))) where
    -- ---- orders to applications

    lc_running : (d : ℕ) (o : Option (Running (Lc A))) (p : Option (Running (Lc B))) →
        BothOrNone (Lcs d) (option_map (λ (r : Running (Lc A)). r.state) o) (option_map (λ (r : Running (Lc B)). r.state) p) → is_some o ≡ is_some p
    lc_running d None None h = refl
    lc_running d None (Some q) h = absurd h
    lc_running d (Some r) None h = absurd h
    lc_running d (Some r) (Some q) h = refl

    -- a new Limit Checker in both
    lc_anew : (d : ℕ) (w : World A) (v : World B) → Stored w.files v.files → w.lc.spares ≡ v.lc.spares → state_in w.sch ≡ state_in v.sch → w.sch.spares ≡ v.sch.spares →
        Steps d (lc_begun w (lc_start by_lists images w.files)) (lc_begun v (lc_start by_lists others v.files))
    lc_anew d w v files spares sch sch_spares =
        let start = stations.start_beside alike images others c agree kin d w.files v.files files in
        (start.0, record { files = files; lc = start.1; lc_spares = spares; sch = sch; sch_spares = sch_spares }, start.2)

    module _ (d : ℕ) (w : World A) (v : World B) (h : Worlds d w v) where
      lc_runs : is_some w.lc.running ≡ is_some v.lc.running
      lc_runs = lc_running d w.lc.running v.lc.running h.lc

      sch_runs : is_some w.sch.running ≡ is_some v.sch.running
      sch_runs = some_state w.sch.running ∙ ap is_some h.sch ∙ sym (some_state v.sch.running)

      lc_order : (order : Order) (b b' : Bool) → Both (Steps d) (ordered_by images true b b' order w) (ordered_by others true b b' order v)
      lc_order Start b b' =
          both_if (Steps d) (is_some w.lc.running) (is_some v.lc.running) (refused 123) _ (refused 123) _ lc_runs tt
          (both_if (Steps d) (w.lc.spares == 0) (v.lc.spares == 0) (refused 122) _ (refused 122) _ (ap (λ n. n == 0) h.lc_spares) tt
          (lc_anew d (taken_by true b b' w) (taken_by true b b' v) h.files (ap (λ n. n - 1) h.lc_spares) h.sch h.sch_spares))
      lc_order Stop b b' =
          both_provided (Steps d) (is_some w.lc.running) (is_some v.lc.running) 121 (left_by true b b' w, []) (left_by true b b' v, []) lc_runs
          (d, record { files = h.files; lc = tt; lc_spares = h.lc_spares; sch = h.sch; sch_spares = h.sch_spares }, at_rest d)
      lc_order Restart b b' =
          both_provided (Steps d) (is_some w.lc.running) (is_some v.lc.running) 121 (started_by images true b b' (left_by true b b' w)) (started_by others true b b' (left_by true b b' v)) lc_runs
          (lc_anew d (left_by true b b' w) (left_by true b b' v) h.files h.lc_spares h.sch h.sch_spares)
      lc_order Reload b b' =
          both_if (Steps d) (not (is_some w.lc.running)) (not (is_some v.lc.running)) (refused 121) _ (refused 121) _ (ap not lc_runs) tt
          (both_if (Steps d) (w.lc.spares == 0) (v.lc.spares == 0) (refused 122) _ (refused 122) _ (ap (λ n. n == 0) h.lc_spares) tt
          (lc_anew d (taken_by true b b' (left_by true b b' w)) (taken_by true b b' (left_by true b b' v)) h.files (ap (λ n. n - 1) h.lc_spares) h.sch h.sch_spares))

      -- the scheduler anew in both, with so many spares
      sch_order : (order : Order) (b' : Bool) → Both (Steps d) (ordered_by images false true b' order w) (ordered_by others false true b' order v)
      sch_order Start b' =
          both_if (Steps d) (is_some w.sch.running) (is_some v.sch.running) (refused 123) _ (refused 123) _ sch_runs tt
          (both_if (Steps d) (w.sch.spares == 0) (v.sch.spares == 0) (refused 122) _ (refused 122) _ (ap (λ n. n == 0) h.sch_spares) tt
          (d, record { files = h.files; lc = h.lc; lc_spares = h.lc_spares; sch = refl; sch_spares = ap (λ n. n - 1) h.sch_spares }, at_rest d))
      sch_order Stop b' =
          both_provided (Steps d) (is_some w.sch.running) (is_some v.sch.running) 121 (left_by false true b' w, []) (left_by false true b' v, []) sch_runs
          (d, record { files = h.files; lc = h.lc; lc_spares = h.lc_spares; sch = refl; sch_spares = h.sch_spares }, at_rest d)
      sch_order Restart b' =
          both_provided (Steps d) (is_some w.sch.running) (is_some v.sch.running) 121 (started_by images false true b' (left_by false true b' w))
          (started_by others false true b' (left_by false true b' v)) sch_runs
          (d, record { files = h.files; lc = h.lc; lc_spares = h.lc_spares; sch = refl; sch_spares = h.sch_spares }, at_rest d)
      sch_order Reload b' =
          both_if (Steps d) (not (is_some w.sch.running)) (not (is_some v.sch.running)) (refused 121) _ (refused 121) _ (ap not sch_runs) tt
          (both_if (Steps d) (w.sch.spares == 0) (v.sch.spares == 0) (refused 122) _ (refused 122) _ (ap (λ n. n == 0) h.sch_spares) tt
          (d, record { files = h.files; lc = h.lc; lc_spares = h.lc_spares; sch = refl; sch_spares = ap (λ n. n - 1) h.sch_spares }, at_rest d))

      order_beside : (packet : List ℕ) (order : Order) (name : Name) →
          Steps d (answered executive_services packet w (ordered images order name w)) (answered executive_services packet v (ordered others order name v))
      order_beside packet order name =
          subst (λ r. Steps d (answered executive_services packet w r) (answered executive_services packet v (ordered others order name v))) (by_names images order name w)
          (subst (λ r. Steps d (answered executive_services packet w (ordered_by images (is_named name lc_name) (is_named name sch_name) (is_named name counter_name) order w))
          (answered executive_services packet v r)) (by_names others order name v)
          (by_tests (is_named name lc_name) (is_named name sch_name) (is_named name counter_name)))
        where
          by_tests : (x y z : Bool) → Steps d (answered executive_services packet w (ordered_by images x y z order w)) (answered executive_services packet v (ordered_by others x y z order v))
          by_tests true y z =
              cores.answered_beside alike images others c agree d executive_services packet w v (ordered_by images true y z order w) (ordered_by others true y z order v) h (lc_order order y z)
          by_tests false true z =
              cores.answered_beside alike images others c agree d executive_services packet w v (ordered_by images false true z order w) (ordered_by others false true z order v) h (sch_order order z)
          by_tests false false z =
              cores.both_idle alike images others c agree d w v _ _ h (answered_idle executive_services packet w (ordered_by images false false z order w) (order_idle images z order w))
              (answered_idle executive_services packet v (ordered_by others false false z order v) (order_idle others z order v))

      executive_beside : (packet : List ℕ) →
          Steps d (answered executive_services packet w (executive_service images packet w)) (answered executive_services packet v (executive_service others packet v))
      executive_beside packet = by_command (order_in packet)
        where
          by_command : (r : Result (Order × Name) Refusal) →
              Steps d (answered executive_services packet w (r >>= (λ command. ordered images command.0 command.1 w)))
              (answered executive_services packet v (r >>= (λ command. ordered others command.0 command.1 v)))
          by_command (Err refusal) = (d, h, at_rest d)
          by_command (Ok command) = order_beside packet command.0 command.1

      -- ---- packets

      lc_beside : (packet : List ℕ) → lc.IsFairPacket alike images others c agree kin packet → Steps d (to_lc images packet w) (to_lc others packet v)
      lc_beside packet fair = by_running w.lc.running v.lc.running (cores.running_beside alike images others c agree d w.lc.running v.lc.running h.lc)
        where
          goes : (r : Running (Lc A)) (q : Running (Lc B)) → Lcs d r.state q.state →
              Steps d (lc_become w (lc_packet by_lists images packet r.state)) (lc_become v (lc_packet by_lists others packet q.state))
          goes r q same =
              let step = lc.packet_beside alike images others c agree kin packet fair d r.state q.state same in
              (step.0, cores.world_become alike images others c agree d step.0 (lc_packet by_lists images packet r.state).0 (lc_packet by_lists others packet q.state).0 w v step.1 h, step.2)

          by_running : (o : Option (Running (Lc A))) (p : Option (Running (Lc B))) → BothOrNone (λ (r : Running (Lc A)) (q : Running (Lc B)). Lcs d r.state q.state) o p →
              Steps d (option_map_or (λ (lc : Running (Lc A)). lc_become w (lc_packet by_lists images packet lc.state)) o (w, []))
              (option_map_or (λ (lc : Running (Lc B)). lc_become v (lc_packet by_lists others packet lc.state)) p (v, []))
          by_running None None e = (d, h, at_rest d)
          by_running None (Some q) e = absurd e
          by_running (Some r) None e = absurd e
          by_running (Some r) (Some q) e = goes r q e

      routed_beside : (packet : List ℕ) → lc.IsFairPacket alike images others c agree kin packet → Steps d (routed images packet w) (routed others packet v)
      routed_beside packet fair =
          let mid : ℕ = message_id packet in
          branch (Steps d) (mid == event_services_mid) _ _ _ _ (cores.both_idle alike images others c agree d w v _ _ h (events_idle packet w) (events_idle packet v))
          (branch (Steps d) (mid == table_services_mid) _ _ _ _ (cores.tables_beside alike images others c agree d w v h packet)
          (branch (Steps d) (mid == executive_services_mid) _ _ _ _ (executive_beside packet)
          (branch (Steps d) (mid == counter_mid) _ _ _ _ (cores.both_idle alike images others c agree d w v _ _ h (counter_idle packet w) (counter_idle packet v)) (lc_beside packet fair))))

      packet_beside : (packet : List ℕ) → lc.IsFairPacket alike images others c agree kin packet → Steps d (on_packet images packet w) (on_packet others packet v)
      packet_beside packet fair = by_fault (stream_fault packet)
        where
          by_fault : (o : Option ℕ) →
              Steps d (option_map_or (λ reason. (w, bad_packet reason ∷ [])) o (routed images packet w)) (option_map_or (λ reason. (v, bad_packet reason ∷ [])) o (routed others packet v))
          by_fault (Some reason) = (d, h, at_rest d)
          by_fault None = routed_beside packet fair

    abbrev AreFair : List (List ℕ) → Type 0
    AreFair packets = AllByRecursion (λ packet. lc.IsFairPacket alike images others c agree kin packet) packets

    packets_beside : (d : ℕ) (packets : List (List ℕ)) → AreFair packets → (w : World A) (v : World B) → Worlds d w v → Steps d (on_packets images packets w) (on_packets others packets v)
    packets_beside d [] fair w v h = (d, h, at_rest d)
    packets_beside d (packet ∷ packets) fair w v h =
        let first = packet_beside d w v h packet fair.0 in
        let s : Step A = on_packet images packet w in
        let t : Step B = on_packet others packet v in
        let rest = packets_beside first.0 packets fair.1 s.0 t.0 first.1 in
        let s' : Step A = on_packets images packets s.0 in
        let t' : Step B = on_packets others packets t.0 in (
          rest.0,
          rest.1,
          pays_numbers c d rest.0 (numbers_in s.1 ++ numbers_in s'.1) (numbers_in (s.1 ++ s'.1)) (numbers_in t.1 ++ numbers_in t'.1) (numbers_in (t.1 ++ t'.1))
              (numbers-append s.1 s'.1) (numbers-append t.1 t'.1)
              (c.after d first.0 rest.0 (numbers_in s.1) (numbers_in t.1) (numbers_in s'.1) (numbers_in t'.1) first.2 rest.2),
        )

    -- ---- any input

    entry_fair : (entry : ScheduleEntry) → lc.IsFairPacket alike images others c agree kin (entry_packet entry)
    entry_fair (Sample first last ages) mid number m is is' = absurd (true≢false (sym (ap (λ n. n == lc_command_mid) mid)))
    entry_fair Housekeeping mid number m is is' = absurd (true≢false (sym (ap (λ n. n == lc_command_mid) mid)))

    entries_fair : (entries : List ScheduleEntry) → AreFair (map entry_packet entries)
    entries_fair [] = tt
    entries_fair (entry ∷ entries) = (entry_fair entry, entries_fair entries)

    module _ (schedule : Schedule) where
      tick_beside : (d : ℕ) (w : World A) (v : World B) → Worlds d w v → Steps d (on_tick images schedule w) (on_tick others schedule v)
      tick_beside d w v h = by_running w.sch.running v.sch.running h.sch
        where
          goes : (n m : ℕ) → n ≡ m → Steps d (scheduled images schedule n w) (scheduled others schedule m v)
          goes n m e =
              let packets : List (List ℕ) = map entry_packet (entries_at schedule (slot_number schedule n)) in
              subst (λ packets'. Steps d (scheduled images schedule n w) (on_packets others packets' (record v { sch = become (m + 1) v.sch })))
              (ap (λ k. map entry_packet (entries_at schedule (slot_number schedule k))) e)
              (packets_beside d packets (entries_fair (entries_at schedule (slot_number schedule n))) (record w { sch = become (n + 1) w.sch }) (record v { sch = become (m + 1) v.sch })
              (record {
                files = h.files;
                lc = h.lc;
                lc_spares = h.lc_spares;
                sch = same_ticks (n + 1) (m + 1) (ap (λ k. k + 1) e) w.sch.running v.sch.running h.sch;
                sch_spares = h.sch_spares;
              }))

          by_running : (o p : Option (Running ℕ)) → option_map (λ (r : Running ℕ). r.state) o ≡ option_map (λ (r : Running ℕ). r.state) p →
              Steps d (option_map_or (λ (sch : Running ℕ). scheduled images schedule sch.state w) o (w, []))
              (option_map_or (λ (sch : Running ℕ). scheduled others schedule sch.state v) p (v, []))
          by_running None None e = (d, h, at_rest d)
          by_running None (Some q) e = absurd (cc e)
          by_running (Some r) None e = absurd (cc e)
          by_running (Some r) (Some q) e = goes r.state q.state (cc e)

      -- a packet of the input is fair
      abbrev pub IsFairInput : Input A → Type 0
      IsFairInput (Packet bytes) = lc.IsFairPacket alike images others c agree kin bytes
      IsFairInput other = ⊤

      react_beside : (d : ℕ) (w : World A) (v : World B) (i : Input A) (j : Input B) → Worlds d w v → InputAlike alike (shape images) (shape others) i j → IsFairInput i →
          Steps d (react images schedule w i) (react others schedule v j)
      react_beside d w v (Packet bytes) (Packet other) h e fair =
          subst (λ packet. Steps d (on_packet images bytes w) (on_packet others packet v)) e (packet_beside d w v h bytes fair)
      react_beside d w v (Packet bytes) Tick h e fair = absurd e
      react_beside d w v (Packet bytes) (File name size meaning) h e fair = absurd e
      react_beside d w v Tick (Packet bytes) h e fair = absurd e
      react_beside d w v Tick Tick h e fair = tick_beside d w v h
      react_beside d w v Tick (File name size meaning) h e fair = absurd e
      react_beside d w v (File name size meaning) (Packet bytes) h e fair = absurd e
      react_beside d w v (File name size meaning) Tick h e fair = absurd e
      react_beside d w v (File name size meaning) (File name' size' meaning') h e fair =
          let same : on_file name size meaning' v ≡ on_file name' size' meaning' v = λ i. on_file (e.0 i) (e.1 i) meaning' v in
          subst (λ step. Steps d (on_file name size meaning w) step) same (cores.file_beside alike images others c agree d name size meaning meaning' w v e.2 h)

      -- ---- all records

      -- both inputs of a record are alike, and fair
      abbrev pub ComesAlike : FileMeanings A → FileMeanings B → StreamEntry → Type 0
      ComesAlike meanings theirs entry =
          InputAlike alike (shape images) (shape others) (input_of meanings entry.contents) (input_of theirs entry.contents) × IsFairInput (input_of meanings entry.contents)

      pub records_beside : (meanings : FileMeanings A) (theirs : FileMeanings B) (entries : List StreamEntry) → AllByRecursion (ComesAlike meanings theirs) entries →
          (d : ℕ) (w : World A) (v : World B) → Worlds d w v →
          PaysOver c d (requests_from images schedule w meanings entries) (requests_from others schedule v theirs entries)
      records_beside meanings theirs [] come d w v h = tt
      records_beside meanings theirs (entry ∷ entries) come d w v h =
          let s : Step A = react images schedule w (input_of meanings entry.contents) in
          let t : Step B = react others schedule v (input_of theirs entry.contents) in
          let first = react_beside d w v (input_of meanings entry.contents) (input_of theirs entry.contents) h come.0.0 come.0.1 in
          let sent = all_sent entry.moment s.1 s.0 in
          let sent' = all_sent entry.moment t.1 t.0 in
          let s' : World A = (all_delivered entry.moment s.1 s.0).0 in
          let t' : World B = (all_delivered entry.moment t.1 t.0).0 in (
            first.0,
            first.2,
            records_beside meanings theirs entries come.1 first.0 s' t'
                (subst (λ x. Cores first.0 x (core_of t')) (sym sent.core) (subst (λ y. Cores first.0 (core_of s.0) y) (sym sent'.core) first.1)),
          )

  pub first_beside : (stock : List Name) → Worlds 0 (first_world stock) (first_world stock)
  first_beside stock = record { files = tt; lc = tt; lc_spares = refl; sch = refl; sch_spares = refl }
