-- What is asked of a world stays so by every record.
use Rattle.std.proofs.Common.{◌≡◌, ℕ, Bool, true, false, not, ◌==◌, List, [], ◌∷◌, length, map, refl, ap, sym, ◌∙◌, subst, Option, Some, None, option_map, if◌then◌else◌, Result, Ok, Err, IfSome}
use Rattle.std.specs.Prelude as prelude
use Rattle.std.specs.Option.{option_map_or}
use Rattle.std.specs.List.{AllZip}
use Rattle.lc_model.specs.declared.kind.Kind.{Kind}
use Rattle.lc_model.specs.declared.kind.Kind.TheVariants.{Wdt, Adt}
use Rattle.lc_model.specs.declared.record.Moment.{Moment}
use Rattle.lc_model.specs.Name.{Name, is_named, lc_name, sch_name, counter_name, value_under}
use Rattle.lc_model.specs.Packet.{stream_fault, message_id, event_services_mid, table_services_mid, executive_services_mid, counter_mid}
use Rattle.lc_model.specs.Refusal.{Refusal, ◌>>=◌, refused, found, provided}
use Rattle.lc_model.specs.Tables.Slot.{Slot, loaded, moved}
use Rattle.lc_model.specs.Tables.Interpretation.{FileMeaning, Interpretation, kind_named}
use Rattle.lc_model.specs.LimitChecker.Steps.{by_lists, paired, lc_start}
use Rattle.lc_model.specs.Events.Request.{Service, bad_packet, event_services, table_services, executive_services}
use Rattle.lc_model.specs.Events.Log.{Log, LogItem, joined}
use Rattle.lc_model.specs.Command.{TableCommand, Load, Manage, Order, Start, Stop, Restart, Reload, event_command_in, table_command_in, order_in}
use Rattle.lc_model.specs.Host.Schedule.{Schedule, entry_packet, entries_at, slot_number}
use Rattle.lc_model.specs.Host.World.{World, Running, Lc, become, begun, ended, with_one_spare_less, runs, spares_of, log_of, with_log}
use Rattle.lc_model.specs.Host.React.{Input, Packet, Tick, File, Step, stored, filed, answered, event_service, opened_file, slot_of, with_slot, left, spare_taken, lc_begun, counter_packet, counter_become, to_counter, managed, table_service, started, ordered, executive_service, to_lc, routed, on_packet, on_packets, scheduled, react}
use Rattle.lc_model.specs.Host.Run.{handled}
use Rattle.lc_model.specs.Laws.LimitChecker.{IsSettled}
use Rattle.lc_model.specs.Laws.Correspondence.{BothOrNone, Agrees, SlotAlike, LcAlike, MeaningAlike, WorldAlike}
use Rattle.lc_model.proofs.Host.CorrespondenceLaws.{each_input_keeps}
use Rattle.lc_model.proofs.LimitChecker.StepLaws.{stays_settled, starts_settled}
use Rattle.host_refinement.specs.Keeping.{state_of, Standing, standing_of}
use Rattle.host_refinement.specs.Statements.{IsOne, IsWhole, IsFineInput}
use Rattle.lc_model.proofs.LimitChecker.Slots.{loaded_active, moved_active}
use Rattle.host_refinement.proofs.Deliveries.{log_stands, all_stand}
use Rattle.host_refinement.proofs.HostRecords.{IfOk, either_ok}
use Rattle.host_refinement.proofs.Steps.{by_lc}

pub ok_after : {A B : Type 0} (P : B → Type 0) (r : Result A Refusal) (f : A → Result B Refusal) → ((x : A) → IfOk P (f x)) → IfOk P (r >>= f)
ok_after P (Ok x) f h = h x
ok_after P (Err refusal) f h = tt

module _ {Image : Type 0} (images : Interpretation Image) where
  -- the Limit Checker that may run is settled
  abbrev Settled : World Image → Type 0
  Settled w = IfSome (state_of w.lc) (IsSettled images)

  if_settled : (test : Bool) (x y : World Image) → Settled x → Settled y → Settled (if test then x else y)
  if_settled true x y h k = h
  if_settled false x y h k = k

  step_settled : (test : Bool) (x y : Step Image) → Settled x.0 → Settled y.0 → Settled (let s : Step Image = if test then x else y in s.0)
  step_settled true x y h k = h
  step_settled false x y h k = k

  abbrev Result_settled : Result (Step Image) Refusal → Type 0
  Result_settled = IfOk (λ (step : Step Image). Settled step.0)

  answered_settled : (service : Service) (packet : List ℕ) (w : World Image) (r : Result (Step Image) Refusal) → Settled w → Result_settled r → Settled (answered service packet w r).0
  answered_settled service packet w (Ok step) h k = k
  answered_settled service packet w (Err refusal) h k = h

  log_settled : (name : Name) (log : Log) (w : World Image) → Settled w → Settled (with_log name log w)
  log_settled name log w h = subst (λ (s : Standing Image). IfSome s.lc (IsSettled images)) (sym (log_stands name log w)) h

  event_settled : (packet : List ℕ) (w : World Image) → Settled w → Result_settled (event_service packet w)
  event_settled packet w h =
      let P : Step Image → Type 0 = λ (step : Step Image). Settled step.0 in
      ok_after P (event_command_in packet) _ (λ (command : Name × LogItem).
      ok_after P (found (log_of w command.0) 101) _ (λ (log : Log).
      ok_after P (joined command.1 log) _ (λ (longer : Log). log_settled command.0 longer w h)))

  slot_settled : (kind : Kind) (slot : Slot Image) (lc : Lc Image) → IsSettled images lc → slot.active ≡ (slot_of kind lc).active → IsSettled images (with_slot kind slot lc)
  slot_settled Wdt slot lc h same = h ∙ ap (λ active. length (option_map_or images.rules (paired images active lc.adt.active) [])) (sym same)
  slot_settled Adt slot lc h same = h ∙ ap (λ active. length (option_map_or images.rules (paired images lc.wdt.active active) [])) (sym same)

  managed_settled : (command : TableCommand) (w : World Image) → Settled w → IfOk Settled (managed images command w)
  managed_settled (Manage move name) =
      by_lc (λ w. Settled w → IfOk Settled (managed images (Manage move name) w))
      (λ w spares h. off (record w { lc = record { running = None; spares = spares } }) (kind_named name))
      (λ w spares r h. on w spares r h (kind_named name))
    where
      off : (v : World Image) (o : Option Kind) →
          IfOk Settled ((found o 113 >>= (λ kind. refused 113)) >>= (λ (table : Kind × Lc Image). moved move (slot_of table.0 table.1) >>= (λ slot. Ok (record v { lc = become (with_slot table.0 slot table.1) v.lc }))))
      off v None = tt
      off v (Some kind) = tt

      placed : (w : World Image) (spares : ℕ) (r : Running (Lc Image)) → IsSettled images r.state → (kind : Kind) (q : Result (Slot Image) Refusal) → prelude.IfOk q (λ (after : Slot Image). after.active ≡ (slot_of kind r.state).active) →
          let v : World Image = record w { lc = record { running = Some r; spares = spares } } in
          IfOk Settled (q >>= (λ slot. Ok (record v { lc = become (with_slot kind slot r.state) v.lc })))
      placed w spares r h kind (Ok slot) same = slot_settled kind slot r.state h same
      placed w spares r h kind (Err refusal) same = tt

      on : (w : World Image) (spares : ℕ) (r : Running (Lc Image)) → IsSettled images r.state → (o : Option Kind) →
          let v : World Image = record w { lc = record { running = Some r; spares = spares } } in
          IfOk Settled ((found o 113 >>= (λ kind. Ok (kind, r.state))) >>= (λ (table : Kind × Lc Image). moved move (slot_of table.0 table.1) >>= (λ slot. Ok (record v { lc = become (with_slot table.0 slot table.1) v.lc }))))
      on w spares r h None = tt
      on w spares r h (Some kind) = placed w spares r h kind (moved move (slot_of kind r.state)) (moved_active move (slot_of kind r.state))
  managed_settled (Load file) =
      by_lc (λ w. Settled w → IfOk Settled (managed images (Load file) w))
      (λ w spares h. let v : World Image = record w { lc = record { running = None; spares = spares } } in
      ok_after Settled (found (value_under file w.files) 111) _ (λ (meaning : FileMeaning Image).
      ok_after Settled (opened_file meaning) _ (λ (contents : Name × ℕ × Image). off v contents (kind_named contents.0))))
      (λ w spares r h.
      ok_after Settled (found (value_under file w.files) 111) _ (λ (meaning : FileMeaning Image).
      ok_after Settled (opened_file meaning) _ (λ (contents : Name × ℕ × Image). on w spares r h contents (kind_named contents.0))))
    where
      off : (v : World Image) (contents : Name × ℕ × Image) (o : Option Kind) →
          IfOk Settled ((found o 113 >>= (λ kind. refused 113)) >>= (λ (table : Kind × Lc Image). provided (images.has_size table.0 contents.1) 114 contents.2 >>= (λ image.
          loaded image (slot_of table.0 table.1) >>= (λ slot. Ok (record v { lc = become (with_slot table.0 slot table.1) v.lc })))))
      off v contents None = tt
      off v contents (Some kind) = tt

      placed : (w : World Image) (spares : ℕ) (r : Running (Lc Image)) → IsSettled images r.state → (kind : Kind) (q : Result (Slot Image) Refusal) → prelude.IfOk q (λ (after : Slot Image). after.active ≡ (slot_of kind r.state).active) →
          let v : World Image = record w { lc = record { running = Some r; spares = spares } } in
          IfOk Settled (q >>= (λ slot. Ok (record v { lc = become (with_slot kind slot r.state) v.lc })))
      placed w spares r h kind (Ok slot) same = slot_settled kind slot r.state h same
      placed w spares r h kind (Err refusal) same = tt

      on : (w : World Image) (spares : ℕ) (r : Running (Lc Image)) → IsSettled images r.state → (contents : Name × ℕ × Image) (o : Option Kind) →
          let v : World Image = record w { lc = record { running = Some r; spares = spares } } in
          IfOk Settled ((found o 113 >>= (λ kind. Ok (kind, r.state))) >>= (λ (table : Kind × Lc Image). provided (images.has_size table.0 contents.1) 114 contents.2 >>= (λ image.
          loaded image (slot_of table.0 table.1) >>= (λ slot. Ok (record v { lc = become (with_slot table.0 slot table.1) v.lc })))))
      on w spares r h contents None = tt
      on w spares r h contents (Some kind) =
          ok_after Settled (provided (images.has_size kind contents.1) 114 contents.2) _ (λ (image : Image). placed w spares r h kind (loaded image (slot_of kind r.state)) (loaded_active image (slot_of kind r.state)))

  table_settled : (packet : List ℕ) (w : World Image) → Settled w → Result_settled (table_service images packet w)
  table_settled packet w h =
      ok_after (λ (step : Step Image). Settled step.0) (table_command_in packet) _ (λ (command : TableCommand). told (managed images command w) (managed_settled command w h))
    where
      told : (r : Result (World Image) Refusal) → IfOk Settled r → Result_settled (r >>= (λ after. Ok (after, [])))
      told (Ok after) k = k
      told (Err refusal) k = tt

  left_settled : (name : Name) (w : World Image) → Settled w → Settled (left name w)
  left_settled name w h =
      if_settled (is_named name lc_name) (record w { lc = ended w.lc }) _ tt
      (if_settled (is_named name sch_name) (record w { sch = ended w.sch }) _ h (if_settled (is_named name counter_name) (record w { counter = ended w.counter }) w h h))

  spare_settled : (name : Name) (w : World Image) → Settled w → Settled (spare_taken name w)
  spare_settled name w h =
      if_settled (is_named name lc_name) (record w { lc = with_one_spare_less w.lc }) _ h
      (if_settled (is_named name sch_name) (record w { sch = with_one_spare_less w.sch }) _ h (if_settled (is_named name counter_name) (record w { counter = with_one_spare_less w.counter }) w h h))

  started_settled : (name : Name) (w : World Image) → Settled w → Settled (started images name w).0
  started_settled name w h =
      step_settled (is_named name lc_name) (lc_begun w (lc_start by_lists images w.files)) _ (starts_settled images w.files)
      (step_settled (is_named name sch_name) (record w { sch = begun 0 w.sch }, []) _ h (step_settled (is_named name counter_name) (record w { counter = begun 0 w.counter }, []) (w, []) h h))

  ordered_settled : (o : Order) (name : Name) (w : World Image) → Settled w → Result_settled (ordered images o name w)
  ordered_settled Start name w h =
      let P : Step Image → Type 0 = λ (step : Step Image). Settled step.0 in
      either_ok P (runs w name) (Err _) _ tt (either_ok P (spares_of w name == 0) (Err _) (Ok _) tt (started_settled name (spare_taken name w) (spare_settled name w h)))
  ordered_settled Stop name w h = either_ok (λ (step : Step Image). Settled step.0) (runs w name) (Ok _) (Err _) (left_settled name w h) tt
  ordered_settled Restart name w h = either_ok (λ (step : Step Image). Settled step.0) (runs w name) (Ok _) (Err _) (started_settled name (left name w) (left_settled name w h)) tt
  ordered_settled Reload name w h =
      let P : Step Image → Type 0 = λ (step : Step Image). Settled step.0 in
      either_ok P (not (runs w name)) (Err _) _ tt (either_ok P (spares_of w name == 0) (Err _) (Ok _) tt (started_settled name (spare_taken name (left name w)) (spare_settled name (left name w) (left_settled name w h))))

  executive_settled : (packet : List ℕ) (w : World Image) → Settled w → Result_settled (executive_service images packet w)
  executive_settled packet w h =
      ok_after (λ (step : Step Image). Settled step.0) (order_in packet) _ (λ (command : Order × Name). ordered_settled command.0 command.1 w h)

  counter_settled : (packet : List ℕ) (w : World Image) → Settled w → Settled (to_counter packet w).0
  counter_settled packet w h = by_running w.counter.running
    where
      by_running : (o : Option (Running ℕ)) → Settled (option_map_or (λ (counter : Running ℕ). counter_become w (counter_packet packet counter.state)) o (w, [])).0
      by_running None = h
      by_running (Some r) = h

  lc_settled : (packet : List ℕ) (w : World Image) → Settled w → Settled (to_lc images packet w).0
  lc_settled packet = by_lc (λ w. Settled w → Settled (to_lc images packet w).0) (λ w spares h. tt) (λ w spares r h. stays_settled images packet r.state h)

  packet_settled : (packet : List ℕ) (w : World Image) → Settled w → Settled (on_packet images packet w).0
  packet_settled packet w h = by_fault (stream_fault packet)
    where
      by_fault : (o : Option ℕ) → Settled (option_map_or (λ reason. (w, bad_packet reason ∷ [])) o (routed images packet w)).0
      by_fault (Some reason) = h
      by_fault None =
          step_settled (message_id packet == event_services_mid) _ _ (answered_settled event_services packet w (event_service packet w) h (event_settled packet w h))
          (step_settled (message_id packet == table_services_mid) _ _ (answered_settled table_services packet w (table_service images packet w) h (table_settled packet w h))
          (step_settled (message_id packet == executive_services_mid) _ _ (answered_settled executive_services packet w (executive_service images packet w) h (executive_settled packet w h))
          (step_settled (message_id packet == counter_mid) _ _ (counter_settled packet w h) (lc_settled packet w h))))

  packets_settled : (packets : List (List ℕ)) (w : World Image) → Settled w → Settled (on_packets images packets w).0
  packets_settled [] w h = h
  packets_settled (packet ∷ packets) w h = packets_settled packets (on_packet images packet w).0 (packet_settled packet w h)

  input_settled : (schedule : Schedule) (input : Input Image) (w : World Image) → Settled w → Settled (react images schedule w input).0
  input_settled schedule (Packet bytes) w h = packet_settled bytes w h
  input_settled schedule Tick w h = by_running w.sch.running
    where
      by_running : (o : Option (Running ℕ)) → Settled (option_map_or (λ (sch : Running ℕ). scheduled images schedule sch.state w) o (w, [])).0
      by_running None = h
      by_running (Some sch) = packets_settled (map entry_packet (entries_at schedule (slot_number schedule sch.state))) _ h
  input_settled schedule (File name size meaning) w h = by_store (stored name size meaning w.files)
    where
      by_store : (r : Result (List (Name × FileMeaning Image)) Refusal) → Settled (filed w r).0
      by_store (Ok files) = h
      by_store (Err refusal) = h

-- ---- all of it

module _ {Image : Type 0} (images : Interpretation Image) (IsFine : Image → Type 0) (agree : Agrees (IsOne images IsFine) images images) where
  abbrev LcFine : Lc Image → Type 0
  LcFine lc = SlotAlike (IsOne images IsFine) images images Wdt lc.wdt lc.wdt × SlotAlike (IsOne images IsFine) images images Adt lc.adt lc.adt

  -- by what stands alone
  record Holds (s : Standing Image) : Type 0 where
    files : AllZip (λ (f : Name × FileMeaning Image) (g : Name × FileMeaning Image). (f.0 ≡ g.0) × MeaningAlike (IsOne images IsFine) images images f.1 g.1) s.files s.files
    fine : IfSome s.lc LcFine
    settled : IfSome s.lc (IsSettled images)

  in_states : (P : Lc Image → Type 0) (o : Option (Running (Lc Image))) → IfSome o (λ (r : Running (Lc Image)). P r.state) → IfSome (option_map (λ (r : Running (Lc Image)). r.state) o) P
  in_states P None h = tt
  in_states P (Some r) h = h

  in_running : (P : Lc Image → Type 0) (o : Option (Running (Lc Image))) → IfSome (option_map (λ (r : Running (Lc Image)). r.state) o) P → IfSome o (λ (r : Running (Lc Image)). P r.state)
  in_running P None h = tt
  in_running P (Some r) h = h

  fine_in : (w : World Image) → WorldAlike (IsOne images IsFine) images images w w → IfSome (state_of w.lc) LcFine
  fine_in w h = by_running w.lc.running h.lc
    where
      by_running : (o : Option (Running (Lc Image))) → BothOrNone (LcAlike (IsOne images IsFine) images images) o o → IfSome (option_map (λ (r : Running (Lc Image)). r.state) o) LcFine
      by_running None a = tt
      by_running (Some r) a = (a.wdt, a.adt)

  whole_of : (w : World Image) → Holds (standing_of w) → IsWhole images IsFine w
  whole_of w h = record {
    images_fit = record { files = h.files; host = refl; lc = by_running w.lc.running h.fine; lc_spares = refl; sch = refl; counter = refl; sent = refl };
    settled = in_running (IsSettled images) w.lc.running h.settled;
  }
    where
      by_running : (o : Option (Running (Lc Image))) → IfSome (option_map (λ (r : Running (Lc Image)). r.state) o) LcFine → BothOrNone (LcAlike (IsOne images IsFine) images images) o o
      by_running None a = tt
      by_running (Some r) a = record { mode = refl; wdt = a.0; adt = a.1; watch = refl; points = refl; log = refl }

  pub stays_whole : (schedule : Schedule) (moment : Moment) (w : World Image) (input : Input Image) → IsWhole images IsFine w → IsFineInput images IsFine input →
      IsWhole images IsFine (handled images schedule moment input w).0
  stays_whole schedule moment w input whole fine =
      let step : Step Image = react images schedule w input in
      let alike : WorldAlike (IsOne images IsFine) images images step.0 step.0 = (each_input_keeps (IsOne images IsFine) images images agree schedule w w input input whole.images_fit fine).world in
      whole_of (handled images schedule moment input w).0
      (subst Holds (sym (all_stand moment step.1 step.0)) (record {
        files = alike.files;
        fine = fine_in step.0 alike;
        settled = input_settled images schedule input w (in_states (IsSettled images) w.lc.running whole.settled);
      }))
