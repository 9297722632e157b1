-- A reaction to an input sends nothing itself: its requests are delivered afterwards.
use Rattle.std.proofs.Common.{◌≡◌, ℕ, ◌+◌, Bool, true, false, not, List, [], ◌∷◌, ◌==◌, map, refl, ◌∙◌, subst, Option, Some, None, Result, Ok, Err, if◌then◌else◌, IfOk}
use Rattle.std.specs.Option.{option_map_or}
use Rattle.lc_model.specs.declared.kind.Kind.{Kind}
use Rattle.lc_model.specs.Name.{Name, is_named, lc_name, sch_name, counter_name, value_under}
use Rattle.lc_model.specs.Packet.{stream_fault, message_id, event_services_mid, table_services_mid, executive_services_mid, counter_mid}
use Rattle.lc_model.specs.Refusal.{Refusal, ◌>>=◌, refused, found, provided}
use Rattle.lc_model.specs.Tables.Slot.{Slot, loaded, moved}
use Rattle.lc_model.specs.Tables.Interpretation.{FileMeaning, Interpretation}
use Rattle.lc_model.specs.Events.Request.{Service, event_services, table_services, executive_services, bad_packet}
use Rattle.lc_model.specs.Events.Log.{Log, LogItem, joined}
use Rattle.lc_model.specs.Command.{TableCommand, Load, Manage, Order, Start, Stop, Restart, Reload, event_command_in, table_command_in, order_in}
use Rattle.lc_model.specs.LimitChecker.Steps.{by_lists, lc_packet}
use Rattle.lc_model.specs.Host.Schedule.{Schedule, entry_packet, slot_number, entries_at}
use Rattle.lc_model.specs.Host.World.{World, Running, Lc, log_of, become}
use Rattle.lc_model.specs.Host.React.{Input, Packet, Tick, File, Step, stored, filed, answered, event_service, opened_file, slot_of, table_named, lc_become, counter_become, counter_packet, to_counter, managed, table_service, executive_service, to_lc, routed, on_packet, on_packets, scheduled, react}
use Rattle.lc_model.proofs.Host.SameCoreSteps.{runs_by, spares_by, left_by, taken_by, started_by, ordered_by, by_names}
use Rattle.lc_model.proofs.Events.SendLaws.{log_keeps}

anyhow : {X Y : Type 0} (P : Y → Type 0) (r : Result X Refusal) (f : X → Result Y Refusal) → ((x : X) → IfOk (f x) P) → IfOk (r >>= f) P
anyhow P (Ok x) f each = each x
anyhow P (Err refusal) f each = tt

and_then : {X Y : Type 0} (P : X → Type 0) (Q : Y → Type 0) (r : Result X Refusal) (f : X → Result Y Refusal) → IfOk r P → ((x : X) → P x → IfOk (f x) Q) → IfOk (r >>= f) Q
and_then P Q (Ok x) f h each = each x h
and_then P Q (Err refusal) f h each = tt

branch : {X : Type 0} (P : X → Type 0) (test : Bool) (x y : X) → P x → P y → P (if test then x else y)
branch P true x y at_x at_y = at_x
branch P false x y at_x at_y = at_y

or_refused : {X : Type 0} (P : X → Type 0) (test : Bool) (code : ℕ) (r : Result X Refusal) → IfOk r P → IfOk (if test then refused code else r) P
or_refused P true code r h = tt
or_refused P false code r h = h

if_provided : {X : Type 0} (P : X → Type 0) (test : Bool) (code : ℕ) (x : X) → P x → IfOk (provided test code x) P
if_provided P true code x h = h
if_provided P false code x h = tt

module _ {Image : Type 0} (images : Interpretation Image) where
  -- nothing is sent on the way from one world to another
  abbrev Keeps : World Image → World Image → Type 0
  Keeps w v = v.sent ≡ w.sent

  abbrev StepKeeps : World Image → Step Image → Type 0
  StepKeeps w s = s.0.sent ≡ w.sent

  answered_keeps : (service : Service) (packet : List ℕ) (w : World Image) (r : Result (Step Image) Refusal) → IfOk r (StepKeeps w) → StepKeeps w (answered service packet w r)
  answered_keeps service packet w (Ok s) h = h
  answered_keeps service packet w (Err refusal) h = refl

  events_keep : (packet : List ℕ) (w : World Image) → IfOk (event_service packet w) (StepKeeps w)
  events_keep packet w =
      anyhow (StepKeeps w) (event_command_in packet) _ (λ (command : Name × LogItem).
      anyhow (StepKeeps w) (found (log_of w command.0) 101) _ (λ (log : Log).
      anyhow (StepKeeps w) (joined command.1 log) _ (λ (longer : Log). log_keeps command.0 longer w)))

  managed_keeps : (command : TableCommand) (w : World Image) → IfOk (managed images command w) (Keeps w)
  managed_keeps (Load file) w =
      anyhow (Keeps w) (found (value_under file w.files) 111) _ (λ (meaning : FileMeaning Image).
      anyhow (Keeps w) (opened_file meaning) _ (λ (contents : Name × ℕ × Image).
      anyhow (Keeps w) (table_named contents.0 w) _ (λ (table : Kind × Lc Image).
      anyhow (Keeps w) (provided (images.has_size table.0 contents.1) 114 contents.2) _ (λ (image : Image).
      anyhow (Keeps w) (loaded image (slot_of table.0 table.1)) _ (λ (slot : Slot Image). refl)))))
  managed_keeps (Manage move name) w =
      anyhow (Keeps w) (table_named name w) _ (λ (table : Kind × Lc Image).
      anyhow (Keeps w) (moved move (slot_of table.0 table.1)) _ (λ (slot : Slot Image). refl))

  tables_keep : (packet : List ℕ) (w : World Image) → IfOk (table_service images packet w) (StepKeeps w)
  tables_keep packet w =
      anyhow (StepKeeps w) (table_command_in packet) _ (λ (command : TableCommand).
      and_then (Keeps w) (StepKeeps w) (managed images command w) _ (managed_keeps command w) (λ (v : World Image) (h : Keeps w v). h))

  left_keeps : (a b c : Bool) (w : World Image) → Keeps w (left_by a b c w)
  left_keeps true b c w = refl
  left_keeps false true c w = refl
  left_keeps false false true w = refl
  left_keeps false false false w = refl

  taken_keeps : (a b c : Bool) (w : World Image) → Keeps w (taken_by a b c w)
  taken_keeps true b c w = refl
  taken_keeps false true c w = refl
  taken_keeps false false true w = refl
  taken_keeps false false false w = refl

  started_keeps : (a b c : Bool) (w : World Image) → StepKeeps w (started_by images a b c w)
  started_keeps true b c w = refl
  started_keeps false true c w = refl
  started_keeps false false true w = refl
  started_keeps false false false w = refl

  ordered_keeps : (a b c : Bool) (order : Order) (w : World Image) → IfOk (ordered_by images a b c order w) (StepKeeps w)
  ordered_keeps a b c Start w =
      let now : World Image = taken_by a b c w in
      or_refused (StepKeeps w) (runs_by a b c w) 123 (if spares_by a b c w == 0 then refused 122 else Ok (started_by images a b c now))
      (or_refused (StepKeeps w) (spares_by a b c w == 0) 122 (Ok (started_by images a b c now)) (started_keeps a b c now ∙ taken_keeps a b c w))
  ordered_keeps a b c Stop w = if_provided (StepKeeps w) (runs_by a b c w) 121 (left_by a b c w, []) (left_keeps a b c w)
  ordered_keeps a b c Restart w =
      if_provided (StepKeeps w) (runs_by a b c w) 121 (started_by images a b c (left_by a b c w)) (started_keeps a b c (left_by a b c w) ∙ left_keeps a b c w)
  ordered_keeps a b c Reload w =
      let left : World Image = left_by a b c w in
      let now : World Image = taken_by a b c left in
      or_refused (StepKeeps w) (not (runs_by a b c w)) 121 (if spares_by a b c w == 0 then refused 122 else Ok (started_by images a b c now))
      (or_refused (StepKeeps w) (spares_by a b c w == 0) 122 (Ok (started_by images a b c now)) (started_keeps a b c now ∙ taken_keeps a b c left ∙ left_keeps a b c w))

  executive_keeps : (packet : List ℕ) (w : World Image) → IfOk (executive_service images packet w) (StepKeeps w)
  executive_keeps packet w =
      anyhow (StepKeeps w) (order_in packet) _ (λ (command : Order × Name).
      subst (λ r. IfOk r (StepKeeps w)) (by_names images command.0 command.1 w)
      (ordered_keeps (is_named command.1 lc_name) (is_named command.1 sch_name) (is_named command.1 counter_name) command.0 w))

  counter_keeps : (packet : List ℕ) (w : World Image) → StepKeeps w (to_counter packet w)
  counter_keeps packet w = by_running w.counter.running
    where
      by_running : (o : Option (Running ℕ)) → StepKeeps w (option_map_or (λ (counter : Running ℕ). counter_become w (counter_packet packet counter.state)) o (w, []))
      by_running None = refl
      by_running (Some counter) = refl

  lc_keeps : (packet : List ℕ) (w : World Image) → StepKeeps w (to_lc images packet w)
  lc_keeps packet w = by_running w.lc.running
    where
      by_running : (o : Option (Running (Lc Image))) → StepKeeps w (option_map_or (λ (lc : Running (Lc Image)). lc_become w (lc_packet by_lists images packet lc.state)) o (w, []))
      by_running None = refl
      by_running (Some lc) = refl

  packet_keeps : (packet : List ℕ) (w : World Image) → StepKeeps w (on_packet images packet w)
  packet_keeps packet w = by_fault (stream_fault packet)
    where
      routed_keeps : StepKeeps w (routed images packet w)
      routed_keeps =
          branch (StepKeeps w) (message_id packet == event_services_mid) _ _ (answered_keeps event_services packet w (event_service packet w) (events_keep packet w))
          (branch (StepKeeps w) (message_id packet == table_services_mid) _ _ (answered_keeps table_services packet w (table_service images packet w) (tables_keep packet w))
          (branch (StepKeeps w) (message_id packet == executive_services_mid) _ _ (answered_keeps executive_services packet w (executive_service images packet w) (executive_keeps packet w))
          (branch (StepKeeps w) (message_id packet == counter_mid) _ _ (counter_keeps packet w) (lc_keeps packet w))))

      by_fault : (o : Option ℕ) → StepKeeps w (option_map_or (λ reason. (w, bad_packet reason ∷ [])) o (routed images packet w))
      by_fault None = routed_keeps
      by_fault (Some reason) = refl

  packets_keep : (packets : List (List ℕ)) (w : World Image) → StepKeeps w (on_packets images packets w)
  packets_keep [] w = refl
  packets_keep (packet ∷ packets) w = packets_keep packets (on_packet images packet w).0 ∙ packet_keeps packet w

  pub react_keeps : (schedule : Schedule) (w : World Image) (i : Input Image) → (react images schedule w i).0.sent ≡ w.sent
  react_keeps schedule w (Packet bytes) = packet_keeps bytes w
  react_keeps schedule w Tick = by_running w.sch.running
    where
      by_running : (o : Option (Running ℕ)) → StepKeeps w (option_map_or (λ (sch : Running ℕ). scheduled images schedule sch.state w) o (w, []))
      by_running None = refl
      by_running (Some sch) =
          packets_keep (map entry_packet (entries_at schedule (slot_number schedule sch.state))) (record w { sch = become (sch.state + 1) w.sch })
  react_keeps schedule w (File name size meaning) = by_stored (stored name size meaning w.files)
    where
      by_stored : (r : Result (List (Name × FileMeaning Image)) Refusal) → StepKeeps w (filed w r)
      by_stored (Ok files) = refl
      by_stored (Err refusal) = refl
