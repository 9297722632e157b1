-- Any input keeps alike worlds alike, and requests the same sequences in both.
use Rattle.std.proofs.Common.{◌≡◌, ℕ, ◌+◌, ◌-◌, Bool, true, false, List, [], ◌∷◌, ◌==◌, map, refl, sym, ◌∙◌, subst, Option, Some, None, Result, Ok, Err, if◌then◌else◌}
use Rattle.std.specs.Option.{option_map, option_map_or}
use Rattle.lc_model.specs.declared.kind.Kind.{Kind}
use Rattle.lc_model.specs.Name.{Name, is_named, lc_name, sch_name, counter_name, value_under}
use Rattle.lc_model.specs.Packet.{stream_fault, message_id, event_services_mid, table_services_mid, executive_services_mid, counter_mid}
use Rattle.lc_model.specs.Refusal.{Refusal, ◌>>=◌, refused, found, provided}
use Rattle.lc_model.specs.Tables.Slot.{Slot, loaded, moved}
use Rattle.lc_model.specs.Tables.Interpretation.{FileMeaning, Interpretation}
use Rattle.lc_model.specs.Events.Request.{table_services, executive_services, bad_packet}
use Rattle.lc_model.specs.Events.Log.{Log}
use Rattle.lc_model.specs.Command.{TableCommand, Load, Manage, Order, Start, Stop, Restart, Reload, table_command_in, order_in}
use Rattle.lc_model.specs.LimitChecker.Steps.{by_lists, lc_start, lc_packet}
use Rattle.lc_model.specs.Host.Schedule.{Schedule, entry_packet, slot_number, entries_at}
use Rattle.lc_model.specs.Host.World.{World, Running, Application, Lc}
use Rattle.lc_model.specs.Host.React.{Input, Packet, Tick, File, Step, stored, filed, on_file, answered, opened_file, slot_of, with_slot, table_named, managed, table_service, ordered, executive_service, to_lc, routed, on_packet, on_packets, on_tick, react}
use Rattle.lc_model.proofs.Host.SameCore.{Core, core_of, sequences_in, SameCore}
use Rattle.lc_model.proofs.Host.SameCoreSteps.{SameStep, Both, both_after, both_then, numbers-same, both_idle, answered_same, answered_idle, events_idle, counter_idle, left_by, taken_by, started_by, ordered_by, by_names, order_idle}

-- ---- a world by its parts

-- what sequence requests don't depend on
record Rest : Type 0 where
  host : Log
  lc_log : Log
  sch_log : Log
  counter : Application ℕ
  sent : List (List ℕ)

abbrev running_in : {State : Type 0} → Log → Option State → Option (Running State)
running_in {State} log o = option_map (λ (s : State). let r : Running State = record { state = s; log = log } in r) o

abbrev at : {Image : Type 0} → Core Image → Rest → World Image
at core rest = record {
  files = core.files;
  host = rest.host;
  lc = record { running = running_in rest.lc_log core.lc; spares = core.lc_spares };
  sch = record { running = running_in rest.sch_log core.sch; spares = core.sch_spares };
  counter = rest.counter;
  sent = rest.sent;
}

abbrev log_or_none : {State : Type 0} → Option (Running State) → Log
log_or_none {State} o = option_map_or (λ (r : Running State). r.log) o []

abbrev rest_of : {Image : Type 0} → World Image → Rest
rest_of w = record { host = w.host; lc_log = log_or_none w.lc.running; sch_log = log_or_none w.sch.running; counter = w.counter; sent = w.sent }

same_running : {State : Type 0} (o : Option (Running State)) → running_in (log_or_none o) (option_map (λ (r : Running State). r.state) o) ≡ o
same_running None = refl
same_running (Some r) = refl

same_state : {State : Type 0} (log : Log) (o : Option State) → option_map (λ (r : Running State). r.state) (running_in log o) ≡ o
same_state log None = refl
same_state log (Some s) = refl

put_together : {Image : Type 0} (w : World Image) → at (core_of w) (rest_of w) ≡ w
put_together w i = record {
  files = w.files;
  host = w.host;
  lc = record { running = same_running w.lc.running i; spares = w.lc.spares };
  sch = record { running = same_running w.sch.running i; spares = w.sch.spares };
  counter = w.counter;
  sent = w.sent;
}

core_at : {Image : Type 0} (core : Core Image) (rest : Rest) → core_of (at core rest) ≡ core
core_at core rest i = record {
  files = core.files;
  lc = same_state rest.lc_log core.lc i;
  lc_spares = core.lc_spares;
  sch = same_state rest.sch_log core.sch i;
  sch_spares = core.sch_spares;
}

-- as many sequence requests were sent in both
SameSent : Rest → Rest → Type 0
SameSent r q = sequences_in r.sent ≡ sequences_in q.sent

alike_at : {Image : Type 0} (core : Core Image) (r q : Rest) → SameSent r q → SameCore (at core r) (at core q)
unfolding SameSent
alike_at core r q same = record { core = core_at core r ∙ sym (core_at core q); count = same }

-- what holds of all worlds with one core holds of all that are alike
by_parts : {Image : Type 0} (P : World Image → World Image → Type 0) →
    ((core : Core Image) (r q : Rest) → SameSent r q → P (at core r) (at core q)) → (w v : World Image) → SameCore w v → P w v
unfolding SameSent
by_parts {Image} P holds w v alike =
    subst (λ (y : World Image). P w y) (put_together v)
    (subst (λ (core : Core Image). P w (at core (rest_of v))) alike.core
    (subst (λ (x : World Image). P x (at (core_of w) (rest_of v))) (put_together w) (holds (core_of w) (rest_of w) (rest_of v) alike.count)))

-- ---- what meets the Limit Checker

module _ {Image : Type 0} (images : Interpretation Image) where
  lc_at : (packet : List ℕ) (core : Core Image) (r q : Rest) → SameSent r q → SameStep (to_lc images packet (at core r)) (to_lc images packet (at core q))
  lc_at packet core r q same = by_state core.lc
    where
      by_state : (lc : Option (Lc Image)) →
          SameStep (to_lc images packet (at (record core { lc = lc }) r)) (to_lc images packet (at (record core { lc = lc }) q))
      by_state None = record { alike = alike_at (record core { lc = None }) r q same; numbers = refl }
      by_state (Some lc) = record { alike = alike_at (record core { lc = Some (lc_packet by_lists images packet lc).0 }) r q same; numbers = refl }

  -- ---- files

  file_at : (name : Name) (size : ℕ) (meaning : FileMeaning Image) (core : Core Image) (r q : Rest) → SameSent r q →
      SameStep (on_file name size meaning (at core r)) (on_file name size meaning (at core q))
  file_at name size meaning core r q same = by_files (stored name size meaning core.files)
    where
      by_files : (f : Result (List (Name × FileMeaning Image)) Refusal) → SameStep (filed (at core r) f) (filed (at core q) f)
      by_files (Ok files) = record { alike = alike_at (record core { files = files }) r q same; numbers = refl }
      by_files (Err refusal) = record { alike = alike_at core r q same; numbers = refl }

  -- ---- tables

  managed_at : (command : TableCommand) (core : Core Image) (r q : Rest) → SameSent r q →
      Both SameCore (managed images command (at core r)) (managed images command (at core q))
  managed_at command core r q same = by_state core.lc command
    where
      by_state : (lc : Option (Lc Image)) (command : TableCommand) →
          Both SameCore (managed images command (at (record core { lc = lc }) r)) (managed images command (at (record core { lc = lc }) q))
      by_state None (Load file) =
          both_after SameCore (found (value_under file core.files) 111) _ _ (λ (meaning : FileMeaning Image).
          both_after SameCore (opened_file meaning) _ _ (λ (contents : Name × ℕ × Image).
          both_after SameCore (table_named contents.0 (at (record core { lc = None }) r)) _ _ (λ (table : Kind × Lc Image).
          both_after SameCore (provided (images.has_size table.0 contents.1) 114 contents.2) _ _ (λ (image : Image).
          both_after SameCore (loaded image (slot_of table.0 table.1)) _ _ (λ (slot : Slot Image).
          alike_at (record core { lc = None }) r q same)))))
      by_state (Some lc) (Load file) =
          both_after SameCore (found (value_under file core.files) 111) _ _ (λ (meaning : FileMeaning Image).
          both_after SameCore (opened_file meaning) _ _ (λ (contents : Name × ℕ × Image).
          both_after SameCore (table_named contents.0 (at (record core { lc = Some lc }) r)) _ _ (λ (table : Kind × Lc Image).
          both_after SameCore (provided (images.has_size table.0 contents.1) 114 contents.2) _ _ (λ (image : Image).
          both_after SameCore (loaded image (slot_of table.0 table.1)) _ _ (λ (slot : Slot Image).
          alike_at (record core { lc = Some (with_slot table.0 slot table.1) }) r q same)))))
      by_state None (Manage move name) =
          both_after SameCore (table_named name (at (record core { lc = None }) r)) _ _ (λ (table : Kind × Lc Image).
          both_after SameCore (moved move (slot_of table.0 table.1)) _ _ (λ (slot : Slot Image).
          alike_at (record core { lc = None }) r q same))
      by_state (Some lc) (Manage move name) =
          both_after SameCore (table_named name (at (record core { lc = Some lc }) r)) _ _ (λ (table : Kind × Lc Image).
          both_after SameCore (moved move (slot_of table.0 table.1)) _ _ (λ (slot : Slot Image).
          alike_at (record core { lc = Some (with_slot table.0 slot table.1) }) r q same))

  tables_at : (packet : List ℕ) (core : Core Image) (r q : Rest) → SameSent r q →
      SameStep (answered table_services packet (at core r) (table_service images packet (at core r)))
      (answered table_services packet (at core q) (table_service images packet (at core q)))
  tables_at packet core r q same =
      answered_same table_services packet (at core r) (at core q) (table_service images packet (at core r)) (table_service images packet (at core q))
      (alike_at core r q same)
      (both_after SameStep (table_command_in packet) _ _ (λ (command : TableCommand).
      both_then SameCore SameStep (managed images command (at core r)) (managed images command (at core q)) _ _ (managed_at command core r q same)
      (λ (w : World Image) (v : World Image) (alike : SameCore w v). record { alike = alike; numbers = refl })))

  -- ---- orders to applications

  both_unless : (test : Bool) (code : ℕ) (s t : Result (Step Image) Refusal) → Both SameStep s t → Both SameStep (if test then refused code else s) (if test then refused code else t)
  both_unless true code s t same = tt
  both_unless false code s t same = same

  -- a new Limit Checker is alike whatever the old one logged
  lc_anew : (spares : ℕ) (core : Core Image) (r q : Rest) → SameSent r q →
      SameCore (at (record core { lc = Some (lc_start by_lists images core.files).0; lc_spares = spares }) (record r { lc_log = [] }))
      (at (record core { lc = Some (lc_start by_lists images core.files).0; lc_spares = spares }) (record q { lc_log = [] }))
  unfolding SameSent
  lc_anew spares core r q same =
      alike_at (record core { lc = Some (lc_start by_lists images core.files).0; lc_spares = spares }) (record r { lc_log = [] }) (record q { lc_log = [] }) same

  sch_anew : (spares : ℕ) (core : Core Image) (r q : Rest) → SameSent r q →
      SameCore (at (record core { sch = Some 0; sch_spares = spares }) (record r { sch_log = [] }))
      (at (record core { sch = Some 0; sch_spares = spares }) (record q { sch_log = [] }))
  unfolding SameSent
  sch_anew spares core r q same = alike_at (record core { sch = Some 0; sch_spares = spares }) (record r { sch_log = [] }) (record q { sch_log = [] }) same

  lc_order : (b c : Bool) (order : Order) (core : Core Image) (r q : Rest) → SameSent r q →
      Both SameStep (ordered_by images true b c order (at core r)) (ordered_by images true b c order (at core q))
  lc_order b c order core r q same = by_state core.lc order
    where
      by_state : (lc : Option (Lc Image)) (order : Order) →
          Both SameStep (ordered_by images true b c order (at (record core { lc = lc }) r)) (ordered_by images true b c order (at (record core { lc = lc }) q))
      by_state None Start =
          both_unless (core.lc_spares == 0) 122 (Ok (started_by images true b c (taken_by true b c (at (record core { lc = None }) r))))
          (Ok (started_by images true b c (taken_by true b c (at (record core { lc = None }) q))))
          (record { alike = lc_anew (core.lc_spares - 1) core r q same; numbers = refl })
      by_state (Some lc) Start = tt
      by_state None Stop = tt
      by_state (Some lc) Stop = record { alike = alike_at (record core { lc = None }) r q same; numbers = refl }
      by_state None Restart = tt
      by_state (Some lc) Restart = record { alike = lc_anew core.lc_spares core r q same; numbers = refl }
      by_state None Reload = tt
      by_state (Some lc) Reload =
          both_unless (core.lc_spares == 0) 122 (Ok (started_by images true b c (taken_by true b c (left_by true b c (at (record core { lc = Some lc }) r)))))
          (Ok (started_by images true b c (taken_by true b c (left_by true b c (at (record core { lc = Some lc }) q)))))
          (record { alike = lc_anew (core.lc_spares - 1) core r q same; numbers = refl })

  sch_order : (c : Bool) (order : Order) (core : Core Image) (r q : Rest) → SameSent r q →
      Both SameStep (ordered_by images false true c order (at core r)) (ordered_by images false true c order (at core q))
  sch_order c order core r q same = by_state core.sch order
    where
      by_state : (sch : Option ℕ) (order : Order) →
          Both SameStep (ordered_by images false true c order (at (record core { sch = sch }) r)) (ordered_by images false true c order (at (record core { sch = sch }) q))
      by_state None Start =
          both_unless (core.sch_spares == 0) 122 (Ok (started_by images false true c (taken_by false true c (at (record core { sch = None }) r))))
          (Ok (started_by images false true c (taken_by false true c (at (record core { sch = None }) q))))
          (record { alike = sch_anew (core.sch_spares - 1) core r q same; numbers = refl })
      by_state (Some n) Start = tt
      by_state None Stop = tt
      by_state (Some n) Stop = record { alike = alike_at (record core { sch = None }) r q same; numbers = refl }
      by_state None Restart = tt
      by_state (Some n) Restart = record { alike = sch_anew core.sch_spares core r q same; numbers = refl }
      by_state None Reload = tt
      by_state (Some n) Reload =
          both_unless (core.sch_spares == 0) 122 (Ok (started_by images false true c (taken_by false true c (left_by false true c (at (record core { sch = Some n }) r)))))
          (Ok (started_by images false true c (taken_by false true c (left_by false true c (at (record core { sch = Some n }) q)))))
          (record { alike = sch_anew (core.sch_spares - 1) core r q same; numbers = refl })

  executive_at : (packet : List ℕ) (core : Core Image) (r q : Rest) → SameSent r q →
      SameStep (answered executive_services packet (at core r) (executive_service images packet (at core r)))
      (answered executive_services packet (at core q) (executive_service images packet (at core q)))
  executive_at packet core r q same = by_command (order_in packet)
    where
      by_tests : (a b c : Bool) (order : Order) →
          SameStep (answered executive_services packet (at core r) (ordered_by images a b c order (at core r)))
          (answered executive_services packet (at core q) (ordered_by images a b c order (at core q)))
      by_tests true b c order =
          answered_same executive_services packet (at core r) (at core q) (ordered_by images true b c order (at core r)) (ordered_by images true b c order (at core q))
          (alike_at core r q same) (lc_order b c order core r q same)
      by_tests false true c order =
          answered_same executive_services packet (at core r) (at core q) (ordered_by images false true c order (at core r)) (ordered_by images false true c order (at core q))
          (alike_at core r q same) (sch_order c order core r q same)
      by_tests false false c order =
          both_idle (at core r) (at core q) _ _ (alike_at core r q same)
          (answered_idle executive_services packet (at core r) (ordered_by images false false c order (at core r)) (order_idle images c order (at core r)))
          (answered_idle executive_services packet (at core q) (ordered_by images false false c order (at core q)) (order_idle images c order (at core q)))

      by_command : (command : Result (Order × Name) Refusal) →
          SameStep (answered executive_services packet (at core r) (command >>= (λ (order : Order × Name). ordered images order.0 order.1 (at core r))))
          (answered executive_services packet (at core q) (command >>= (λ (order : Order × Name). ordered images order.0 order.1 (at core q))))
      by_command (Err refusal) = record { alike = alike_at core r q same; numbers = refl }
      by_command (Ok order) =
          let a : Bool = is_named order.1 lc_name in
          let b : Bool = is_named order.1 sch_name in
          let c : Bool = is_named order.1 counter_name in
          subst (λ (s : Result (Step Image) Refusal). SameStep (answered executive_services packet (at core r) s)
          (answered executive_services packet (at core q) (ordered images order.0 order.1 (at core q)))) (by_names images order.0 order.1 (at core r))
          (subst (λ (t : Result (Step Image) Refusal). SameStep (answered executive_services packet (at core r) (ordered_by images a b c order.0 (at core r)))
          (answered executive_services packet (at core q) t)) (by_names images order.0 order.1 (at core q)) (by_tests a b c order.0))

  -- ---- packets

  branches : (test : Bool) (s t s' t' : Step Image) → SameStep s s' → SameStep t t' → SameStep (if test then s else t) (if test then s' else t')
  branches true s t s' t' at_true at_false = at_true
  branches false s t s' t' at_true at_false = at_false

  routed_same : (packet : List ℕ) (w v : World Image) → SameCore w v → SameStep (routed images packet w) (routed images packet v)
  routed_same packet w v alike =
      let mid : ℕ = message_id packet in
      branches (mid == event_services_mid) _ _ _ _ (both_idle w v _ _ alike (events_idle packet w) (events_idle packet v))
      (branches (mid == table_services_mid) _ _ _ _
      (by_parts (λ (x : World Image) (y : World Image). SameStep (answered table_services packet x (table_service images packet x)) (answered table_services packet y (table_service images packet y)))
      (tables_at packet) w v alike)
      (branches (mid == executive_services_mid) _ _ _ _
      (by_parts (λ (x : World Image) (y : World Image). SameStep (answered executive_services packet x (executive_service images packet x)) (answered executive_services packet y (executive_service images packet y)))
      (executive_at packet) w v alike)
      (branches (mid == counter_mid) _ _ _ _ (both_idle w v _ _ alike (counter_idle packet w) (counter_idle packet v))
      (by_parts (λ (x : World Image) (y : World Image). SameStep (to_lc images packet x) (to_lc images packet y)) (lc_at packet) w v alike))))

  packet_same : (packet : List ℕ) (w v : World Image) → SameCore w v → SameStep (on_packet images packet w) (on_packet images packet v)
  packet_same packet w v alike = by_fault (stream_fault packet)
    where
      by_fault : (o : Option ℕ) →
          SameStep (option_map_or (λ reason. (w, bad_packet reason ∷ [])) o (routed images packet w)) (option_map_or (λ reason. (v, bad_packet reason ∷ [])) o (routed images packet v))
      by_fault (Some reason) = record { alike = alike; numbers = refl }
      by_fault None = routed_same packet w v alike

  packets_same : (packets : List (List ℕ)) (w v : World Image) → SameCore w v → SameStep (on_packets images packets w) (on_packets images packets v)
  packets_same [] w v alike = record { alike = alike; numbers = refl }
  packets_same (packet ∷ packets) w v alike =
      let s : Step Image = on_packet images packet w in
      let t : Step Image = on_packet images packet v in
      let first = packet_same packet w v alike in
      let others = packets_same packets s.0 t.0 first.alike in
      record {
        alike = others.alike;
        numbers = numbers-same s.1 (on_packets images packets s.0).1 t.1 (on_packets images packets t.0).1 first.numbers others.numbers;
      }

  -- ---- any input

  module _ (schedule : Schedule) where
    tick_at : (core : Core Image) (r q : Rest) → SameSent r q → SameStep (on_tick images schedule (at core r)) (on_tick images schedule (at core q))
    tick_at core r q same = by_state core.sch
      where
        by_state : (sch : Option ℕ) →
            SameStep (on_tick images schedule (at (record core { sch = sch }) r)) (on_tick images schedule (at (record core { sch = sch }) q))
        by_state None = record { alike = alike_at (record core { sch = None }) r q same; numbers = refl }
        by_state (Some ticks) =
            packets_same (map entry_packet (entries_at schedule (slot_number schedule ticks))) (at (record core { sch = Some (ticks + 1) }) r) (at (record core { sch = Some (ticks + 1) }) q)
            (alike_at (record core { sch = Some (ticks + 1) }) r q same)

    pub same_reaction : (input : Input Image) (w v : World Image) → SameCore w v → SameStep (react images schedule w input) (react images schedule v input)
    same_reaction (Packet bytes) w v alike = packet_same bytes w v alike
    same_reaction Tick w v alike = by_parts (λ (x : World Image) (y : World Image). SameStep (on_tick images schedule x) (on_tick images schedule y)) tick_at w v alike
    same_reaction (File name size meaning) w v alike =
        by_parts (λ (x : World Image) (y : World Image). SameStep (on_file name size meaning x) (on_file name size meaning y)) (file_at name size meaning) w v alike
