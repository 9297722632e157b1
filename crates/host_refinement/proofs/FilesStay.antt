-- The stored files stay a map of at most eight names.
use Rattle.std.proofs.Common.{◌≡◌, refl, ap, ap₂, sym, ◌∙◌, subst, ℕ, ◌+◌, ◌<◌, Bool, true, false, ◌&&◌, not, ◌==◌, nat_lt, nat_le, List, [], ◌∷◌, map, length, arith, if◌then◌else◌, Option, Some, None, is_none, Result, Ok, Err, true≢false}
use Rattle.std.specs.Option.{option_map_or}
use Rattle.std.proofs.lemmas.Bool.{leb-false}
use Rattle.lc_model.specs.Name.{Name, is_named, lc_name, sch_name, counter_name, host_name, value_under}
use Rattle.lc_model.specs.Packet.{stream_fault, message_id, event_services_mid, table_services_mid, executive_services_mid, counter_mid}
use Rattle.lc_model.specs.Refusal.{Refusal, ◌>>=◌, found, provided}
use Rattle.lc_model.specs.Tables.Slot.{loaded, moved}
use Rattle.lc_model.specs.Tables.Interpretation.{FileMeaning, Interpretation}
use Rattle.lc_model.specs.Events.Request.{Service, event_services, table_services, executive_services, bad_packet}
use Rattle.lc_model.specs.Events.Log.{Log, joined}
use Rattle.lc_model.specs.Command.{TableCommand, Load, Manage, Order, Start, Stop, Restart, Reload, event_command_in, table_command_in, order_in}
use Rattle.lc_model.specs.LimitChecker.Steps.{by_lists, lc_start, lc_packet}
use Rattle.lc_model.specs.Host.Schedule.{Schedule, entry_packet, slot_number, entries_at}
use Rattle.lc_model.specs.Host.World.{max_files, World, Application, Running, Lc, IsFileMap, logged, changed_at, runs, spares_of, log_of, with_log, begun, become, ended, with_one_spare_less}
use Rattle.lc_model.specs.Host.React.{Input, Packet, Tick, File, Step, max_file_size, stored, filed, answered, event_service, opened_file, slot_of, table_named, left, spare_taken, lc_begun, lc_become, counter_become, counter_packet, to_counter, managed, table_service, started, ordered, executive_service, to_lc, routed, on_packet, on_packets, scheduled, react}
use Rattle.lc_model.proofs.Services.NamedLists.{put_distinct, put_length}
use Rattle.host_refinement.specs.Keeping.{Standing}
use Rattle.host_refinement.specs.Invariants.{FilesStayAMap}
use Rattle.host_refinement.proofs.Deliveries.{all_stand}
use Rattle.host_refinement.proofs.HostRecords.{IfOk}
use Rattle.host_refinement.proofs.Stays.{ok_after}

-- ---- one file more

one_or_other : {A : Type 0} (P : A → Type 0) (test : Bool) (x y : Result A Refusal) → (test ≡ true → IfOk P x) → (test ≡ false → IfOk P y) → IfOk P (if test then x else y)
one_or_other P true x y a b = a refl
one_or_other P false x y a b = b refl

module _ {Image : Type 0} where
  stored_map : (name : Name) (size : ℕ) (meaning : FileMeaning Image) (files : List (Name × FileMeaning Image)) → IsFileMap files → IfOk IsFileMap (stored name size meaning files)
  stored_map name size meaning files is =
      one_or_other IsFileMap (nat_lt max_file_size size) _ _ (λ x. tt)
      (λ short. one_or_other IsFileMap (nat_le max_files (length files) && is_none (value_under name files)) _ _ (λ x. tt)
      (λ room. record { few = put_length name meaning files max_files is.few (there room); names = put_distinct name meaning files is.names }))
    where
      there : (nat_le max_files (length files) && is_none (value_under name files)) ≡ false → is_none (value_under name files) ≡ true → length files < max_files
      there room none = by_test (nat_le max_files (length files)) refl
        where
          by_test : (b : Bool) → nat_le max_files (length files) ≡ b → length files < max_files
          by_test true e = absurd (true≢false (sym (ap₂ (λ x y. x && y) e none) ∙ room))
          by_test false e = omega (arith, leb-false max_files (length files) e)

  -- ---- all but a file leave the files

  abbrev Same : World Image → Step Image → Type 0
  Same w step = step.0.files ≡ w.files

  kept_at : (change : (State : Type 0) → Application State → Application State) (name : Name) (w : World Image) → (changed_at change name w).files ≡ w.files
  kept_at change name w = by_tests (is_named name lc_name) (is_named name sch_name) (is_named name counter_name)
    where
      by_tests : (lc sch counter : Bool) → (let v : World Image = if lc then record w { lc = change (Lc Image) w.lc } else if sch then record w { sch = change ℕ w.sch } else if counter then record w { counter = change ℕ w.counter } else w in v.files) ≡ w.files
      by_tests true sch counter = refl
      by_tests false true counter = refl
      by_tests false false true = refl
      by_tests false false false = refl

  kept_log : (name : Name) (log : Log) (w : World Image) → (with_log name log w).files ≡ w.files
  kept_log name log w = by_test (is_named name host_name)
    where
      by_test : (host : Bool) → (let v : World Image = if host then record w { host = log } else changed_at (λ State app. logged log app) name w in v.files) ≡ w.files
      by_test true = refl
      by_test false = kept_at (λ State app. logged log app) name w

  answered_same : (service : Service) (packet : List ℕ) (w : World Image) (r : Result (Step Image) Refusal) → IfOk (Same w) r → Same w (answered service packet w r)
  answered_same service packet w (Ok step) same = same
  answered_same service packet w (Err refusal) same = refl

  event_same : (packet : List ℕ) (w : World Image) → IfOk (Same w) (event_service packet w)
  event_same packet w =
      ok_after (Same w) (event_command_in packet) _ (λ command.
      ok_after (Same w) (found (log_of w command.0) 101) _ (λ log.
      ok_after (Same w) (joined command.1 log) _ (λ longer. kept_log command.0 longer w)))

module _ {Image : Type 0} where
  left_same : (name : Name) (w : World Image) → (left name w).files ≡ w.files
  left_same name w = kept_at (λ State app. ended app) name w

  spare_same : (name : Name) (w : World Image) → (spare_taken name w).files ≡ w.files
  spare_same name w = kept_at (λ State app. with_one_spare_less app) name w

module _ {Image : Type 0} (images : Interpretation Image) where
  managed_same : (command : TableCommand) (w : World Image) → IfOk (λ (after : World Image). after.files ≡ w.files) (managed images command w)
  managed_same (Load file) w =
      ok_after _ (found (value_under file w.files) 111) _ (λ meaning. ok_after _ (opened_file meaning) _ (λ contents. ok_after _ (table_named contents.0 w) _ (λ table.
      ok_after _ (provided (images.has_size table.0 contents.1) 114 contents.2) _ (λ image. ok_after _ (loaded image (slot_of table.0 table.1)) _ (λ slot. refl)))))
  managed_same (Manage move name) w =
      ok_after _ (table_named name w) _ (λ table. ok_after _ (moved move (slot_of table.0 table.1)) _ (λ slot. refl))

  table_same : (packet : List ℕ) (w : World Image) → IfOk (Same w) (table_service images packet w)
  table_same packet w =
      ok_after (Same w) (table_command_in packet) _ (λ command. by_managed (managed images command w) (managed_same command w))
    where
      by_managed : (r : Result (World Image) Refusal) → IfOk (λ (after : World Image). after.files ≡ w.files) r → IfOk (Same w) (r >>= (λ after. Ok (after, [])))
      by_managed (Ok after) same = same
      by_managed (Err refusal) same = tt

  started_same : (name : Name) (w : World Image) → Same w (started images name w)
  started_same name w = by_tests (is_named name lc_name) (is_named name sch_name) (is_named name counter_name)
    where
      by_tests : (lc sch counter : Bool) →
          (let s : Step Image = if lc then lc_begun w (lc_start by_lists images w.files) else if sch then (record w { sch = begun 0 w.sch }, []) else if counter then (record w { counter = begun 0 w.counter }, []) else (w, []) in s.0.files) ≡ w.files
      by_tests true sch counter = refl
      by_tests false true counter = refl
      by_tests false false true = refl
      by_tests false false false = refl

  ordered_same : (order : Order) (name : Name) (w : World Image) → IfOk (Same w) (ordered images order name w)
  ordered_same Start name w =
      one_or_other (Same w) (runs w name) _ _ (λ x. tt) (λ x. one_or_other (Same w) (spares_of w name == 0) _ _ (λ y. tt) (λ y. started_same name (spare_taken name w) ∙ spare_same name w))
  ordered_same Stop name w = provided_same (runs w name) (left name w, []) (left_same name w)
    where
      provided_same : (test : Bool) (step : Step Image) → Same w step → IfOk (Same w) (provided test 121 step)
      provided_same true step same = same
      provided_same false step same = tt
  ordered_same Restart name w = provided_same (runs w name) (started images name (left name w)) (started_same name (left name w) ∙ left_same name w)
    where
      provided_same : (test : Bool) (step : Step Image) → Same w step → IfOk (Same w) (provided test 121 step)
      provided_same true step same = same
      provided_same false step same = tt
  ordered_same Reload name w =
      one_or_other (Same w) (not (runs w name)) _ _ (λ x. tt) (λ x. one_or_other (Same w) (spares_of w name == 0) _ _ (λ y. tt)
      (λ y. started_same name (spare_taken name (left name w)) ∙ spare_same name (left name w) ∙ left_same name w))

  executive_same : (packet : List ℕ) (w : World Image) → IfOk (Same w) (executive_service images packet w)
  executive_same packet w = ok_after (Same w) (order_in packet) _ (λ command. ordered_same command.0 command.1 w)

  to_lc_same : (packet : List ℕ) (w : World Image) → Same w (to_lc images packet w)
  to_lc_same packet w = by_running w.lc.running
    where
      by_running : (o : Option (Running (Lc Image))) → Same w (option_map_or (λ (lc : Running (Lc Image)). lc_become w (lc_packet by_lists images packet lc.state)) o (w, []))
      by_running None = refl
      by_running (Some r) = refl

  to_counter_same : (packet : List ℕ) (w : World Image) → Same w (to_counter packet w)
  to_counter_same packet w = by_running w.counter.running
    where
      by_running : (o : Option (Running ℕ)) → Same w (option_map_or (λ (counter : Running ℕ). counter_become w (counter_packet packet counter.state)) o (w, []))
      by_running None = refl
      by_running (Some r) = refl

  either_same : (w : World Image) (test : Bool) (s t : Step Image) → Same w s → Same w t → Same w (if test then s else t)
  either_same w true s t x y = x
  either_same w false s t x y = y

  routed_same : (packet : List ℕ) (w : World Image) → Same w (routed images packet w)
  routed_same packet w =
      either_same w (message_id packet == event_services_mid) _ _ (answered_same event_services packet w (event_service packet w) (event_same packet w))
      (either_same w (message_id packet == table_services_mid) _ _ (answered_same table_services packet w (table_service images packet w) (table_same packet w))
      (either_same w (message_id packet == executive_services_mid) _ _ (answered_same executive_services packet w (executive_service images packet w) (executive_same packet w))
      (either_same w (message_id packet == counter_mid) _ _ (to_counter_same packet w) (to_lc_same packet w))))

  on_packet_same : (packet : List ℕ) (w : World Image) → Same w (on_packet images packet w)
  on_packet_same packet w = by_fault (stream_fault packet)
    where
      by_fault : (o : Option ℕ) → Same w (option_map_or (λ reason. (w, bad_packet reason ∷ [])) o (routed images packet w))
      by_fault None = routed_same packet w
      by_fault (Some reason) = refl

  on_packets_same : (packets : List (List ℕ)) (w : World Image) → Same w (on_packets images packets w)
  on_packets_same [] w = refl
  on_packets_same (packet ∷ packets) w = on_packets_same packets (on_packet images packet w).0 ∙ on_packet_same packet w

  react_map : (schedule : Schedule) (input : Input Image) (w : World Image) → IsFileMap w.files → IsFileMap (react images schedule w input).0.files
  react_map schedule (Packet bytes) w is = subst (λ files. IsFileMap files) (sym (on_packet_same bytes w)) is
  react_map schedule Tick w is = by_running w.sch.running
    where
      by_running : (o : Option (Running ℕ)) → IsFileMap (let s : Step Image = option_map_or (λ (sch : Running ℕ). scheduled images schedule sch.state w) o (w, []) in s.0.files)
      by_running None = is
      by_running (Some sch) = subst (λ files. IsFileMap files) (sym (on_packets_same (map entry_packet (entries_at schedule (slot_number schedule sch.state))) (record w { sch = become (sch.state + 1) w.sch }))) is
  react_map schedule (File name size meaning) w is = by_stored (stored name size meaning w.files) (stored_map name size meaning w.files is)
    where
      by_stored : (r : Result (List (Name × FileMeaning Image)) Refusal) → IfOk IsFileMap r → IsFileMap (filed w r).0.files
      by_stored (Ok files) map = map
      by_stored (Err refusal) none = is

  pub files_stay_a_map : FilesStayAMap images
  files_stay_a_map schedule moment input w is =
      let step : Step Image = react images schedule w input in
      subst (λ files. IsFileMap files) (sym (ap (λ (s : Standing Image). s.files) (all_stand moment step.1 step.0))) (react_map schedule input w is)
