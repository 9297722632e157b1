-- Each input keeps two worlds alike, where their images are read alike.
use Rattle.std.proofs.Common.{◌≡◌, ℕ, ◌+◌, Bool, false, not, ◌&&◌, ◌==◌, nat_le, nat_lt, List, [], ◌∷◌, ◌++◌, length, map, refl, ap, ap₂, sym, subst, Option, Some, None, option_map, is_none, is_some, Result, Ok, Err, if◌then◌else◌}
use Rattle.std.specs.List.{AllZip}
use Rattle.std.proofs.lemmas.Slice.Zip.{AllZip-long}
use Rattle.lc_model.specs.declared.kind.Kind.{Kind}
use Rattle.lc_model.specs.declared.kind.Kind.TheVariants.{Wdt, Adt}
use Rattle.lc_model.specs.Name.{Name, is_named, host_name, lc_name, sch_name, counter_name, value_under, put}
use Rattle.lc_model.specs.Packet.{stream_fault, function_code, message_id, event_services_mid, table_services_mid, executive_services_mid, counter_mid}
use Rattle.lc_model.specs.Refusal.{Refusal, ◌>>=◌, refused, found, provided}
use Rattle.lc_model.specs.Tables.Slot.{Slot, Move, loaded, moved}
use Rattle.lc_model.specs.Tables.Interpretation.{FileMeaning, Opened, Unreadable, Interpretation, kind_named}
use Rattle.lc_model.specs.Events.Request.{Service, event_services, table_services, executive_services, command_done, command_refused, bad_packet, file_refused}
use Rattle.lc_model.specs.Events.Log.{Log, joined}
use Rattle.lc_model.specs.Command.{TableCommand, Load, Manage, Order, Start, Stop, Restart, Reload, event_command_in, table_command_in, order_in}
use Rattle.lc_model.specs.LimitChecker.Steps.{by_lists, lc_start, lc_packet}
use Rattle.lc_model.specs.Host.Schedule.{Schedule, entry_packet, slot_number, entries_at}
use Rattle.lc_model.specs.Host.World.{max_files, World, Application, Running, Lc, log_in, logged, become, ended, with_one_spare_less, changed_at, runs, spares_of, log_of, with_log}
use Rattle.lc_model.specs.Host.React.{Input, Packet, Tick, File, max_file_size, counter_packet, Step, stored, filed, on_file, answered, event_service, opened_file, slot_of, with_slot, table_named, left, spare_taken, lc_become, counter_become, to_counter, managed, table_service, started, ordered, executive_service, to_lc, routed, on_packet, on_packets, scheduled, on_tick, react}
use Rattle.lc_model.specs.Laws.Correspondence.{BothOrNone, Agrees, SlotAlike, LcAlike, MeaningAlike, WorldAlike, InputAlike, StepAlike, EachInputKeeps}
use Rattle.lc_model.proofs.Host.TwoReadings.{SameAnswers, Entry, branch, both_map, both_map_or, same_map_or, both_none, both_some, after, after_same, found_alike, provided_alike, value_alike, put_alike}
use Rattle.lc_model.proofs.LimitChecker.LimitCheckerOfTwo.{States, loaded_alike, moved_alike, start_alike, packet_alike}

-- an image put into the slot of a kind, where it has the size
abbrev placed : {Image : Type 0} → Interpretation Image → World Image → Lc Image → Image → Kind → ℕ → Result (World Image) Refusal
placed images w lc image kind size =
    provided (images.has_size kind size) 114 image
    >>= (λ image. loaded image (slot_of kind lc) >>= (λ slot. Ok (record w { lc = become (with_slot kind slot lc) w.lc })))

-- a waiting image of a kind, moved
abbrev shifted : {Image : Type 0} → World Image → Lc Image → Move → Kind → Result (World Image) Refusal
shifted w lc move kind = moved move (slot_of kind lc) >>= (λ slot. Ok (record w { lc = become (with_slot kind slot lc) w.lc }))

module _ {A B : Type 0} (alike : A → B → Type 0) (images : Interpretation A) (others : Interpretation B) (agree : Agrees alike images others) where
  abbrev pub Runs : Running (Lc A) → Running (Lc B) → Type 0
  Runs = LcAlike alike images others

  abbrev Meanings : FileMeaning A → FileMeaning B → Type 0
  Meanings = MeaningAlike alike images others

  abbrev pub Stored : List (Name × FileMeaning A) → List (Name × FileMeaning B) → Type 0
  Stored = AllZip (Entry Meanings)

  abbrev Same : Lc A → Lc B → Type 0
  Same = States alike images others agree

  abbrev pub Worlds : World A → World B → Type 0
  Worlds = WorldAlike alike images others

  abbrev Reacts : Step A → Step B → Type 0
  Reacts = StepAlike alike images others

  states_of : (a : Running (Lc A)) (b : Running (Lc B)) → Runs a b → Same a.state b.state
  states_of a b h = record { mode = h.mode; wdt = h.wdt; adt = h.adt; watch = h.watch; points = h.points }

  runs_by : (a : Lc A) (b : Lc B) (log log' : Log) → Same a b → log ≡ log' → Runs (record { state = a; log = log }) (record { state = b; log = log' })
  runs_by a b log log' h e = record { mode = h.mode; wdt = h.wdt; adt = h.adt; watch = h.watch; points = h.points; log = e }

  -- the same world but for files and the Limit Checker
  abbrev pub twin : World A → List (Name × FileMeaning B) → Option (Running (Lc B)) → World B
  twin w files running = record {
    files = files;
    host = w.host;
    lc = record { running = running; spares = w.lc.spares };
    sch = w.sch;
    counter = w.counter;
    sent = w.sent;
  }

  pub settled : (w : World A) (P : World B → Type 0) →
      ((files : List (Name × FileMeaning B)) (running : Option (Running (Lc B))) → Stored w.files files → BothOrNone Runs w.lc.running running → P (twin w files running)) →
      (v : World B) → Worlds w v → P v
  settled w P at v h =
      let same : twin w v.files v.lc.running ≡ v = λ i. record {
        files = v.files;
        host = h.host i;
        lc = record { running = v.lc.running; spares = h.lc_spares i };
        sch = h.sch i;
        counter = h.counter i;
        sent = h.sent i;
      } in
      subst P same (at v.files v.lc.running h.files h.lc)

  slots_of : (kind : Kind) (a : Lc A) (b : Lc B) → Same a b → SlotAlike alike images others kind (slot_of kind a) (slot_of kind b)
  slots_of Wdt a b h = h.wdt
  slots_of Adt a b h = h.adt

  slots_with : (kind : Kind) (s : Slot A) (t : Slot B) (a : Lc A) (b : Lc B) → Same a b → SlotAlike alike images others kind s t → Same (with_slot kind s a) (with_slot kind t b)
  slots_with Wdt s t a b h slots = record { mode = h.mode; wdt = slots; adt = h.adt; watch = h.watch; points = h.points }
  slots_with Adt s t a b h slots = record { mode = h.mode; wdt = h.wdt; adt = slots; watch = h.watch; points = h.points }

  logs_same : (o : Option (Running (Lc A))) (p : Option (Running (Lc B))) → BothOrNone Runs o p →
      option_map (λ (r : Running (Lc A)). r.log) o ≡ option_map (λ (r : Running (Lc B)). r.log) p
  logs_same None None h = refl
  logs_same None (Some b) h = absurd h
  logs_same (Some a) None h = absurd h
  logs_same (Some a) (Some b) h = ap Some h.log

  -- tables that are named alike
  abbrev Tables : Kind × Lc A → Kind × Lc B → Type 0
  Tables t u = (t.0 ≡ u.0) × Same t.1 u.1

  -- files that open alike
  abbrev Contents : Name × ℕ × A → Name × ℕ × B → Type 0
  Contents c d = (c.0 ≡ d.0) × (c.1 ≡ d.1) × alike c.2 d.2

  opened_alike : (m : FileMeaning A) (n : FileMeaning B) → Meanings m n → SameAnswers Contents (opened_file m) (opened_file n)
  opened_alike (Unreadable fault) (Unreadable other) h = ap (λ f. 112 ∷ f ∷ []) h
  opened_alike (Unreadable fault) (Opened table size b) h = absurd h
  opened_alike (Opened table size a) (Unreadable fault) h = absurd h
  opened_alike (Opened table size a) (Opened table' size' b) h = h

  stored_alike : (name : Name) (size : ℕ) (m : FileMeaning A) (n : FileMeaning B) (fs : List (Name × FileMeaning A)) (gs : List (Name × FileMeaning B)) →
      Meanings m n → Stored fs gs → SameAnswers Stored (stored name size m fs) (stored name size n gs)
  stored_alike name size m n fs gs meaning h =
      branch (SameAnswers Stored) (nat_lt max_file_size size) (refused 119) _ (refused 119) _ refl
      (subst (λ test. SameAnswers Stored (if full then refused 118 else Ok (put name m fs)) (if test then refused 118 else Ok (put name n gs)))
      (ap₂ (λ k none. nat_le max_files k && none) (sym (AllZip-long (Entry Meanings) fs gs h)) (both_none Meanings (value_under name fs) (value_under name gs) (value_alike Meanings name fs gs h)))
      (branch (SameAnswers Stored) full (refused 118) (Ok (put name m fs)) (refused 118) (Ok (put name n gs)) refl (put_alike Meanings name m n fs gs meaning h)))
    where
      full : Bool
      full = nat_le max_files (length fs) && is_none (value_under name fs)

  module _ (w : World A) (files : List (Name × FileMeaning B)) (running : Option (Running (Lc B))) (h : Stored w.files files) (r : BothOrNone Runs w.lc.running running) where
    pub unchanged : Worlds w (twin w files running)
    unchanged = record { files = h; host = refl; lc = r; lc_spares = refl; sch = refl; counter = refl; sent = refl }

    quiet : Reacts (w, []) (twin w files running, [])
    quiet = record { world = unchanged; requests = refl }

    changed_alike : (change : (State : Type 0) → Application State → Application State) (name : Name) →
        BothOrNone Runs (change (Lc A) w.lc).running (change (Lc B) (twin w files running).lc).running →
        (change (Lc A) w.lc).spares ≡ (change (Lc B) (twin w files running).lc).spares →
        Worlds (changed_at change name w) (changed_at change name (twin w files running))
    changed_alike change name r' spares =
        branch Worlds (is_named name lc_name) _ _ _ _ (record { files = h; host = refl; lc = r'; lc_spares = spares; sch = refl; counter = refl; sent = refl })
        (branch Worlds (is_named name sch_name) _ _ _ _ (record { files = h; host = refl; lc = r; lc_spares = refl; sch = refl; counter = refl; sent = refl })
        (branch Worlds (is_named name counter_name) _ _ _ _ (record { files = h; host = refl; lc = r; lc_spares = refl; sch = refl; counter = refl; sent = refl })
        unchanged))

    -- ---- event services

    pub log_same : (name : Name) → log_of w name ≡ log_of (twin w files running) name
    log_same name =
        ap (λ (log : Option Log). if is_named name host_name then Some w.host else if is_named name lc_name then log
        else if is_named name sch_name then log_in w.sch else if is_named name counter_name then log_in w.counter else None)
        (logs_same w.lc.running running r)

    pub with_log_alike : (name : Name) (log : Log) → Worlds (with_log name log w) (with_log name log (twin w files running))
    with_log_alike name log =
        branch Worlds (is_named name host_name) _ _ _ _ (record { files = h; host = refl; lc = r; lc_spares = refl; sch = refl; counter = refl; sent = refl })
        (changed_alike (λ State app. logged log app) name
        (both_map Runs Runs (λ (a : Running (Lc A)). record a { log = log }) (λ (b : Running (Lc B)). record b { log = log }) w.lc.running running r
        (λ a b e. runs_by a.state b.state log log (states_of a b e) refl)) refl)

    event_alike : (packet : List ℕ) → SameAnswers Reacts (event_service packet w) (event_service packet (twin w files running))
    event_alike packet =
        let v : World B = twin w files running in
        after_same Reacts (event_command_in packet)
        (λ command. found (log_of w command.0) 101 >>= (λ log. joined command.1 log >>= (λ longer. Ok (with_log command.0 longer w, []))))
        (λ command. found (log_of v command.0) 101 >>= (λ log. joined command.1 log >>= (λ longer. Ok (with_log command.0 longer v, []))))
        (λ command. subst (λ log. SameAnswers Reacts (found (log_of w command.0) 101 >>= (λ log. joined command.1 log >>= (λ longer. Ok (with_log command.0 longer w, []))))
        (found log 101 >>= (λ log. joined command.1 log >>= (λ longer. Ok (with_log command.0 longer v, []))))) (log_same command.0)
        (after_same Reacts (found (log_of w command.0) 101) (λ log. joined command.1 log >>= (λ longer. Ok (with_log command.0 longer w, [])))
        (λ log. joined command.1 log >>= (λ longer. Ok (with_log command.0 longer v, [])))
        (λ log. after_same Reacts (joined command.1 log) (λ longer. Ok (with_log command.0 longer w, [])) (λ longer. Ok (with_log command.0 longer v, []))
        (λ longer. record { world = with_log_alike command.0 longer; requests = refl }))))

    -- ---- table services

    become_alike : (a : Lc A) (b : Lc B) → Same a b → Worlds (record w { lc = become a w.lc }) (record (twin w files running) { lc = become b (twin w files running).lc })
    become_alike a b e = record {
      files = h;
      host = refl;
      lc = both_map Runs Runs (λ (r : Running (Lc A)). record r { state = a }) (λ (r : Running (Lc B)). record r { state = b }) w.lc.running running r
          (λ x y same. runs_by a b x.log y.log e same.log);
      lc_spares = refl;
      sch = refl;
      counter = refl;
      sent = refl;
    }

    named_alike : (name : Name) → SameAnswers Tables (table_named name w) (table_named name (twin w files running))
    named_alike name =
        after_same Tables (found (kind_named name) 113) (λ kind. found w.lc.running 113 >>= (λ lc. Ok (kind, lc.state)))
        (λ kind. found running 113 >>= (λ lc. Ok (kind, lc.state)))
        (λ kind. after Runs Tables (found w.lc.running 113) (found running 113) (λ lc. Ok (kind, lc.state)) (λ lc. Ok (kind, lc.state)) (found_alike Runs w.lc.running running 113 r)
        (λ a b e. (refl, states_of a b e)))

    placed_alike : (a : Lc A) (b : Lc B) (x : A) (y : B) (kind : Kind) (size : ℕ) → Same a b → alike x y →
        SameAnswers Worlds (placed images w a x kind size) (placed others (twin w files running) b y kind size)
    placed_alike a b x y kind size e image =
        let v : World B = twin w files running in
        subst (λ test. SameAnswers Worlds (placed images w a x kind size)
        (provided test 114 y >>= (λ image. loaded image (slot_of kind b) >>= (λ slot. Ok (record v { lc = become (with_slot kind slot b) v.lc })))))
        (agree.sizes kind size)
        (after alike Worlds (provided (images.has_size kind size) 114 x) (provided (images.has_size kind size) 114 y)
        (λ image. loaded image (slot_of kind a) >>= (λ slot. Ok (record w { lc = become (with_slot kind slot a) w.lc })))
        (λ image. loaded image (slot_of kind b) >>= (λ slot. Ok (record v { lc = become (with_slot kind slot b) v.lc })))
        (provided_alike alike (images.has_size kind size) 114 x y image)
        (λ x y image. after (SlotAlike alike images others kind) Worlds (loaded x (slot_of kind a)) (loaded y (slot_of kind b))
        (λ slot. Ok (record w { lc = become (with_slot kind slot a) w.lc })) (λ slot. Ok (record v { lc = become (with_slot kind slot b) v.lc }))
        (loaded_alike alike images others agree kind x y (slot_of kind a) (slot_of kind b) image (slots_of kind a b e))
        (λ s t slots. become_alike (with_slot kind s a) (with_slot kind t b) (slots_with kind s t a b e slots))))

    shifted_alike : (a : Lc A) (b : Lc B) (move : Move) (kind : Kind) → Same a b → SameAnswers Worlds (shifted w a move kind) (shifted (twin w files running) b move kind)
    shifted_alike a b move kind e =
        let v : World B = twin w files running in
        after (SlotAlike alike images others kind) Worlds (moved move (slot_of kind a)) (moved move (slot_of kind b))
        (λ slot. Ok (record w { lc = become (with_slot kind slot a) w.lc })) (λ slot. Ok (record v { lc = become (with_slot kind slot b) v.lc }))
        (moved_alike alike images others agree kind move (slot_of kind a) (slot_of kind b) (slots_of kind a b e))
        (λ s t slots. become_alike (with_slot kind s a) (with_slot kind t b) (slots_with kind s t a b e slots))

    managed_alike : (command : TableCommand) → SameAnswers Worlds (managed images command w) (managed others command (twin w files running))
    managed_alike (Load file) =
        let v : World B = twin w files running in
        after Meanings Worlds (found (value_under file w.files) 111) (found (value_under file files) 111)
        (λ m. opened_file m >>= (λ c. table_named c.0 w >>= (λ table. placed images w table.1 c.2 table.0 c.1)))
        (λ m. opened_file m >>= (λ c. table_named c.0 v >>= (λ table. placed others v table.1 c.2 table.0 c.1)))
        (found_alike Meanings (value_under file w.files) (value_under file files) 111 (value_alike Meanings file w.files files h))
        (λ m n meaning. after Contents Worlds (opened_file m) (opened_file n)
        (λ c. table_named c.0 w >>= (λ table. placed images w table.1 c.2 table.0 c.1))
        (λ c. table_named c.0 v >>= (λ table. placed others v table.1 c.2 table.0 c.1)) (opened_alike m n meaning)
        (λ c d e. after Tables Worlds (table_named c.0 w) (table_named d.0 v)
        (λ table. placed images w table.1 c.2 table.0 c.1) (λ table. placed others v table.1 d.2 table.0 d.1)
        (subst (λ name. SameAnswers Tables (table_named c.0 w) (table_named name v)) e.0 (named_alike c.0))
        (λ t u e'. let same : placed others v u.1 d.2 t.0 c.1 ≡ placed others v u.1 d.2 u.0 d.1 = λ i. placed others v u.1 d.2 (e'.0 i) (e.1 i) in
        subst (λ after. SameAnswers Worlds (placed images w t.1 c.2 t.0 c.1) after) same (placed_alike t.1 u.1 c.2 d.2 t.0 c.1 e'.1 e.2))))
    managed_alike (Manage move name) =
        let v : World B = twin w files running in
        after Tables Worlds (table_named name w) (table_named name v) (λ table. shifted w table.1 move table.0) (λ table. shifted v table.1 move table.0) (named_alike name)
        (λ t u e. subst (λ kind. SameAnswers Worlds (shifted w t.1 move t.0) (shifted v u.1 move kind)) e.0 (shifted_alike t.1 u.1 move t.0 e.1))

    table_alike : (packet : List ℕ) → SameAnswers Reacts (table_service images packet w) (table_service others packet (twin w files running))
    table_alike packet =
        let v : World B = twin w files running in
        after_same Reacts (table_command_in packet)
        (λ command. managed images command w >>= (λ now. Ok (now, []))) (λ command. managed others command v >>= (λ now. Ok (now, [])))
        (λ command. after Worlds Reacts (managed images command w) (managed others command v) (λ now. Ok (now, [])) (λ now. Ok (now, [])) (managed_alike command)
        (λ s t e. record { world = e; requests = refl }))

    -- ---- executive services

    started_alike : (name : Name) → Reacts (started images name w) (started others name (twin w files running))
    started_alike name =
        let start = start_alike alike images others agree w.files files h in
        branch Reacts (is_named name lc_name) _ _ _ _
        (record {
          world = record {
            files = h;
            host = refl;
            lc = runs_by (lc_start by_lists images w.files).0 (lc_start by_lists others files).0 [] [] start.0 refl;
            lc_spares = refl;
            sch = refl;
            counter = refl;
            sent = refl;
          };
          requests = start.1;
        })
        (branch Reacts (is_named name sch_name) _ _ _ _
        (record { world = record { files = h; host = refl; lc = r; lc_spares = refl; sch = refl; counter = refl; sent = refl }; requests = refl })
        (branch Reacts (is_named name counter_name) _ _ _ _
        (record { world = record { files = h; host = refl; lc = r; lc_spares = refl; sch = refl; counter = refl; sent = refl }; requests = refl }) quiet))

    left_alike : (name : Name) → Worlds (left name w) (left name (twin w files running))
    left_alike name = changed_alike (λ State app. ended app) name tt refl

    spare_alike : (name : Name) → Worlds (spare_taken name w) (spare_taken name (twin w files running))
    spare_alike name = changed_alike (λ State app. with_one_spare_less app) name r refl

    runs_same : (name : Name) → runs w name ≡ runs (twin w files running) name
    runs_same name =
        ap (λ (on : Bool). if is_named name lc_name then on else if is_named name sch_name then is_some w.sch.running
        else if is_named name counter_name then is_some w.counter.running else false) (both_some Runs w.lc.running running r)

  start_any : (name : Name) (w : World A) (v : World B) → Worlds w v → Reacts (started images name w) (started others name v)
  start_any name w = settled w (λ v. Reacts (started images name w) (started others name v)) (λ files running h r. started_alike w files running h r name)

  spare_any : (name : Name) (w : World A) (v : World B) → Worlds w v → Worlds (spare_taken name w) (spare_taken name v)
  spare_any name w = settled w (λ v. Worlds (spare_taken name w) (spare_taken name v)) (λ files running h r. spare_alike w files running h r name)

  module _ (w : World A) (files : List (Name × FileMeaning B)) (running : Option (Running (Lc B))) (h : Stored w.files files) (r : BothOrNone Runs w.lc.running running) where
    ordered_alike : (order : Order) (name : Name) → SameAnswers Reacts (ordered images order name w) (ordered others order name (twin w files running))
    ordered_alike Start name =
        let v : World B = twin w files running in
        subst (λ test. SameAnswers Reacts (ordered images Start name w)
        (if test then refused 123 else if spares_of v name == 0 then refused 122 else Ok (started others name (spare_taken name v))))
        (runs_same w files running h r name)
        (branch (SameAnswers Reacts) (runs w name) (refused 123) _ (refused 123) _ refl
        (branch (SameAnswers Reacts) (spares_of w name == 0) (refused 122) (Ok (started images name (spare_taken name w))) (refused 122) (Ok (started others name (spare_taken name v))) refl
        (start_any name (spare_taken name w) (spare_taken name v) (spare_alike w files running h r name))))
    ordered_alike Stop name =
        let v : World B = twin w files running in
        subst (λ test. SameAnswers Reacts (ordered images Stop name w) (provided test 121 (left name v, []))) (runs_same w files running h r name)
        (provided_alike Reacts (runs w name) 121 (left name w, []) (left name v, []) (record { world = left_alike w files running h r name; requests = refl }))
    ordered_alike Restart name =
        let v : World B = twin w files running in
        subst (λ test. SameAnswers Reacts (ordered images Restart name w) (provided test 121 (started others name (left name v)))) (runs_same w files running h r name)
        (provided_alike Reacts (runs w name) 121 (started images name (left name w)) (started others name (left name v))
        (start_any name (left name w) (left name v) (left_alike w files running h r name)))
    ordered_alike Reload name =
        let v : World B = twin w files running in
        subst (λ test. SameAnswers Reacts (ordered images Reload name w)
        (if not test then refused 121 else if spares_of v name == 0 then refused 122 else Ok (started others name (spare_taken name (left name v)))))
        (runs_same w files running h r name)
        (branch (SameAnswers Reacts) (not (runs w name)) (refused 121) _ (refused 121) _ refl
        (branch (SameAnswers Reacts) (spares_of w name == 0) (refused 122) (Ok (started images name (spare_taken name (left name w)))) (refused 122)
        (Ok (started others name (spare_taken name (left name v)))) refl
        (start_any name (spare_taken name (left name w)) (spare_taken name (left name v))
        (spare_any name (left name w) (left name v) (left_alike w files running h r name)))))

    executive_alike : (packet : List ℕ) → SameAnswers Reacts (executive_service images packet w) (executive_service others packet (twin w files running))
    executive_alike packet =
        after_same Reacts (order_in packet) (λ command. ordered images command.0 command.1 w)
        (λ command. ordered others command.0 command.1 (twin w files running)) (λ command. ordered_alike command.0 command.1)

    -- ---- packets

    answered_alike : (service : Service) (packet : List ℕ) (x : Result (Step A) Refusal) (y : Result (Step B) Refusal) → SameAnswers Reacts x y →
        Reacts (answered service packet w x) (answered service packet (twin w files running) y)
    answered_alike service packet (Ok x) (Ok y) e =
        record { world = e.world; requests = ap (λ requests. requests ++ command_done service (function_code packet) ∷ []) e.requests }
    answered_alike service packet (Ok x) (Err refusal) e = absurd e
    answered_alike service packet (Err refusal) (Ok y) e = absurd e
    answered_alike service packet (Err x) (Err y) e =
        record { world = unchanged w files running h r; requests = ap (λ refusal. command_refused service refusal ∷ []) e }

    counter_alike : (packet : List ℕ) → Reacts (to_counter packet w) (to_counter packet (twin w files running))
    counter_alike packet =
        let v : World B = twin w files running in
        same_map_or Reacts (λ (counter : Running ℕ). counter_become w (counter_packet packet counter.state))
        (λ (counter : Running ℕ). counter_become v (counter_packet packet counter.state)) w.counter.running (w, []) (v, [])
        (λ counter. record { world = record { files = h; host = refl; lc = r; lc_spares = refl; sch = refl; counter = refl; sent = refl }; requests = refl })
        (quiet w files running h r)

    lc_alike : (packet : List ℕ) → Reacts (to_lc images packet w) (to_lc others packet (twin w files running))
    lc_alike packet =
        let v : World B = twin w files running in
        both_map_or Runs Reacts (λ (lc : Running (Lc A)). lc_become w (lc_packet by_lists images packet lc.state))
        (λ (lc : Running (Lc B)). lc_become v (lc_packet by_lists others packet lc.state)) w.lc.running running (w, []) (v, []) r
        (λ a b e. let step = packet_alike alike images others agree packet a.state b.state (states_of a b e) in
        record {
          world = become_alike w files running h r (lc_packet by_lists images packet a.state).0 (lc_packet by_lists others packet b.state).0 step.0;
          requests = step.1;
        })
        (quiet w files running h r)

    routed_alike : (packet : List ℕ) → Reacts (routed images packet w) (routed others packet (twin w files running))
    routed_alike packet =
        let v : World B = twin w files running in
        let mid : ℕ = message_id packet in
        branch Reacts (mid == event_services_mid) (answered event_services packet w (event_service packet w)) _ (answered event_services packet v (event_service packet v)) _
        (answered_alike event_services packet (event_service packet w) (event_service packet v) (event_alike w files running h r packet))
        (branch Reacts (mid == table_services_mid) (answered table_services packet w (table_service images packet w)) _ (answered table_services packet v (table_service others packet v)) _
        (answered_alike table_services packet (table_service images packet w) (table_service others packet v) (table_alike w files running h r packet))
        (branch Reacts (mid == executive_services_mid) (answered executive_services packet w (executive_service images packet w)) _
        (answered executive_services packet v (executive_service others packet v)) _
        (answered_alike executive_services packet (executive_service images packet w) (executive_service others packet v) (executive_alike packet))
        (branch Reacts (mid == counter_mid) (to_counter packet w) (to_lc images packet w) (to_counter packet v) (to_lc others packet v) (counter_alike packet) (lc_alike packet))))

    on_packet_alike : (packet : List ℕ) → Reacts (on_packet images packet w) (on_packet others packet (twin w files running))
    on_packet_alike packet =
        let v : World B = twin w files running in
        same_map_or Reacts (λ reason. (w, bad_packet reason ∷ [])) (λ reason. (v, bad_packet reason ∷ [])) (stream_fault packet) (routed images packet w) (routed others packet v)
        (λ reason. record { world = unchanged w files running h r; requests = refl }) (routed_alike packet)

  packet_any : (packet : List ℕ) (w : World A) (v : World B) → Worlds w v → Reacts (on_packet images packet w) (on_packet others packet v)
  packet_any packet w = settled w (λ v. Reacts (on_packet images packet w) (on_packet others packet v)) (λ files running h r. on_packet_alike w files running h r packet)

  packets_any : (packets : List (List ℕ)) (w : World A) (v : World B) → Worlds w v → Reacts (on_packets images packets w) (on_packets others packets v)
  packets_any [] w v h = record { world = h; requests = refl }
  packets_any (packet ∷ packets) w v h =
      let first = packet_any packet w v h in
      let rest = packets_any packets (on_packet images packet w).0 (on_packet others packet v).0 first.world in
      record { world = rest.world; requests = ap₂ (λ a b. a ++ b) first.requests rest.requests }

  -- ---- any input

  module _ (schedule : Schedule) (w : World A) (files : List (Name × FileMeaning B)) (running : Option (Running (Lc B))) (h : Stored w.files files) (r : BothOrNone Runs w.lc.running running) where
    tick_alike : Reacts (on_tick images schedule w) (on_tick others schedule (twin w files running))
    tick_alike =
        let v : World B = twin w files running in
        same_map_or Reacts (λ (sch : Running ℕ). scheduled images schedule sch.state w) (λ (sch : Running ℕ). scheduled others schedule sch.state v) w.sch.running (w, []) (v, [])
        (λ sch. packets_any (map entry_packet (entries_at schedule (slot_number schedule sch.state))) (record w { sch = become (sch.state + 1) w.sch })
        (record v { sch = become (sch.state + 1) v.sch })
        (record { files = h; host = refl; lc = r; lc_spares = refl; sch = refl; counter = refl; sent = refl })) (quiet w files running h r)

    filed_alike : (x : Result (List (Name × FileMeaning A)) Refusal) (y : Result (List (Name × FileMeaning B)) Refusal) → SameAnswers Stored x y →
        Reacts (filed w x) (filed (twin w files running) y)
    filed_alike (Ok fs) (Ok gs) e =
        record { world = record { files = e; host = refl; lc = r; lc_spares = refl; sch = refl; counter = refl; sent = refl }; requests = refl }
    filed_alike (Ok fs) (Err refusal) e = absurd e
    filed_alike (Err refusal) (Ok gs) e = absurd e
    filed_alike (Err x) (Err y) e = record { world = unchanged w files running h r; requests = ap (λ refusal. file_refused refusal ∷ []) e }

    react_alike : (i : Input A) (j : Input B) → InputAlike alike images others i j → Reacts (react images schedule w i) (react others schedule (twin w files running) j)
    react_alike (Packet bytes) (Packet other) e =
        subst (λ packet. Reacts (on_packet images bytes w) (on_packet others packet (twin w files running))) e (on_packet_alike w files running h r bytes)
    react_alike (Packet bytes) Tick e = absurd e
    react_alike (Packet bytes) (File name size meaning) e = absurd e
    react_alike Tick (Packet bytes) e = absurd e
    react_alike Tick Tick e = tick_alike
    react_alike Tick (File name size meaning) e = absurd e
    react_alike (File name size meaning) (Packet bytes) e = absurd e
    react_alike (File name size meaning) Tick e = absurd e
    react_alike (File name size meaning) (File name' size' meaning') e =
        let v : World B = twin w files running in
        let same : on_file name size meaning' v ≡ on_file name' size' meaning' v = λ i. on_file (e.0 i) (e.1 i) meaning' v in
        subst (λ step. Reacts (on_file name size meaning w) step) same
        (filed_alike (stored name size meaning w.files) (stored name size meaning' files) (stored_alike name size meaning meaning' w.files files e.2 h))

  pub each_input_keeps : EachInputKeeps alike images others
  each_input_keeps schedule w v i j h e =
      settled w (λ v. Reacts (react images schedule w i) (react others schedule v j)) (λ files running f r. react_alike schedule w files running f r i j e) v h
