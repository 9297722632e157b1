-- While the images of a world are halves of some texts, nobody requests a sequence that only rules of these texts request that
-- never fail.
use Rattle.std.proofs.Common.{◌≡◌, ℕ, ◌+◌, Bool, true, false, not, List, [], ◌∷◌, ◌++◌, map, refl, ap, ap₂, sym, subst, Option, Some, None, option_map, Result, Ok, Err, if◌then◌else◌}
use Rattle.std.specs.Prelude.{Contains, ⊤, ◌==◌}
use Rattle.std.specs.Option.{option_map_or}
use Rattle.std.specs.List.{AllZip}
use Rattle.lc_model.specs.declared.kind.Kind.{Kind}
use Rattle.lc_model.specs.declared.kind.Kind.TheVariants.{Wdt, Adt}
use Rattle.lc_model.specs.Name.{Name, is_named, lc_name, sch_name, counter_name, value_under}
use Rattle.lc_model.specs.Refusal.{Refusal, ◌>>=◌, refused, found, provided}
use Rattle.lc_model.specs.Packet.{stream_fault, function_code, payload, message_id, event_services_mid, table_services_mid, executive_services_mid, counter_mid}
use Rattle.lc_model.specs.Rule.{actions}
use Rattle.lc_model.specs.Tables.Equation.{terms_of}
use Rattle.lc_model.specs.Tables.Image.{Layout}
use Rattle.lc_model.specs.Tables.Slot.{Slot, Stage, Move, stage_after, restaged, loaded, moved}
use Rattle.lc_model.specs.Tables.Interpretation.{FileMeaning, Pair, kind_named}
use Rattle.lc_model.specs.Tables.HalvesAndBytes.{Text, TextImage, HalfOf, half_fault, is_of_one_text, rules_of_half, as_halves}
use Rattle.lc_model.specs.Events.Request.{Request, Service, event_services, table_services, executive_services, command_done, bad_packet}
use Rattle.lc_model.specs.Events.Log.{joined}
use Rattle.lc_model.specs.Command.{event_command, TableCommand, Load, Manage, table_command, Order, Start, Stop, Restart, Reload, app_command, bare_request}
use Rattle.lc_model.specs.LimitChecker.Steps.{Point, by_lists, is_short, paired, default_pair, started_with, lc_start, lc_packet}
use Rattle.lc_model.specs.Host.Schedule.{Schedule, entry_packet, slot_number, entries_at}
use Rattle.lc_model.specs.Host.World.{World, Application, Running, Lc, log_of, with_log, become, runs, spares_of}
use Rattle.lc_model.specs.Host.React.{Input, Packet, Tick, File, Step, stored, filed, answered, event_service, opened_file, slot_of, with_slot, table_named, left, spare_taken, lc_begun, lc_become, counter_answer, counter_packet, counter_become, to_counter, managed, table_service, started, ordered, executive_service, to_lc, routed, on_packet, on_packets, scheduled, on_tick, react}
use Rattle.lc_model.specs.Laws.Tables.{IsReworded}
use Rattle.lc_model.specs.Laws.Correspondence.{BothOrNone, Agrees, LcAlike, WorldAlike, StepAlike}
use Rattle.lc_model.proofs.Host.SameCore.{state_in, any_log}
use Rattle.lc_model.proofs.Host.CorrespondenceLaws.{each_input_keeps}
use Rattle.lc_model.proofs.LimitChecker.Reordered.{as_worded}
use Rattle.lc_model.specs.LimitChecker.Past.{Past}
use Rattle.rule_analysis.specs.Quiet.{HaveNoFailures, pasts_of, IsQuietSoFar, IsOfQuietRules, AreWithout}
use Rattle.rule_analysis.proofs.QuietSteps.{starts_quiet, nobody_requests}

-- ---- one reading, beside itself

module _ (layouts : List Layout) (texts : List Text) where
  -- an image is a half of one of the texts, or of none at all
  abbrev pub Own : TextImage → Type 0
  Own (HalfOf kind text) = Contains texts text
  Own other = ⊤

  abbrev pub alike : TextImage → TextImage → Type 0
  alike image other = (image ≡ other) × Own image

  pub agree : Agrees alike (as_halves layouts) (as_halves layouts)
  agree = record {
    sizes = λ kind size. refl;
    faults = λ kind a b h. ap (half_fault kind) h.0;
    matches = λ p q h. ap₂ is_of_one_text h.wdt.0 h.adt.0;
    short = λ p q h m packet. ap (λ image. is_short (terms_of (rules_of_half image)) packet) h.wdt.0;
    rules = λ p q h m. subst (λ image. AllZip IsReworded (actions (rules_of_half p.wdt)) (actions (rules_of_half image))) h.wdt.0 (as_worded (actions (rules_of_half p.wdt)));
  }

  abbrev pub World' : Type 0
  World' = World TextImage

  -- all its images are such halves
  abbrev pub Owns : World' → Type 0
  Owns w = WorldAlike alike (as_halves layouts) (as_halves layouts) w w

  -- a Limit Checker that runs has no failure of a rule that never fails
  abbrev pub IsQuietIn : Option (Lc TextImage) → Type 0
  IsQuietIn None = ⊤
  IsQuietIn (Some lc) = IsQuietSoFar (as_halves layouts) lc

  module _ (Silent : ℕ → Type 0) (some : ℕ) (some_silent : Silent some) (own_rules : (n : ℕ) → Silent n → (image : TextImage) → Own image → IsOfQuietRules n (actions (rules_of_half image))) where
    -- the requests are of none of the sequences
    abbrev pub AreSilent : List Request → Type 0
    AreSilent requests = (n : ℕ) → Silent n → AreWithout n requests

    abbrev pub IsFine : Step TextImage → Type 0
    IsFine s = IsQuietIn (state_in s.0.lc) × AreSilent s.1

    abbrev IsFineResult : Result (Step TextImage) Refusal → Type 0
    IsFineResult (Ok s) = IsFine s
    IsFineResult (Err refusal) = ⊤

    -- what is there where it is done
    abbrev Holds : {A : Type 0} → (A → Type 0) → Result A Refusal → Type 0
    Holds P (Ok a) = P a
    Holds P (Err refusal) = ⊤

    and_then : {A B : Type 0} (P : A → Type 0) (Q : B → Type 0) (r : Result A Refusal) (f : A → Result B Refusal) → Holds P r → ((a : A) → P a → Holds Q (f a)) →
        Holds Q (r >>= f)
    and_then P Q (Ok a) f h each = each a h
    and_then P Q (Err refusal) f h each = tt

    anyhow : {A B : Type 0} (Q : B → Type 0) (r : Result A Refusal) (f : A → Result B Refusal) → ((a : A) → Holds Q (f a)) → Holds Q (r >>= f)
    anyhow Q (Ok a) f each = each a
    anyhow Q (Err refusal) f each = tt

    if_provided : {A : Type 0} (P : A → Type 0) (test : Bool) (code : ℕ) (a : A) → P a → Holds P (provided test code a)
    if_provided P true code a h = h
    if_provided P false code a h = tt

    branch : {A : Type 0} (P : A → Type 0) (test : Bool) (x y : A) → P x → P y → P (if test then x else y)
    branch P true x y at_x at_y = at_x
    branch P false x y at_x at_y = at_y

    none_asked : AreSilent []
    none_asked n silent = tt

    both_silent : (xs ys : List Request) → AreSilent xs → AreSilent ys → AreSilent (xs ++ ys)
    both_silent xs ys a b n silent = joined_without n xs ys (a n silent) (b n silent)
      where
        joined_without : (n : ℕ) (xs ys : List Request) → AreWithout n xs → AreWithout n ys → AreWithout n (xs ++ ys)
        joined_without n [] ys a b = b
        joined_without n (x ∷ xs) ys a b = (a.0, joined_without n xs ys a.1 b)

    -- ---- states

    logged_quiet : (name : Name) (log : _) (w : World') → IsQuietIn (state_in w.lc) → IsQuietIn (state_in (with_log name log w).lc)
    logged_quiet name log w quiet = subst IsQuietIn (sym (ap (λ core. core.lc) (any_log name log w).core)) quiet

    become_quiet : (lc : Lc TextImage) (app : Application (Lc TextImage)) → IsQuietSoFar (as_halves layouts) lc → IsQuietIn (state_in (become lc app))
    become_quiet lc app quiet = by_running app.running
      where
        by_running : (o : Option (Running (Lc TextImage))) →
            IsQuietIn (option_map (λ (r : Running (Lc TextImage)). r.state) (option_map (λ (r : Running (Lc TextImage)). record r { state = lc }) o))
        by_running None = tt
        by_running (Some r) = quiet

    quiet_by : (o p : Option (Pair TextImage)) → o ≡ p → (points : List (Point Past)) →
        HaveNoFailures (option_map_or (as_halves layouts).rules o []) (pasts_of points) → HaveNoFailures (option_map_or (as_halves layouts).rules p []) (pasts_of points)
    quiet_by o p same points quiet = subst (λ o. HaveNoFailures (option_map_or (as_halves layouts).rules o []) (pasts_of points)) same quiet

    slot_quiet : (kind : Kind) (slot : Slot TextImage) (lc : Lc TextImage) → slot.active ≡ (slot_of kind lc).active → IsQuietSoFar (as_halves layouts) lc →
        IsQuietSoFar (as_halves layouts) (with_slot kind slot lc)
    slot_quiet Wdt slot lc same quiet =
        quiet_by (paired (as_halves layouts) lc.wdt.active lc.adt.active) (paired (as_halves layouts) slot.active lc.adt.active)
        (ap (λ active. paired (as_halves layouts) active lc.adt.active) (sym same)) lc.points quiet
    slot_quiet Adt slot lc same quiet =
        quiet_by (paired (as_halves layouts) lc.wdt.active lc.adt.active) (paired (as_halves layouts) lc.wdt.active slot.active)
        (ap (λ active. paired (as_halves layouts) lc.wdt.active active) (sym same)) lc.points quiet

    -- ---- table services

    loaded_keeps : (image : TextImage) (slot : Slot TextImage) → Holds (λ (now : Slot TextImage). now.active ≡ slot.active) (loaded image slot)
    loaded_keeps image slot = if_provided (λ (now : Slot TextImage). now.active ≡ slot.active) _ 115 _ refl

    moved_keeps : (move : Move) (slot : Slot TextImage) → Holds (λ (now : Slot TextImage). now.active ≡ slot.active) (moved move slot)
    moved_keeps move slot =
        anyhow (λ (now : Slot TextImage). now.active ≡ slot.active) (found slot.waiting 116)
        (λ waiting. stage_after move waiting.stage >>= (λ stage. Ok (restaged stage waiting.image slot)))
        (λ waiting. anyhow (λ (now : Slot TextImage). now.active ≡ slot.active) (stage_after move waiting.stage) (λ stage. Ok (restaged stage waiting.image slot))
        (λ stage. restaged_keeps stage waiting.image))
      where
        restaged_keeps : (stage : Option Stage) (image : TextImage) → (restaged stage image slot).active ≡ slot.active
        restaged_keeps None image = refl
        restaged_keeps (Some stage) image = refl

    -- a table of the Limit Checker that runs
    abbrev IsOfQuiet : Kind × Lc TextImage → Type 0
    IsOfQuiet table = IsQuietSoFar (as_halves layouts) table.1

    named_quiet : (name : Name) (w : World') → IsQuietIn (state_in w.lc) → Holds IsOfQuiet (table_named name w)
    named_quiet name w quiet =
        anyhow IsOfQuiet (found (kind_named name) 113) (λ kind. found w.lc.running 113 >>= (λ lc. Ok (kind, lc.state))) (λ kind. by_running kind w.lc.running quiet)
      where
        by_running : (kind : Kind) (o : Option (Running (Lc TextImage))) → IsQuietIn (option_map (λ (r : Running (Lc TextImage)). r.state) o) →
            Holds IsOfQuiet (found o 113 >>= (λ lc. Ok (kind, lc.state)))
        by_running kind None h = tt
        by_running kind (Some r) h = h

    abbrev IsFineWorld : World' → Type 0
    IsFineWorld w = IsQuietIn (state_in w.lc)

    managed_quiet : (command : TableCommand) (w : World') → IsFineWorld w → Holds IsFineWorld (managed (as_halves layouts) command w)
    managed_quiet (Load file) w quiet =
        anyhow IsFineWorld (held_file file w) (λ meaning. opened_file meaning >>= (λ contents. table_named contents.0 w >>= (λ table. put_in contents table)))
        (λ meaning. anyhow IsFineWorld (opened_file meaning) (λ contents. table_named contents.0 w >>= (λ table. put_in contents table))
        (λ contents. and_then IsOfQuiet IsFineWorld (table_named contents.0 w) (λ table. put_in contents table) (named_quiet contents.0 w quiet)
        (λ table at_table. anyhow IsFineWorld (provided ((as_halves layouts).has_size table.0 contents.1) 114 contents.2)
        (λ image. loaded image (slot_of table.0 table.1) >>= (λ slot. Ok (record w { lc = become (with_slot table.0 slot table.1) w.lc })))
        (λ image. and_then (λ (now : Slot TextImage). now.active ≡ (slot_of table.0 table.1).active) IsFineWorld (loaded image (slot_of table.0 table.1))
        (λ slot. Ok (record w { lc = become (with_slot table.0 slot table.1) w.lc })) (loaded_keeps image (slot_of table.0 table.1))
        (λ slot same. become_quiet (with_slot table.0 slot table.1) w.lc (slot_quiet table.0 slot table.1 same at_table))))))
      where
        held_file : Name → World' → Result (FileMeaning TextImage) Refusal
        held_file file w = found (value_under file w.files) 111

        put_in : Name × ℕ × TextImage → Kind × Lc TextImage → Result (World') Refusal
        put_in contents table =
            provided ((as_halves layouts).has_size table.0 contents.1) 114 contents.2
            >>= (λ image. loaded image (slot_of table.0 table.1) >>= (λ slot. Ok (record w { lc = become (with_slot table.0 slot table.1) w.lc })))
    managed_quiet (Manage move name) w quiet =
        and_then IsOfQuiet IsFineWorld (table_named name w)
        (λ table. moved move (slot_of table.0 table.1) >>= (λ slot. Ok (record w { lc = become (with_slot table.0 slot table.1) w.lc }))) (named_quiet name w quiet)
        (λ table at_table. and_then (λ (now : Slot TextImage). now.active ≡ (slot_of table.0 table.1).active) IsFineWorld (moved move (slot_of table.0 table.1))
        (λ slot. Ok (record w { lc = become (with_slot table.0 slot table.1) w.lc })) (moved_keeps move (slot_of table.0 table.1))
        (λ slot same. become_quiet (with_slot table.0 slot table.1) w.lc (slot_quiet table.0 slot table.1 same at_table)))

    service_quiet : (packet : List ℕ) (w : World') → IsFineWorld w → IsFineResult (table_service (as_halves layouts) packet w)
    service_quiet packet w quiet =
        anyhow IsFine (table_command (function_code packet) (payload packet)) (λ command. managed (as_halves layouts) command w >>= (λ after. Ok (after, [])))
        (λ command. and_then IsFineWorld IsFine (managed (as_halves layouts) command w) (λ after. Ok (after, [])) (managed_quiet command w quiet)
        (λ after at_after. (at_after, none_asked)))

    -- ---- event services

    events_quiet : (packet : List ℕ) (w : World') → IsFineWorld w → IsFineResult (event_service packet w)
    events_quiet packet w quiet =
        anyhow IsFine (event_command (function_code packet) (payload packet))
        (λ command. found (log_of w command.0) 101 >>= (λ log. joined command.1 log >>= (λ longer. Ok (with_log command.0 longer w, []))))
        (λ command. anyhow IsFine (found (log_of w command.0) 101) (λ log. joined command.1 log >>= (λ longer. Ok (with_log command.0 longer w, [])))
        (λ log. anyhow IsFine (joined command.1 log) (λ longer. Ok (with_log command.0 longer w, []))
        (λ longer. (logged_quiet command.0 longer w quiet, none_asked))))

    -- ---- executive services

    started_quiet : (name : Name) (w : World') → IsFineWorld w → IsFine (started (as_halves layouts) name w)
    started_quiet name w quiet =
        branch IsFine (is_named name lc_name) (lc_begun w (lc_start by_lists (as_halves layouts) w.files)) _
        (starts_quiet (as_halves layouts) w.files, starts_silent (default_pair (as_halves layouts) w.files))
        (branch IsFine (is_named name sch_name) _ _ (quiet, none_asked) (branch IsFine (is_named name counter_name) _ _ (quiet, none_asked) (quiet, none_asked)))
      where
        starts_silent : (o : Option (Pair TextImage)) → AreSilent (started_with by_lists (as_halves layouts) o).1
        starts_silent None n silent = ((λ e. cc), tt)
        starts_silent (Some pair) n silent = ((λ e. cc), tt)

    left_quiet : (name : Name) (w : World') → IsFineWorld w → IsFineWorld (left name w)
    left_quiet name w quiet =
        branch IsFineWorld (is_named name lc_name) _ _ tt
        (branch IsFineWorld (is_named name sch_name) _ _ quiet (branch IsFineWorld (is_named name counter_name) _ _ quiet quiet))

    spare_quiet : (name : Name) (w : World') → IsFineWorld w → IsFineWorld (spare_taken name w)
    spare_quiet name w quiet =
        branch IsFineWorld (is_named name lc_name) _ _ quiet
        (branch IsFineWorld (is_named name sch_name) _ _ quiet (branch IsFineWorld (is_named name counter_name) _ _ quiet quiet))

    ordered_quiet : (order : Order) (name : Name) (w : World') → IsFineWorld w → IsFineResult (ordered (as_halves layouts) order name w)
    ordered_quiet Start name w quiet =
        branch IsFineResult (runs w name) (refused 123) _ tt
        (branch IsFineResult (spares_of w name == 0) (refused 122) (Ok (started (as_halves layouts) name (spare_taken name w))) tt
        (started_quiet name (spare_taken name w) (spare_quiet name w quiet)))
    ordered_quiet Stop name w quiet = if_provided IsFine (runs w name) 121 (left name w, []) (left_quiet name w quiet, none_asked)
    ordered_quiet Restart name w quiet =
        if_provided IsFine (runs w name) 121 (started (as_halves layouts) name (left name w)) (started_quiet name (left name w) (left_quiet name w quiet))
    ordered_quiet Reload name w quiet =
        branch IsFineResult (not (runs w name)) (refused 121) _ tt
        (branch IsFineResult (spares_of w name == 0) (refused 122) (Ok (started (as_halves layouts) name (spare_taken name (left name w)))) tt
        (started_quiet name (spare_taken name (left name w)) (spare_quiet name (left name w) (left_quiet name w quiet))))

    executive_quiet : (packet : List ℕ) (w : World') → IsFineWorld w → IsFineResult (executive_service (as_halves layouts) packet w)
    executive_quiet packet w quiet =
        anyhow IsFine (app_command (function_code packet) (payload packet)) (λ command. ordered (as_halves layouts) command.0 command.1 w)
        (λ command. ordered_quiet command.0 command.1 w quiet)

    -- ---- packets

    answered_quiet : (service : Service) (packet : List ℕ) (w : World') (r : Result (Step TextImage) Refusal) → IsFineWorld w → IsFineResult r →
        IsFine (answered service packet w r)
    answered_quiet service packet w (Ok step) quiet fine =
        (fine.0, both_silent step.1 (command_done service (function_code packet) ∷ []) fine.1 (λ n silent. ((λ e. cc), tt)))
    answered_quiet service packet w (Err refusal) quiet fine = (quiet, (λ n silent. ((λ e. cc), tt)))

    counter_quiet : (packet : List ℕ) (w : World') → IsFineWorld w → IsFine (to_counter packet w)
    counter_quiet packet w quiet = by_running w.counter.running
      where
        by_answer : (accepted : ℕ) (r : Result (Unit {0}) Refusal) → AreSilent (counter_answer accepted r).1
        by_answer accepted (Ok command) n silent = ((λ e. cc), tt)
        by_answer accepted (Err refusal) n silent = ((λ e. cc), tt)

        by_running : (o : Option (Running ℕ)) →
            IsFine (option_map_or (λ (counter : Running ℕ). counter_become w (counter_packet packet counter.state)) o (w, []))
        by_running None = (quiet, none_asked)
        by_running (Some counter) = (quiet, by_answer counter.state (bare_request 1 (function_code packet) (payload packet)))

    -- the rules in force are those of one of the texts
    own_in_force : (n : ℕ) → Silent n → (lc : Lc TextImage) (wdt : Option TextImage) → BothOrNone (λ x y. alike x y × ((as_halves layouts).fault_of Wdt x ≡ None)) wdt wdt →
        (adt : Option TextImage) → IsOfQuietRules n (option_map_or (as_halves layouts).rules (paired (as_halves layouts) wdt adt) [])
    own_in_force n silent lc None h None = tt
    own_in_force n silent lc None h (Some adt) = tt
    own_in_force n silent lc (Some wdt) h None = tt
    own_in_force n silent lc (Some wdt) h (Some adt) = by_test (is_of_one_text wdt adt)
      where
        by_test : (test : Bool) →
            IsOfQuietRules n (option_map_or (as_halves layouts).rules (if test then Some (record { wdt = wdt; adt = adt }) else None) [])
        by_test true = own_rules n silent wdt h.0.1
        by_test false = tt

    abbrev Runs : Running (Lc TextImage) → Running (Lc TextImage) → Type 0
    Runs = LcAlike alike (as_halves layouts) (as_halves layouts)

    lc_quiet : (packet : List ℕ) (w : World') → Owns w → IsFineWorld w → IsFine (to_lc (as_halves layouts) packet w)
    lc_quiet packet w own quiet = by_running w.lc.running own.lc quiet
      where
        goes : (lc : Running (Lc TextImage)) → Runs lc lc → IsQuietSoFar (as_halves layouts) lc.state → IsFine (lc_become w (lc_packet by_lists (as_halves layouts) packet lc.state))
        goes lc own quiet =
            let step = λ (n : ℕ) (silent : Silent n). nobody_requests (as_halves layouts) n packet lc.state quiet
            (own_in_force n silent lc.state lc.state.wdt.active own.wdt.active lc.state.adt.active) in
            (become_quiet (lc_packet by_lists (as_halves layouts) packet lc.state).0 w.lc (step some some_silent).0, λ n silent. (step n silent).1)

        by_running : (o : Option (Running (Lc TextImage))) → BothOrNone Runs o o → IsQuietIn (option_map (λ (r : Running (Lc TextImage)). r.state) o) →
            IsFine (option_map_or (λ (lc : Running (Lc TextImage)). lc_become w (lc_packet by_lists (as_halves layouts) packet lc.state)) o (w, []))
        by_running None own h = (quiet, none_asked)
        by_running (Some lc) own h = goes lc own h

    routed_quiet : (packet : List ℕ) (w : World') → Owns w → IsFineWorld w → IsFine (routed (as_halves layouts) packet w)
    routed_quiet packet w own quiet =
        branch IsFine (message_id packet == event_services_mid) _ _ (answered_quiet event_services packet w (event_service packet w) quiet (events_quiet packet w quiet))
        (branch IsFine (message_id packet == table_services_mid) _ _
        (answered_quiet table_services packet w (table_service (as_halves layouts) packet w) quiet (service_quiet packet w quiet))
        (branch IsFine (message_id packet == executive_services_mid) _ _
        (answered_quiet executive_services packet w (executive_service (as_halves layouts) packet w) quiet (executive_quiet packet w quiet))
        (branch IsFine (message_id packet == counter_mid) _ _ (counter_quiet packet w quiet) (lc_quiet packet w own quiet))))

    packet_quiet : (packet : List ℕ) (w : World') → Owns w → IsFineWorld w → IsFine (on_packet (as_halves layouts) packet w)
    packet_quiet packet w own quiet = by_fault (stream_fault packet)
      where
        by_fault : (o : Option ℕ) → IsFine (option_map_or (λ reason. (w, bad_packet reason ∷ [])) o (routed (as_halves layouts) packet w))
        by_fault None = routed_quiet packet w own quiet
        by_fault (Some reason) = (quiet, λ n silent. ((λ e. cc), tt))

    module _ (schedule : Schedule) where
      packets_quiet : (packets : List (List ℕ)) (w : World') → Owns w → IsFineWorld w → IsFine (on_packets (as_halves layouts) packets w)
      packets_quiet [] w own quiet = (quiet, none_asked)
      packets_quiet (packet ∷ packets) w own quiet =
          let first = packet_quiet packet w own quiet in
          let kept : StepAlike alike (as_halves layouts) (as_halves layouts) (on_packet (as_halves layouts) packet w) (on_packet (as_halves layouts) packet w) =
          each_input_keeps alike (as_halves layouts) (as_halves layouts) agree schedule w w (Packet packet) (Packet packet) own refl in
          let rest = packets_quiet packets (on_packet (as_halves layouts) packet w).0 kept.world first.0 in
          (rest.0, both_silent (on_packet (as_halves layouts) packet w).1 (on_packets (as_halves layouts) packets (on_packet (as_halves layouts) packet w).0).1 first.1 rest.1)

      tick_quiet : (w : World') → Owns w → IsFineWorld w → IsFine (on_tick (as_halves layouts) schedule w)
      tick_quiet w own quiet = by_running w.sch.running
        where
          by_running : (o : Option (Running ℕ)) → IsFine (option_map_or (λ (sch : Running ℕ). scheduled (as_halves layouts) schedule sch.state w) o (w, []))
          by_running None = (quiet, none_asked)
          by_running (Some sch) =
              packets_quiet (map entry_packet (entries_at schedule (slot_number schedule sch.state))) (record w { sch = become (sch.state + 1) w.sch })
              (record { files = own.files; host = refl; lc = own.lc; lc_spares = refl; sch = refl; counter = refl; sent = refl }) quiet

      filed_quiet : (w : World') (r : Result (List (Name × FileMeaning TextImage)) Refusal) → IsFineWorld w → IsFine (filed w r)
      filed_quiet w (Ok files) quiet = (quiet, λ n silent. ((λ e. cc), tt))
      filed_quiet w (Err refusal) quiet = (quiet, λ n silent. ((λ e. cc), tt))

      -- whatever a record brings
      pub react_quiet : (w : World') (input : Input TextImage) → Owns w → IsFineWorld w → IsFine (react (as_halves layouts) schedule w input)
      react_quiet w (Packet bytes) own quiet = packet_quiet bytes w own quiet
      react_quiet w Tick own quiet = tick_quiet w own quiet
      react_quiet w (File name size meaning) own quiet = filed_quiet w (stored name size meaning w.files) quiet
