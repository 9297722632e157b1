-- What goes with the services of the host stays so by every call and command.
use Rattle.std.proofs.Common.{◌≡◌, ◌≢◌, ℕ, zero, suc, ◌+◌, ◌≤◌, Bool, true, false, ◌==◌, List, [], ◌∷◌, map, length, refl, sym, subst, arith, mod-lt, slice_index_or, Option, Some, None, is_some, Result, Ok, Err, IfOk, IsTrue, IsFalse, true≢false, if◌then◌else◌}
use Rattle.std.specs.Option.{option_map_or}
use Rattle.std.specs.List.{AllByRecursion}
use Rattle.std.proofs.lemmas.List.{length-map}
use Rattle.std.proofs.lemmas.Bool.Decides.{Decides-eqb}
use Rattle.lc_model.specs.declared.kind.Kind.{Kind}
use Rattle.lc_model.specs.declared.record.Moment.{Moment}
use Rattle.lc_model.specs.Name.{Name, is_named, lc_name, sch_name, counter_name, value_under}
use Rattle.lc_model.specs.Packet.{message_id, tick_mid, counter_mid}
use Rattle.lc_model.specs.Refusal.{Refusal, ◌>>=◌, provided}
use Rattle.lc_model.specs.Tables.Slot.{Slot, loaded, moved}
use Rattle.lc_model.specs.Tables.Interpretation.{FileMeaning, Interpretation, kind_named}
use Rattle.lc_model.specs.Events.Request.{Request}
use Rattle.lc_model.specs.Events.Log.{LogItem}
use Rattle.lc_model.specs.Command.{TableCommand, Load, Manage, event_command_in, table_command_in}
use Rattle.lc_model.specs.LimitChecker.Steps.{lc_start}
use Rattle.lc_model.specs.Host.React.{opened_file}
use Rattle.lc_model.specs.Host.Schedule.{ScheduleEntry, Sample, Housekeeping, AreEntries, entry_packet, entries_at}
use Rattle.lc_model.specs.Kept.Effort.{Effort, no_effort}
use Rattle.lc_model.specs.Kept.Summary.{LcNow, LcOwn, lc_own, EventState, AppState, LcState, SchState, CounterState, Other}
use Rattle.lc_model.specs.Kept.Next.{by_counts, next_count, next_tick}
use Rattle.lc_model.specs.Kept.Call.{effort_after, with_at, ServicesNow, Called, silent, sch_told, counter_told, sch_subscriptions, counter_subscriptions, unregistered, lc_with, with_tables, registered, new_sender, accounted, sent_by, lc_told, next_lc_packet}
use Rattle.lc_model.specs.Kept.Next.{next_all_delivered}
use Rattle.lc_model.specs.Kept.Executive.{joined_now, event_service_now, managed_now, table_service_now}
use Rattle.lc_model.specs.Kept.GoesWith.{own_name, IsSender, IsJudged, IsInStep, LcGoesWith, GoesWith}
use Rattle.lc_model.proofs.LimitChecker.Slots.{loaded_judged, moved_judged, loaded_active, moved_active, placed}
use Rattle.lc_model.proofs.Services.TableServiceLaws.{then_ok, found_ok}
use Rattle.host_refinement.specs.Calls.{StartsGoWith, PacketsKeep, CallsKeepOthers, TheHostKeeps, CopiesServe, IsPublication, PublishesFew}
use Rattle.host_refinement.proofs.Copies.{packet_so}
use Rattle.host_refinement.proofs.HostRecords as host
use Rattle.host_refinement.proofs.InStep.{start_in_step, packet_in_step}

-- ---- senders

kept_at : {X : Type 0} (name sender : Name) (x : X) (held : Name → Option X) → IsTrue (is_some (held name)) → IsTrue (is_some (with_at sender (Some x) held name))
kept_at name sender x held h = by_test (is_named name sender)
  where
    by_test : (test : Bool) → IsTrue (is_some (if test then Some x else held name))
    by_test true = refl
    by_test false = h

-- one call or another
pub either_called : {Image : Type 0} (P : Called Image → Type 0) (test : Bool) (x y : Called Image) → P x → P y → P (if test then x else y)
either_called P true x y a b = a
either_called P false x y a b = b

module _ {Image : Type 0} (images : Interpretation Image) where
  -- slots stay, and who sends goes on sending
  record IsKept (services after : ServicesNow Image) : Type 0 where
    slots : after.slots ≡ services.slots
    senders : (name : Name) → IsSender name services → IsSender name after

  sending_keeps : (moment : Moment) (sender : Name) (requests : List Request) (services : ServicesNow Image) → IsKept services (sent_by moment sender requests services).0
  sending_keeps moment sender requests services = by_sender (services.events sender)
    where
      by_sender : (o : Option EventState) →
          IsKept services (option_map_or (λ (events : EventState). accounted sender services (next_all_delivered moment requests (record { events = events; counts = services.counts }))) o (services, [])).0
      by_sender None = record { slots = refl; senders = λ name h. h }
      by_sender (Some events) = record { slots = refl; senders = λ name h. kept_at name sender _ services.events h }

  lc_carried : (own : LcOwn) (services after : ServicesNow Image) → IsKept services after → LcGoesWith images own services → LcGoesWith images own after
  lc_carried own services after k g =
      let h : LcGoesWith images own (record services { slots = after.slots }) =
      subst (λ slots. LcGoesWith images own (record services { slots = slots })) (sym k.slots)
      (record { wdt = g.wdt; adt = g.adt; terms = g.terms; rules = g.rules; in_step = g.in_step; sender = g.sender }) in
      record { wdt = h.wdt; adt = h.adt; terms = h.terms; rules = h.rules; in_step = h.in_step; sender = k.senders lc_name g.sender }

  carried : (state : AppState) (services after : ServicesNow Image) → IsKept services after → GoesWith images state services → GoesWith images state after
  carried (LcState own) services after k g = lc_carried own services after k g
  carried (SchState schedule slot) services after k g = record { schedule_fits = g.schedule_fits; inside = g.inside; sender = k.senders sch_name g.sender }
  carried (CounterState count) services after k g = k.senders counter_name g
  carried Other services after k g = tt

  -- another than the Limit Checker asks for its sender alone
  carried_by_sender : (state : AppState) (services after : ServicesNow Image) → IsFalse (is_named (own_name state) lc_name) →
      ((name : Name) → IsFalse (is_named name lc_name) → IsSender name services → IsSender name after) → GoesWith images state services → GoesWith images state after
  carried_by_sender (LcState own) services after two senders g = absurd (true≢false two)
  carried_by_sender (SchState schedule slot) services after two senders g = record { schedule_fits = g.schedule_fits; inside = g.inside; sender = senders sch_name two g.sender }
  carried_by_sender (CounterState count) services after two senders g = senders counter_name two g
  carried_by_sender Other services after two senders g = tt

  -- ---- the Limit Checker's calls

  told_goes : (moment : Moment) (effort : Effort) (step : LcNow Image × List Request) (services : ServicesNow Image) → IsInStep images step.0 → IsSender lc_name services →
      LcGoesWith images (lc_own images effort step.0) (lc_told images moment effort step services).services
  told_goes moment effort step services h sender =
      lc_carried (lc_own images effort step.0) (with_tables step.0 services) (lc_told images moment effort step services).services (sending_keeps moment lc_name step.1 (with_tables step.0 services))
      (record { wdt = refl; adt = refl; terms = refl; rules = refl; in_step = h; sender = sender })

  pub copies_serve : CopiesServe images
  copies_serve packet own services g = packet_so images (lc_with own services) own g.terms g.rules g.in_step.results packet

  pub starts_go_with : StartsGoWith images
  starts_go_with moment (LcState own) services may = told_goes moment no_effort (lc_start by_counts images services.files) (registered lc_name services) (start_in_step images services.files) refl
  starts_go_with moment (SchState schedule slot) services may = record { schedule_fits = may; inside = may.some; sender = refl }
  starts_go_with moment (CounterState count) services may = refl
  starts_go_with moment Other services may = tt

  pub packets_keep : PacketsKeep images
  packets_keep moment (LcState own) packet services g =
      told_goes moment (effort_after packet own) (next_lc_packet images packet own (lc_with own services)) services
      (subst (λ (step : LcNow Image × List Request). IsInStep images step.0) (sym (copies_serve packet own services g)) (packet_in_step images (lc_with own services) g.in_step packet))
      g.sender
  packets_keep moment (SchState schedule slot) packet services g =
      either_called (λ (called : Called Image). GoesWith images called.state called.services) (message_id packet == tick_mid)
      (sch_told (next_tick schedule slot) schedule services) (silent (SchState schedule slot) sch_subscriptions [] services)
      (record { schedule_fits = g.schedule_fits; inside = mod-lt (slot + 1) (omega (arith, g.inside)); sender = g.sender }) g
  packets_keep moment (CounterState count) packet services g =
      either_called (λ (called : Called Image). GoesWith images called.state called.services) (message_id packet == counter_mid)
      (counter_told moment (next_count packet count) services) (silent (CounterState count) counter_subscriptions [] services)
      ((sending_keeps moment counter_name (next_count packet count).1 services).senders counter_name g) g
  packets_keep moment Other packet services g = tt

  -- ---- the others

  senders_told : (moment : Moment) (effort : Effort) (step : LcNow Image × List Request) (services : ServicesNow Image) (name : Name) → IsSender name services → IsSender name (lc_told images moment effort step services).services
  senders_told moment effort step services name h = (sending_keeps moment lc_name step.1 (with_tables step.0 services)).senders name h

  registered_keeps : (sender : Name) (services : ServicesNow Image) → IsKept services (registered sender services)
  registered_keeps sender services = record { slots = refl; senders = λ name h. kept_at name sender new_sender services.events h }

  -- a name that is gone takes no other with it
  gone_at : (name sender : Name) (services : ServicesNow Image) → IsFalse (is_named name sender) → IsSender name services →
      IsTrue (is_some (with_at sender None services.events name))
  gone_at name sender services two h = by_test (is_named name sender) two
    where
      by_test : (test : Bool) → IsFalse test → IsTrue (is_some (if test then None else services.events name))
      by_test true e = absurd (true≢false e)
      by_test false e = h

  pub calls_keep_others : CallsKeepOthers images
  calls_keep_others (LcState own) other services two g = record {
    start = λ moment. carried_by_sender other services _ two (λ name far h. senders_told moment no_effort (lc_start by_counts images services.files) (registered lc_name services) name (kept_at name lc_name new_sender services.events h)) g;
    packet = λ moment packet. carried_by_sender other services _ two (λ name far h. senders_told moment (effort_after packet own) (next_lc_packet images packet own (lc_with own services)) services name h) g;
    retire = carried_by_sender other services _ two (λ name far h. gone_at name lc_name services far h) g;
  }
  calls_keep_others (SchState schedule slot) other services two g = record {
    start = λ moment. carried other services (registered sch_name services) (registered_keeps sch_name services) g;
    packet = λ moment packet. either_called (λ (called : Called Image). GoesWith images other called.services) (message_id packet == tick_mid)
        (sch_told (next_tick schedule slot) schedule services) (silent (SchState schedule slot) sch_subscriptions [] services) g g;
    retire = left other two g;
  }
    where
      left : (other : AppState) → IsFalse (is_named (own_name other) sch_name) → GoesWith images other services → GoesWith images other (unregistered sch_name [] services)
      left (LcState own) two g = record { wdt = g.wdt; adt = g.adt; terms = g.terms; rules = g.rules; in_step = g.in_step; sender = g.sender }
      left (SchState schedule slot) two g = absurd (true≢false two)
      left (CounterState count) two g = g
      left Other two g = tt
  calls_keep_others (CounterState count) other services two g = record {
    start = λ moment. carried other services (registered counter_name services) (registered_keeps counter_name services) g;
    packet = λ moment packet. either_called (λ (called : Called Image). GoesWith images other called.services) (message_id packet == counter_mid)
        (counter_told moment (next_count packet count) services) (silent (CounterState count) counter_subscriptions [] services)
        (carried other services _ (sending_keeps moment counter_name (next_count packet count).1 services) g) g;
    retire = left other two g;
  }
    where
      left : (other : AppState) → IsFalse (is_named (own_name other) counter_name) → GoesWith images other services → GoesWith images other (unregistered counter_name [] services)
      left (LcState own) two g = record { wdt = g.wdt; adt = g.adt; terms = g.terms; rules = g.rules; in_step = g.in_step; sender = g.sender }
      left (SchState schedule slot) two g = record { schedule_fits = g.schedule_fits; inside = g.inside; sender = g.sender }
      left (CounterState count) two g = absurd (true≢false two)
      left Other two g = tt
  calls_keep_others Other _ services two g = record { start = λ moment. tt; packet = λ moment packet. tt; retire = tt }

  -- ---- the host's services

  events_keep : (state : AppState) (services : ServicesNow Image) → GoesWith images state services → (packet : List ℕ) →
      IfOk (event_service_now packet services) (λ (after : ServicesNow Image). GoesWith images state after)
  events_keep state services g packet =
      let P : ServicesNow Image → Type 0 = λ after. GoesWith images state after in
      then_ok P (event_command_in packet) _ (λ (command : Name × LogItem) e.
      found_ok P (services.events command.0) 101 _ (λ (events : EventState) there.
      then_ok P (joined_now command.1 events) _ (λ (after : EventState) joined.
      carried state services (record services { events = with_at command.0 (Some after) services.events })
      (record { slots = refl; senders = λ name h. kept_at name command.0 after services.events h }) g)))

  -- a changed slot, or a refusal
  tables_placed : (state : AppState) (services : ServicesNow Image) (name : Name) (slot : Slot Image) (r : Result (Slot Image) Refusal) → services.slots name ≡ Some slot →
      IfOk r (λ (after : Slot Image). after.active ≡ slot.active) → ((kind : Kind) → IsJudged images kind slot → IfOk r (λ (after : Slot Image). IsJudged images kind after)) → GoesWith images state services →
      IfOk (r >>= (λ after. Ok (record services { slots = with_at name (Some after) services.slots }))) (λ (after : ServicesNow Image). GoesWith images state after)
  tables_placed state services name slot (Ok after) there active judged g = placed images state services name slot after there active judged g
  tables_placed state services name slot (Err refusal) there active judged g = tt

  managed_keeps : (state : AppState) (services : ServicesNow Image) → GoesWith images state services → (command : TableCommand) →
      IfOk (managed_now images command services) (λ (after : ServicesNow Image). GoesWith images state after)
  managed_keeps state services g (Load file) =
      let P : ServicesNow Image → Type 0 = λ after. GoesWith images state after in
      found_ok P (value_under file services.files) 111 _ (λ (meaning : FileMeaning Image) is.
      then_ok P (opened_file meaning) _ (λ (contents : Name × ℕ × Image) opens.
      found_ok P (kind_named contents.0) 113 _ (λ (kind : Kind) named.
      found_ok P (services.slots contents.0) 113 _ (λ (slot : Slot Image) there.
      then_ok P (provided (images.has_size kind contents.1) 114 contents.2) _ (λ (image : Image) fits.
      tables_placed state services contents.0 slot (loaded image slot) there (loaded_active image slot) (λ kind h. loaded_judged images kind image slot h) g)))))
  managed_keeps state services g (Manage move name) =
      let P : ServicesNow Image → Type 0 = λ after. GoesWith images state after in
      found_ok P (services.slots name) 113 _ (λ (slot : Slot Image) there.
      tables_placed state services name slot (moved move slot) there (moved_active move slot) (λ kind h. moved_judged images kind move slot h) g)

  tables_keep : (state : AppState) (services : ServicesNow Image) → GoesWith images state services → (packet : List ℕ) →
      IfOk (table_service_now images packet services) (λ (after : ServicesNow Image). GoesWith images state after)
  tables_keep state services g packet =
      then_ok (λ (after : ServicesNow Image). GoesWith images state after) (table_command_in packet) _ (λ (command : TableCommand) e. managed_keeps state services g command)

  pub the_host_keeps : TheHostKeeps images
  the_host_keeps state services g = record {
    events = events_keep state services g;
    tables = tables_keep state services g;
    files = λ files. carried state services (record services { files = files }) (record { slots = refl; senders = λ name h. h }) g;
    sending = λ moment sender requests. carried state services _ (sending_keeps moment sender requests services) g;
  }

  -- ---- what is published

  at_most_eight : (slots : List (List ScheduleEntry)) (slot : ℕ) → AllByRecursion AreEntries slots → length (slice_index_or slots slot []) ≤ 8
  at_most_eight [] slot all = omega arith
  at_most_eight (entries ∷ slots) zero all = all.0.0
  at_most_eight (entries ∷ slots) (suc slot) all = at_most_eight slots slot all.1

  none_ticks : (entries : List ScheduleEntry) → AllByRecursion (λ (other : List ℕ). message_id other ≢ tick_mid) (map entry_packet entries)
  none_ticks [] = tt
  none_ticks (Sample first last ages ∷ entries) = ((λ e. omega (arith, e)), none_ticks entries)
  none_ticks (Housekeeping ∷ entries) = ((λ e. omega (arith, e)), none_ticks entries)

  nothing : (packet : List ℕ) → IsPublication packet []
  nothing packet = record { few = omega arith; for_ticks = λ some. absurd (some refl); no_ticks = tt }

  pub publishes_few : PublishesFew images
  publishes_few moment (LcState own) packet services g = nothing packet
  publishes_few moment (SchState schedule slot) packet services g = by_test (message_id packet == tick_mid) refl
    where
      tick : Called Image
      tick = sch_told (next_tick schedule slot) schedule services

      other : Called Image
      other = silent (SchState schedule slot) sch_subscriptions [] services

      by_test : (test : Bool) → (message_id packet == tick_mid) ≡ test → IsPublication packet (let called : Called Image = if test then tick else other in called.published)
      by_test true e = record {
        few = subst (λ n. n ≤ 8) (sym (length-map (entries_at schedule slot) entry_packet)) (at_most_eight schedule slot g.schedule_fits.slots);
        for_ticks = λ some. (Decides-eqb (message_id packet) tick_mid).0 e;
        no_ticks = none_ticks (entries_at schedule slot);
      }
      by_test false e = nothing packet
  publishes_few moment (CounterState count) packet services g =
      either_called (λ (called : Called Image). IsPublication packet called.published) (message_id packet == counter_mid)
      (counter_told moment (next_count packet count) services) (silent (CounterState count) counter_subscriptions [] services) (nothing packet) (nothing packet)
  publishes_few moment Other packet services g = tt
