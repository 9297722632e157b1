-- What is sent for the requests of one sender, in numbers and over the world.
use Rattle.std.proofs.Common.{◌≡◌, ℕ, Bool, true, false, List, [], ◌∷◌, ◌++◌, refl, ap, sym, ◌∙◌, subst, Option, Some, None, option_map, if◌then◌else◌, IsFalse, true≢false}
use Rattle.std.specs.Option.{option_map_or}
use Rattle.std.proofs.lemmas.Slice.Eq.{bytes_eq-Decides}
use Rattle.lc_model.specs.declared.record.Moment.{Moment}
use Rattle.lc_model.specs.declared.rule.EventKind.{EventKind}
use Rattle.lc_model.specs.Name.{Name, is_named, host_name, lc_name, sch_name, counter_name}
use Rattle.lc_model.specs.Packet.{event_mid}
use Rattle.lc_model.specs.Tables.Slot.{Slot}
use Rattle.lc_model.specs.Tables.Interpretation.{FileMeaning}
use Rattle.lc_model.specs.Events.Request.{Request, Event, Sequence, Housekeeping}
use Rattle.lc_model.specs.Events.Log.{Log, Requested, chosen}
use Rattle.lc_model.specs.Events.Outgoing.{event_packet}
use Rattle.lc_model.specs.Host.World.{World, Application, Running, log_in, logged, log_of, with_log, sequence_count}
use Rattle.lc_model.specs.Host.Run.{Sent, event_sent, sent, delivered, all_delivered}
use Rattle.lc_model.specs.Kept.Summary.{EventState, event_state, counts_of}
use Rattle.lc_model.specs.Kept.Next.{Accounts, next_delivered, next_all_delivered}
use Rattle.lc_model.specs.Kept.Call.{with_at, ServicesNow, sent_by, accounted}
use Rattle.lc_model.specs.Laws.Events.{HasLog, log_after, accounts_of}
use Rattle.lc_model.proofs.Events.SendLaws.{same_delivery}
use Rattle.lc_model.proofs.Services.SenderNames.{with_at_twice}
use Rattle.host_refinement.specs.Keeping.{state_of, standing_of, events_of}
use Rattle.host_refinement.proofs.Names.{by_names, host_changed, lc_changed, sch_changed, counter_changed, pushed}

-- ---- logs

-- a log that is there is replaced
logged_in : {State : Type 0} (log old : Log) (app : Application State) → log_in app ≡ Some old → log_in (logged log app) ≡ Some log
logged_in {State} log old app has = by_running app.running has
  where
    by_running : (o : Option (Running State)) → option_map (λ (r : Running State). r.log) o ≡ Some old →
        option_map (λ (r : Running State). r.log) (option_map (λ (r : Running State). record r { log = log }) o) ≡ Some log
    by_running None e = absurd (true≢false (ap is_there (sym e)))
      where
        is_there : Option Log → Bool
        is_there None = false
        is_there (Some l) = true
    by_running (Some r) e = refl

is_there : Option Log → Bool
is_there None = false
is_there (Some l) = true

none_held : {A : Type 0} (old : Log) → None ≡ Some old → A
unfolding is_there
none_held old e = absurd (true≢false (ap is_there (sym e)))

-- a log that no name has
unknown : {A Image : Type 0} (sender : Name) (old : Log) (w : World Image) →
    IsFalse (is_named sender host_name) → IsFalse (is_named sender lc_name) → IsFalse (is_named sender sch_name) → IsFalse (is_named sender counter_name) →
    log_of w sender ≡ Some old → A
unknown {A} sender old w p q r t has =
    none_held {A = A} old (sym (λ i. if p i then Some w.host else if q i then log_in w.lc else if r i then log_in w.sch else if t i then log_in w.counter else None) ∙ has)

logged_stays : {State : Type 0} (log : Log) (app : Application State) → state_of (logged log app) ≡ state_of app
logged_stays {State} log app = by_running app.running
  where
    by_running : (o : Option (Running State)) →
        option_map (λ (r : Running State). r.state) (option_map (λ (r : Running State). record r { log = log }) o) ≡ option_map (λ (r : Running State). r.state) o
    by_running None = refl
    by_running (Some r) = refl

module _ {Image : Type 0} where
  -- the sender's log is the new one
  pub log_with : (sender : Name) (log old : Log) (w : World Image) → log_of w sender ≡ Some old → log_of (with_log sender log w) sender ≡ Some log
  log_with sender log old w = by_names (λ sender. log_of w sender ≡ Some old → log_of (with_log sender log w) sender ≡ Some log) sender
      (λ has. refl) (logged_in log old w.lc) (logged_in log old w.sch) (logged_in log old w.counter)
      (λ p q r t has. unknown sender old w p q r t has)

  -- and each other's is as it was
  pub events_with : (sender : Name) (log old : Log) (w : World Image) → log_of w sender ≡ Some old →
      events_of (with_log sender log w) ≡ with_at sender (Some (event_state log)) (events_of w)
  events_with sender log old w = by_names (λ sender. log_of w sender ≡ Some old → events_of (with_log sender log w) ≡ with_at sender (Some (event_state log)) (events_of w)) sender
      (λ has i name. (ap state (host_changed (Some w.host) lc sch counter None (Some log) name) ∙ pushed state (Some log) (log_of w name) (is_named name host_name)) i)
      (λ has i name. (ap state (lc_changed (Some w.host) lc sch counter None (log_in (logged log w.lc)) name ∙ ap (λ l. with_at lc_name l (log_of w) name) (logged_in log old w.lc has))
      ∙ pushed state (Some log) (log_of w name) (is_named name lc_name)) i)
      (λ has i name. (ap state (sch_changed (Some w.host) lc sch counter None (log_in (logged log w.sch)) name ∙ ap (λ l. with_at sch_name l (log_of w) name) (logged_in log old w.sch has))
      ∙ pushed state (Some log) (log_of w name) (is_named name sch_name)) i)
      (λ has i name. (ap state (counter_changed (Some w.host) lc sch counter None (log_in (logged log w.counter)) name ∙ ap (λ l. with_at counter_name l (log_of w) name) (logged_in log old w.counter has))
      ∙ pushed state (Some log) (log_of w name) (is_named name counter_name)) i)
      (λ p q r t has. unknown sender old w p q r t has)
    where
      state : Option Log → Option EventState
      state = option_map event_state

      lc : Option Log
      lc = log_in w.lc

      sch : Option Log
      sch = log_in w.sch

      counter : Option Log
      counter = log_in w.counter

  -- ---- what stands

  pub log_stands : (sender : Name) (log : Log) (w : World Image) → standing_of (with_log sender log w) ≡ standing_of w
  log_stands sender log w = at_tests (is_named sender host_name) (is_named sender lc_name) (is_named sender sch_name) (is_named sender counter_name)
    where
      at_tests : (a b c d : Bool) →
          standing_of (if a then record w { host = log } else if b then record w { lc = logged log w.lc } else if c then record w { sch = logged log w.sch }
          else if d then record w { counter = logged log w.counter } else w) ≡ standing_of w
      at_tests true b c d = refl
      at_tests false true c d = λ i. record (standing_of w) { lc = logged_stays log w.lc i }
      at_tests false false true d = λ i. record (standing_of w) { sch = logged_stays log w.sch i }
      at_tests false false false true = λ i. record (standing_of w) { counter = logged_stays log w.counter i }
      at_tests false false false false = refl

  -- what one request leaves of the world stands as it did
  one_stands : (moment : Moment) (request : Request) (w : World Image) → standing_of (delivered moment request w).0 ≡ standing_of w
  one_stands moment (Sequence number) w = refl
  one_stands moment (Housekeeping mode points) w = refl
  one_stands moment (Event sender id kind text) w = by_log (log_of w sender)
    where
      by_test : (log : Log) (test : Bool) →
          let after : World Image = with_log sender (Requested id kind ∷ log) w in
          standing_of (if test then sent (event_packet (sequence_count event_mid w.sent) moment sender id kind text) after else (after, [])).0 ≡ standing_of w
      by_test log true = log_stands sender (Requested id kind ∷ log) w
      by_test log false = log_stands sender (Requested id kind ∷ log) w

      by_log : (o : Option Log) → standing_of (option_map_or (λ log. event_sent moment sender id kind text log w) o (w, [])).0 ≡ standing_of w
      by_log None = refl
      by_log (Some log) = by_test log (chosen id kind log)

  pub all_stand : (moment : Moment) (requests : List Request) (w : World Image) → standing_of (all_delivered moment requests w).0 ≡ standing_of w
  all_stand moment [] w = refl
  all_stand moment (request ∷ requests) w = all_stand moment requests (delivered moment request w).0 ∙ one_stands moment request w

-- ---- requests of one sender

-- an event of this sender, or what is no event
abbrev pub IsOf : Name → Request → Type 0
IsOf sender (Event other id kind text) = other ≡ sender
IsOf sender (Sequence number) = Unit {0}
IsOf sender (Housekeeping mode points) = Unit {0}

abbrev pub AreOf : Name → List Request → Type 0
AreOf sender [] = Unit {0}
AreOf sender (request ∷ requests) = IsOf sender request × AreOf sender requests

module _ {Image : Type 0} where
  own_log : (sender : Name) (log : Log) (w : World Image) → log_of w sender ≡ Some log → events_of w ≡ with_at sender (Some (event_state log)) (events_of w)
  own_log sender log w has i name = either (is_named name sender) refl i
    where
      at_sender : name ≡ sender → events_of w name ≡ Some (event_state log)
      at_sender e = ap (events_of w) e ∙ ap (option_map event_state) has

      either : (test : Bool) → is_named name sender ≡ test → events_of w name ≡ (if test then Some (event_state log) else events_of w name)
      either true e = at_sender ((bytes_eq-Decides name sender).0 e)
      either false e = refl

  -- the sender's log after one request, and all others as they were
  record One (sender : Name) (log : Log) (w : World Image) (d : Sent Image) : Type 0 where
    has : log_of d.0 sender ≡ Some log
    events : events_of d.0 ≡ with_at sender (Some (event_state log)) (events_of w)

  one_event : (moment : Moment) (sender : Name) (id : ℕ) (kind : EventKind) (text : List ℕ) (log : Log) (w : World Image) → log_of w sender ≡ Some log →
      One sender (Requested id kind ∷ log) w (delivered moment (Event sender id kind text) w)
  one_event moment sender id kind text log w has =
      subst (λ (o : Option Log). One sender longer w (option_map_or (λ log. event_sent moment sender id kind text log w) o (w, []))) (sym has) (by_test (chosen id kind log))
    where
      longer : Log
      longer = Requested id kind ∷ log

      after : World Image
      after = with_log sender (Requested id kind ∷ log) w

      by_test : (test : Bool) → One sender longer w (if test then sent (event_packet (sequence_count event_mid w.sent) moment sender id kind text) after else (after, []))
      by_test true = record { has = log_with sender longer log w has; events = events_with sender longer log w has }
      by_test false = record { has = log_with sender longer log w has; events = events_with sender longer log w has }

  one_request : (moment : Moment) (request : Request) (sender : Name) (log : Log) (w : World Image) → IsOf sender request → log_of w sender ≡ Some log →
      One sender (log_after request log) w (delivered moment request w)
  one_request moment (Sequence number) sender log w own has = record { has = has; events = own_log sender log w has }
  one_request moment (Housekeeping mode points) sender log w own has = record { has = has; events = own_log sender log w has }
  one_request moment (Event other id kind text) sender log w own has =
      subst (λ name. One sender (Requested id kind ∷ log) w (delivered moment (Event name id kind text) w)) (sym own) (one_event moment sender id kind text log w has)

  has_log : (request : Request) (sender : Name) (log : Log) (w : World Image) → IsOf sender request → log_of w sender ≡ Some log → HasLog request log w
  has_log (Sequence number) sender log w own has = tt
  has_log (Housekeeping mode points) sender log w own has = tt
  has_log (Event other id kind text) sender log w own has = ap (log_of w) own ∙ has

  -- what is sent for them in numbers is what is sent for them over the world
  pub record SendAlike (moment : Moment) (requests : List Request) (sender : Name) (log : Log) (w : World Image) : Type 0 where
    pub after : Log
    pub has : log_of (all_delivered moment requests w).0 sender ≡ Some after
    pub same : next_all_delivered moment requests (accounts_of log w) ≡ (accounts_of after (all_delivered moment requests w).0, (all_delivered moment requests w).1)
    pub events : events_of (all_delivered moment requests w).0 ≡ with_at sender (Some (event_state after)) (events_of w)

  pub send_alike : (moment : Moment) (requests : List Request) (sender : Name) (log : Log) (w : World Image) → AreOf sender requests → log_of w sender ≡ Some log →
      SendAlike moment requests sender log w
  send_alike moment [] sender log w own has = record { after = log; has = has; same = refl; events = own_log sender log w has }
  send_alike moment (request ∷ requests) sender log w own has =
      let first : Sent Image = delivered moment request w in
      let one : One sender (log_after request log) w first = one_request moment request sender log w own.0 has in
      let others : SendAlike moment requests sender (log_after request log) first.0 = send_alike moment requests sender (log_after request log) first.0 own.1 one.has in
      let now : next_delivered moment request (accounts_of log w) ≡ (accounts_of (log_after request log) first.0, first.1) =
      same_delivery moment request log w (has_log request sender log w own.0 has) in
      record {
        after = others.after;
        has = others.has;
        same = ap (λ (d : Accounts × List (List ℕ)). let more : Accounts × List (List ℕ) = next_all_delivered moment requests d.0 in (more.0, d.1 ++ more.1)) now
            ∙ ap (λ (more : Accounts × List (List ℕ)). (more.0, first.1 ++ more.1)) others.same;
        events = others.events ∙ ap (λ held. with_at sender (Some (event_state others.after)) held) one.events
            ∙ with_at_twice sender (Some (event_state others.after)) (Some (event_state (log_after request log))) (events_of w);
      }

  -- the services with a world's senders and counts
  abbrev pub services_with : List (Name × FileMeaning Image) → (Name → Option (Slot Image)) → World Image → ServicesNow Image
  services_with files slots w = record { files = files; slots = slots; events = events_of w; counts = counts_of w.sent }

  -- whatever else the services hold, one sender's requests leave them with the world's senders and counts
  pub sent_alike : (moment : Moment) (requests : List Request) (sender : Name) (log : Log) (w : World Image) (files : List (Name × FileMeaning Image)) (slots : Name → Option (Slot Image)) →
      AreOf sender requests → log_of w sender ≡ Some log →
      sent_by moment sender requests (services_with files slots w) ≡ (services_with files slots (all_delivered moment requests w).0, (all_delivered moment requests w).1)
  sent_alike moment requests sender log w files slots own has =
      let alike : SendAlike moment requests sender log w = send_alike moment requests sender log w own has in
      let services : ServicesNow Image = services_with files slots w in
      let t : Sent Image = all_delivered moment requests w in
      ap (λ (o : Option EventState). option_map_or (λ (events : EventState). accounted sender services (next_all_delivered moment requests (record { events = events; counts = services.counts }))) o (services, []))
      (ap (option_map event_state) has)
      ∙ ap (accounted sender services) alike.same
      ∙ ap (λ held. (let after : ServicesNow Image = record { files = files; slots = slots; events = held; counts = counts_of t.0.sent } in after, t.1)) (sym alike.events)
