-- From worlds that are alike the same packets are sent, and they stay alike.
use Rattle.std.proofs.Common.{◌≡◌, refl, ap, ap₂, subst, ℕ, List, [], ◌∷◌, ◌++◌, Option}
use Rattle.std.specs.List.{AllByRecursion}
use Rattle.std.specs.Option.{option_map_or}
use Rattle.lc_model.specs.declared.record.Moment.{Moment}
use Rattle.lc_model.specs.declared.rule.EventKind.{EventKind}
use Rattle.lc_model.specs.Name.{Name}
use Rattle.lc_model.specs.Packet.{event_mid, sequence_mid, lc_housekeeping_mid}
use Rattle.lc_model.specs.Tables.Interpretation.{FileMeaning, FileMeanings, Interpretation}
use Rattle.lc_model.specs.Events.Request.{Request, Event, Sequence, Housekeeping}
use Rattle.lc_model.specs.Events.Log.{Log, Requested, chosen}
use Rattle.lc_model.specs.Events.Outgoing.{event_packet, sequence_request, housekeeping_packet}
use Rattle.lc_model.specs.Host.Schedule.{Schedule}
use Rattle.lc_model.specs.Host.Stream.{StreamEntry}
use Rattle.lc_model.specs.Host.World.{World, Running, Lc, first_world, log_of, with_log, sequence_count}
use Rattle.lc_model.specs.Host.React.{Step, react}
use Rattle.lc_model.specs.Host.Run.{Sent, input_of, sent, event_sent, delivered, all_delivered, handled, sent_from}
use Rattle.lc_model.specs.Laws.Correspondence.{BothOrNone, Agrees, InputAlike, StepAlike}
use Rattle.lc_model.proofs.Host.TwoReadings.{branch, same_map_or}
use Rattle.lc_model.proofs.Host.CorrespondenceLaws.{Runs, Stored, Worlds, twin, settled, unchanged, log_same, with_log_alike, each_input_keeps}

module _ {A B : Type 0} (alike : A → B → Type 0) (images : Interpretation A) (others : Interpretation B) (agree : Agrees alike images others) where
  abbrev Both : World A → World B → Type 0
  Both = Worlds alike images others agree

  -- the worlds afterwards are alike, and the same was sent
  abbrev Sends : Sent A → Sent B → Type 0
  Sends s t = Both s.0 t.0 × (s.1 ≡ t.1)

  one_more : (packet : List ℕ) (w : World A) (v : World B) → Both w v → Sends (sent packet w) (sent packet v)
  one_more packet w v h = (
    record {
      files = h.files;
      host = h.host;
      lc = h.lc;
      lc_spares = h.lc_spares;
      sch = h.sch;
      counter = h.counter;
      sent = ap (λ packets. packet ∷ packets) h.sent;
    },
    refl,
  )

  -- ---- one request

  module _ (w : World A) (files : List (Name × FileMeaning B)) (running : Option (Running (Lc B)))
      (h : Stored alike images others agree w.files files) (r : BothOrNone (Runs alike images others agree) w.lc.running running) where
    event_alike : (moment : Moment) (sender : Name) (id : ℕ) (kind : EventKind) (text : List ℕ) (log : Log) →
        Sends (event_sent moment sender id kind text log w) (event_sent moment sender id kind text log (twin alike images others agree w files running))
    event_alike moment sender id kind text log =
        let v : World B = twin alike images others agree w files running in
        let packet : List ℕ = event_packet (sequence_count event_mid w.sent) moment sender id kind text in
        let w' : World A = with_log sender (Requested id kind ∷ log) w in
        let v' : World B = with_log sender (Requested id kind ∷ log) v in
        let after : Both w' v' = with_log_alike alike images others agree w files running h r sender (Requested id kind ∷ log) in
        branch Sends (chosen id kind log) (sent packet w') (w', []) (sent packet v') (v', []) (one_more packet w' v' after) (after, refl)

    request_alike : (moment : Moment) (request : Request) →
        Sends (delivered moment request w) (delivered moment request (twin alike images others agree w files running))
    request_alike moment (Event sender id kind text) =
        let v : World B = twin alike images others agree w files running in
        subst (λ (o : Option Log). Sends (delivered moment (Event sender id kind text) w)
        (option_map_or (λ log. event_sent moment sender id kind text log v) o (v, []))) (log_same alike images others agree w files running h r sender)
        (same_map_or Sends (λ log. event_sent moment sender id kind text log w) (λ log. event_sent moment sender id kind text log v)
        (log_of w sender) (w, []) (v, []) (event_alike moment sender id kind text) (unchanged alike images others agree w files running h r, refl))
    request_alike moment (Sequence number) =
        one_more (sequence_request (sequence_count sequence_mid w.sent) number) w (twin alike images others agree w files running)
        (unchanged alike images others agree w files running h r)
    request_alike moment (Housekeeping mode points) =
        one_more (housekeeping_packet (sequence_count lc_housekeeping_mid w.sent) moment mode points) w (twin alike images others agree w files running)
        (unchanged alike images others agree w files running h r)

  -- ---- all requests of one record

  all_alike : (moment : Moment) (requests : List Request) (w : World A) (v : World B) → Both w v →
      Sends (all_delivered moment requests w) (all_delivered moment requests v)
  all_alike moment [] w v h = (h, refl)
  all_alike moment (request ∷ requests) w v h =
      let first : Sends (delivered moment request w) (delivered moment request v) =
      settled alike images others agree w (λ v. Sends (delivered moment request w) (delivered moment request v))
      (λ files running f r. request_alike w files running f r moment request) v h in
      let rest = all_alike moment requests (delivered moment request w).0 (delivered moment request v).0 first.0 in
      (rest.0, ap₂ (λ a b. a ++ b) first.1 rest.1)

  pub step_alike : (moment : Moment) (s : Step A) (t : Step B) → StepAlike alike images others s t → Sends (all_delivered moment s.1 s.0) (all_delivered moment t.1 t.0)
  step_alike moment s t h =
      subst (λ requests. Sends (all_delivered moment s.1 s.0) (all_delivered moment requests t.0)) h.requests (all_alike moment s.1 s.0 t.0 h.world)

  -- ---- all records

  pub sent_alike : (schedule : Schedule) (meanings : FileMeanings A) (theirs : FileMeanings B) (entries : List StreamEntry) →
      AllByRecursion (λ (entry : StreamEntry). InputAlike alike images others (input_of meanings entry.contents) (input_of theirs entry.contents)) entries →
      (w : World A) (v : World B) → Both w v → sent_from images schedule w meanings entries ≡ sent_from others schedule v theirs entries
  sent_alike schedule meanings theirs [] inputs w v h = refl
  sent_alike schedule meanings theirs (entry ∷ entries) inputs w v h =
      let i = input_of meanings entry.contents in
      let j = input_of theirs entry.contents in
      let first = step_alike entry.moment (react images schedule w i) (react others schedule v j)
      (each_input_keeps alike images others agree schedule w v i j h inputs.0) in
      ap₂ (λ a b. a ++ b) first.1
      (sent_alike schedule meanings theirs entries inputs.1 (handled images schedule entry.moment i w).0 (handled others schedule entry.moment j v).0 first.0)

  pub first_alike : (stock : List Name) → Both (first_world stock) (first_world stock)
  first_alike stock = record { files = tt; host = refl; lc = tt; lc_spares = refl; sch = refl; counter = refl; sent = refl }
