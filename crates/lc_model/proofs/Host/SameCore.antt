-- Worlds that agree in all that sequence requests depend on, and what sending keeps of that.
use Rattle.std.proofs.Common.{◌≡◌, ℕ, ◌+◌, ◌%◌, Bool, true, false, cond, List, [], ◌∷◌, ◌++◌, ◌==◌, count_by, refl, ap, ap₂, sym, ◌∙◌, arith, Option, Some, None, if◌then◌else◌}
use Rattle.std.specs.List.{filter}
use Rattle.std.specs.Option.{option_map, option_map_or}
use Rattle.std.proofs.lemmas.List.Sums.{sum_by-cons}
use Rattle.std.proofs.lemmas.List.Elements.{filter-append}
use Rattle.lc_model.specs.declared.record.Moment.{Moment}
use Rattle.lc_model.specs.declared.rule.EventKind.{EventKind}
use Rattle.lc_model.specs.Name.{Name, is_named, host_name, lc_name, sch_name, counter_name}
use Rattle.lc_model.specs.Packet.{event_mid, lc_housekeeping_mid, sequence_mid, message_id}
use Rattle.lc_model.specs.Tables.Interpretation.{FileMeaning}
use Rattle.lc_model.specs.Events.Request.{Request, Event, Sequence, Housekeeping}
use Rattle.lc_model.specs.Events.Log.{Log, Requested, chosen}
use Rattle.lc_model.specs.Events.Outgoing.{event_packet, sequence_request, housekeeping_packet}
use Rattle.lc_model.specs.Host.World.{World, Lc, Running, Application, logged, log_of, with_log, sequence_count}
use Rattle.lc_model.specs.Host.Run.{Sent, event_sent, sent, delivered, all_delivered}

-- ---- alike

-- what sequence requests depend on, besides how many were sent
pub record Core (Image : Type 0) : Type 0 where
  pub files : List (Name × FileMeaning Image)
  pub lc : Option (Lc Image)
  pub lc_spares : ℕ
  pub sch : Option ℕ
  pub sch_spares : ℕ

-- the state of an application that runs
abbrev pub state_in : {State : Type 0} → Application State → Option State
state_in {State} app = option_map (λ (r : Running State). r.state) app.running

-- the core of a world
abbrev pub core_of : {Image : Type 0} → World Image → Core Image
core_of w = record { files = w.files; lc = state_in w.lc; lc_spares = w.lc.spares; sch = state_in w.sch; sch_spares = w.sch.spares }

-- a packet is a sequence request
abbrev pub is_sequence : List ℕ → Bool
is_sequence packet = message_id packet == sequence_mid

-- how many of the packets are
abbrev pub sequences_in : List (List ℕ) → ℕ
sequences_in packets = count_by (λ packet. message_id packet == sequence_mid) packets

-- two worlds agree in all that sequence requests depend on
pub record SameCore {Image : Type 0} (w v : World Image) : Type 0 where
  pub core : core_of w ≡ core_of v
  pub count : sequences_in w.sent ≡ sequences_in v.sent

pub itself : {Image : Type 0} (w : World Image) → SameCore w w
itself w = record { core = refl; count = refl }

pub and_so : {Image : Type 0} (w v u : World Image) → SameCore w v → SameCore v u → SameCore w u
and_so w v u a b = record { core = a.core ∙ b.core; count = a.count ∙ b.count }

pub back : {Image : Type 0} (w v : World Image) → SameCore w v → SameCore v w
back w v a = record { core = sym a.core; count = sym a.count }

-- ---- logs

relogged : {State : Type 0} (log : Log) (app : Application State) → state_in (logged log app) ≡ state_in app
relogged {State} log app = by_running app.running
  where
    by_running : (o : Option (Running State)) →
        option_map (λ (r : Running State). r.state) (option_map (λ (r : Running State). record r { log = log }) o) ≡ option_map (λ (r : Running State). r.state) o
    by_running None = refl
    by_running (Some r) = refl

-- a log counts for nothing
pub any_log : {Image : Type 0} (name : Name) (log : Log) (w : World Image) → SameCore (with_log name log w) w
any_log {Image} name log w = at_host (is_named name host_name) (is_named name lc_name) (is_named name sch_name) (is_named name counter_name)
  where
    at_host : (a b c d : Bool) →
        SameCore (if a then record w { host = log } else if b then record w { lc = logged log w.lc } else if c then record w { sch = logged log w.sch }
        else if d then record w { counter = logged log w.counter } else w) w
    at_host true b c d = record { core = refl; count = refl }
    at_host false true c d =
        record { core = ap (λ lc. record { files = w.files; lc = lc; lc_spares = w.lc.spares; sch = state_in w.sch; sch_spares = w.sch.spares }) (relogged log w.lc); count = refl }
    at_host false false true d =
        record { core = ap (λ sch. record { files = w.files; lc = state_in w.lc; lc_spares = w.lc.spares; sch = sch; sch_spares = w.sch.spares }) (relogged log w.sch); count = refl }
    at_host false false false true = record { core = refl; count = refl }
    at_host false false false false = record { core = refl; count = refl }

-- ---- sending

-- the sequences that are requested
abbrev pub numbers_in : List Request → List ℕ
numbers_in [] = []
numbers_in (Event sender id kind text ∷ requests) = numbers_in requests
numbers_in (Sequence number ∷ requests) = number ∷ numbers_in requests
numbers_in (Housekeeping mode points ∷ requests) = numbers_in requests

-- the packets that request them, behind so many
abbrev pub requests_from : ℕ → List ℕ → List (List ℕ)
requests_from count [] = []
requests_from count (number ∷ numbers) = sequence_request (count % 16384) number ∷ requests_from (1 + count) numbers

-- how many there are then
abbrev pub count_after : ℕ → List ℕ → ℕ
count_after count [] = count
count_after count (number ∷ numbers) = count_after (1 + count) numbers

-- what is sent for requests of these sequences
pub record Sends {Image : Type 0} (numbers : List ℕ) (w : World Image) (s : Sent Image) : Type 0 where
  pub core : core_of s.0 ≡ core_of w
  pub count : sequences_in s.0.sent ≡ count_after (sequences_in w.sent) numbers
  pub packets : filter is_sequence s.1 ≡ requests_from (sequences_in w.sent) numbers

more_sent : (packet : List ℕ) (packets : List (List ℕ)) → sequences_in (packet ∷ packets) ≡ cond (is_sequence packet) 1 0 + sequences_in packets
more_sent packet packets = sum_by-cons (λ p. cond (message_id p == sequence_mid) 1 0) packet packets

one_event : {Image : Type 0} (moment : Moment) (sender : Name) (id : ℕ) (kind : EventKind) (text : List ℕ) (w : World Image) →
    Sends [] w (delivered moment (Event sender id kind text) w)
one_event {Image} moment sender id kind text w = by_log (log_of w sender)
  where
    by_test : (log : Log) (test : Bool) →
        let after : World Image = with_log sender (Requested id kind ∷ log) w in
        Sends [] w (if test then sent (event_packet (sequence_count event_mid w.sent) moment sender id kind text) after else (after, []))
    by_test log true =
        let after : World Image = with_log sender (Requested id kind ∷ log) w in
        let alike : SameCore after w = any_log sender (Requested id kind ∷ log) w in
        let zero_more : 0 + sequences_in after.sent ≡ sequences_in after.sent = omega arith in
        record {
          core = alike.core;
          count = more_sent (event_packet (sequence_count event_mid w.sent) moment sender id kind text) after.sent ∙ zero_more ∙ alike.count;
          packets = refl;
        }
    by_test log false =
        let alike = any_log sender (Requested id kind ∷ log) w in
        record { core = alike.core; count = alike.count; packets = refl }

    by_log : (o : Option Log) → Sends [] w (option_map_or (λ log. event_sent moment sender id kind text log w) o (w, []))
    by_log None = record { core = refl; count = refl; packets = refl }
    by_log (Some log) = by_test log (chosen id kind log)

-- what is sent depends on the sequences that are requested, and on how many were before
pub all_sent : {Image : Type 0} (moment : Moment) (requests : List Request) (w : World Image) →
    Sends (numbers_in requests) w (all_delivered moment requests w)
all_sent moment [] w = record { core = refl; count = refl; packets = refl }
all_sent {Image} moment (Event sender id kind text ∷ requests) w =
    let first : Sent Image = delivered moment (Event sender id kind text) w in
    let others : Sent Image = all_delivered moment requests first.0 in
    let one = one_event moment sender id kind text w in
    let more = all_sent moment requests first.0 in
    record {
      core = more.core ∙ one.core;
      count = more.count ∙ ap (λ n. count_after n (numbers_in requests)) one.count;
      packets = filter-append is_sequence first.1 others.1 ∙ ap₂ (λ a b. a ++ b) one.packets more.packets
          ∙ ap (λ n. requests_from n (numbers_in requests)) one.count;
    }
all_sent {Image} moment (Sequence number ∷ requests) w =
    let packet : List ℕ = sequence_request (sequence_count sequence_mid w.sent) number in
    let first : World Image = record w { sent = packet ∷ w.sent } in
    let more = all_sent moment requests first in
    let counted : sequences_in first.sent ≡ 1 + sequences_in w.sent = more_sent packet w.sent in
    record {
      core = more.core;
      count = more.count ∙ ap (λ n. count_after n (numbers_in requests)) counted;
      packets = ap (λ ps. packet ∷ ps) (more.packets ∙ ap (λ n. requests_from n (numbers_in requests)) counted);
    }
all_sent {Image} moment (Housekeeping mode points ∷ requests) w =
    let packet : List ℕ = housekeeping_packet (sequence_count lc_housekeeping_mid w.sent) moment mode points in
    let first : World Image = record w { sent = packet ∷ w.sent } in
    let more = all_sent moment requests first in
    let zero_more : 0 + sequences_in w.sent ≡ sequences_in w.sent = omega arith in
    let counted : sequences_in first.sent ≡ sequences_in w.sent = more_sent packet w.sent ∙ zero_more in
    record {
      core = more.core;
      count = more.count ∙ ap (λ n. count_after n (numbers_in requests)) counted;
      packets = more.packets ∙ ap (λ n. requests_from n (numbers_in requests)) counted;
    }
