-- What is kept of sent packets, ticks and counted commands agrees with them.
use Rattle.std.proofs.Common.{◌≡◌, ℕ, suc, ◌+◌, ◌-◌, ◌%◌, min, Bool, true, false, cond, List, [], ◌∷◌, ◌++◌, map, length, replicate, ◌==◌, count_by, refl, ap, sym, ◌∙◌, arith, Result, Ok, Err, if◌then◌else◌, codes, length-append}
use Rattle.std.specs.Option.{option_map_or}
use Rattle.std.proofs.lemmas.List.{length-map, length-replicate}
use Rattle.std.proofs.lemmas.List.Sums.{sum_by-cons}
use Rattle.std.proofs.Math.Nat.{mod-add-mod}
use Rattle.lc_model.specs.declared.rule.EventKind.TheVariants.{Information}
use Rattle.lc_model.specs.Name.{Name, is_named, host_name, lc_name, sch_name, counter_name}
use Rattle.lc_model.specs.Packet.{event_mid, lc_housekeeping_mid, sequence_mid, function_code, payload, message_id}
use Rattle.lc_model.specs.Refusal.{Refusal}
use Rattle.lc_model.specs.Codes.{table_entries}
use Rattle.lc_model.specs.Events.Request.{Event, Sequence, Housekeeping, counted, numbered}
use Rattle.lc_model.specs.Events.Log.{Log, Requested, chosen}
use Rattle.lc_model.specs.Events.Outgoing.{event_packet, sequence_request, standing_byte, housekeeping_packet}
use Rattle.lc_model.specs.Command.{bare_request}
use Rattle.lc_model.specs.Host.Schedule.{slot_number, entry_packet, entries_at}
use Rattle.lc_model.specs.Host.World.{World, logged, with_log, sequence_count}
use Rattle.lc_model.specs.Host.React.{counter_answer}
use Rattle.lc_model.specs.Host.Run.{Sent, event_sent, sent}
use Rattle.lc_model.specs.Kept.Summary.{event_state, count_now, counts_of}
use Rattle.lc_model.specs.Kept.Next.{next_answer, events_after, Accounts, counts_after}
use Rattle.lc_model.specs.Laws.Events.{HousekeepingHas192Bytes, SameDelivery}
use Rattle.lc_model.specs.Laws.Counters.{SameTick, SameCount}
use Rattle.lc_model.proofs.Events.LogLaws.{same_choice, another_item}
use Rattle.lc_model.proofs.Facts.{equal_either_way}

pub same_tick : SameTick
same_tick schedule ticks = ap (λ n. (n, map entry_packet (entries_at schedule (slot_number schedule ticks)))) (mod-add-mod ticks (length schedule) 1)

pub same_count : SameCount
same_count packet accepted = by_request (bare_request 1 (function_code packet) (payload packet))
  where
    more : min (count_now accepted + 1) 4294967295 ≡ count_now (accepted + 1)
    more = omega arith

    told : counted (count_now accepted + 1) ≡ counted (accepted + 1)
    told = ap (λ n. Event counter_name 1 Information (numbered (codes "count") (n ∷ []))) more

    by_request : (r : Result (Unit {0}) Refusal) → next_answer (count_now accepted) r ≡ (count_now (counter_answer accepted r).0, (counter_answer accepted r).1)
    by_request (Ok command) = λ i. (more i, told i ∷ [])
    by_request (Err refusal) = refl

-- ---- sequence counts

one_more : (test : Bool) (n : ℕ) → (if test then (n % 16384 + 1) % 16384 else n % 16384) ≡ (cond test 1 0 + n) % 16384
one_more true n = mod-add-mod n 16384 1 ∙ ap (λ m. m % 16384) (let turned : n + 1 ≡ 1 + n = omega arith in turned)
one_more false n = ap (λ m. m % 16384) (let none : n ≡ 0 + n = omega arith in none)

-- one packet more of a message id
counted_on : (mid : ℕ) (packet : List ℕ) (packets : List (List ℕ)) → message_id packet ≡ mid → counts_after mid (counts_of packets) ≡ counts_of (packet ∷ packets)
counted_on mid packet packets its_mid i other =
    (one_more (other == mid) (count_by (λ p. message_id p == other) packets)
    ∙ ap (λ test. (cond test 1 0 + count_by (λ p. message_id p == other) packets) % 16384) (equal_either_way other mid ∙ ap (λ m. m == other) (sym its_mid))
    ∙ ap (λ n. n % 16384) (sym (sum_by-cons (λ p. cond (message_id p == other) 1 0) packet packets))) i

-- ---- deliveries

-- a changed log changes nothing of what was sent
pub log_keeps : {Image : Type 0} (sender : Name) (log : Log) (w : World Image) → (with_log sender log w).sent ≡ w.sent
log_keeps sender log w = at_host (is_named sender host_name) (is_named sender lc_name) (is_named sender sch_name) (is_named sender counter_name)
  where
    at_host : (a b c d : Bool) →
        (if a then record w { host = log } else if b then record w { lc = logged log w.lc } else if c then record w { sch = logged log w.sch }
        else if d then record w { counter = logged log w.counter } else w).sent ≡ w.sent
    at_host true b c d = refl
    at_host false true c d = refl
    at_host false false true d = refl
    at_host false false false true = refl
    at_host false false false false = refl

pub same_delivery : {Image : Type 0} → SameDelivery Image
same_delivery moment (Sequence number) log w has_log =
    let packet : List ℕ = sequence_request (sequence_count sequence_mid w.sent) number in
    ap (λ counts. (record { events = event_state log; counts = counts }, packet ∷ [])) (counted_on sequence_mid packet w.sent refl)
same_delivery moment (Housekeeping mode points) log w has_log =
    let packet : List ℕ = housekeeping_packet (sequence_count lc_housekeeping_mid w.sent) moment mode points in
    ap (λ counts. (record { events = event_state log; counts = counts }, packet ∷ [])) (counted_on lc_housekeeping_mid packet w.sent refl)
same_delivery {Image} moment (Event sender id kind text) log w has_log =
    (λ i. if same_choice id kind log i then chosen_now else held_back) ∙ by_test (chosen id kind log)
    ∙ ap (λ o. in_counts (option_map_or (λ log. event_sent moment sender id kind text log w) o (w, []))) (sym has_log)
  where
    packet : List ℕ
    packet = event_packet (sequence_count event_mid w.sent) moment sender id kind text

    after : World Image
    after = with_log sender (Requested id kind ∷ log) w

    in_counts : Sent Image → Accounts × List (List ℕ)
    in_counts step = (record { events = event_state (Requested id kind ∷ log); counts = counts_of step.0.sent }, step.1)

    chosen_now : Accounts × List (List ℕ)
    chosen_now = (record { events = events_after (Requested id kind) (event_state log); counts = counts_after event_mid (counts_of w.sent) }, packet ∷ [])

    held_back : Accounts × List (List ℕ)
    held_back = (record { events = events_after (Requested id kind) (event_state log); counts = counts_of w.sent }, [])

    by_test : (test : Bool) → (if test then chosen_now else held_back) ≡ in_counts (if test then sent packet after else (after, []))
    by_test true =
        let counts = counted_on event_mid packet w.sent refl ∙ ap (λ s. counts_of (packet ∷ s)) (sym (log_keeps sender (Requested id kind ∷ log) w)) in
        λ i. (record { events = another_item (Requested id kind) log tt i; counts = counts i }, packet ∷ [])
    by_test false =
        λ i. (record { events = another_item (Requested id kind) log tt i; counts = counts_of (sym (log_keeps sender (Requested id kind ∷ log) w) i) }, [])

-- ---- sizes

pub housekeeping_has_192_bytes : HousekeepingHas192Bytes
housekeeping_has_192_bytes count moment mode points few =
    let bytes : List ℕ = map standing_byte points in
    let others : List ℕ = replicate (table_entries - length points) 0xFF in
    let as_many : length bytes ≡ length points = length-map points standing_byte in
    let the_rest : length others ≡ 176 - length points = length-replicate (table_entries - length points) 0xFF in
    let both : length (bytes ++ others) ≡ length bytes + length others = length-append bytes others in
    let all : length (bytes ++ others) ≡ 176 = omega (arith, few, as_many, the_rest, both) in
    ap (λ n. suc (suc (suc (suc (suc (suc (suc (suc (suc (suc (suc (suc (suc (suc (suc (suc n)))))))))))))))) all
