-- A record keeps the host in numbers to the world.
use Rattle.std.proofs.Common.{◌≡◌, ℕ, Bool, true, false, ◌||◌, ◌==◌, List, [], ◌∷◌, refl, ap, sym, subst, Option, Some, None, is_some, if◌then◌else◌, IsFalse, true≢false}
use Rattle.std.specs.Option.{option_map_or, option_or}
use Rattle.lc_model.specs.declared.record.Moment.{Moment}
use Rattle.lc_model.specs.Packet.{header_fault, stream_fault, is_own_mid, event_mid, lc_housekeeping_mid, sequence_mid, tick_mid, counter_mid, message_id, event_services_mid, table_services_mid, executive_services_mid}
use Rattle.lc_model.specs.Tables.Interpretation.{Interpretation}
use Rattle.lc_model.specs.Events.Request.{bad_packet, event_services, table_services, executive_services}
use Rattle.lc_model.specs.Host.Schedule.{Schedule}
use Rattle.lc_model.specs.Host.World.{World}
use Rattle.lc_model.specs.Host.React.{Input, Packet, Tick, File, Step, answered, event_service, table_service, executive_service, to_counter, to_lc, routed, react}
use Rattle.lc_model.specs.Host.Run.{Sent, handled, all_delivered}
use Rattle.lc_model.specs.Kept.Effort.{Effort}
use Rattle.lc_model.specs.Kept.Executive.{Member, Executive, Written, told_by_host, with_services, event_service_now, table_service_now, executive_service_now, passed_on, routed_now, step_by}
use Rattle.lc_model.specs.Laws.Correspondence.{Agrees}
use Rattle.host_refinement.specs.Keeping.{App, Standing, standing_of, numbers_of, IsSeated, KeepsTo}
use Rattle.host_refinement.specs.Statements.{IsOne, PairsAreSensible, IsWhole, IsShort}
use Rattle.host_refinement.proofs.Deliveries.{all_stand}
use Rattle.host_refinement.proofs.Steps.{kept, StepKept, answered_kept}
use Rattle.host_refinement.proofs.HostRecords.{bad_packet_kept, file_kept, event_service_kept}
use Rattle.host_refinement.proofs.TableRecords.{table_service_kept}
use Rattle.host_refinement.proofs.OrderRecords.{executive_service_kept}
use Rattle.host_refinement.proofs.PacketRecords.{counter_kept, lc_kept}
use Rattle.host_refinement.proofs.Ticks.{tick_kept}
use Rattle.host_refinement.proofs.Whole.{Good, stays_good, fits_of, good_in, fits_in}
use Rattle.std.proofs.lemmas.Bool.Decides.{Decides-eqb}

-- a packet without a fault is no tick
no_tick : (packet : List ℕ) → stream_fault packet ≡ None → IsFalse (message_id packet == tick_mid)
no_tick packet good = by_header (header_fault packet) good
  where
    reason : Bool → Option ℕ
    reason test = if test then Some 7 else None

    last : (a b c d : Bool) → reason (a || b || c || d) ≡ None → IsFalse d
    last true true true d e = absurd (true≢false (ap is_some e))
    last true true false d e = absurd (true≢false (ap is_some e))
    last true false true d e = absurd (true≢false (ap is_some e))
    last true false false d e = absurd (true≢false (ap is_some e))
    last false true true d e = absurd (true≢false (ap is_some e))
    last false true false d e = absurd (true≢false (ap is_some e))
    last false false true d e = absurd (true≢false (ap is_some e))
    last false false false true e = absurd (true≢false (ap is_some e))
    last false false false false e = refl

    by_header : (o : Option ℕ) → option_or o (reason (is_own_mid (message_id packet))) ≡ None → IsFalse (message_id packet == tick_mid)
    by_header (Some fault) e = absurd (true≢false (ap is_some e))
    by_header None e = last (message_id packet == event_mid) (message_id packet == lc_housekeeping_mid) (message_id packet == sequence_mid) (message_id packet == tick_mid) e

module _ {Image : Type 0} (images : Interpretation Image) (IsFine : Image → Type 0) (schedule : Schedule) (agree : Agrees (IsOne images IsFine) images images) (pairs : PairsAreSensible images IsFine)
    (moment : Moment) (effort : Effort) (stock : List Member) (order : List (Option App)) (w : World Image) (h : IsSeated images schedule (standing_of w) stock order) (whole : IsWhole images IsFine w) where
  e : Executive Image
  e = kept images schedule effort stock order w

  either_kept : (test : Bool) (step other : Step Image) (s t : Written Image) → StepKept images schedule moment step s → (test ≡ false → StepKept images schedule moment other t) →
      StepKept images schedule moment (let r : Step Image = if test then step else other in r) (let r : Written Image = if test then s else t in r)
  either_kept true step other s t a b = a
  either_kept false step other s t a b = b refl

  -- a packet that is not for the services goes to the counter or to the Limit Checker
  passed_kept : (packet : List ℕ) → stream_fault packet ≡ None →
      StepKept images schedule moment (if message_id packet == counter_mid then to_counter packet w else to_lc images packet w) (passed_on images moment packet (kept images schedule effort stock order w))
  passed_kept packet good = by_test (message_id packet == counter_mid) refl
    where
      by_test : (test : Bool) → (message_id packet == counter_mid) ≡ test →
          StepKept images schedule moment (let r : Step Image = if test then to_counter packet w else to_lc images packet w in r) (passed_on images moment packet (kept images schedule effort stock order w))
      by_test true is = counter_kept images schedule moment effort packet w stock order h (fits_in images IsFine agree pairs schedule moment w whole) ((Decides-eqb (message_id packet) counter_mid).0 is)
      by_test false is = lc_kept images schedule moment effort packet w stock order h (fits_in images IsFine agree pairs schedule moment w whole) is (no_tick packet good)

  routed_kept : (packet : List ℕ) → stream_fault packet ≡ None → StepKept images schedule moment (routed images packet w) (routed_now images moment packet (kept images schedule effort stock order w))
  routed_kept packet good =
      let services = (numbers_of images schedule effort w).services in
      either_kept (message_id packet == event_services_mid) (answered event_services packet w (event_service packet w)) _ _ _
      (answered_kept images schedule effort moment event_services packet stock order w (event_service packet w) (with_services (kept images schedule effort stock order w) (event_service_now packet services)) h (event_service_kept images schedule moment effort stock order w h packet))
      (λ x. either_kept (message_id packet == table_services_mid) (answered table_services packet w (table_service images packet w)) _ _ _
      (answered_kept images schedule effort moment table_services packet stock order w (table_service images packet w) (with_services (kept images schedule effort stock order w) (table_service_now images packet services)) h (table_service_kept images schedule moment effort stock order w packet h))
      (λ y. either_kept (message_id packet == executive_services_mid) (answered executive_services packet w (executive_service images packet w)) _ _ _
      (answered_kept images schedule effort moment executive_services packet stock order w (executive_service images packet w) (executive_service_now images moment packet (kept images schedule effort stock order w)) h (executive_service_kept images schedule moment effort stock order w packet h))
      (λ z. passed_kept packet good)))

  pub input_kept : (input : Input Image) → IsShort schedule → StepKept images schedule moment (react images schedule w input) (step_by images moment (kept images schedule effort stock order w) input)
  input_kept (Packet bytes) short = by_fault (stream_fault bytes) refl
    where
      by_fault : (o : Option ℕ) → stream_fault bytes ≡ o →
          StepKept images schedule moment (option_map_or (λ reason. (w, bad_packet reason ∷ [])) o (routed images bytes w))
          (option_map_or (λ reason. told_by_host moment (bad_packet reason ∷ []) (kept images schedule effort stock order w)) o (routed_now images moment bytes (kept images schedule effort stock order w)))
      by_fault (Some reason) is = bad_packet_kept images schedule moment effort stock order w h reason
      by_fault None is = routed_kept bytes is
  input_kept Tick short =
      tick_kept images schedule moment effort (Good images IsFine agree pairs) (fits_of images IsFine agree pairs schedule moment) (stays_good images IsFine agree pairs) stock order w short h
      (good_in images IsFine agree pairs w whole) (fits_in images IsFine agree pairs schedule moment w whole)
  input_kept (File name size meaning) short = file_kept images schedule moment effort stock order w h name size meaning

-- ---- from the executive that keeps to a world to the world's own

module _ {Image : Type 0} (images : Interpretation Image) (IsFine : Image → Type 0) (schedule : Schedule) (agree : Agrees (IsOne images IsFine) images images) (pairs : PairsAreSensible images IsFine) where
  -- it is the executive of that world, with its spares and its order
  its_own : (w : World Image) (e : Executive Image) → (k : KeepsTo images schedule w e) → e ≡ kept images schedule k.effort e.stock k.order w
  its_own w e k i = record { stock = e.stock; seats = k.seats i; pipes = k.pipes i; services = k.services i }

  -- both end together
  pub record Together (s : Written Image) (t : Sent Image) : Type 0 where
    pub keeps : KeepsTo images schedule t.0 s.0
    pub packets : s.1 ≡ t.1

  together : (moment : Moment) (step : Step Image) (s : Written Image) → StepKept images schedule moment step s → Together s (all_delivered moment step.1 step.0)
  together moment step s k =
      subst (λ (s : Written Image). Together s (all_delivered moment step.1 step.0)) (sym k.same) (record {
        keeps = record {
          order = k.order;
          effort = k.effort;
          seated = subst (λ (st : Standing Image). IsSeated images schedule st k.stock k.order) (sym (all_stand moment step.1 step.0)) k.seated;
          seats = refl;
          pipes = refl;
          services = refl;
        };
        packets = refl;
      })

  pub record_kept : (moment : Moment) (w : World Image) (e : Executive Image) (input : Input Image) → IsShort schedule → KeepsTo images schedule w e → IsWhole images IsFine w →
      Together (step_by images moment e input) (handled images schedule moment input w)
  record_kept moment w e input short k whole =
      subst (λ (e : Executive Image). Together (step_by images moment e input) (handled images schedule moment input w)) (sym (its_own w e k))
      (together moment (react images schedule w input) (step_by images moment (kept images schedule k.effort e.stock k.order w) input)
      (input_kept images IsFine schedule agree pairs moment k.effort e.stock k.order w k.seated whole input short))
