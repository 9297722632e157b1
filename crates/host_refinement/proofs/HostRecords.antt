-- Records that the host handles with no application: bad packets, files, and commands to event services.
use Rattle.std.proofs.Common.{◌≡◌, ℕ, ◌<◌, Bool, true, false, List, [], ◌∷◌, refl, sym, subst, Option, Some, None, option_map, if◌then◌else◌, Result, Ok, Err, slice_index, ◌%◌, ◌==◌, arith}
use Rattle.std.proofs.Math.Nat.{mod-lt}
use Rattle.lc_model.specs.declared.record.Moment.{Moment}
use Rattle.lc_model.specs.Name.{Name}
use Rattle.lc_model.specs.Packet.{function_code, payload}
use Rattle.lc_model.specs.Refusal.{Refusal, ◌>>=◌, found}
use Rattle.lc_model.specs.Tables.Interpretation.{FileMeaning, Interpretation}
use Rattle.lc_model.specs.Events.Request.{bad_packet, file_stored, file_refused}
use Rattle.lc_model.specs.Events.Log.{Log, LogItem, joined}
use Rattle.lc_model.specs.Command.{event_command, event_command_in}
use Rattle.lc_model.specs.Host.Schedule.{Schedule}
use Rattle.lc_model.specs.Host.World.{World, log_of, with_log}
use Rattle.lc_model.specs.Host.React.{stored, filed, on_file, event_service}
use Rattle.lc_model.specs.Kept.Effort.{Effort}
use Rattle.lc_model.specs.Kept.Summary.{event_state, counts_of}
use Rattle.lc_model.specs.Kept.Call.{with_at}
use Rattle.lc_model.specs.Kept.Executive.{Member, told_by_host, filed_now, with_services, joined_now, event_service_now}
use Rattle.lc_model.specs.Laws.Events.{IsOfFourTypes}
use Rattle.lc_model.proofs.Events.SendLaws.{log_keeps}
use Rattle.lc_model.proofs.Services.SenderLogs.{logged, same_joined}
use Rattle.host_refinement.specs.Keeping.{App, no_packets, Standing, standing_of, events_of, numbers_by, numbers_of, executive_of, IsSeated}
use Rattle.host_refinement.proofs.Deliveries.{events_with, log_stands}
use Rattle.host_refinement.proofs.Steps.{kept, StepKept, told, BothKept}

-- a fact about what is not refused
abbrev pub IfOk : {A : Type 0} → (A → Type 0) → Result A Refusal → Type 0
IfOk P (Ok x) = P x
IfOk P (Err refusal) = Unit {0}

pub either_ok : {A : Type 0} (P : A → Type 0) (test : Bool) (x y : Result A Refusal) → IfOk P x → IfOk P y → IfOk P (if test then x else y)
either_ok P true x y at_x at_y = at_x
either_ok P false x y at_x at_y = at_y

-- a command sets types of four bits
four_types : (code : ℕ) (bytes : List ℕ) → IfOk (λ (command : Name × LogItem). IsOfFourTypes command.1) (event_command code bytes)
four_types code bytes =
    let P : Name × LogItem → Type 0 = λ command. IsOfFourTypes command.1 in
    either_ok P (code == 1) _ _ (either_ok P _ (Ok _) (Err _) tt tt)
    (either_ok P (code == 2) _ _ (either_ok P _ (Ok _) (Err _) tt tt)
    (either_ok P (code == 3) _ _ (either_ok P _ (Ok _) (Err _) small tt)
    (either_ok P (code == 4) _ _ (either_ok P _ (Ok _) (Err _) small tt) tt)))
  where
    small : slice_index bytes 20 % 16 < 16
    small = mod-lt (slice_index bytes 20) (omega arith)

module _ {Image : Type 0} (images : Interpretation Image) (schedule : Schedule) (moment : Moment) (effort : Effort) (stock : List Member) (order : List (Option App)) (w : World Image)
    (seated : IsSeated images schedule (standing_of w) stock order) where
  -- a bad packet
  pub bad_packet_kept : (reason : ℕ) → StepKept images schedule moment (w, bad_packet reason ∷ []) (told_by_host moment (bad_packet reason ∷ []) (kept images schedule effort stock order w))
  bad_packet_kept reason = record {
    stock = stock;
    order = order;
    effort = effort;
    seated = seated;
    same = told images schedule effort moment (bad_packet reason ∷ []) stock order no_packets w (refl, tt);
  }

  -- a file
  pub file_kept : (name : Name) (size : ℕ) (meaning : FileMeaning Image) →
      StepKept images schedule moment (on_file name size meaning w)
      (filed_now moment (kept images schedule effort stock order w) (stored name size meaning w.files))
  file_kept name size meaning = by_store (stored name size meaning w.files)
    where
      by_store : (r : Result (List (Name × FileMeaning Image)) Refusal) →
          StepKept images schedule moment (filed w r) (filed_now moment (kept images schedule effort stock order w) r)
      by_store (Err refusal) = record {
        stock = stock;
        order = order;
        effort = effort;
        seated = seated;
        same = told images schedule effort moment (file_refused refusal ∷ []) stock order no_packets w (refl, tt);
      }
      by_store (Ok files) = record {
        stock = stock;
        order = order;
        effort = effort;
        seated = record { eight = seated.eight; placed = seated.placed; profile = seated.profile; spares = seated.spares };
        same = told images schedule effort moment (file_stored ∷ []) stock order no_packets (record w { files = files }) (refl, tt);
      }

  -- a changed log
  with_log_kept : (name : Name) (log longer : Log) → log_of w name ≡ Some log →
      StepKept images schedule moment (with_log name longer w, [])
      (record (kept images schedule effort stock order w) { services = record (numbers_of images schedule effort w).services { events = with_at name (Some (event_state longer)) (events_of w) } }, [])
  with_log_kept name log longer has = record {
    stock = stock;
    order = order;
    effort = effort;
    seated = subst (λ (s : Standing Image). IsSeated images schedule s stock order) (sym (log_stands name longer w)) seated;
    same = λ i. (
      executive_of images schedule stock order no_packets
          (numbers_by images schedule effort (sym (log_stands name longer w) i) (sym (events_with name longer log w has) i) (counts_of (sym (log_keeps name longer w) i))),
      [],
    );
  }

  -- what an item of a log leads to
  event_by_log : (name : Name) (item : LogItem) (o : Option Log) → log_of w name ≡ o → IsOfFourTypes item →
      BothKept images schedule moment
      (found o 101 >>= (λ log. joined item log >>= (λ longer. Ok (with_log name longer w, []))))
      (with_services (kept images schedule effort stock order w)
      (found (option_map event_state o) 101 >>= (λ events. joined_now item events >>= (λ after. Ok (record (numbers_of images schedule effort w).services { events = with_at name (Some after) (events_of w) })))))
  event_by_log name item None has small = refl
  event_by_log name item (Some log) has small =
      subst (λ r. BothKept images schedule moment (joined item log >>= (λ longer. Ok (with_log name longer w, [])))
      (with_services (kept images schedule effort stock order w) (r >>= (λ after. Ok (record (numbers_of images schedule effort w).services { events = with_at name (Some after) (events_of w) })))))
      (sym (same_joined item log small)) (by_joined (joined item log))
    where
      by_joined : (r : Result Log Refusal) →
          BothKept images schedule moment (r >>= (λ longer. Ok (with_log name longer w, [])))
          (with_services (kept images schedule effort stock order w) (logged r >>= (λ after. Ok (record (numbers_of images schedule effort w).services { events = with_at name (Some after) (events_of w) }))))
      by_joined (Err refusal) = refl
      by_joined (Ok longer) = with_log_kept name log longer has

  -- a command to event services
  pub event_service_kept : (packet : List ℕ) →
      BothKept images schedule moment (event_service packet w)
      (with_services (kept images schedule effort stock order w) (event_service_now packet (numbers_of images schedule effort w).services))
  event_service_kept packet = by_command (event_command_in packet) (four_types (function_code packet) (payload packet))
    where
      by_command : (r : Result (Name × LogItem) Refusal) → IfOk (λ (command : Name × LogItem). IsOfFourTypes command.1) r →
          BothKept images schedule moment
          (r >>= (λ command. found (log_of w command.0) 101 >>= (λ log. joined command.1 log >>= (λ longer. Ok (with_log command.0 longer w, [])))))
          (with_services (kept images schedule effort stock order w)
          (r >>= (λ command. found (events_of w command.0) 101 >>= (λ events. joined_now command.1 events >>= (λ after. Ok (record (numbers_of images schedule effort w).services { events = with_at command.0 (Some after) (events_of w) }))))))
      by_command (Err refusal) small = refl
      by_command (Ok command) small = event_by_log command.0 command.1 (log_of w command.0) refl small
