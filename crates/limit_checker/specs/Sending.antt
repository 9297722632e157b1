-- The packets that a sample or a housekeeping request sends, and their sizes. From the cFS Limit Checker user's guide; sizes
-- and bounds are this project's own.
use Rattle.std.specs.Prelude.{◌≡◌, ℕ, ◌+◌, ◌*◌, List, [], ◌∷◌, Option, Some, None, option_map}
use Rattle.lc_model.specs.Name.{lc_name}
use Rattle.lc_model.specs.Events.Outgoing.{event_packet_size, sequence_request_size, housekeeping_size}
use Rattle.lc_model.specs.Events.Request.{Request, Event, Sequence, Housekeeping}
use Rattle.lc_model.specs.Kept.GoesWith.{IsSender}
use Rattle.lc_model.specs.Rule.{Actionpoint}
use Rattle.lc_model.specs.Services.Events.{Origin, sender_at}
use Rattle.app_host.specs.declared.services.Services.{Services}
use Rattle.app_host.specs.Shared.{shared}
use Rattle.app_host.specs.Telling.{name_of}
use Rattle.limit_engine.specs.declared.engine.RuleEvent.{RuleEvent}
use Rattle.limit_engine.specs.declared.reaction.Turn.{Turn}
use Rattle.limit_engine.specs.declared.reaction.Failure.{Failure}
use Rattle.limit_engine.specs.declared.reaction.Failure.TheVariants.{Requested, LcPassive, Passive}
use Rattle.limit_engine.specs.declared.reaction.Reactions.{Reactions}

-- The size of a request's packet.
abbrev pub size_of : Request → ℕ
size_of (Event sender id kind text) = event_packet_size
size_of (Sequence number) = sequence_request_size
size_of (Housekeeping mode points) = housekeeping_size

-- The size of the packets of several requests.
abbrev pub sizes : List Request → ℕ
sizes [] = 0
sizes (request ∷ requests) = size_of request + sizes requests

-- The size of a sequence request and the rule's event.
abbrev pub largest_request : ℕ
largest_request = sequence_request_size + event_packet_size

-- The most bytes of the events of validation and adoption.
abbrev pub largest_renewal : ℕ
largest_renewal = 3 * event_packet_size

-- The most bytes for a housekeeping request: these events and the housekeeping packet.
abbrev pub largest_report : ℕ
largest_report = largest_renewal + housekeeping_size

-- The size of the event of a turn, if there was one.
abbrev pub turn_size : Option Turn → ℕ
turn_size None = 0
turn_size (Some turn) = event_packet_size

-- The size of the packets for enough failures in a row, if there were enough.
abbrev pub failure_size : Option Failure → ℕ
failure_size None = 0
failure_size (Some (Requested run)) = largest_request
failure_size (Some LcPassive) = event_packet_size
failure_size (Some Passive) = event_packet_size

-- The size of all packets of a sample of one rule.
abbrev pub reactions_size : Reactions → ℕ
reactions_size reactions = turn_size reactions.turn + failure_size reactions.failure

-- The Limit Checker is registered as the event sender of this origin.
pub record MaySend (origin : Origin) (s : Services) : Type 0 where
  pub named : option_map name_of (sender_at origin s.events) ≡ Some lc_name
  pub sends : IsSender lc_name (shared s)

-- The event is the one of this rule.
pub record IsEventOf (rule : Actionpoint) (event : RuleEvent) : Type 0 where
  pub sequence : event.sequence ≡ rule.sequence
  pub kind : event.kind ≡ rule.event_kind
  pub id : event.id ≡ rule.event_id
  pub text : event.text.now ≡ rule.text
