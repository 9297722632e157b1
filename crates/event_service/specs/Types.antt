-- Sets of event types.
use Rattle.std.specs.Prelude.{ℕ, Bool, false, Option, Some, None}
use Rattle.lc_model.specs.declared.rule.EventKind.{EventKind}
use Rattle.lc_model.specs.Events.Log.{has_kind}
use Rattle.lc_model.specs.Kept.Summary.{EventState}
use Rattle.event_service.specs.declared.types.EventTypes.{EventTypes}

-- The set of types as bits.
abbrev pub bits_of : EventTypes → ℕ
bits_of types = types.0

-- Whether the type is on for this sender; `false` without a sender.
abbrev pub is_type_on : EventKind → Option EventState → Bool
is_type_on kind None = false
is_type_on kind (Some events) = has_kind events.on kind
