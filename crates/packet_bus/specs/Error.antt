-- The numbers of the bus's refusals. This project's own.
use Rattle.std.specs.Prelude.{ℕ, [], ◌∷◌, Option, Some, None, Result, Ok, Err}
use Rattle.lc_model.specs.Refusal.{Refusal, faulty_packet, pipe_full, no_pipe, second_pipe, too_many_subscriptions}
use Rattle.packet_bus.specs.declared.error.BusError.{BusError}
use Rattle.packet_bus.specs.declared.error.BusError.TheVariants.{BadPacket, PipeFull, NoPipe, TooManyPipes, TooManySubscriptions, Memory}
use Rattle.packet_bus.specs.Header.{fault_number}

-- The number of a refusal, 91 to 95; `None` for lack of memory.
abbrev pub error_code : BusError → Option ℕ
error_code (BadPacket reason) = Some faulty_packet
error_code PipeFull = Some pipe_full
error_code NoPipe = Some no_pipe
error_code TooManyPipes = Some second_pipe
error_code TooManySubscriptions = Some too_many_subscriptions
error_code Memory = None

-- The refusal as numbers; for a bad packet its fault follows (91, then 1 to 6). Lack of memory has none.
abbrev pub refusal_by : BusError → Refusal
refusal_by (BadPacket reason) = faulty_packet ∷ fault_number reason ∷ []
refusal_by PipeFull = pipe_full ∷ []
refusal_by NoPipe = no_pipe ∷ []
refusal_by TooManyPipes = second_pipe ∷ []
refusal_by TooManySubscriptions = too_many_subscriptions ∷ []
refusal_by Memory = []

-- The refusal of a call, if it was refused.
abbrev pub refusal_in : {A : Type 0} → Result A BusError → Option Refusal
refusal_in (Ok x) = None
refusal_in (Err e) = Some (refusal_by e)
