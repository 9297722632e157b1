-- One step of the host with one record, whichever applications take part.
use Rattle.std.specs.Prelude.{◌≡◌, true, false, IfSome, Result}
use Rattle.lc_model.specs.declared.record.Record.{Record as Given}
use Rattle.lc_model.specs.Device.{Sink, NoWriteRetried}
use Rattle.app_host.specs.declared.error.WriteFault.{WriteFault}
use Rattle.app_host.specs.declared.host.Host.{Host}
use Rattle.app_host.specs.Shared.{at_moment}
use Rattle.app_host.specs.Hosted.{Object, shown}
use Rattle.app_host.specs.Boxes.{BoxHasGone}
use Rattle.app_host.specs.Response.{response_to, Responds}
use Rattle.app_host.specs.Step.{input_by, IsTurnedAway, Steps}

-- The host `old` becomes `new` with the record `entry`; the writer's fact is `before`, then `now`. `meaning` gives the object that an
-- application in a box is.
pub record HasStepped {B : Type 0} (meaning : B → Object) (entry : Given) (old new : Host B) (before now : Sink) (result : Result (Unit {0}) WriteFault) : Type 0 where
  -- A closed host does nothing.
  pub closed : (shown meaning old).is_closed ≡ true → IsTurnedAway (shown meaning old) (shown meaning new) before now result
  -- An open host calls its applications. If those that may take part are of this profile, it becomes and writes what the model gives.
  pub handled : (shown meaning old).is_closed ≡ false → Steps entry.moment (input_by entry.body) (shown meaning old) (shown meaning new) before now result
  -- What the host itself does for the record, and which calls it makes, with applications of any kind.
  pub own : (shown meaning old).is_closed ≡ false → Responds entry.moment (response_to entry.body (shown meaning old)) (shown meaning old) (shown meaning new) before.gained now.gained result
  -- After a failed write nothing is written.
  pub not_retried : NoWriteRetried before now
  -- An application that leaves its seat was retired before.
  pub gone : (shown meaning old).is_closed ≡ false → IfSome (response_to entry.body (shown meaning old)).leaves (BoxHasGone meaning old.seats (at_moment entry.moment old.services))
