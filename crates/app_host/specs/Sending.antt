-- Laws: requests that are sent in order are sent as in the host in numbers.
use Rattle.std.specs.Prelude.{◌≡◌, ℕ, List, [], ◌∷◌, ◌++◌, map}
use Rattle.lc_model.specs.Name.{Name}
use Rattle.lc_model.specs.declared.mode.LcMode.{LcMode}
use Rattle.lc_model.specs.Events.Request.{Request, Sequence, Housekeeping, Standing}
use Rattle.lc_model.specs.Events.Outgoing.{standing_byte}
use Rattle.lc_model.specs.Kept.GoesWith.{IsSender}
use Rattle.lc_model.specs.Services.Events.{Origin}
use Rattle.app_host.specs.declared.services.Services.{Services}
use Rattle.app_host.specs.Shared.{shared}
use Rattle.app_host.specs.Telling.{Tells}

-- Law: without requests nothing changes.
abbrev pub NothingIsTold : Type 0
NothingIsTold = (origin : Origin) (name : Name) (s : Services) → Tells origin name [] s s

-- Law: requests may be sent in two parts.
abbrev pub TellingGoesOn : Type 0
TellingGoesOn = (origin : Origin) (name : Name) (first second : List Request) (before between after : Services) → Tells origin name first before between →
    Tells origin name second between after → Tells origin name (first ++ second) before after

-- Law: a registered sender stays registered.
abbrev pub TellingKeepsSenders : Type 0
TellingKeepsSenders = (origin : Origin) (name : Name) (requests : List Request) (before after : Services) → Tells origin name requests before after →
    IsSender name (shared before) → IsSender name (shared after)

-- A sequence request is sent for any registered sender, and changes only its sequence count.
abbrev pub RequestsSequence : ℕ → Services → Services → Type 0
RequestsSequence number before after = (origin : Origin) (name : Name) → IsSender name (shared before) → Tells origin name (Sequence number ∷ []) before after

-- A housekeeping packet is sent for any registered sender, and changes only its sequence count.
abbrev pub SendsHousekeeping : LcMode → List ℕ → Services → Services → Type 0
SendsHousekeeping mode bytes before after = (origin : Origin) (name : Name) (points : List Standing) → map standing_byte points ≡ bytes →
    IsSender name (shared before) → Tells origin name (Housekeeping mode points ∷ []) before after
