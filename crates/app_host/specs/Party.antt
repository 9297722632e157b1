-- Which applications may take part in a record. If these are of this profile, the exact statements hold.
use Rattle.std.specs.Prelude.{◌≡◌, ◌≢◌, ℕ, ◌≤◌, ◌==◌, ⊤, true, List, [], ◌∷◌, slice_index_or, Option, Some, None, find, IfSome, IsTrue, if◌then◌else◌, Result, Ok, Err}
use Rattle.std.specs.List.{list_any, AllByRecursion}
use Rattle.lc_model.specs.Name.{Name, is_named}
use Rattle.lc_model.specs.Refusal.{Refusal}
use Rattle.lc_model.specs.Command.{Order, Start, Stop, Restart, Reload}
use Rattle.lc_model.specs.Packet.{message_id, tick_mid, sample_mid, lc_housekeeping_request_mid}
use Rattle.lc_model.specs.Kept.Executive.{Pipe}
use Rattle.lc_model.specs.Services.Bus.{seen}
use Rattle.lc_model.specs.Services.Tables.{tables_at}
use Rattle.app_host.specs.Hosted.{Object, Hosted, object_at}
use Rattle.app_host.specs.Whole.{IsKnown}
use Rattle.app_host.specs.Load.{is_tick, packets_in, all_ticks}

-- A set of applications: those subscribed to one of these message ids; those with a waiting packet; those with a table; or only
-- the one that leaves its seat and the spare that comes, by name.
pub data Party : Type 0 where
  Hearers : (mids : List ℕ) → Party
  Waiting : Party
  Holders : Party
  Only : (leaving coming : Option Name) → Party

-- No application.
abbrev pub nobody : Party
nobody = Only None None

-- The message ids that this profile's applications publish: SCH's entries, at a tick.
abbrev pub scheduled_mids : List ℕ
scheduled_mids = sample_mid ∷ lc_housekeeping_request_mid ∷ []

-- Those that may take part if `packet` is published: its subscribers; for a tick also the subscribers of SCH's entries.
abbrev pub passing : List ℕ → Party
passing packet = Hearers (if is_tick packet then tick_mid ∷ scheduled_mids else message_id packet ∷ [])

-- Those that may take part in an executive command.
abbrev pub ordered : Order → Name → Party
ordered Start name = Only None (Some name)
ordered Stop name = Only (Some name) None
ordered Restart name = Only (Some name) None
ordered Reload name = Only (Some name) (Some name)

-- Those that may take part in a packet 0x1806 with this command; none if it is refused.
abbrev pub party_by : Result (Order × Name) Refusal → Party
party_by (Ok command) = ordered command.0 command.1
party_by (Err refusal) = nobody

-- Each object subscribed to this message id is of this profile.
abbrev pub AreKnownHearers : Hosted → ℕ → Type 0
AreKnownHearers h mid = (seat : ℕ) →
    IfSome (slice_index_or (seen h.services.bus) seat None) (λ (pipe : Pipe). IsTrue (list_any (λ own. mid == own) pipe.subscriptions) → IfSome (object_at seat h.seats) IsKnown)

-- Each object with a table is of this profile.
abbrev pub AreKnownHolders : Hosted → Type 0
AreKnownHolders h = (seat : ℕ) → tables_at seat h.services.tables.places ≢ [] → IfSome (object_at seat h.seats) IsKnown

-- Each object with a waiting packet is of this profile; and if a tick waits, each subscriber of SCH's entries.
pub record IsDetermined (h : Hosted) : Type 0 where
  pub waiting : (seat : ℕ) → 1 ≤ packets_in (slice_index_or (seen h.services.bus) seat None) → IfSome (object_at seat h.seats) IsKnown
  pub scheduled : 1 ≤ all_ticks (seen h.services.bus) → AllByRecursion (AreKnownHearers h) scheduled_mids

-- The object on a seat that has this name, if a name is given, is of this profile.
abbrev pub IsKnownOnSeat : Option Name → List (Option Object) → Type 0
IsKnownOnSeat None seats = ⊤
IsKnownOnSeat (Some name) seats = (seat : ℕ) → IfSome (object_at seat seats) (λ (o : Object). is_named name o.called ≡ true → IsKnown o)

-- The first spare of this name, if a name is given and there is one, is of this profile.
abbrev pub IsKnownSpare : Option Name → List Object → Type 0
IsKnownSpare None stock = ⊤
IsKnownSpare (Some name) stock = IfSome (find (λ (spare : Object). is_named name spare.called) stock) IsKnown

-- All applications of the party are of this profile.
abbrev pub AreKnownIn : Party → Hosted → Type 0
AreKnownIn (Hearers mids) h = AllByRecursion (AreKnownHearers h) mids
AreKnownIn Waiting h = IsDetermined h
AreKnownIn Holders h = AreKnownHolders h
AreKnownIn (Only leaving coming) h = IsKnownOnSeat leaving h.seats × IsKnownSpare coming h.stock
