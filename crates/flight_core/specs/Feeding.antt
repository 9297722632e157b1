-- A host that the caller feeds (`FedHost`). This project's own.
use Rattle.std.specs.Prelude.{◌≡◌, ℕ, true, false, List, length, Option, Result, Err}
use Rattle.lc_model.specs.Device.{Sink}
use Rattle.lc_model.specs.Kept.Stations.{first_host}
use Rattle.rpn_compiler.specs.declared.files.TablePair.{TablePair}
use Rattle.app_host.specs.Hosted.{Object, Hosted, in_numbers, shown}
use Rattle.app_host.specs.Step.{IsBetween}
use Rattle.flight_core.specs.declared.feeding.FedHost.{FedHost}
use Rattle.flight_core.specs.declared.halt.Halt.{Halt}
use Rattle.flight_core.specs.declared.halt.Halt.TheVariants.{Unsent}
use Rattle.flight_core.specs.Brought.{AreWhole, meanings_of}
use Rattle.flight_core.specs.Compiled.{AreAllCompiled}
use Rattle.flight_core.specs.Going.{HandlesNext}
use Rattle.flight_core.specs.Records.{Held, fed, nothing_held}
use Rattle.flight_core.specs.Run.{members_of}

-- The host, the unread bytes of its stream, and the compiled table files.
pub record Feeding : Type 0 where
  pub host : Hosted
  pub held : Held
  pub files : List TablePair

-- The three as a record.
abbrev pub fed_by : Hosted → Held → List TablePair → Feeding
fed_by host held files = record { host = host; held = held; files = files }

-- A fed host with the meanings of its applications.
abbrev pub feeding_of : {B : Type 0} → (B → Object) → FedHost B → Feeding
feeding_of meaning it = fed_by (shown meaning it.host) it.records it.pairs.items

-- The applications on its seats, as the program has them.
abbrev pub boxes_on : {B : Type 0} → FedHost B → List (Option B)
boxes_on it = it.host.seats

-- The fed host after a piece.
abbrev pub fed_with : List ℕ → Feeding → Feeding
fed_with piece it = record it { held = fed it.held piece }

-- The invariant between two calls.
pub record IsReady (it : Feeding) : Type 0 where
  pub between : IsBetween it.host
  pub texts : it.held.texts ≡ length it.files
  pub files : AreWhole it.files

-- A new fed host: its texts are compiled, nothing of the stream has come, and nothing runs.
pub record HasBegun (sources : List (List ℕ)) (stock : List Object) (it : Feeding) : Type 0 where
  pub compiled : AreAllCompiled sources it.files
  pub held : it.held ≡ nothing_held (length it.files)
  pub host : in_numbers it.host ≡ first_host (members_of stock)
  pub is_open : it.host.is_closed ≡ false

-- A closed host handles no record: nothing changes, and nothing is written.
pub record HandlesNone (old new : Feeding) (before now : Sink) (result : Result (Option ℕ) Halt) : Type 0 where
  pub answer : result ≡ Err (Unsent 0)
  pub host : new.host ≡ old.host
  pub held : new.held ≡ old.held
  pub sink : now ≡ before

-- `handle`: the next record is handled if the host is open.
pub record HandlesOne (old new : Feeding) (before now : Sink) (result : Result (Option ℕ) Halt) : Type 0 where
  pub files : new.files ≡ old.files
  pub where_open : old.host.is_closed ≡ false → HandlesNext (meanings_of old.files) old.held new.held old.host new.host before now result
  pub where_closed : old.host.is_closed ≡ true → HandlesNone old new before now result
