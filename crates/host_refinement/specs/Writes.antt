-- Laws of the writes and calls of a record, and of a host whose writer fails.
use Rattle.std.specs.Prelude.{◌≡◌, ℕ, ◌<◌, ◌≤◌, List, [], ◌∷◌, ◌++◌, length, false, Option, Some, None}
use Rattle.std.specs.List.{concat}
use Rattle.lc_model.specs.declared.record.Moment.{Moment}
use Rattle.lc_model.specs.Tables.Interpretation.{Interpretation}
use Rattle.lc_model.specs.Host.React.{Input}
use Rattle.lc_model.specs.Kept.Executive.{Executive, most_deliveries, step_by}
use Rattle.lc_model.specs.Kept.Stations.{Station, stop_at, Host, stations_of, last_calls, host_step}

-- The packets of these stations, in order.
unfoldable pub packets_at : {Image : Type 0} → List (Station Image) → List (List ℕ)
packets_at [] = []
packets_at (station ∷ stations) = station.packets ++ packets_at stations

-- If the host stops at no station, all packets fit into `room` bytes; if it stops at one, they do not.
pub record StopsWhereItMust {Image : Type 0} (room : ℕ) (stations : List (Station Image)) : Type 0 where
  pub whole : stop_at room stations ≡ None → length (concat (packets_at stations)) ≤ room
  pub short : (station : Station Image) → stop_at room stations ≡ Some station → room < length (concat (packets_at stations))

module _ {Image : Type 0} (images : Interpretation Image) where
  -- Law: the packets of a record's stations are those of its step.
  abbrev pub WritesAreTheSteps : Type 0
  WritesAreTheSteps = (moment : Moment) (e : Executive Image) (input : Input Image) → packets_at (stations_of images moment e input) ≡ (step_by images moment e input).1

  -- Law: a record leads to at most 520 calls of `on_packet`.
  abbrev pub CallsAreBounded : Type 0
  CallsAreBounded = (moment : Moment) (e : Executive Image) (input : Input Image) → last_calls images moment (stations_of images moment e input) ≤ most_deliveries

  -- The whole output fits: the host does the whole step and stays open.
  pub record TakesAll (moment : Moment) (room : ℕ) (host : Host Image) (input : Input Image) : Type 0 where
    pub enough : length (concat (step_by images moment host.executive input).1) ≤ room
    pub executive : (host_step images moment room host input).0.executive ≡ (step_by images moment host.executive input).0
    pub stays_open : (host_step images moment room host input).0.is_closed ≡ false

  -- The output does not fit: exactly `room` bytes of it are written.
  pub record TakesTheFirst (moment : Moment) (room : ℕ) (host : Host Image) (input : Input Image) (sent : ℕ) : Type 0 where
    pub all_the_room : sent ≡ room
    pub fewer : sent < length (concat (step_by images moment host.executive input).1)

  -- `TakesAll` if no write failed, else `TakesTheFirst`.
  abbrev pub TakesAsAnswered : Moment → ℕ → Host Image → Input Image → Option ℕ → Type 0
  TakesAsAnswered moment room host input None = TakesAll moment room host input
  TakesAsAnswered moment room host input (Some sent) = TakesTheFirst moment room host input sent

  -- Law: an open host writes its whole output if it fits into `room` bytes, else exactly the first `room` bytes.
  abbrev pub OpenHostsTake : Type 0
  OpenHostsTake = (moment : Moment) (room : ℕ) (host : Host Image) (input : Input Image) → host.is_closed ≡ false →
      TakesAsAnswered moment room host input (host_step images moment room host input).1
