-- The relation between the world (lists of all that happened) and the host in numbers (counters, seats, pipes). The services
-- store what the lists give, each running application has one seat and the state that its lists give, and the stock is the
-- world's. This project's own.
use Rattle.std.specs.Prelude.{◌≡◌, ℕ, suc, Bool, true, false, List, [], ◌∷◌, map, length, count_by, if◌then◌else◌, Option, Some, None, is_some, option_map}
use Rattle.std.specs.Option.{option_map_or}
use Rattle.std.specs.List.{AllByRecursion}
use Rattle.lc_model.specs.declared.kind.Kind.{Kind}
use Rattle.lc_model.specs.declared.kind.Kind.TheVariants.{Wdt, Adt}
use Rattle.lc_model.specs.Name.{Name, lc_name, sch_name, counter_name}
use Rattle.lc_model.specs.Tables.Slot.{Slot}
use Rattle.lc_model.specs.Tables.Interpretation.{FileMeaning, Interpretation, kind_named}
use Rattle.lc_model.specs.Host.Schedule.{Schedule, slot_number}
use Rattle.lc_model.specs.Host.World.{World, Application, Running, Lc, log_of}
use Rattle.lc_model.specs.Kept.Effort.{Effort}
use Rattle.lc_model.specs.Kept.Summary.{LcNow, lc_now, lc_own, EventState, event_state, count_now, AppState, LcState, SchState, CounterState, Other, counts_of}
use Rattle.lc_model.specs.Kept.Call.{ServicesNow, lc_subscriptions, sch_subscriptions, counter_subscriptions}
use Rattle.lc_model.specs.Kept.Executive.{Member, Pipe, Executive, is_called, seat_count}

-- The three applications of this profile.
pub data App : Type 0 where
  LimitChecker Scheduler Counter : App

-- The application's name.
abbrev pub name_of : App → Name
name_of LimitChecker = lc_name
name_of Scheduler = sch_name
name_of Counter = counter_name

-- ---- seats

-- Whether this seat is the application's.
abbrev pub holds : App → Option App → Bool
holds LimitChecker (Some LimitChecker) = true
holds Scheduler (Some Scheduler) = true
holds Counter (Some Counter) = true
holds app seat = false

-- The number of seats that an application has.
unfoldable pub times : App → List (Option App) → ℕ
times app [] = 0
times app (seat ∷ seats) = if holds app seat then suc (times app seats) else times app seats

-- The packets that wait in each application's pipe, oldest first.
abbrev pub Queues : Type 0
Queues = App → List (List ℕ)

-- All pipes are empty.
abbrev pub no_packets : Queues
no_packets app = []

-- The object on a seat, if `states` gives each application's state.
abbrev pub seat_with : (App → AppState) → Option App → Option Member
seat_with states None = None
seat_with states (Some app) = Some (record { called = name_of app; state = states app })

-- The pipe of a seat, with its application's subscriptions and waiting packets.
abbrev pub pipe_with : (App → List ℕ) → Queues → Option App → Option Pipe
pipe_with subscriptions queues None = None
pipe_with subscriptions queues (Some app) = Some (record { subscriptions = subscriptions app; waiting = queues app })

-- An executive with these spares, these applications on its seats, and these services.
abbrev pub executive_by : {Image : Type 0} → List Member → List (Option App) → (App → AppState) → (App → List ℕ) → Queues → ServicesNow Image → Executive Image
executive_by stock seats states subscriptions queues services = record {
  stock = stock;
  seats = map (seat_with states) seats;
  pipes = map (pipe_with subscriptions queues) seats;
  services = services;
}

-- ---- what a world gives

-- The state of an application, or `None` if it does not run.
abbrev pub state_of : {State : Type 0} → Application State → Option State
state_of {State} app = option_map (λ (r : Running State). r.state) app.running

-- The part of a world that has no logs and no sent packets: files, states of the running applications, and numbers of spares.
pub record Standing (Image : Type 0) : Type 0 where
  pub files : List (Name × FileMeaning Image)
  pub lc : Option (Lc Image)
  pub sch : Option ℕ
  pub counter : Option ℕ
  pub lc_spares : ℕ
  pub sch_spares : ℕ
  pub counter_spares : ℕ

module _ {Image : Type 0} where
  -- The standing part of a world.
  abbrev pub standing_of : World Image → Standing Image
  standing_of w = record {
    files = w.files;
    lc = state_of w.lc;
    sch = state_of w.sch;
    counter = state_of w.counter;
    lc_spares = w.lc.spares;
    sch_spares = w.sch.spares;
    counter_spares = w.counter.spares;
  }

  -- Whether an application runs.
  abbrev pub runs_in : Standing Image → App → Bool
  runs_in s LimitChecker = is_some s.lc
  runs_in s Scheduler = is_some s.sch
  runs_in s Counter = is_some s.counter

  -- How many spares an application has.
  abbrev pub spares_in : Standing Image → App → ℕ
  spares_in s LimitChecker = s.lc_spares
  spares_in s Scheduler = s.sch_spares
  spares_in s Counter = s.counter_spares

  -- The event filters and types of a registered sender; `None` for a name that is not registered.
  abbrev pub events_of : World Image → Name → Option EventState
  events_of w name = option_map event_state (log_of w name)

-- The host's numbers: each running application's numbers, the services', and the Limit Checker's effort, which no list
-- determines.
pub record Numbers (Image : Type 0) : Type 0 where
  pub lc : Option (LcNow Image)
  pub sch : Option ℕ
  pub counter : Option ℕ
  pub effort : Effort
  pub services : ServicesNow Image

module _ {Image : Type 0} (images : Interpretation Image) (schedule : Schedule) where
  -- The slot of the WDT or of the ADT.
  abbrev pub slot_now : Kind → LcNow Image → Slot Image
  slot_now Wdt lc = lc.wdt
  slot_now Adt lc = lc.adt

  -- The slots by table name: `LC.LC_WDT` and `LC.LC_ADT` if the Limit Checker runs, else none.
  abbrev pub slots_in : Option (LcNow Image) → Name → Option (Slot Image)
  slots_in None name = None
  slots_in (Some lc) name = option_map (λ kind. slot_now kind lc) (kind_named name)

  -- The numbers for these files and states, this effort, these event senders and these sequence counts.
  abbrev pub numbers_by : Effort → Standing Image → (Name → Option EventState) → (ℕ → ℕ) → Numbers Image
  numbers_by effort s events counts = record {
    lc = option_map (lc_now images) s.lc;
    sch = option_map (slot_number schedule) s.sch;
    counter = option_map count_now s.counter;
    effort = effort;
    services = record { files = s.files; slots = slots_in (option_map (lc_now images) s.lc); events = events; counts = counts };
  }

  -- The numbers of a world `w`, with this effort.
  abbrev pub numbers_of : Effort → World Image → Numbers Image
  numbers_of effort w = numbers_by effort (standing_of w) (events_of w) (counts_of w.sent)

  -- The state of an application's object; `Other` if it does not run.
  abbrev pub state_in : Numbers Image → App → AppState
  state_in n LimitChecker = option_map_or (λ lc. LcState (lc_own images n.effort lc)) n.lc Other
  state_in n Scheduler = option_map_or (SchState schedule) n.sch Other
  state_in n Counter = option_map_or CounterState n.counter Other

  -- The message ids that an application's pipe is subscribed to.
  abbrev pub subscriptions_in : Numbers Image → App → List ℕ
  subscriptions_in n LimitChecker = option_map_or (lc_subscriptions images) n.lc []
  subscriptions_in n Scheduler = sch_subscriptions
  subscriptions_in n Counter = counter_subscriptions

  -- The executive with these spares, applications on seats, waiting packets and numbers.
  abbrev pub executive_of : List Member → List (Option App) → Queues → Numbers Image → Executive Image
  executive_of stock seats queues n = executive_by stock seats (state_in n) (subscriptions_in n) queues n.services

  -- ---- stock

  -- An object of the profile: a Limit Checker, a scheduler with this schedule, or a counter, each under its own name.
  abbrev pub IsOfProfile : Name → AppState → Type 0
  IsOfProfile name (LcState own) = name ≡ lc_name
  IsOfProfile name (SchState own slot) = (name ≡ sch_name) × (own ≡ schedule)
  IsOfProfile name (CounterState count) = name ≡ counter_name
  IsOfProfile name Other = ⊥

  -- An object in stock is one of the profile.
  abbrev pub IsSpare : Member → Type 0
  IsSpare member = IsOfProfile member.called member.state

  -- ---- seats and stock of a world

  -- Each running application has exactly one of the eight seats, any other none; the stock has only objects of the profile, and
  -- as many of each name as the world counts.
  pub record IsSeated (s : Standing Image) (stock : List Member) (seats : List (Option App)) : Type 0 where
    pub eight : length seats ≡ seat_count
    pub placed : (app : App) → times app seats ≡ (if runs_in s app then 1 else 0)
    pub profile : AllByRecursion IsSpare stock
    pub spares : (app : App) → spares_in s app ≡ count_by (is_called (name_of app)) stock

  -- Executive `e` agrees with world `w`.
  pub record KeepsTo (w : World Image) (e : Executive Image) : Type 0 where
    -- The application of each seat, if any.
    pub order : List (Option App)
    -- The Limit Checker's effort, which may be anything.
    pub effort : Effort
    pub seated : IsSeated (standing_of w) e.stock order
    -- The objects on the seats have the names and states that the world gives.
    pub seats : e.seats ≡ map (seat_with (state_in (numbers_of effort w))) order
    -- The pipes have the subscriptions that the world gives, and no packet waits.
    pub pipes : e.pipes ≡ map (pipe_with (subscriptions_in (numbers_of effort w)) no_packets) order
    -- Files, table slots, event filters and sequence counts are those of the world.
    pub services : e.services ≡ (numbers_of effort w).services
