-- When an object's state agrees with what the services store for it. Every call and command keeps this. This project's own.
use Rattle.std.specs.Prelude.{◌≡◌, ℕ, ◌<◌, ⊤, List, [], ◌∷◌, map, length, None, is_some, IsTrue, IfSome}
use Rattle.lc_model.specs.declared.kind.Kind.{Kind}
use Rattle.lc_model.specs.declared.kind.Kind.TheVariants.{Wdt, Adt}
use Rattle.lc_model.specs.declared.field.Term.{Term}
use Rattle.lc_model.specs.Packet.{lc_command_mid, lc_housekeeping_request_mid, sample_mid}
use Rattle.lc_model.specs.Name.{Name, lc_name, sch_name, counter_name}
use Rattle.lc_model.specs.Tables.File.{table_name}
use Rattle.lc_model.specs.Tables.Slot.{Slot, Waiting, Stage, Loaded, Asked, Valid, Activated}
use Rattle.lc_model.specs.Tables.Interpretation.{Interpretation}
use Rattle.lc_model.specs.Host.Schedule.{Schedule, IsSchedule}
use Rattle.lc_model.specs.Kept.Summary.{LcNow, LcOwn, terms_in, rules_in, AppState, LcState, SchState, CounterState, Other}
use Rattle.lc_model.specs.Kept.Call.{ServicesNow, with_mids, lc_with, sch_subscriptions, counter_subscriptions}

-- The name of the object's application.
abbrev pub own_name : AppState → Name
own_name (LcState own) = lc_name
own_name (SchState schedule slot) = sch_name
own_name (CounterState count) = counter_name
own_name Other = []

-- The subscriptions of the object's pipe, from its start to its retirement. LC's are its three request ids and the message ids of
-- its own copy of the watchpoints in force. Empty for an object of another profile, of which nothing is claimed.
abbrev pub subscriptions_of : AppState → List ℕ
subscriptions_of (LcState own) =
    with_mids (lc_command_mid ∷ lc_housekeeping_request_mid ∷ sample_mid ∷ map (λ (t : Term). t.mid) own.terms) []
subscriptions_of (SchState schedule slot) = sch_subscriptions
subscriptions_of (CounterState count) = counter_subscriptions
subscriptions_of Other = []

-- A state in which the object may be started: SCH needs a valid schedule.
abbrev pub MayStart : AppState → Type 0
MayStart (LcState own) = ⊤
MayStart (SchState schedule slot) = IsSchedule schedule
MayStart (CounterState count) = ⊤
MayStart Other = ⊤

-- The name is registered as an event sender.
abbrev pub IsSender : {Image : Type 0} → Name → ServicesNow Image → Type 0
IsSender name services = IsTrue (is_some (services.events name))

module _ {Image : Type 0} (images : Interpretation Image) where
  -- A waiting image that is valid or activated is sound.
  abbrev pub IsFoundSound : Kind → Stage → Image → Type 0
  IsFoundSound kind Loaded image = ⊤
  IsFoundSound kind Asked image = ⊤
  IsFoundSound kind Valid image = images.fault_of kind image ≡ None
  IsFoundSound kind Activated image = images.fault_of kind image ≡ None

  -- The slot's active image, and a valid or activated waiting one, are sound.
  pub record IsJudged (kind : Kind) (slot : Slot Image) : Type 0 where
    pub active : IfSome slot.active (λ image. images.fault_of kind image ≡ None)
    pub waiting : IfSome slot.waiting (λ (waiting : Waiting Image). IsFoundSound kind waiting.stage waiting.image)

  -- LC in numbers has one result for each watchpoint in force and one point for each rule; the active images, and waiting
  -- images that are valid or activated, are sound.
  pub record IsInStep (lc : LcNow Image) : Type 0 where
    pub results : length lc.watch ≡ length (terms_in images lc)
    pub points : length lc.points ≡ length (rules_in images lc)
    pub wdt : IsJudged Wdt lc.wdt
    pub adt : IsJudged Adt lc.adt

  -- LC's tables are registered, and its own copy of watchpoints and rules is that of the tables in force.
  pub record LcGoesWith (own : LcOwn) (services : ServicesNow Image) : Type 0 where
    pub wdt : IsTrue (is_some (services.slots (table_name Wdt)))
    pub adt : IsTrue (is_some (services.slots (table_name Adt)))
    pub terms : own.terms ≡ terms_in images (lc_with own services)
    pub rules : own.rules ≡ rules_in images (lc_with own services)
    pub in_step : IsInStep (lc_with own services)
    pub sender : IsSender lc_name services

  -- SCH has a valid schedule, and its slot is one of it.
  pub record SchGoesWith (schedule : Schedule) (slot : ℕ) (services : ServicesNow Image) : Type 0 where
    pub schedule_fits : IsSchedule schedule
    pub inside : slot < length schedule
    pub sender : IsSender sch_name services

  -- The object's state agrees with the services; nothing is claimed of an object of another profile.
  abbrev pub GoesWith : AppState → ServicesNow Image → Type 0
  GoesWith (LcState own) services = LcGoesWith own services
  GoesWith (SchState schedule slot) services = SchGoesWith schedule slot services
  GoesWith (CounterState count) services = IsSender counter_name services
  GoesWith Other services = ⊤
