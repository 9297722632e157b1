-- Laws: calls, commands and `HOST`'s own steps keep each object in agreement with the services (`GoesWith`), and bound what a
-- call publishes and writes.
use Rattle.std.specs.Prelude.{◌≡◌, ◌≢◌, ℕ, ◌≤◌, List, [], length, IsFalse, IfSome, IfOk}
use Rattle.std.specs.List.{AllByRecursion, concat}
use Rattle.lc_model.specs.declared.record.Moment.{Moment}
use Rattle.lc_model.specs.Name.{Name, is_named}
use Rattle.lc_model.specs.Packet.{tick_mid, message_id}
use Rattle.lc_model.specs.Tables.Interpretation.{FileMeaning, Interpretation}
use Rattle.lc_model.specs.Events.Request.{Request}
use Rattle.lc_model.specs.LimitChecker.Steps.{lc_packet}
use Rattle.lc_model.specs.Kept.Summary.{LcOwn, AppState}
use Rattle.lc_model.specs.Kept.Next.{by_counts}
use Rattle.lc_model.specs.Kept.Call.{ServicesNow, Called, lc_with, next_lc_packet, next_start, next_on_packet, next_retire, sent_by}
use Rattle.lc_model.specs.Kept.Executive.{event_service_now, table_service_now}
use Rattle.lc_model.specs.Kept.GoesWith.{own_name, MayStart, LcGoesWith, GoesWith}
use Rattle.lc_model.specs.Services.Interface.{outgoing_room, most_published}

-- The two objects are of different applications.
abbrev pub AreTwo : AppState → AppState → Type 0
AreTwo state other = IsFalse (is_named (own_name other) (own_name state))

-- At most eight packets are published, only for a tick, and none of them is a tick.
pub record IsPublication (packet : List ℕ) (published : List (List ℕ)) : Type 0 where
  pub few : length published ≤ most_published
  pub for_ticks : published ≢ [] → message_id packet ≡ tick_mid
  pub no_ticks : AllByRecursion (λ (other : List ℕ). message_id other ≢ tick_mid) published

module _ {Image : Type 0} (images : Interpretation Image) where
  -- Law: an object agrees with the services after its start.
  abbrev pub StartsGoWith : Type 0
  StartsGoWith = (moment : Moment) (state : AppState) (services : ServicesNow Image) → MayStart state →
      IfSome (next_start images moment state services) (λ (called : Called Image). GoesWith images called.state called.services)

  -- Law: an object still agrees with the services after it has handled a packet.
  abbrev pub PacketsKeep : Type 0
  PacketsKeep = (moment : Moment) (state : AppState) (packet : List ℕ) (services : ServicesNow Image) → GoesWith images state services →
      IfSome (next_on_packet images moment state packet services) (λ (called : Called Image). GoesWith images called.state called.services)

  -- A call of one application keeps another in agreement with the services.
  pub record KeepsOthers (state other : AppState) (services : ServicesNow Image) : Type 0 where
    pub start : (moment : Moment) → IfSome (next_start images moment state services) (λ (called : Called Image). GoesWith images other called.services)
    pub packet : (moment : Moment) (packet : List ℕ) →
        IfSome (next_on_packet images moment state packet services) (λ (called : Called Image). GoesWith images other called.services)
    pub retire : IfSome (next_retire state services) (λ (after : ServicesNow Image). GoesWith images other after)

  -- Law: a call of one application keeps every other in agreement with the services.
  abbrev pub CallsKeepOthers : Type 0
  CallsKeepOthers = (state other : AppState) (services : ServicesNow Image) → AreTwo state other → GoesWith images other services →
      KeepsOthers state other services

  -- Commands to the services, stored files and sent requests keep the object in agreement with the services.
  pub record HostKeeps (state : AppState) (services : ServicesNow Image) : Type 0 where
    pub events : (packet : List ℕ) → IfOk (event_service_now packet services) (λ (after : ServicesNow Image). GoesWith images state after)
    pub tables : (packet : List ℕ) → IfOk (table_service_now images packet services) (λ (after : ServicesNow Image). GoesWith images state after)
    pub files : (files : List (Name × FileMeaning Image)) → GoesWith images state (record services { files = files })
    pub sending : (moment : Moment) (sender : Name) (requests : List Request) → GoesWith images state (sent_by moment sender requests services).0

  -- Law: commands to the services, stored files and sent requests keep each object in agreement with the services.
  abbrev pub TheHostKeeps : Type 0
  TheHostKeeps = (state : AppState) (services : ServicesNow Image) → GoesWith images state services → HostKeeps state services

  -- Law: what LC's object does by its own copy of the tables is what it does by the tables in force.
  abbrev pub CopiesServe : Type 0
  CopiesServe = (packet : List ℕ) (own : LcOwn) (services : ServicesNow Image) → LcGoesWith images own services →
      next_lc_packet images packet own (lc_with own services) ≡ lc_packet by_counts images packet (lc_with own services)

  -- Law: a call of `on_packet` publishes at most eight packets, as `IsPublication` states.
  abbrev pub PublishesFew : Type 0
  PublishesFew = (moment : Moment) (state : AppState) (packet : List ℕ) (services : ServicesNow Image) → GoesWith images state services →
      IfSome (next_on_packet images moment state packet services) (λ (called : Called Image). IsPublication packet called.published)

  -- Law: a call of `on_packet` writes at most 65,536 bytes.
  abbrev pub WritesLittle : Type 0
  WritesLittle = (moment : Moment) (state : AppState) (packet : List ℕ) (services : ServicesNow Image) → GoesWith images state services →
      IfSome (next_on_packet images moment state packet services) (λ (called : Called Image). length (concat called.outgoing) ≤ outgoing_room)

  -- Law: a call of `start` writes at most 65,536 bytes.
  abbrev pub StartsWriteLittle : Type 0
  StartsWriteLittle = (moment : Moment) (state : AppState) (services : ServicesNow Image) →
      IfSome (next_start images moment state services) (λ (called : Called Image). length (concat called.outgoing) ≤ outgoing_room)
