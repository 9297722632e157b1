-- The parts of a housekeeping request: the verdict on each table's image, the pair that is adopted, and the packets sent. From
-- the cFS Limit Checker user's guide, table validation and adoption; the order of the steps is this project's own.
use Rattle.std.specs.Prelude.{◌≡◌, ℕ, Bool, List, [], ◌∷◌, ◌++◌, map, if◌then◌else◌, Option, Some, None, is_some, IfSome, IsSomeAnd}
use Rattle.lc_model.specs.declared.kind.Kind.{Kind}
use Rattle.lc_model.specs.declared.kind.Kind.TheVariants.{Wdt, Adt}
use Rattle.lc_model.specs.Codes.{kind_code}
use Rattle.lc_model.specs.Tables.Image.{ImageFault}
use Rattle.lc_model.specs.Tables.Slot.{Slot, taken}
use Rattle.lc_model.specs.Tables.Interpretation.{Pair}
use Rattle.lc_model.specs.Events.Request.{Request, table_valid, table_invalid, tables_adopted}
use Rattle.lc_model.specs.LimitChecker.Steps.{validated, pair_to_adopt}
use Rattle.lc_model.specs.Kept.GoesWith.{IsJudged, subscriptions_of}
use Rattle.lc_model.specs.Kept.Summary.{LcOwn, LcState}
use Rattle.lc_model.specs.Services.Bus.{Queue, pipe_at, with_pipe}
use Rattle.lc_model.specs.Services.Settled.{form_of, own_forms}
use Rattle.lc_model.specs.Services.Tables.{Handle, TableService, slot_at, slot_changed, tables_at}
use Rattle.table_validator.specs.Fault.{code_number, fault_in}
use Rattle.app_host.specs.declared.services.Services.{Services}
use Rattle.app_host.specs.Shared.{on_board}
use Rattle.limit_checker.specs.declared.housekeeping.Renewal.{Renewal}
use Rattle.limit_checker.specs.declared.verdict.Verdict.{Verdict}
use Rattle.limit_checker.specs.declared.verdict.Verdict.TheVariants.{Unasked, Sound, Faulty}
use Rattle.limit_engine.specs.Engine.{with_tables}

-- ---- verdicts

-- The fault of an image, by its bytes.
abbrev pub fault_on_board : Kind → List ℕ → Option ImageFault
fault_on_board kind image = on_board.fault_of kind image

-- The slot after validation; unchanged unless its image is asked to be validated.
abbrev pub validation : Kind → Slot (List ℕ) → Slot (List ℕ)
validation kind slot = (validated on_board kind slot).0

-- The events of the validation: 10 or 11, or none if no image is asked to be validated.
abbrev pub requested_by : Kind → Slot (List ℕ) → List Request
requested_by kind slot = (validated on_board kind slot).1

-- The fault in a verdict: `None` if no image was judged, `Some None` if it is sound.
abbrev pub verdict_seen : Verdict → Option (Option ImageFault)
verdict_seen Unasked = None
verdict_seen Sound = Some None
verdict_seen (Faulty fault) = Some (Some (fault_in fault))

-- The events of a verdict: 10, 11 or none.
abbrev pub requests_of : Kind → Verdict → List Request
requests_of kind Unasked = []
requests_of kind Sound = table_valid (kind_code kind) ∷ []
requests_of kind (Faulty fault) = table_invalid (kind_code kind) (code_number fault.code) fault.entry ∷ []

-- ---- adoption

-- The handle of the WDT of the Limit Checker on this seat.
abbrev pub wdt_of : ℕ → Handle
wdt_of seat = record { seat = seat; number = 0 }

-- The handle of its ADT.
abbrev pub adt_of : ℕ → Handle
adt_of seat = record { seat = seat; number = 1 }

-- The pair that the Limit Checker on this seat adopts, if any.
abbrev pub pair_at : ℕ → TableService → Option (Pair (List ℕ))
pair_at seat service = pair_to_adopt on_board (slot_at (wdt_of seat) service) (slot_at (adt_of seat) service)

-- The object after it adopted this pair, if there is one.
abbrev pub own_adopted : Option (Pair (List ℕ)) → LcOwn → LcOwn
own_adopted None own = own
own_adopted (Some pair) own = with_tables (on_board.terms pair) (on_board.rules pair) own

-- The table services after the activated images of both tables became active.
abbrev pub both_taken : ℕ → TableService → TableService
both_taken seat service = slot_changed taken (adt_of seat) (slot_changed taken (wdt_of seat) service)

-- Event 2, if tables were adopted.
abbrev pub adoption_requests : Bool → List Request
adoption_requests adopted = if adopted then tables_adopted ∷ [] else []

-- ---- both tables

-- The table services after both tables were validated.
abbrev pub both_judged : ℕ → TableService → TableService
both_judged seat service = slot_changed (validation Adt) (adt_of seat) (slot_changed (validation Wdt) (wdt_of seat) service)

-- The table services after validation and, if a pair is adopted, adoption.
abbrev pub tables_after : Bool → ℕ → TableService → TableService
tables_after adopted seat service = if adopted then both_taken seat (both_judged seat service) else both_judged seat service

-- The events of both verdicts and of the adoption, in order.
abbrev pub renewal_requests : Renewal → List Request
renewal_requests renewal = requests_of Wdt renewal.wdt ++ (requests_of Adt renewal.adt ++ adoption_requests renewal.adopted)

-- The effect of validation and adoption on the tables, the engine and the pipe's subscriptions; nothing else of the services
-- changes.
pub record Renews (seat : ℕ) (old new : LcOwn) (before after : Services) (renewal : Renewal) : Type 0 where
  pub wdt : requests_of Wdt renewal.wdt ≡ requested_by Wdt (slot_at (wdt_of seat) before.tables)
  pub adt : requests_of Adt renewal.adt ≡ requested_by Adt (slot_at (adt_of seat) before.tables)
  pub adopted : renewal.adopted ≡ is_some (pair_at seat (both_judged seat before.tables))
  pub engine : new ≡ own_adopted (pair_at seat (both_judged seat before.tables)) old
  pub tables : after.tables ≡ tables_after renewal.adopted seat before.tables
  pub bus : IfSome (pipe_at seat before.bus) (λ (queue : Queue). after.bus ≡ with_pipe seat before.bus (record queue { subscriptions = subscriptions_of (LcState new) }))
  pub rest : after ≡ record before { tables = after.tables; bus = after.bus }

-- What validation and adoption need: the seat has LC's two tables, their active and activated images are sound, and the pipe is
-- subscribed to the message ids that the object's state gives.
pub record MayRenew (seat : ℕ) (own : LcOwn) (s : Services) : Type 0 where
  pub tables : map form_of (tables_at seat s.tables.places) ≡ own_forms (LcState own)
  pub wdt : IsJudged on_board Wdt (slot_at (wdt_of seat) s.tables)
  pub adt : IsJudged on_board Adt (slot_at (adt_of seat) s.tables)
  pub pipe : IsSomeAnd (pipe_at seat s.bus) (λ (queue : Queue). queue.subscriptions ≡ subscriptions_of (LcState own))
