-- Both tables of a seat are judged, and what is activated is adopted.
use Rattle.std.proofs.Common.{◌≡◌, ap, sym, ◌∙◌, subst, ℕ, Bool, List, map, if◌then◌else◌}
use Rattle.std.specs.Prelude.{IfSome, is_some}
use Rattle.lc_model.specs.declared.kind.Kind.{Kind}
use Rattle.lc_model.specs.declared.kind.Kind.TheVariants.{Wdt, Adt}
use Rattle.lc_model.specs.Tables.Slot.{Slot}
use Rattle.lc_model.specs.Kept.GoesWith.{IsJudged, subscriptions_of}
use Rattle.lc_model.specs.Kept.Summary.{LcOwn, LcState}
use Rattle.lc_model.specs.Services.Bus.{Queue, pipe_at, with_pipe}
use Rattle.lc_model.specs.Services.Settled.{form_of}
use Rattle.lc_model.specs.Services.Tables.{TableService, Handle, tables_at, slot_at, slot_changed}
use Rattle.lc_model.proofs.LimitChecker.Slots.{validated_judged}
use Rattle.app_host.specs.declared.services.Services.{Services}
use Rattle.app_host.specs.Shared.{on_board}
use Rattle.limit_checker.specs.declared.verdict.Verdict.{Verdict}
use Rattle.limit_checker.specs.Housekeeping.{adt_of, both_judged, both_taken, own_adopted, pair_at, requested_by, requests_of, validation, wdt_of, MayRenew, Renews}
use Rattle.limit_checker.proofs.TwoTables.{HasTwo, two_tables, as_is, first_changed, first_slot, second_slot, first_slot_is, second_slot_is, forms_stay, judged_are}

module _ (seat : ℕ) (old : LcOwn) (before : Services) (first_judged second_judged : TableService) (first second : Handle) (may : MayRenew seat old before)
    (one : first ≡ wdt_of seat) (other : second ≡ adt_of seat) (then_first : first_judged ≡ slot_changed (validation Wdt) first before.tables)
    (then_second : second_judged ≡ slot_changed (validation Adt) second first_judged) where
  two : HasTwo seat before.tables
  two = two_tables seat before.tables may.tables

  judged : second_judged ≡ both_judged seat before.tables
  judged =
      then_second ∙ (λ i. slot_changed (validation Adt) (other i) (then_first i))
      ∙ (λ i. slot_changed (validation Adt) (adt_of seat) (slot_changed (validation Wdt) (one i) before.tables))

  abbrev w : Slot (List ℕ)
  w = two.first.slot

  abbrev a : Slot (List ℕ)
  a = two.second.slot

  sound_after : (kind : Kind) (handle : Handle) (slot now : Slot (List ℕ)) → slot_at handle before.tables ≡ slot → now ≡ validation kind slot → IsJudged on_board kind (slot_at handle before.tables) →
      IsJudged on_board kind now
  sound_after kind handle slot now is after judged_so =
      subst (IsJudged on_board kind) (sym after) (validated_judged on_board kind slot (subst (IsJudged on_board kind) is judged_so))

  first_now : slot_at (wdt_of seat) second_judged ≡ validation Wdt w
  first_now = ap (slot_at (wdt_of seat)) (judged ∙ judged_are seat before.tables two) ∙ first_slot seat before.tables two (validation Wdt w) (validation Adt a)

  second_now : slot_at (adt_of seat) second_judged ≡ validation Adt a
  second_now = ap (slot_at (adt_of seat)) (judged ∙ judged_are seat before.tables two) ∙ second_slot seat before.tables two (validation Wdt w) (validation Adt a)

  pub still_may : MayRenew seat old (record before { tables = second_judged })
  still_may = record {
    tables = ap (λ (service : TableService). map form_of (tables_at seat service.places)) (judged ∙ judged_are seat before.tables two)
        ∙ forms_stay seat before.tables two (validation Wdt w) (validation Adt a);
    wdt = sound_after Wdt (wdt_of seat) w (slot_at (wdt_of seat) second_judged) (first_slot_is seat before.tables two) first_now may.wdt;
    adt = sound_after Adt (adt_of seat) a (slot_at (adt_of seat) second_judged) (second_slot_is seat before.tables two) second_now may.adt;
    pipe = may.pipe;
  }

  -- the second table is judged as it was
  second_as_it_was : slot_at second first_judged ≡ slot_at (adt_of seat) before.tables
  second_as_it_was =
      (λ i. slot_at (other i) (then_first i)) ∙ (λ i. slot_at (adt_of seat) (slot_changed (validation Wdt) (one i) (as_is seat before.tables two i)))
      ∙ ap (slot_at (adt_of seat)) (first_changed seat before.tables two (validation Wdt) w a) ∙ second_slot seat before.tables two (validation Wdt w) a
      ∙ sym (second_slot_is seat before.tables two)

  module _ (new : LcOwn) (after : Services) (wdt adt : Verdict) (adopted : Bool) (wdt_told : requests_of Wdt wdt ≡ requested_by Wdt (slot_at first before.tables))
      (adt_told : requests_of Adt adt ≡ requested_by Adt (slot_at second first_judged)) (answer : adopted ≡ is_some (pair_at seat second_judged))
      (engine : new ≡ own_adopted (pair_at seat second_judged) old) (tables : after.tables ≡ (if adopted then both_taken seat second_judged else second_judged))
      (bus : IfSome (pipe_at seat before.bus) (λ (queue : Queue). after.bus ≡ with_pipe seat before.bus (record queue { subscriptions = subscriptions_of (LcState new) })))
      (rest : after ≡ record before { tables = after.tables; bus = after.bus }) where
    pub renewed : Renews seat old new before after (record { wdt = wdt; adt = adt; adopted = adopted })
    renewed = record {
      wdt = wdt_told ∙ ap (λ handle. requested_by Wdt (slot_at handle before.tables)) one;
      adt = adt_told ∙ ap (requested_by Adt) second_as_it_was;
      adopted = answer ∙ ap (λ service. is_some (pair_at seat service)) judged;
      engine = engine ∙ ap (λ service. own_adopted (pair_at seat service) old) judged;
      tables = tables ∙ ap (λ service. if adopted then both_taken seat service else service) judged;
      bus = bus;
      rest = rest;
    }
