-- A housekeeping request, as the application answers it.
use Rattle.std.proofs.Common.{◌≡◌, refl, ap, sym, ◌∙◌, subst, ℕ, ◌+◌, ◌≤◌, Bool, true, false, ◌==◌, List, [], ◌∷◌, ◌++◌, length, map, arith, append_assoc, if◌then◌else◌, Option, Some, None, Result, Ok, Err}
use Rattle.std.specs.Prelude.{IfSome, option_map, IsSomeAnd, is_some, unwrap_or}
use Rattle.std.specs.Option.{option_map_or}
use Rattle.lc_model.specs.declared.kind.Kind.TheVariants.{Wdt, Adt}
use Rattle.lc_model.specs.Name.{Name, lc_name}
use Rattle.lc_model.specs.Packet.{function_code, payload, message_id, lc_command_mid, lc_housekeeping_request_mid, sample_mid, is_telemetry_mid}
use Rattle.lc_model.specs.Refusal.{Refusal, ◌>>=◌}
use Rattle.lc_model.specs.Command.{bare_request, sample_request}
use Rattle.lc_model.specs.Events.Request.{Request, Housekeeping, lc_command_refused}
use Rattle.lc_model.specs.Tables.File.{table_name}
use Rattle.lc_model.specs.Tables.Interpretation.{Pair}
use Rattle.lc_model.specs.Tables.Slot.{Slot, no_images, taken}
use Rattle.lc_model.specs.LimitChecker.Steps.{LcStep, adopted, housekeeping_of, lc_housekeeping, lc_commanded, pair_to_adopt, paired, standing, unless_refused}
use Rattle.lc_model.specs.Kept.GoesWith.{IsJudged, IsSender, subscriptions_of}
use Rattle.lc_model.specs.Kept.Summary.{LcNow, LcOwn, LcState, Tally, WatchResult, lc_own}
use Rattle.lc_model.specs.Kept.Next.{by_counts}
use Rattle.lc_model.specs.Kept.Call.{with_at, lc_with, sample_effort, telemetry_effort, effort_after, sample_taken, telemetry_seen, next_lc_packet}
use Rattle.lc_model.specs.Laws.TableServices.{ChangesStaySound}
use Rattle.lc_model.specs.Laws.TablesByName.{ChangingTables, TablesAreFound}
use Rattle.lc_model.specs.Services.Interface.{MayBeGiven}
use Rattle.lc_model.specs.Services.Bus.{Queue}
use Rattle.lc_model.specs.Services.Events.{sender_at}
use Rattle.lc_model.specs.Services.Settled.{form_of}
use Rattle.lc_model.specs.Services.Seen.{services_seen, files_seen, slot_among}
use Rattle.lc_model.specs.Services.Tables.{TableService, IsTableService, tables_at}
use Rattle.lc_model.proofs.LimitChecker.StepLaws.{validated_active, adopted_pair}
use Rattle.app_host.specs.declared.services.Services.{Services}
use Rattle.app_host.specs.Shared.{on_board, held_by, shared}
use Rattle.app_host.specs.Statements.{TellingAnswers, TellingLeaves, TellingSettles}
use Rattle.app_host.specs.Telling.{Tells, name_of}
use Rattle.app_host.specs.Calls.{IsAtHome}
use Rattle.limit_checker.specs.declared.housekeeping.Renewal.{Renewal}
use Rattle.limit_checker.specs.Application.{IsHome, MayHave, Answers}
use Rattle.limit_checker.specs.Housekeeping.{adoption_requests, both_judged, both_taken, own_adopted, pair_at, renewal_requests, requested_by, requests_of, tables_after, validation, MayRenew, Renews}
use Rattle.limit_checker.specs.Sending.{MaySend}
use Rattle.limit_checker.proofs.Answering.{answers, little_after}
use Rattle.limit_checker.proofs.Rearranged.{Rearranges, HasQueue, queue_there, rearranged}
use Rattle.limit_checker.proofs.TwoTables.{HasTwo, two_tables, both, first_slot, second_slot, first_slot_is, second_slot_is, forms_stay, others_stay, judged_are, taken_are, slots_named, first_found, second_found}
use Rattle.limit_checker.proofs.Leaving.{slots_are}

-- ---- the step of the definitions, by its slots

module _ (own : LcOwn) (w a : Slot (List ℕ)) where
  -- the object with these slots
  abbrev lc_by : LcNow (List ℕ)
  lc_by = record { mode = own.mode; wdt = w; adt = a; watch = own.watch; points = own.points }

  -- what is adopted, if there is a pair
  abbrev after_by : Option (Pair (List ℕ)) → LcStep (List ℕ) (List WatchResult) Tally
  after_by o = option_map_or (adopted by_counts on_board lc_by) o (lc_by, [])

  now_is : (b : Bool) (o : Option (Pair (List ℕ))) → b ≡ is_some o → (if b then taken w else w) ≡ (after_by o).0.wdt
  now_is b None e = ap (λ t. if t then taken w else w) e
  now_is b (Some pair) e = ap (λ t. if t then taken w else w) e

  other_is : (b : Bool) (o : Option (Pair (List ℕ))) → b ≡ is_some o → (if b then taken a else a) ≡ (after_by o).0.adt
  other_is b None e = ap (λ t. if t then taken a else a) e
  other_is b (Some pair) e = ap (λ t. if t then taken a else a) e

  told_is : (o : Option (Pair (List ℕ))) → adoption_requests (is_some o) ≡ (after_by o).1
  told_is None = refl
  told_is (Some pair) = refl

  stands_so : (o : Option (Pair (List ℕ))) → Housekeeping (own_adopted o own).mode (map (standing by_counts) (own_adopted o own).points) ≡ housekeeping_of by_counts (after_by o).0
  stands_so None = refl
  stands_so (Some pair) = refl

  engine_is : (o : Option (Pair (List ℕ))) → pair_to_adopt on_board w a ≡ o → own.terms ≡ option_map_or on_board.terms (paired on_board w.active a.active) [] →
      own.rules ≡ option_map_or on_board.rules (paired on_board w.active a.active) [] → own_adopted o own ≡ lc_own on_board own.effort (after_by o).0
  engine_is None e terms rules = λ i. record own { terms = terms i; rules = rules i }
  engine_is (Some pair) e terms rules =
      let force : paired on_board (taken w).active (taken a).active ≡ Some pair = adopted_pair on_board w a pair e in
      λ i. record own {
        terms = option_map_or on_board.terms (sym force i) [];
        rules = option_map_or on_board.rules (sym force i) [];
        watch = (after_by (Some pair)).0.watch;
        points = (after_by (Some pair)).0.points;
      }

-- the whole step
abbrev step_by : LcOwn → Slot (List ℕ) → Slot (List ℕ) → LcStep (List ℕ) (List WatchResult) Tally
step_by own w a =
    let after : LcStep (List ℕ) (List WatchResult) Tally = after_by own (validation Wdt w) (validation Adt a) (pair_to_adopt on_board (validation Wdt w) (validation Adt a)) in
    (after.0, requested_by Wdt w ++ requested_by Adt a ++ after.1 ++ housekeeping_of by_counts after.0 ∷ [])

asked_so : (packet : List ℕ) (own : LcOwn) (w a : Slot (List ℕ)) → bare_request 0 (function_code packet) (payload packet) ≡ Ok tt →
    lc_housekeeping by_counts on_board packet (lc_by own w a) ≡ Ok (step_by own w a)
asked_so packet own w a request = ap (λ (r : Result (Unit {0}) Refusal). r >>= (λ _. Ok (step_by own w a))) request

-- ---- which packet it is

module _ (packet : List ℕ) (own : LcOwn) (lc : LcNow (List ℕ)) (kind : message_id packet ≡ lc_housekeeping_request_mid) where
  pub step_of_request : next_lc_packet on_board packet own lc ≡ unless_refused lc (lc_housekeeping by_counts on_board packet lc)
  step_of_request = ap (λ mid.
      if mid == lc_command_mid then unless_refused lc (lc_commanded packet lc)
      else if mid == lc_housekeeping_request_mid then unless_refused lc (lc_housekeeping by_counts on_board packet lc)
      else if mid == sample_mid then unless_refused lc (sample_taken on_board own packet lc)
      else if is_telemetry_mid mid then telemetry_seen on_board own packet lc
      else (lc, [])) kind

  pub effort_stays : effort_after packet own ≡ own.effort
  effort_stays =
      ap (λ mid. if mid == sample_mid then sample_effort own (sample_request (function_code packet) (payload packet)) else if is_telemetry_mid mid then telemetry_effort own mid else own.effort) kind

-- ---- a request that is attended to

shared_with : (before between : Services) (slots : Name → Option (Slot (List ℕ))) → between ≡ record before { tables = between.tables; bus = between.bus } → between.tables.files ≡ before.tables.files →
    slot_among between.tables.places ≡ slots → shared between ≡ record (shared before) { slots = slots }
unfolding shared
shared_with before between slots rest files is =
    (λ i. services_seen (rest i).events between.tables (rest i).counts)
    ∙ (λ i. record (services_seen before.events between.tables before.counts) { files = files_seen (files i); slots = is i })

module _ (seat : ℕ) (own : LcOwn) (before : Services) (found : TablesAreFound) (home : IsAtHome (LcState own) lc_name seat before) (sound : IsTableService before.tables) where
  two : HasTwo seat before.tables
  two = two_tables seat before.tables home.settled.tables

  abbrev w : Slot (List ℕ)
  w = two.first.slot

  abbrev a : Slot (List ℕ)
  a = two.second.slot

  wdt_is : (lc_with own (shared before)).wdt ≡ w
  wdt_is = ap (λ (o : Option (Slot (List ℕ))). unwrap_or o no_images) (ap (λ slots. slots (table_name Wdt)) (sym (slots_are before)) ∙ first_found seat before.tables two found sound)

  adt_is : (lc_with own (shared before)).adt ≡ a
  adt_is = ap (λ (o : Option (Slot (List ℕ))). unwrap_or o no_images) (ap (λ slots. slots (table_name Adt)) (sym (slots_are before)) ∙ second_found seat before.tables two found sound)

  lc_is : lc_with own (shared before) ≡ lc_by own w a
  lc_is = λ i. record { mode = own.mode; wdt = wdt_is i; adt = adt_is i; watch = own.watch; points = own.points }

  -- what a renewal rests on
  pub may_renew : MayRenew seat own before
  may_renew = record {
    tables = home.settled.tables;
    wdt = subst (IsJudged on_board Wdt) (wdt_is ∙ sym (first_slot_is seat before.tables two)) home.goes.in_step.wdt;
    adt = subst (IsJudged on_board Adt) (adt_is ∙ sym (second_slot_is seat before.tables two)) home.goes.in_step.adt;
    pipe =
        let queue : HasQueue seat before (subscriptions_of (LcState own)) = queue_there seat before (subscriptions_of (LcState own)) home.settled.pipe in
        subst (λ (place : Option Queue). IsSomeAnd place (λ (q : Queue). q.subscriptions ≡ subscriptions_of (LcState own))) (sym queue.there) queue.heard;
  }

  module _ (new : LcOwn) (renewal : Renewal) (between : Services) (changing : ChangingTables) (stays : ChangesStaySound) (renews : Renews seat own new before between renewal) where
    abbrev v : Slot (List ℕ)
    v = validation Wdt w

    abbrev b : Slot (List ℕ)
    b = validation Adt a

    abbrev pair : Option (Pair (List ℕ))
    pair = pair_to_adopt on_board v b

    pair_is : pair_at seat (both_judged seat before.tables) ≡ pair
    pair_is =
        ap (pair_at seat) (judged_are seat before.tables two)
        ∙ (λ i. pair_to_adopt on_board (first_slot seat before.tables two v b i) (second_slot seat before.tables two v b i))

    adopted_is : renewal.adopted ≡ is_some pair
    adopted_is = renews.adopted ∙ ap is_some pair_is

    abbrev after : LcNow (List ℕ)
    after = (after_by own v b pair).0

    tables_are : between.tables ≡ both seat before.tables two after.wdt after.adt
    tables_are =
        renews.tables
        ∙ by_test renewal.adopted
        ∙ (λ i. both seat before.tables two (now_is own v b renewal.adopted pair adopted_is i) (other_is own v b renewal.adopted pair adopted_is i))
      where
        by_test : (test : Bool) → tables_after test seat before.tables ≡ both seat before.tables two (if test then taken v else v) (if test then taken b else b)
        by_test true = ap (both_taken seat) (judged_are seat before.tables two) ∙ taken_are seat before.tables two v b
        by_test false = judged_are seat before.tables two

    rearranges : Rearranges seat new after before between
    rearranges = record {
      services = shared_with before between (with_at (table_name Wdt) (Some after.wdt) (with_at (table_name Adt) (Some after.adt) (shared before).slots)) renews.rest
          (ap (λ (s : TableService). s.files) tables_are)
          (ap (λ (s : TableService). slot_among s.places) tables_are ∙ slots_named seat before.tables two changing stays sound after.wdt after.adt
          ∙ ap (λ slots. with_at (table_name Wdt) (Some after.wdt) (with_at (table_name Adt) (Some after.adt) slots)) (slots_are before));
      rest = renews.rest;
      bus = renews.bus;
      others = λ other two_seats. ap (λ (s : TableService). tables_at other s.places) tables_are ∙ others_stay seat before.tables two other two_seats after.wdt after.adt;
      files = ap (λ (s : TableService). s.files) tables_are;
      forms = ap (λ (s : TableService). map form_of (tables_at seat s.places)) tables_are ∙ forms_stay seat before.tables two after.wdt after.adt;
    }

    force_is : paired on_board (lc_with own (shared before)).wdt.active (lc_with own (shared before)).adt.active ≡ paired on_board v.active b.active
    force_is =
        (λ i. paired on_board (wdt_is i).active (adt_is i).active)
        ∙ (λ i. paired on_board (sym (validated_active on_board Wdt w) i) (sym (validated_active on_board Adt a) i))

    new_is : new ≡ lc_own on_board own.effort after
    new_is =
        renews.engine ∙ ap (λ o. own_adopted o own) pair_is
        ∙ engine_is own v b pair refl (home.goes.terms ∙ ap (λ o. option_map_or on_board.terms o []) force_is) (home.goes.rules ∙ ap (λ o. option_map_or on_board.rules o []) force_is)

    requests_are : renewal_requests renewal ++ Housekeeping new.mode (map (standing by_counts) new.points) ∷ [] ≡ (step_by own w a).1
    requests_are =
        (λ i. (first i ++ (second i ++ third i)) ++ last i ∷ [])
        ∙ ap (λ told. told ++ housekeeping_of by_counts after ∷ []) (sym (append_assoc (requested_by Wdt w) (requested_by Adt a) (after_by own v b pair).1))
      where
        first : requests_of Wdt renewal.wdt ≡ requested_by Wdt w
        first = renews.wdt ∙ ap (requested_by Wdt) (first_slot_is seat before.tables two)

        second : requests_of Adt renewal.adt ≡ requested_by Adt a
        second = renews.adt ∙ ap (requested_by Adt) (second_slot_is seat before.tables two)

        third : adoption_requests renewal.adopted ≡ (after_by own v b pair).1
        third = ap adoption_requests adopted_is ∙ told_is own v b pair

        last : Housekeeping new.mode (map (standing by_counts) new.points) ≡ housekeeping_of by_counts after
        last = ap (λ (o : LcOwn). Housekeeping o.mode (map (standing by_counts) o.points)) (renews.engine ∙ ap (λ o. own_adopted o own) pair_is) ∙ stands_so own v b pair

    pub attended : (packet : List ℕ) (after_all : Services) → MayBeGiven seat lc_name packet (held_by before) → message_id packet ≡ lc_housekeeping_request_mid →
        bare_request 0 (function_code packet) (payload packet) ≡ Ok tt →
        Tells (Some seat) lc_name (renewal_requests renewal ++ Housekeeping new.mode (map (standing by_counts) new.points) ∷ []) between after_all →
        length after_all.outgoing ≤ 65536 → Answers (Some seat) own new packet before after_all
    attended packet after_all given kind request tells little =
        rearranged seat own new packet after (step_by own w a).1 before between after_all home given
        (new_is ∙ ap (λ effort. lc_own on_board effort after) (sym (effort_stays packet own (lc_by own w a) kind)))
        (ap (next_lc_packet on_board packet own) lc_is ∙ step_of_request packet own (lc_by own w a) kind ∙ ap (unless_refused (lc_by own w a)) (asked_so packet own w a request))
        rearranges (subst (λ requests. Tells (Some seat) lc_name requests between after_all) requests_are tells) little

-- ---- on the seat that it holds, if any

pub seat_of : (place : Option ℕ) (own : LcOwn) (s : Services) (seat : ℕ) → place ≡ Some seat → IsHome place own s → IsAtHome (LcState own) lc_name seat s
seat_of place own s seat is home = subst (λ p. IsHome p own s) is home

pub sends_still : (place : Option ℕ) (own new : LcOwn) (renewal : Renewal) (before between : Services) (seat : ℕ) → place ≡ Some seat → IsHome place own before → Renews seat own new before between renewal →
    MaySend place between
sends_still place own new renewal before between seat is home renews =
    let there = seat_of place own before seat is home in
    subst (λ p. MaySend p between) (sym is) (record {
      named = ap (λ (s : Services). option_map name_of (sender_at (Some seat) s.events)) renews.rest ∙ there.settled.sender;
      sends = subst (IsSender lc_name) (sym (shared_with before between (shared between).slots renews.rest (ap (λ (s : TableService). s.files) renews.tables ∙ by_test renewal.adopted) (slots_are between))) there.goes.sender;
    })
  where
    by_test : (test : Bool) → (tables_after test seat before.tables).files ≡ before.tables.files
    by_test true = refl
    by_test false = refl

pub attended_there : (place : Option ℕ) (seat : ℕ) (own new : LcOwn) (packet : List ℕ) (renewal : Renewal) (before between after : Services) → ChangingTables → ChangesStaySound → TablesAreFound →
    place ≡ Some seat → IsHome place own before → MayHave place packet before → IsTableService before.tables → message_id packet ≡ lc_housekeeping_request_mid →
    Ok tt ≡ bare_request 0 (function_code packet) (payload packet) → Renews seat own new before between renewal →
    Tells place lc_name (renewal_requests renewal ++ Housekeeping new.mode (map (standing by_counts) new.points) ∷ []) between after →
    length after.outgoing ≤ length between.outgoing + 696 → Answers place own new packet before after
attended_there place seat own new packet renewal before between after changing stays found is home given sound kind request renews tells little =
    let given_here : MayBeGiven seat lc_name packet (held_by before) = subst (λ p. MayHave p packet before) is given in
    let none : length between.outgoing ≡ 0 = ap length (ap (λ (s : Services). s.outgoing) renews.rest ∙ given_here.idle) in
    subst (λ p. Answers p own new packet before after) (sym is)
    (attended seat own before found (seat_of place own before seat is home) sound new renewal between changing stays renews packet after given_here kind (sym request)
    (subst (λ p. Tells p lc_name (renewal_requests renewal ++ Housekeeping new.mode (map (standing by_counts) new.points) ∷ []) between after) is tells)
    (omega (arith, none, little)))

pub may_renew_there : (place : Option ℕ) (seat : ℕ) (own : LcOwn) (s : Services) → TablesAreFound → place ≡ Some seat → IsHome place own s → IsTableService s.tables → MayRenew seat own s
may_renew_there place seat own s found is home sound = may_renew seat own s found (seat_of place own s seat is home) sound

-- ---- a request that is refused

pub refused_there : (place : Option ℕ) (own : LcOwn) (packet : List ℕ) (before after : Services) (numbers : Refusal) (request : Request) → TellingAnswers → TellingLeaves → TellingSettles →
    IsHome place own before → MayHave place packet before → message_id packet ≡ lc_housekeeping_request_mid →
    Err numbers ≡ bare_request 0 (function_code packet) (payload packet) → request ≡ lc_command_refused numbers →
    IfSome place (λ seat. Tells (Some seat) lc_name (request ∷ []) before after) → length after.outgoing ≤ length before.outgoing + 168 → Answers place own own packet before after
refused_there place own packet before after numbers request by_rules leaves settles home given kind refusal says told little =
    answers place own own packet (request ∷ []) before after own.mode own.watch own.points by_rules leaves settles home given
    (λ i. record own { effort = sym (effort_stays packet own (lc_with own (shared before)) kind) i })
    (step_of_request packet own (lc_with own (shared before)) kind
    ∙ ap (λ (r : Result (Unit {0}) Refusal). unless_refused (lc_with own (shared before)) (r >>= (λ _. Ok (step_by own (lc_with own (shared before)).wdt (lc_with own (shared before)).adt)))) (sym refusal)
    ∙ (λ i. (lc_with own (shared before), sym says i ∷ [])))
    told (let some = little_after place own packet before after 168 home given little in omega (arith, some))
