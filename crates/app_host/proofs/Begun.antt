-- An object begins on a free seat.
use Rattle.std.proofs.Common.{◌≡◌, ◌≢◌, refl, ap, sym, ◌∙◌, subst, ℕ, suc, ◌+◌, ◌<◌, ◌==◌, Bool, true, false, List, [], ◌∷◌, ◌++◌, length, map, filter, arith, Option, Some, None, get_or, set, cond}
use Rattle.std.specs.Prelude.{IfSome, IsSomeAnd, option_map, slice_index_or, slice_set}
use Rattle.std.specs.List.{position_from}
use Rattle.std.specs.Option.{option_map_or}
use Rattle.std.proofs.lemmas.List.{map-set, append-nil}
use Rattle.std.proofs.lemmas.Slice.Eq.{bytes_eq-Decides}
use Rattle.lc_model.specs.declared.record.Moment.{Moment}
use Rattle.lc_model.specs.Name.{Name, is_named}
use Rattle.lc_model.specs.Kept.Summary.{AppState, LcState, SchState, CounterState, Other}
use Rattle.lc_model.specs.Kept.Call.{ServicesNow, Called, next_start}
use Rattle.lc_model.specs.Kept.Executive.{Pipe, Executive, hears, is_ready, has_some, ready_seat, all_published_to, after_call, begun_on}
use Rattle.lc_model.specs.Laws.TablesByName.{TablesAreFound}
use Rattle.lc_model.specs.Services.Bus.{seen, seen_pipe}
use Rattle.lc_model.specs.Services.Tables.{IsTableService}
use Rattle.lc_model.specs.Services.Interface.{IsApplicationName, PipesHear, seen_at, waiting_in}
use Rattle.app_host.specs.declared.services.Services.{Services}
use Rattle.app_host.specs.Shared.{on_board, held_by, shared}
use Rattle.app_host.specs.Calls.{IsObject, Leaves}
use Rattle.app_host.specs.Hosted.{Object, Hosted, object_at, member_of}
use Rattle.app_host.specs.Objects.{MayStartOn, HasStarted}
use Rattle.app_host.specs.Whole.{IsRunning, AreSeated, AreKnown, name_at}
use Rattle.app_host.specs.Roster.{name_of}
use Rattle.app_host.specs.Delivered.{executive_in, Becomes}
use Rattle.app_host.specs.Ordered.{MayBegin, ObjectHasBegun}
use Rattle.app_host.proofs.Found.{placed, nowhere}
use Rattle.app_host.proofs.Rules.{seen_of_place}
use Rattle.app_host.proofs.Frames.{fact_at_set, others_stay, seated_with}
use Rattle.app_host.proofs.Unused.{is_unused}

-- what stands at a place that was filled
pub placed_there : {A B : Type 0} (f : A → Option B) (P : B → Type 0) (xs : List A) (k seat : ℕ) (y : A) (d : Option B) → k ≡ seat → k < 8 → length xs ≡ 8 → IsSomeAnd (f y) P →
    IsSomeAnd (get_or (map f (set xs k y)) seat d) P
placed_there f P xs k seat y d same less eight at =
    let inside : k < length xs = omega (arith, less, eight) in
    rw (← same, placed f xs k y d inside) at

-- ---- no packet waits

silent_pipe : (pipe : Option Pipe) → is_ready (option_map (λ (pipe : Pipe). record pipe { waiting = pipe.waiting ++ filter (λ packet. hears packet pipe) [] }) pipe) ≡ is_ready pipe
silent_pipe None = refl
silent_pipe (Some pipe) = ap has_some (append-nil pipe.waiting)

none_ready : (pipes : List (Option Pipe)) (from : ℕ) → ((k : ℕ) → is_ready (slice_index_or pipes k None) ≡ false) → position_from is_ready from pipes ≡ None
none_ready [] from each = refl
none_ready (pipe ∷ pipes) from each = ap (λ b. cond b (Some from) (position_from is_ready (from + 1) pipes)) (each 0) ∙ none_ready pipes (from + 1) (λ k. each (suc k))

-- where a call published nothing, and nothing waits at its own seat
pub still_quiet : (seat : ℕ) (before after : Services) → PipesHear seat [] (held_by before) (held_by after) → is_ready (seen_at seat (held_by after)) ≡ false →
    ready_seat (seen before.bus) ≡ None → ready_seat (seen after.bus) ≡ None
still_quiet seat before after hear own quiet = none_ready (seen after.bus) 0 each
  where
    each : (k : ℕ) → is_ready (slice_index_or (seen after.bus) k None) ≡ false
    each k = by_test (k == seat) refl
      where
        by_test : (b : Bool) → (k == seat) ≡ b → is_ready (slice_index_or (seen after.bus) k None) ≡ false
        by_test true is =
            let same : k ≡ seat = grind (arith, is) in
            rw same own
        by_test false is =
            let another : k ≢ seat = grind (arith, is) in
            ap is_ready (hear k another) ∙ silent_pipe (slice_index_or (seen before.bus) k None) ∙ nowhere is_ready (seen before.bus) 0 k None quiet refl

-- ---- an object of this profile starts

record Starts (call : Option (Called (List ℕ))) : Type 0 where
  called : Called (List ℕ)
  is : call ≡ Some called
  known : called.state ≢ Other

starts : (moment : Moment) (state : AppState) (services : ServicesNow (List ℕ)) → state ≢ Other → Starts (next_start on_board moment state services)
starts moment (LcState own) services known = record { called = _; is = refl; known = λ e. cc }
starts moment (SchState schedule slot) services known = record { called = _; is = refl; known = λ e. cc }
starts moment (CounterState count) services known = record { called = _; is = refl; known = λ e. cc }
starts moment Other services known = absurd (known refl)

-- ---- the seat

-- it may start
pub may_start : (h : Hosted) (seat : ℕ) (o : Object) → AreSeated h.seats h.services → h.services.outgoing ≡ [] → IsObject o.state o.called → MayBegin seat h o → seat < 8 → MayStartOn seat h.services o
may_start h seat o seated idle kind may below = record {
  spare = may.spare;
  kind = kind;
  free = record { seat_exists = below; free = seated.free seat may.free; unused = is_unused h.seats h.services seated o.called kind.application may.unused; idle = idle };
}

nothing_waits : (pipe : Option Pipe) → IfSome pipe (λ (pipe : Pipe). pipe.waiting ≡ []) → is_ready pipe ≡ false
nothing_waits None none = refl
nothing_waits (Some pipe) none = ap has_some none

module _ (law : TablesAreFound) (old new : Hosted) (seat : ℕ) (o o' : Object) (seated : AreSeated old.seats old.services) (sound : IsTableService old.services.tables)
    (sound' : IsTableService new.services.tables) (below : seat < 8) (named : IsApplicationName o.called) (may : MayBegin seat old o)
    (started : HasStarted seat old.services new.services o o') (seats : new.seats ≡ slice_set old.seats seat (Some o')) (stock : new.stock ≡ old.stock) where
  running_then : IsRunning new.services seat o'
  running_then = record { holds = started.holds; named = rw started.name named; home = rw started.name started.home }

  alone : (name : Name) (other : ℕ) → other ≢ seat → Some o'.called ≡ Some name → name_at other old.seats ≢ Some name
  alone name other another mine theirs = by_place (object_at other old.seats) (may.unused other) theirs
    where
      by_place : (place : Option Object) → IfSome place (λ (there : Object). is_named o.called there.called ≡ false) → option_map (λ (x : Object). x.called) place ≡ Some name → ⊥
      by_place None unlike is = cc
      by_place (Some there) unlike is =
          let same : o.called ≡ there.called = (let both : Some o.called ≡ Some there.called = ap Some (sym started.name) ∙ mine ∙ sym is in cc) in
          let equal : is_named o.called there.called ≡ true = (bytes_eq-Decides o.called there.called).1 same in
          cc

  seated_then : AreSeated new.seats new.services
  seated_then =
      rw seats
      (seated_with law old.seats old.services new.services sound sound' seat below (others_stay seat [] old.services new.services started.rules.call.others started.rules.call.pipes) seated o' running_then alone)

  -- ---- exactness

  abbrev e : Executive (List ℕ)
  e = executive_in old

  module _ (its_own : o.state ≢ Other) where
    answer : Starts (next_start on_board old.services.moment o.state (shared old.services))
    answer = starts old.services.moment o.state (shared old.services) its_own

    leaves : Leaves seat o'.state old.services new.services answer.called
    leaves = subst (λ (call : Option (Called (List ℕ))). IfSome call (Leaves seat o'.state old.services new.services)) answer.is started.exact

    step_is : begun_on on_board old.services.moment seat (member_of o) e ≡ after_call seat o.called [] e answer.called
    step_is = ap (λ (call : Option (Called (List ℕ))). option_map_or (after_call seat o.called [] e) call (e, [])) answer.is

    none_waiting : waiting_in (seen_at seat (held_by old.services)) ≡ []
    none_waiting = ap waiting_in (seen_of_place seat old.services.bus ∙ ap (option_map seen_pipe) (seated.free seat may.free).pipe)

    pipes_are : seen new.services.bus ≡ all_published_to (slice_set (seen old.services.bus) seat (Some (record { subscriptions = answer.called.mids; waiting = [] }))) answer.called.published
    pipes_are =
        leaves.pipes
        ∙ ap (λ waiting. all_published_to (slice_set (seen old.services.bus) seat (Some (record { subscriptions = answer.called.mids; waiting = waiting }))) answer.called.published) none_waiting

    seats_are : map (option_map member_of) new.seats ≡ slice_set e.seats seat (Some (record { called = o.called; state = answer.called.state }))
    seats_are =
        ap (map (option_map member_of)) seats
        ∙ map-set (option_map member_of) old.seats seat (Some o')
        ∙ (λ i. slice_set e.seats seat (Some (record { called = started.name i; state = leaves.becomes i })))

    becomes_so : Becomes new (after_call seat o.called [] e answer.called)
    becomes_so = record {
      executive = λ i. record { stock = map member_of (stock i); seats = seats_are i; pipes = pipes_are i; services = leaves.services i };
      outgoing = leaves.outgoing;
    }

    known_then : AreKnown old → AreKnown new
    known_then known = λ other. rw seats
        (fact_at_set (λ i (x : Option Object). IfSome x (λ (y : Object). y.state ≢ Other)) old.seats seat other (Some o') None (omega (arith, below, seated.eight))
        (λ other_kind. answer.known (sym leaves.becomes ∙ other_kind)) (λ i another. known i))

    exact_then : Becomes new (begun_on on_board old.services.moment seat (member_of o) e)
    exact_then = subst (Becomes new) (sym step_is) becomes_so

  begun_so : new.is_closed ≡ old.is_closed → new.calls ≡ old.calls → ObjectHasBegun seat o old new
  begun_so closed calls = record {
    whole = record {
      is_closed = closed;
      calls = calls;
      moment = started.rules.call.others.moment;
      seated = seated_then;
      quiet = still_quiet seat old.services new.services started.rules.call.pipes (nothing_waits (seen_at seat (held_by new.services)) started.rules.pipe);
      fits = started.rules.call.outgoing;
    };
    stock = stock;
    own = record {
      host = started.rules.call.others.host;
      files = started.rules.call.others.files;
      roster = λ i. record {
        stock = stock i;
        seats = (ap (map (option_map name_of)) seats ∙ map-set (option_map name_of) old.seats seat (Some o')
            ∙ (λ j. slice_set (map (option_map name_of) old.seats) seat (Some (started.name j)))) i;
      };
    };
    known = λ known its_own. known_then its_own known;
    exact = exact_then;
    taken = record { there = o'; started = started; others = seats };
  }

-- by what became of the place
pub has_begun : TablesAreFound → (old new : Hosted) (seat : ℕ) (o : Object) (place : Option Object) → AreSeated old.seats old.services → IsTableService old.services.tables →
    IsTableService new.services.tables → seat < 8 → IsObject o.state o.called → MayBegin seat old o → IsSomeAnd place (HasStarted seat old.services new.services o) →
    new.seats ≡ slice_set old.seats seat place → new.stock ≡ old.stock → new.is_closed ≡ old.is_closed → new.calls ≡ old.calls → ObjectHasBegun seat o old new
has_begun law old new seat o None seated sound sound' below kind may started seats stock closed calls = absurd started
has_begun law old new seat o (Some o') seated sound sound' below kind may started seats stock closed calls =
    begun_so law old new seat o o' seated sound sound' below kind.application may started seats stock closed calls
