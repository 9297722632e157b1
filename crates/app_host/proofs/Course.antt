-- The deliveries of a step so far, and those that are left.
use Rattle.std.proofs.Common.{◌≡◌, refl, ap, ap₂, sym, ◌∙◌, subst, ℕ, zero, suc, ◌+◌, ◌-◌, ◌<◌, ◌≤◌, List, [], ◌∷◌, ◌++◌, length, take, arith, append_assoc, length-append, if◌then◌else◌, Option, Some, None}
use Rattle.std.specs.List.{concat}
use Rattle.std.specs.Option.{option_map_or}
use Rattle.std.specs.Io.KnownBytes.{Appends}
use Rattle.std.proofs.lemmas.List.{append-nil, take-append-le}
use Rattle.std.proofs.lemmas.List.Folds.{concat-append}
use Rattle.std.proofs.Math.Seq.{take-append-add}
use Rattle.lc_model.specs.declared.record.Moment.{Moment}
use Rattle.lc_model.specs.Kept.Executive.{Executive, Written, ready_seat, followed, delivered_at, drained}
use Rattle.lc_model.specs.Kept.Stations.{Station, size_at, stop_at, delivery_stations, last_calls}
use Rattle.lc_model.specs.Services.Bus.{seen}
use Rattle.lc_model.proofs.Facts.{test_less, test_not_less}
use Rattle.app_host.specs.Shared.{on_board}
use Rattle.app_host.specs.Hosted.{Hosted}
use Rattle.app_host.specs.Party.{IsDetermined}
use Rattle.app_host.specs.Load.{load}
use Rattle.app_host.specs.Delivered.{executive_in, Becomes}
use Rattle.app_host.specs.Writing.{IsDone, IsCut}

-- ---- bytes that are taken one after the other

pub nothing_taken : (known : Option (List ℕ)) → Appends known known []
nothing_taken None = tt
nothing_taken (Some bytes) = sym (append-nil bytes)

pub taken_both : (a b c : Option (List ℕ)) (xs ys : List ℕ) → Appends a b xs → Appends b c ys → Appends a c (xs ++ ys)
taken_both None b c xs ys first second = tt
taken_both (Some xs₀) None c xs ys first second = absurd first
taken_both (Some xs₀) (Some ys₀) None xs ys first second = absurd second
taken_both (Some xs₀) (Some ys₀) (Some zs₀) xs ys first second = second ∙ ap (λ bytes. bytes ++ ys) first ∙ append_assoc xs₀ xs ys

-- the first bytes of both, where all of the first ones were taken
pub cut_behind : (sent taken total : ℕ) (xs ys : List ℕ) → total ≡ sent + taken → sent ≡ length xs → take total (xs ++ ys) ≡ xs ++ take taken ys
cut_behind sent taken total xs ys is count = ap (λ n. take n (xs ++ ys)) (is ∙ ap (λ n. n + taken) count) ∙ take-append-add xs ys taken

-- ---- calls

abbrev Stations : Type 0
Stations = List (Station (List ℕ))

-- the calls behind these writes, where so many were made before
unfoldable pub calls_after : ℕ → Stations → ℕ
calls_after before [] = before
calls_after before (station ∷ stations) = calls_after station.calls stations

counted : (n : ℕ) (station : Station (List ℕ)) (stations : Stations) → calls_after n (station ∷ stations) ≡ calls_after station.calls stations
unfolding calls_after
counted n station stations = refl

no_calls : (n : ℕ) → calls_after n [] ≡ n
unfolding calls_after
no_calls n = refl

pub last_are : (moment : Moment) (stations : Stations) → last_calls on_board moment stations ≡ calls_after 0 stations
unfolding last_calls calls_after
last_are moment [] = refl
last_are moment (station ∷ []) = refl
last_are moment (station ∷ other ∷ stations) = last_are moment (other ∷ stations)

-- ---- one step of the definitions

abbrev Step : Type 0
Step = Written (List ℕ)

abbrev Now : Type 0
Now = Executive (List ℕ)

module _ (moment : Moment) (k left : ℕ) (e : Now) (ready : ready_seat e.pipes ≡ Some k) where
  abbrev one : Step
  one = delivered_at on_board moment k e

  drained_one : drained on_board moment (suc left) e ≡ ((drained on_board moment left one.0).0, one.1 ++ (drained on_board moment left one.0).1)
  unfolding drained
  drained_one = ap (λ o. option_map_or (λ j. followed (delivered_at on_board moment j e) (λ after. drained on_board moment left after)) o (e, [])) ready

  stations_one : (calls : ℕ) → delivery_stations on_board moment calls (suc left) e
      ≡ record { executive = one.0; calls = calls + 1; packets = one.1 } ∷ delivery_stations on_board moment (calls + 1) left one.0
  unfolding delivery_stations
  stations_one calls =
      ap (λ o. option_map_or (λ j. let step : Step = delivered_at on_board moment j e in
      record { executive = step.0; calls = calls + 1; packets = step.1 } ∷ delivery_stations on_board moment (calls + 1) left step.0) o []) ready

drained_none : (moment : Moment) (left : ℕ) (e : Now) → ready_seat e.pipes ≡ None → drained on_board moment left e ≡ (e, [])
unfolding drained
drained_none moment zero e none = refl
drained_none moment (suc left) e none = ap (λ o. option_map_or (λ j. followed (delivered_at on_board moment j e) (λ after. drained on_board moment left after)) o (e, [])) none

stations_none : (moment : Moment) (calls left : ℕ) (e : Now) → ready_seat e.pipes ≡ None → delivery_stations on_board moment calls left e ≡ []
unfolding delivery_stations
stations_none moment calls zero e none = refl
stations_none moment calls (suc left) e none =
    ap (λ o. option_map_or (λ j. let step : Step = delivered_at on_board moment j e in
    record { executive = step.0; calls = calls + 1; packets = step.1 } ∷ delivery_stations on_board moment (calls + 1) left step.0) o []) none

-- a write that is taken whole, and one that is not
pub passes : (room : ℕ) (station : Station (List ℕ)) (stations : Stations) → stop_at (size_at station + room) (station ∷ stations) ≡ stop_at room stations
unfolding stop_at
passes room station stations =
    ap (λ b. if b then Some station else stop_at (size_at station + room - size_at station) stations) (test_not_less (size_at station + room) (size_at station) (omega arith))
    ∙ ap (λ n. stop_at n stations) (let same : size_at station + room - size_at station ≡ room = omega arith in same)

pub stops_here : (room : ℕ) (station : Station (List ℕ)) (stations : Stations) → room < size_at station → stop_at room (station ∷ stations) ≡ Some station
unfolding stop_at
stops_here room station stations less = ap (λ b. if b then Some station else stop_at (room - size_at station) stations) (test_less room (size_at station) less)

pub none_stops : (room : ℕ) → ◌≡◌ {A = Option (Station (List ℕ))} (stop_at room []) None
unfolding stop_at
none_stops room = refl

-- ---- so far

pub record SoFar (moment : Moment) (first : Now) (now : Hosted) (sent : ℕ) (before after : Option (List ℕ)) : Type 0 where
  pub left : ℕ
  pub done : List ℕ
  pub enough : load (seen now.services.bus) ≤ left
  pub determined : IsDetermined now
  pub count : sent ≡ length done
  pub gains : Appends before after done
  pub writes : concat (drained on_board moment 520 first).1 ≡ done ++ concat (drained on_board moment left (executive_in now)).1
  pub ends : (drained on_board moment 520 first).0 ≡ (drained on_board moment left (executive_in now)).0
  pub stops : (room : ℕ) → stop_at (length done + room) (delivery_stations on_board moment 0 520 first) ≡ stop_at room (delivery_stations on_board moment now.calls left (executive_in now))
  pub calls : calls_after 0 (delivery_stations on_board moment 0 520 first) ≡ calls_after now.calls (delivery_stations on_board moment now.calls left (executive_in now))

pub so_far_first : (moment : Moment) (h : Hosted) (known : Option (List ℕ)) → IsDetermined h → load (seen h.services.bus) ≤ 520 → h.calls ≡ 0 → SoFar moment (executive_in h) h 0 known known
so_far_first moment h bytes determined light none = record {
  left = 520;
  done = [];
  enough = light;
  determined = determined;
  count = refl;
  gains = nothing_taken bytes;
  writes = refl;
  ends = refl;
  stops = λ room.
      ap (λ n. stop_at n (delivery_stations on_board moment 0 520 (executive_in h))) (let none : length {A = ℕ} [] + room ≡ room = omega arith in none)
      ∙ ap (λ n. stop_at room (delivery_stations on_board moment n 520 (executive_in h))) (sym none);
  calls = ap (λ n. calls_after n (delivery_stations on_board moment n 520 (executive_in h))) (sym none);
}

module _ (moment : Moment) (first : Now) (now given : Hosted) (sent : ℕ) (before mid : Option (List ℕ)) (far : SoFar moment first now sent before mid) (k : ℕ)
    (ready : ready_seat (seen now.services.bus) ≡ Some k) (becomes : Becomes given (delivered_at on_board moment k (executive_in now)))
    (falls : load (seen given.services.bus) < load (seen now.services.bus)) where
  abbrev here : Now
  here = executive_in now

  abbrev step : Step
  step = delivered_at on_board moment k here

  abbrev station : Station (List ℕ)
  station = record { executive = step.0; calls = now.calls + 1; packets = step.1 }

  -- the write behind it stands next
  next_station : (left : ℕ) → far.left ≡ suc left → delivery_stations on_board moment now.calls far.left here ≡ station ∷ delivery_stations on_board moment (now.calls + 1) left step.0
  next_station left is = ap (λ n. delivery_stations on_board moment now.calls n here) is ∙ stations_one moment k left here ready now.calls

  next_drained : (left : ℕ) → far.left ≡ suc left → drained on_board moment far.left here ≡ ((drained on_board moment left step.0).0, step.1 ++ (drained on_board moment left step.0).1)
  next_drained left is = ap (λ n. drained on_board moment n here) is ∙ drained_one moment k left here ready

  size_is : length given.services.outgoing ≡ size_at station
  size_is = ap length becomes.outgoing

  module _ (later : Hosted) (after : Option (List ℕ)) (determined : IsDetermined later) (same : executive_in later ≡ executive_in given) (calls : later.calls ≡ now.calls + 1)
      (still : load (seen later.services.bus) ≡ load (seen given.services.bus)) where
    -- all of it was written
    more_with : (left : ℕ) → far.left ≡ suc left → Appends mid after given.services.outgoing → SoFar moment first later (sent + length given.services.outgoing) before after
    more_with left is gains = record {
      left = left;
      done = far.done ++ given.services.outgoing;
      enough = omega (arith, far.enough, is, falls, still);
      determined = determined;
      count = omega (arith, length-append far.done given.services.outgoing, far.count);
      gains = taken_both before mid after far.done given.services.outgoing far.gains gains;
      writes =
          far.writes
          ∙ ap (λ (w : Step). far.done ++ concat w.1) (next_drained left is)
          ∙ ap (λ bytes. far.done ++ bytes) (concat-append step.1 (drained on_board moment left step.0).1)
          ∙ sym (append_assoc far.done (concat step.1) (concat (drained on_board moment left step.0).1))
          ∙ ap₂ (λ (bytes : List ℕ) (x : Now). (far.done ++ bytes) ++ concat (drained on_board moment left x).1) (sym becomes.outgoing) there;
      ends = far.ends ∙ ap (λ (w : Step). w.0) (next_drained left is) ∙ ap (λ (x : Now). (drained on_board moment left x).0) there;
      stops = λ room.
          ap (λ n. stop_at n (delivery_stations on_board moment 0 520 first)) (added room)
          ∙ far.stops (size_at station + room)
          ∙ ap (stop_at (size_at station + room)) (next_station left is)
          ∙ passes room station (delivery_stations on_board moment (now.calls + 1) left step.0)
          ∙ ap₂ (λ n (x : Now). stop_at room (delivery_stations on_board moment n left x)) (sym calls) there;
      calls =
          far.calls
          ∙ ap (calls_after now.calls) (next_station left is)
          ∙ counted now.calls station (delivery_stations on_board moment (now.calls + 1) left step.0)
          ∙ ap₂ (λ n (x : Now). calls_after n (delivery_stations on_board moment n left x)) (sym calls) there;
    }
      where
        there : step.0 ≡ executive_in later
        there = sym (same ∙ becomes.executive)

        added : (room : ℕ) → length (far.done ++ given.services.outgoing) + room ≡ length far.done + (size_at station + room)
        added room = omega (arith, length-append far.done given.services.outgoing, size_is)

    pub so_far_more : Appends mid after given.services.outgoing → SoFar moment first later (sent + length given.services.outgoing) before after
    so_far_more gains = by_left far.left refl
      where
        by_left : (n : ℕ) → far.left ≡ n → SoFar moment first later (sent + length given.services.outgoing) before after
        by_left zero is = absurd (omega (arith, far.enough, is, falls))
        by_left (suc left) is = more_with left is gains

    -- the first bytes only
    pub cut_here : (taken : ℕ) → taken < length given.services.outgoing → Appends mid after (take taken given.services.outgoing) →
        IsCut (delivery_stations on_board moment 0 520 first) (drained on_board moment 520 first) (sent + taken) later before after
    cut_here taken fewer gains = by_left far.left refl
      where
        so : (left : ℕ) → far.left ≡ suc left → IsCut (delivery_stations on_board moment 0 520 first) (drained on_board moment 520 first) (sent + taken) later before after
        so left is = record {
          station = station;
          stops =
              ap (λ n. stop_at (n + taken) (delivery_stations on_board moment 0 520 first)) far.count
              ∙ far.stops taken
              ∙ ap (stop_at taken) (next_station left is)
              ∙ stops_here taken station (delivery_stations on_board moment (now.calls + 1) left step.0) (omega (arith, fewer, size_is));
          executive = same ∙ becomes.executive;
          calls = calls;
          gains = subst (Appends before after) (sym cut_bytes) (taken_both before mid after far.done (take taken given.services.outgoing) far.gains gains);
        }
          where
            all_bytes : concat (drained on_board moment 520 first).1 ≡ far.done ++ (given.services.outgoing ++ concat (drained on_board moment left step.0).1)
            all_bytes =
                far.writes
                ∙ ap (λ (w : Step). far.done ++ concat w.1) (next_drained left is)
                ∙ ap (λ bytes. far.done ++ bytes) (concat-append step.1 (drained on_board moment left step.0).1)
                ∙ ap (λ bytes. far.done ++ (bytes ++ concat (drained on_board moment left step.0).1)) (sym becomes.outgoing)

            cut_bytes : take (sent + taken) (concat (drained on_board moment 520 first).1) ≡ far.done ++ take taken given.services.outgoing
            cut_bytes =
                ap₂ (λ n bytes. take (n + taken) bytes) far.count all_bytes
                ∙ take-append-add far.done (given.services.outgoing ++ concat (drained on_board moment left step.0).1) taken
                ∙ ap (λ bytes. far.done ++ bytes) (take-append-le taken given.services.outgoing (concat (drained on_board moment left step.0).1) (omega (arith, fewer)))

        by_left : (n : ℕ) → far.left ≡ n → IsCut (delivery_stations on_board moment 0 520 first) (drained on_board moment 520 first) (sent + taken) later before after
        by_left zero is = absurd (omega (arith, far.enough, is, falls))
        by_left (suc left) is = so left is

-- nothing is left
all_bytes : (moment : Moment) (first : Now) (now : Hosted) (sent : ℕ) (before after : Option (List ℕ)) (far : SoFar moment first now sent before after) → ready_seat (seen now.services.bus) ≡ None →
    concat (drained on_board moment 520 first).1 ≡ far.done
all_bytes moment first now sent before after far none =
    far.writes ∙ ap (λ (w : Step). far.done ++ concat w.1) (drained_none moment far.left (executive_in now) none) ∙ append-nil far.done

pub all_counted : (moment : Moment) (first : Now) (now : Hosted) (sent : ℕ) (before after : Option (List ℕ)) → SoFar moment first now sent before after → ready_seat (seen now.services.bus) ≡ None →
    sent ≡ length (concat (drained on_board moment 520 first).1)
all_counted moment first now sent before after far none = far.count ∙ ap length (sym (all_bytes moment first now sent before after far none))

pub all_done : (moment : Moment) (first : Now) (now : Hosted) (sent : ℕ) (before after : Option (List ℕ)) → SoFar moment first now sent before after → ready_seat (seen now.services.bus) ≡ None →
    IsDone (delivery_stations on_board moment 0 520 first) (drained on_board moment 520 first) (last_calls on_board moment (delivery_stations on_board moment 0 520 first)) now before after
all_done moment first now sent before after far none = record {
  executive = sym (far.ends ∙ ap (λ (w : Step). w.0) nothing_more);
  calls = sym (last_are moment (delivery_stations on_board moment 0 520 first) ∙ far.calls ∙ ap (calls_after now.calls) no_stations ∙ no_calls now.calls);
  gains = subst (Appends before after) (sym bytes_are) far.gains;
  fits = λ room enough.
      ap (λ n. stop_at n (delivery_stations on_board moment 0 520 first)) (let rest : room ≡ length far.done + (room - length far.done) = omega (arith, enough, ap length bytes_are) in rest)
      ∙ far.stops (room - length far.done)
      ∙ ap (stop_at (room - length far.done)) no_stations
      ∙ none_stops (room - length far.done);
}
  where
    nothing_more : drained on_board moment far.left (executive_in now) ≡ (executive_in now, [])
    nothing_more = drained_none moment far.left (executive_in now) none

    no_stations : delivery_stations on_board moment now.calls far.left (executive_in now) ≡ []
    no_stations = stations_none moment now.calls far.left (executive_in now) none

    bytes_are : concat (drained on_board moment 520 first).1 ≡ far.done
    bytes_are = all_bytes moment first now sent before after far none
