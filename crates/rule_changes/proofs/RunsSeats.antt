-- Rules with their points, in order of their numbers: what samples and commands do to them.
use Rattle.std.proofs.Common.{◌≡◌, ℕ, zero, suc, ◌+◌, Bool, true, false, not, ◌&&◌, List, [], ◌∷◌, ◌++◌, map, slice_get, slice_set, refl, ap, ◌∙◌, Option, Some, None, Result, Ok, Err, if◌then◌else◌}
use Rattle.lc_model.specs.declared.mode.LcMode.{LcMode}
use Rattle.lc_model.specs.declared.mode.ApMode.{ApMode}
use Rattle.lc_model.specs.declared.mode.ApMode.TheVariants as state
use Rattle.lc_model.specs.declared.command.SampleRequest.{SampleRequest}
use Rattle.lc_model.specs.declared.field.Term.{Term}
use Rattle.lc_model.specs.Refusal.{Refusal, ◌>>=◌, found, provided}
use Rattle.lc_model.specs.Rule.{Actionpoint}
use Rattle.lc_model.specs.Events.Request.{Request}
use Rattle.lc_model.specs.Command.{takes, state_numbered}
use Rattle.lc_model.specs.LimitChecker.Watch.{History}
use Rattle.lc_model.specs.LimitChecker.Past.{Past}
use Rattle.lc_model.specs.LimitChecker.Steps.{Point, by_lists, is_sampled, is_state_disabled, is_permanently_off, sampled_point, sampled_points, settable, turned_permanently_off, all_set, one_set}

-- a rule with its point
abbrev pub Seat : Type 0
Seat = Actionpoint × Point Past

abbrev pub rules_of : List Seat → List Actionpoint
rules_of seats = map (λ (seat : Seat). seat.0) seats

abbrev pub points_of : List Seat → List (Point Past)
points_of seats = map (λ (seat : Seat). seat.1) seats

-- ---- the start

abbrev pub fresh_point : Actionpoint → Point Past
fresh_point rule = record { state = rule.mode; past = [] }

abbrev pub fresh_seats : List Actionpoint → List Seat
fresh_seats rules = map (λ (rule : Actionpoint). (rule, fresh_point rule)) rules

pub fresh_rules : (rules : List Actionpoint) → rules_of (fresh_seats rules) ≡ rules
fresh_rules [] = refl
fresh_rules (rule ∷ rules) = ap (λ others. rule ∷ others) (fresh_rules rules)

pub fresh_points_of : (rules : List Actionpoint) → map (λ (rule : Actionpoint). fresh_point rule) rules ≡ points_of (fresh_seats rules)
fresh_points_of [] = refl
fresh_points_of (rule ∷ rules) = ap (λ others. fresh_point rule ∷ others) (fresh_points_of rules)

-- ---- a sample

-- the sample of one rule, if the request takes it and it is active or passive
abbrev pub seat_sampled : SampleRequest → LcMode → History → ℕ → Seat → Point Past × List Request
seat_sampled request mode h n seat =
    if takes request n && is_sampled seat.1.state then sampled_point by_lists [] mode h n seat.0 seat.1 else (seat.1, [])

abbrev pub seats_sampled : SampleRequest → LcMode → History → ℕ → List Seat → List Seat × List Request
seats_sampled request mode h n [] = ([], [])
seats_sampled request mode h n (seat ∷ seats) =
    let here : Point Past × List Request = seat_sampled request mode h n seat in
    let others : List Seat × List Request = seats_sampled request mode h (n + 1) seats in
    ((seat.0, here.0) ∷ others.0, here.1 ++ others.1)

pub as_sampled : (request : SampleRequest) (terms : List Term) (mode : LcMode) (h : History) (n : ℕ) (seats : List Seat) →
    sampled_points by_lists request terms mode h n (rules_of seats) (points_of seats)
    ≡ (points_of (seats_sampled request mode h n seats).0, (seats_sampled request mode h n seats).1)
as_sampled request terms mode h n [] = refl
as_sampled request terms mode h n (seat ∷ seats) =
    let here : Point Past × List Request = seat_sampled request mode h n seat in
    ap (λ (others : List (Point Past) × List Request). (here.0 ∷ others.0, here.1 ++ others.1)) (as_sampled request terms mode h (n + 1) seats)

pub sampled_rules : (request : SampleRequest) (mode : LcMode) (h : History) (n : ℕ) (seats : List Seat) →
    rules_of (seats_sampled request mode h n seats).0 ≡ rules_of seats
sampled_rules request mode h n [] = refl
sampled_rules request mode h n (seat ∷ seats) = ap (λ others. seat.0 ∷ others) (sampled_rules request mode h (n + 1) seats)

-- ---- commands

-- a change of states: a state for all that are not permanently off, or permanently off for the disabled ones
pub data Change : Type 0 where
  To : ApMode → Change
  Off : Change

abbrev pub changed_state : Change → ApMode → ApMode
changed_state (To new) old = if is_permanently_off old then old else new
changed_state Off old = if is_state_disabled old then state.PermOff else old

abbrev pub changed : Change → Point Past → Point Past
changed change point = record { state = changed_state change point.state; past = point.past }

abbrev pub all_changed : Change → List Seat → List Seat
all_changed change seats = map (λ (seat : Seat). (seat.0, changed change seat.1)) seats

abbrev pub one_changed : Change → ℕ → List Seat → List Seat
one_changed change index [] = []
one_changed change zero (seat ∷ seats) = (seat.0, changed change seat.1) ∷ seats
one_changed change (suc index) (seat ∷ seats) = seat ∷ one_changed change index seats

-- the points after a command; a refused one changes nothing
abbrev pub unless : List (Point Past) → Result (List (Point Past)) Refusal → List (Point Past)
unless points (Ok after) = after
unless points (Err refusal) = points

pub all_rules : (change : Change) (seats : List Seat) → rules_of (all_changed change seats) ≡ rules_of seats
all_rules change [] = refl
all_rules change (seat ∷ seats) = ap (λ others. seat.0 ∷ others) (all_rules change seats)

pub one_rules : (change : Change) (index : ℕ) (seats : List Seat) → rules_of (one_changed change index seats) ≡ rules_of seats
one_rules change index [] = refl
one_rules change zero (seat ∷ seats) = refl
one_rules change (suc index) (seat ∷ seats) = ap (λ others. seat.0 ∷ others) (one_rules change index seats)

pub as_all_set : (new : ApMode) (seats : List Seat) → all_set new (points_of seats) ≡ points_of (all_changed (To new) seats)
as_all_set new [] = refl
as_all_set new (seat ∷ seats) = ap₂-cons (by_test (is_permanently_off seat.1.state)) (as_all_set new seats)
  where
    ap₂-cons : {x y : Point Past} {xs ys : List (Point Past)} → x ≡ y → xs ≡ ys → (x ∷ xs) ≡ (y ∷ ys)
    ap₂-cons e es i = e i ∷ es i

    by_test : (test : Bool) → (if test then seat.1 else record seat.1 { state = new })
        ≡ record { state = if test then seat.1.state else new; past = seat.1.past }
    by_test true = refl
    by_test false = refl

-- one rule is set by a function of its state
module _ (change : Change) (set : ApMode → Result ApMode Refusal)
    (as_set : (point : Point Past) → unless (point ∷ []) (set point.state >>= (λ state. Ok (record point { state = state } ∷ []))) ≡ changed change point ∷ []) where
  first_set : (point : Point Past) (points : List (Point Past)) →
      unless (point ∷ points) (set point.state >>= (λ state. Ok (record point { state = state } ∷ points))) ≡ changed change point ∷ points
  first_set point points = by_answer (set point.state) (as_set point)
    where
      head : Point Past → List (Point Past) → Point Past
      head other [] = other
      head other (point ∷ points) = point

      by_answer : (r : Result ApMode Refusal) → unless (point ∷ []) (r >>= (λ state. Ok (record point { state = state } ∷ []))) ≡ changed change point ∷ [] →
          unless (point ∷ points) (r >>= (λ state. Ok (record point { state = state } ∷ points))) ≡ changed change point ∷ points
      by_answer (Ok state) e = ap (λ found. head point found ∷ points) e
      by_answer (Err refusal) e = ap (λ found. head point found ∷ points) e

  later_set : (point : Point Past) (points : List (Point Past)) (index : ℕ) (o : Option (Point Past)) →
      unless (point ∷ points) (found o 153 >>= (λ here. set here.state >>= (λ state. Ok (point ∷ slice_set points index (record here { state = state })))))
      ≡ point ∷ unless points (found o 153 >>= (λ here. set here.state >>= (λ state. Ok (slice_set points index (record here { state = state })))))
  later_set point points index None = refl
  later_set point points index (Some here) = by_answer (set here.state)
    where
      by_answer : (r : Result ApMode Refusal) →
          unless (point ∷ points) (r >>= (λ state. Ok (point ∷ slice_set points index (record here { state = state }))))
          ≡ point ∷ unless points (r >>= (λ state. Ok (slice_set points index (record here { state = state }))))
      by_answer (Ok state) = refl
      by_answer (Err refusal) = refl

  pub as_one_set : (index : ℕ) (seats : List Seat) → unless (points_of seats) (one_set index set (points_of seats)) ≡ points_of (one_changed change index seats)
  as_one_set index [] = refl
  as_one_set zero (seat ∷ seats) = first_set seat.1 (points_of seats)
  as_one_set (suc index) (seat ∷ seats) =
      later_set seat.1 (points_of seats) index (slice_get (points_of seats) index) ∙ ap (λ others. seat.1 ∷ others) (as_one_set index seats)

-- set-state of one rule, with the state of this number
pub as_settable : (number : ℕ) (new : ApMode) → state_numbered number ≡ Some new → (index : ℕ) (seats : List Seat) →
    unless (points_of seats) (one_set index (settable number) (points_of seats)) ≡ points_of (one_changed (To new) index seats)
as_settable number new is = as_one_set (To new) (settable number) (λ point. by_state point (state_numbered number) is)
  where
    by_off : (point : Point Past) (off : Bool) → off ≡ is_permanently_off point.state →
        unless (point ∷ []) (provided (not off) 155 new >>= (λ state. Ok (record point { state = state } ∷ [])))
        ≡ record { state = if off then point.state else new; past = point.past } ∷ []
    by_off point true e = refl
    by_off point false e = refl

    by_state : (point : Point Past) (o : Option ApMode) → o ≡ Some new →
        unless (point ∷ []) (found o 154 >>= (λ state. provided (not (is_permanently_off point.state)) 155 state) >>= (λ state. Ok (record point { state = state } ∷ [])))
        ≡ changed (To new) point ∷ []
    by_state point None e = cc
    by_state point (Some other) e = ap (λ (state : ApMode). unless (point ∷ []) (provided (not (is_permanently_off point.state)) 155 state >>= (λ state. Ok (record point { state = state } ∷ [])))) (cc e)
        ∙ by_off point (is_permanently_off point.state) refl

-- permanently off
pub as_turned_off : (index : ℕ) (seats : List Seat) →
    unless (points_of seats) (one_set index turned_permanently_off (points_of seats)) ≡ points_of (one_changed Off index seats)
as_turned_off = as_one_set Off turned_permanently_off (λ point. by_test point (is_state_disabled point.state))
  where
    by_test : (point : Point Past) (test : Bool) →
        unless (point ∷ []) (provided test 155 state.PermOff >>= (λ state. Ok (record point { state = state } ∷ [])))
        ≡ record { state = if test then state.PermOff else point.state; past = point.past } ∷ []
    by_test point true = refl
    by_test point false = refl

-- a state that does not exist is refused
pub as_unsettable : (number : ℕ) → state_numbered number ≡ None → (index : ℕ) (points : List (Point Past)) →
    unless points (one_set index (settable number) points) ≡ points
as_unsettable number none index points = by_point (slice_get points index)
  where
    by_point : (o : Option (Point Past)) →
        unless points (found o 153 >>= (λ here. settable number here.state >>= (λ state. Ok (slice_set points index (record here { state = state }))))) ≡ points
    by_point None = refl
    by_point (Some here) =
        ap (λ (o : Option ApMode). unless points (found o 154 >>= (λ state. provided (not (is_permanently_off here.state)) 155 state)
        >>= (λ state. Ok (slice_set points index (record here { state = state }))))) none
