-- Rules that request no sooner stay so over samples and commands, and request no more often.
use Rattle.std.proofs.Common.{◌≡◌, ℕ, ◌+◌, ◌≤◌, Bool, true, false, ◌&&◌, List, [], ◌∷◌, ◌++◌, length, cond, refl, ap, sym, ◌∙◌, subst, arith, if◌then◌else◌, inl, inr, IsTrue, true≢false}
use Rattle.std.specs.Prelude.{◌⊎◌, ⊤, ◌≢◌}
use Rattle.std.specs.List.{filter}
use Rattle.std.proofs.lemmas.List.Elements.{filter-append}
use Rattle.std.proofs.lemmas.List.{length-append}
use Rattle.lc_model.specs.declared.mode.LcMode.{LcMode}
use Rattle.lc_model.specs.declared.mode.LcMode.TheVariants as mode
use Rattle.lc_model.specs.declared.mode.ApMode.{ApMode}
use Rattle.lc_model.specs.declared.mode.ApMode.TheVariants as state
use Rattle.lc_model.specs.declared.command.SampleRequest.{SampleRequest}
use Rattle.lc_model.specs.Rule.{Actionpoint}
use Rattle.lc_model.specs.Events.Request.{Request, Event, Sequence, Housekeeping}
use Rattle.lc_model.specs.Command.{takes}
use Rattle.lc_model.specs.LimitChecker.Watch.{History}
use Rattle.lc_model.specs.LimitChecker.Past.{Past}
use Rattle.lc_model.specs.LimitChecker.Steps.{Point, by_lists, sampled_point, is_disabled, is_sampled}
use Rattle.lc_model.specs.Laws.Lagging.{Lags, debt, IsBehind, sequences, StaysBehind}
use Rattle.lc_model.proofs.LimitChecker.LaggingLaws.{rules_stay_behind}
use Rattle.lc_model.proofs.Host.SameCore.{numbers_in}
use Rattle.rule_changes.specs.Runs.{RequestsNoSooner, RequestsNone, AreNoSoonerFor}
use Rattle.rule_changes.proofs.RunsSeats.{Seat, fresh_point, fresh_seats, seat_sampled, Change, To, Off, changed_state, changed}
use Rattle.rule_changes.proofs.RunsComparison.{Comparison, Seats}
use Rattle.rule_changes.proofs.RunsRules.{fired, is_taken, enough_with, sampled_asks, IsSilent, silent_sampled, silent_changed, silent_fresh}

-- ---- what a rule requests of a set

counted : (requests : List Request) → sequences requests ≡ length (numbers_in requests)
counted [] = refl
counted (Event sender id kind text ∷ requests) = counted requests
counted (Sequence number ∷ requests) = omega (arith, counted requests)
counted (Housekeeping m points ∷ requests) = counted requests

-- a number, if the set has the sequence
abbrev pub if_wanted : Bool → ℕ → ℕ
if_wanted test n = if test then n else 0

none_of : (test : Bool) → 0 ≡ if_wanted test 0
none_of true = refl
none_of false = refl

one_of : (test : Bool) (sequence : ℕ) → length (cond test (sequence ∷ []) []) ≡ if_wanted test 1
one_of true sequence = refl
one_of false sequence = refl

module _ (wanted : ℕ → Bool) where
  abbrev pub times : List ℕ → ℕ
  times numbers = length (filter wanted numbers)

  times-append : (xs ys : List ℕ) → times (xs ++ ys) ≡ times xs + times ys
  times-append xs ys = ap length (filter-append wanted xs ys) ∙ length-append (filter wanted xs) (filter wanted ys)

  fired_of : (enough : Bool) (s : ApMode) (m : LcMode) (sequence : ℕ) → times (fired enough s m sequence) ≡ if_wanted (wanted sequence) (length (fired enough s m sequence))
  fired_of true state.Active mode.Active sequence = one_of (wanted sequence) sequence
  fired_of true state.Active mode.Passive sequence = none_of (wanted sequence)
  fired_of true state.Active mode.Disabled sequence = none_of (wanted sequence)
  fired_of true state.Passive m sequence = none_of (wanted sequence)
  fired_of true state.Disabled m sequence = none_of (wanted sequence)
  fired_of true state.PermOff m sequence = none_of (wanted sequence)
  fired_of false s m sequence = none_of (wanted sequence)

  requests_of_rule : (m : LcMode) (h : History) (n : ℕ) (seat : Seat) →
      times (numbers_in (sampled_point by_lists [] m h n seat.0 seat.1).1) ≡ if_wanted (wanted seat.0.sequence) (sequences (sampled_point by_lists [] m h n seat.0 seat.1).1)
  requests_of_rule m h n seat =
      let asks = sampled_asks request m h n seat in
      ap times asks ∙ fired_of (enough_with h seat) seat.1.state m seat.0.sequence
      ∙ ap (λ ns. if_wanted (wanted seat.0.sequence) (length ns)) (sym asks)
      ∙ ap (if_wanted (wanted seat.0.sequence)) (sym (counted (sampled_point by_lists [] m h n seat.0 seat.1).1))
    where
      request : SampleRequest
      request = record { first = 0; last = 0; ages = false }

-- ---- states

lags_sampled : (s s' : ApMode) → Lags s s' → is_sampled s' ≡ is_sampled s
lags_sampled state.Active state.Active h = refl
lags_sampled state.Active state.Passive h = refl
lags_sampled state.Passive state.Passive h = refl
lags_sampled state.Disabled state.Disabled h = refl
lags_sampled state.PermOff state.PermOff h = refl
lags_sampled state.Active state.Disabled h = absurd h
lags_sampled state.Active state.PermOff h = absurd h
lags_sampled state.Passive state.Active h = absurd h
lags_sampled state.Passive state.Disabled h = absurd h
lags_sampled state.Passive state.PermOff h = absurd h
lags_sampled state.Disabled state.Active h = absurd h
lags_sampled state.Disabled state.Passive h = absurd h
lags_sampled state.Disabled state.PermOff h = absurd h
lags_sampled state.PermOff state.Active h = absurd h
lags_sampled state.PermOff state.Passive h = absurd h
lags_sampled state.PermOff state.Disabled h = absurd h

-- the new state lags no more than before
abbrev LagsLess : ApMode → ApMode → ApMode → ApMode → Type 0
LagsLess s s' t t' = Lags t t' × (debt t t' ≤ debt s s')

equal_states : (s s' t : ApMode) → LagsLess s s' t t
equal_states s s' state.Active = (tt, omega arith)
equal_states s s' state.Passive = (tt, omega arith)
equal_states s s' state.Disabled = (tt, omega arith)
equal_states s s' state.PermOff = (tt, omega arith)

lags_changed : (change : Change) (s s' : ApMode) → Lags s s' → LagsLess s s' (changed_state change s) (changed_state change s')
lags_changed (To t) state.Active state.Active h = equal_states state.Active state.Active t
lags_changed (To t) state.Active state.Passive h = equal_states state.Active state.Passive t
lags_changed (To t) state.Passive state.Passive h = equal_states state.Passive state.Passive t
lags_changed (To t) state.Disabled state.Disabled h = equal_states state.Disabled state.Disabled t
lags_changed (To t) state.PermOff state.PermOff h = (tt, omega arith)
lags_changed Off state.Active state.Active h = (tt, omega arith)
lags_changed Off state.Active state.Passive h = (tt, omega arith)
lags_changed Off state.Passive state.Passive h = (tt, omega arith)
lags_changed Off state.Disabled state.Disabled h = (tt, omega arith)
lags_changed Off state.PermOff state.PermOff h = (tt, omega arith)
lags_changed change state.Active state.Disabled h = absurd h
lags_changed change state.Active state.PermOff h = absurd h
lags_changed change state.Passive state.Active h = absurd h
lags_changed change state.Passive state.Disabled h = absurd h
lags_changed change state.Passive state.PermOff h = absurd h
lags_changed change state.Disabled state.Active h = absurd h
lags_changed change state.Disabled state.Passive h = absurd h
lags_changed change state.Disabled state.PermOff h = absurd h
lags_changed change state.PermOff state.Active h = absurd h
lags_changed change state.PermOff state.Passive h = absurd h
lags_changed change state.PermOff state.Disabled h = absurd h

-- ---- two rules

module _ (wanted : ℕ → Bool) where
  -- the new rule requests no sooner, and has come no further
  pub record SeatBehind (d : ℕ) (x y : Seat) : Type 0 where
    pub rules : RequestsNoSooner x.0 y.0
    pub behind : IsBehind y.1 x.1
    pub owed : d ≡ if_wanted (wanted y.0.sequence) (debt y.1.state x.1.state)

  abbrev pub Two : ℕ → Seat → Seat → Type 0
  Two d x y = SeatBehind d x y ⊎ ((d ≡ 0) × IsSilent wanted y)

  -- what the new run requests of the set and may still request is no more than what the old one requests and what was owed
  abbrev pub NoMore : ℕ → ℕ → List ℕ → List ℕ → Type 0
  NoMore d e xs ys = times wanted ys + e ≤ times wanted xs + d

  -- a step of both, by whether the request takes them
  abbrev SampledBy : History → ℕ → ℕ → Seat → Seat → Bool → Bool → Type 0
  SampledBy h n d x y test test' =
      let old : Point Past × List Request = if test then sampled_point by_lists [] mode.Active h n x.0 x.1 else (x.1, []) in
      let new : Point Past × List Request = if test' then sampled_point by_lists [] mode.Active h n y.0 y.1 else (y.1, []) in
      (e : ℕ) × Two e (x.0, old.0) (y.0, new.0) × NoMore d e (numbers_in old.1) (numbers_in new.1)

  weighed : (test : Bool) (s e s' d : ℕ) → s + e ≤ s' + d → if_wanted test s + if_wanted test e ≤ if_wanted test s' + if_wanted test d
  weighed true s e s' d h = h
  weighed false s e s' d h = omega arith

  and_right : (a b : Bool) → (a && b) ≡ true → IsTrue b
  and_right true b e = e
  and_right false b e = absurd (true≢false (sym e))

  behind_sampled : (request : SampleRequest) (h : History) (n d : ℕ) (x y : Seat) → SeatBehind d x y → SampledBy h n d x y (is_taken request n x) (is_taken request n y)
  behind_sampled request h n d x y own =
      subst (λ test. SampledBy h n d x y test (is_taken request n y)) (sym (ap (λ b. takes request n && b) (lags_sampled y.1.state x.1.state own.behind.state)))
      (by_test (is_taken request n y) refl)
    where
      new : Point Past × List Request
      new = sampled_point by_lists [] mode.Active h n y.0 y.1

      old : Point Past × List Request
      old = sampled_point by_lists [] mode.Active h n x.0 x.1

      e : ℕ
      e = if_wanted (wanted y.0.sequence) (debt new.0.state old.0.state)

      goes : StaysBehind [] [] h n n y.0 x.0 y.1 x.1 → SampledBy h n d x y true true
      goes stays =
          let less = weighed (wanted y.0.sequence) (sequences new.1) (debt new.0.state old.0.state) (sequences old.1) (debt y.1.state x.1.state) stays.requests in
          let ours = requests_of_rule wanted mode.Active h n y in
          let theirs = requests_of_rule wanted mode.Active h n x in
          let one = ap (λ k. if_wanted (wanted k) (sequences old.1)) own.rules.sequence in
          (e, inl (record { rules = own.rules; behind = stays.behind; owed = refl }), omega (arith, less, ours, theirs, one, own.owed))

      by_test : (test : Bool) → is_taken request n y ≡ test → SampledBy h n d x y test test
      by_test false not = (d, inl own, omega arith)
      by_test true taken = goes (rules_stay_behind [] [] h n n y.0 x.0 y.1 x.1 own.rules.later own.behind (and_right (takes request n) (is_sampled y.1.state) taken))

  pub two_sampled : (request : SampleRequest) (m : LcMode) (h : History) (n d : ℕ) (x y : Seat) → m ≢ mode.Passive → is_disabled m ≡ false → Two d x y →
      (e : ℕ) × Two e (x.0, (seat_sampled request m h n x).0) (y.0, (seat_sampled request m h n y).0)
      × NoMore d e (numbers_in (seat_sampled request m h n x).1) (numbers_in (seat_sampled request m h n y).1)
  two_sampled request mode.Active h n d x y allowed enabled (inl own) = behind_sampled request h n d x y own
  two_sampled request mode.Passive h n d x y allowed enabled (inl own) = absurd (allowed refl)
  two_sampled request mode.Disabled h n d x y allowed enabled (inl own) = absurd (true≢false enabled)
  two_sampled request m h n d x y allowed enabled (inr silent) =
      let one = silent_sampled wanted request m h n y silent.1 in
      let asks = ap length one.1 in
      (0, inr (refl, one.0), omega (arith, asks))

  pub two_changed : (change : Change) (d : ℕ) (x y : Seat) → Two d x y → (e : ℕ) × (e ≤ d) × Two e (x.0, changed change x.1) (y.0, changed change y.1)
  two_changed change d x y (inl own) =
      let less = lags_changed change y.1.state x.1.state own.behind.state in
      let now : ℕ = debt (changed_state change y.1.state) (changed_state change x.1.state) in
      let fewer = weighed (wanted y.0.sequence) 0 now 0 (debt y.1.state x.1.state) (omega (arith, less.1)) in
      let nothing = none_of (wanted y.0.sequence) in (
        if_wanted (wanted y.0.sequence) now,
        omega (arith, fewer, own.owed, nothing),
        inl (record { rules = own.rules; behind = record { state = less.0; run = own.behind.run }; owed = refl }),
      )
  two_changed change d x y (inr silent) = (0, omega arith, inr (refl, silent_changed wanted change y silent.1))

  pub beside : (d e d' e' : ℕ) (xs ys xs' ys' : List ℕ) → NoMore d e xs ys → NoMore d' e' xs' ys' → NoMore (d + d') (e + e') (xs ++ xs') (ys ++ ys')
  beside d e d' e' xs ys xs' ys' one other = omega (arith, one, other, times-append wanted xs xs', times-append wanted ys ys')

  pub after : (d e f : ℕ) (xs ys xs' ys' : List ℕ) → NoMore d e xs ys → NoMore e f xs' ys' → NoMore d f (xs ++ xs') (ys ++ ys')
  after d e f xs ys xs' ys' one other = omega (arith, one, other, times-append wanted xs xs', times-append wanted ys ys')

  pub active_first : mode.Active ≢ mode.Passive
  active_first e = cc e

  -- no more requests of the set, while the Limit Checker is not passive
  abbrev pub no_sooner_for : Comparison
  no_sooner_for = record {
    Allows = λ m. m ≢ mode.Passive;
    active = active_first;
    Pays = NoMore;
    nothing = λ d e less. omega (arith, less);
    beside = beside;
    after = after;
    Two = Two;
    OldOnly = λ x. ⊤;
    NewOnly = IsSilent wanted;
    two_sampled = two_sampled;
    old_only_sampled = λ request m h n x gone. (tt, omega arith);
    new_only_sampled = λ request m h n y silent. let one = silent_sampled wanted request m h n y silent in let asks = ap length one.1 in (one.0, omega (arith, asks));
    two_changed = two_changed;
    old_only_changed = λ change x gone. tt;
    new_only_changed = silent_changed wanted;
  }

  -- ---- the start

  same_debt : (s : ApMode) → debt s s ≡ 0
  same_debt state.Active = refl
  same_debt state.Passive = refl
  same_debt state.Disabled = refl
  same_debt state.PermOff = refl

  same_lags : (s : ApMode) → Lags s s
  same_lags state.Active = tt
  same_lags state.Passive = tt
  same_lags state.Disabled = tt
  same_lags state.PermOff = tt

  two_fresh : (old new : Actionpoint) → RequestsNoSooner old new ⊎ RequestsNone wanted new → Two 0 (old, fresh_point old) (new, fresh_point new)
  two_fresh old new (inl later) = inl (record {
    rules = later;
    behind = record { state = subst (λ s. Lags new.mode s) (sym later.mode) (same_lags new.mode); run = omega arith };
    owed = none_of (wanted new.sequence) ∙ ap (if_wanted (wanted new.sequence)) (sym (ap (debt new.mode) later.mode ∙ same_debt new.mode));
  })
  two_fresh old new (inr none) = inr (refl, silent_fresh wanted new none)

  pub fresh_no_sooner : (olds news : List Actionpoint) → AreNoSoonerFor wanted olds news → Seats no_sooner_for 0 (fresh_seats olds) (fresh_seats news)
  fresh_no_sooner [] [] h = refl
  fresh_no_sooner (old ∷ olds) [] h = (tt, fresh_no_sooner olds [] tt)
  fresh_no_sooner [] (new ∷ news) h = (silent_fresh wanted new h.0, fresh_no_sooner [] news h.1)
  fresh_no_sooner (old ∷ olds) (new ∷ news) h = (0, 0, refl, two_fresh old new h.0, fresh_no_sooner olds news h.1)

  pub no_sooner_itself : (rules : List Actionpoint) → AreNoSoonerFor wanted rules rules
  no_sooner_itself [] = tt
  no_sooner_itself (rule ∷ rules) =
      (inl (record { later = record { fails = omega arith; only = λ h e. e }; mode = refl; sequence = refl }), no_sooner_itself rules)
