-- Rules that request alike, and rules that request nothing of a set, stay so over samples and commands.
use Rattle.std.proofs.Common.{◌≡◌, ℕ, ◌≤◌, Bool, ◌&&◌, List, [], ◌∷◌, ◌++◌, nat_le, refl, ap, ap₂, sym, ◌∙◌, arith, if◌then◌else◌, inl, inr}
use Rattle.std.specs.Prelude.{◌⊎◌, ⊤}
use Rattle.std.specs.List.{filter}
use Rattle.std.proofs.lemmas.List.Elements.{filter-append}
use Rattle.lc_model.specs.declared.mode.LcMode.{LcMode}
use Rattle.lc_model.specs.declared.command.SampleRequest.{SampleRequest}
use Rattle.lc_model.specs.Rule.{Actionpoint}
use Rattle.lc_model.specs.Command.{takes}
use Rattle.lc_model.specs.LimitChecker.Watch.{History}
use Rattle.lc_model.specs.LimitChecker.Past.{run_of_fails}
use Rattle.lc_model.specs.LimitChecker.Steps.{is_sampled}
use Rattle.lc_model.proofs.Host.SameCore.{numbers_in}
use Rattle.rule_changes.specs.Runs.{RequestsAlike, RequestsNone, AreAlikeFor}
use Rattle.rule_changes.proofs.RunsSeats.{Seat, fresh_point, fresh_seats, seat_sampled, Change, changed_state, changed}
use Rattle.rule_changes.proofs.RunsComparison.{Comparison, Seats}
use Rattle.rule_changes.proofs.RunsRules.{fired, state_after, run_with, enough_with, is_taken, seat_asks, seat_state, seat_run, same_run, IsSilent, silent_sampled, silent_changed, silent_fresh}

-- two rules that request alike, in the same state and with as many failures in a row
pub record SeatsAlike (x y : Seat) : Type 0 where
  pub rules : RequestsAlike x.0 y.0
  pub state : x.1.state ≡ y.1.state
  pub run : run_of_fails x.1.past ≡ run_of_fails y.1.past

module _ (request : SampleRequest) (m : LcMode) (h : History) (n : ℕ) (x y : Seat) (same : SeatsAlike x y) where
  same_test : is_taken request n x ≡ is_taken request n y
  same_test = ap (λ s. takes request n && is_sampled s) same.state

  same_runs : run_with h x ≡ run_with h y
  same_runs = same_run h x y (same.rules.wherever h) (same.rules.only h) same.run

  same_enough : enough_with h x ≡ enough_with h y
  same_enough = ap₂ nat_le same.rules.fails same_runs

  alike_sampled : SeatsAlike (x.0, (seat_sampled request m h n x).0) (y.0, (seat_sampled request m h n y).0)
  alike_sampled = record {
    rules = same.rules;
    state = seat_state request m h n x
        ∙ (λ i. if same_test i then state_after (same_enough i) (same.state i) else same.state i)
        ∙ sym (seat_state request m h n y);
    run = seat_run request m h n x ∙ (λ i. if same_test i then same_runs i else same.run i) ∙ sym (seat_run request m h n y);
  }

  same_numbers : numbers_in (seat_sampled request m h n x).1 ≡ numbers_in (seat_sampled request m h n y).1
  same_numbers =
      seat_asks request m h n x
      ∙ (λ i. if same_test i then fired (same_enough i) (same.state i) m (same.rules.sequence i) else [])
      ∙ sym (seat_asks request m h n y)

module _ (wanted : ℕ → Bool) where
  -- the same requests of the set
  abbrev pub SameOf : ℕ → ℕ → List ℕ → List ℕ → Type 0
  SameOf d e xs ys = filter wanted xs ≡ filter wanted ys

  abbrev pub Two : ℕ → Seat → Seat → Type 0
  Two d x y = (d ≡ 0) × (SeatsAlike x y ⊎ (IsSilent wanted x × IsSilent wanted y))

  pub joined : (xs ys xs' ys' : List ℕ) → filter wanted xs ≡ filter wanted ys → filter wanted xs' ≡ filter wanted ys' → filter wanted (xs ++ xs') ≡ filter wanted (ys ++ ys')
  joined xs ys xs' ys' e e' = filter-append wanted xs xs' ∙ ap₂ (λ a b. a ++ b) e e' ∙ sym (filter-append wanted ys ys')

  pub two_sampled : (request : SampleRequest) (m : LcMode) (h : History) (n d : ℕ) (x y : Seat) → Two d x y →
      (e : ℕ) × Two e (x.0, (seat_sampled request m h n x).0) (y.0, (seat_sampled request m h n y).0)
      × SameOf d e (numbers_in (seat_sampled request m h n x).1) (numbers_in (seat_sampled request m h n y).1)
  two_sampled request m h n d x y (none, inl same) =
      (0, (refl, inl (alike_sampled request m h n x y same)), ap (filter wanted) (same_numbers request m h n x y same))
  two_sampled request m h n d x y (none, inr silent) =
      let one = silent_sampled wanted request m h n x silent.0 in
      let other = silent_sampled wanted request m h n y silent.1 in
      (0, (refl, inr (one.0, other.0)), one.1 ∙ sym other.1)

  pub two_changed : (change : Change) (d : ℕ) (x y : Seat) → Two d x y → (e : ℕ) × (e ≤ d) × Two e (x.0, changed change x.1) (y.0, changed change y.1)
  two_changed change d x y (none, inl same) =
      (0, omega arith, (refl, inl (record { rules = same.rules; state = ap (changed_state change) same.state; run = same.run })))
  two_changed change d x y (none, inr silent) =
      (0, omega arith, (refl, inr (silent_changed wanted change x silent.0, silent_changed wanted change y silent.1)))

  -- the same requests of the set in all modes
  abbrev pub alike_for : Comparison
  alike_for = record {
    Allows = λ m. ⊤;
    active = tt;
    Pays = SameOf;
    nothing = λ d e less. refl;
    beside = λ d e d' e' xs ys xs' ys' one other. joined xs ys xs' ys' one other;
    after = λ d e f xs ys xs' ys' one other. joined xs ys xs' ys' one other;
    Two = Two;
    OldOnly = IsSilent wanted;
    NewOnly = IsSilent wanted;
    two_sampled = λ request m h n d x y allowed enabled two. two_sampled request m h n d x y two;
    old_only_sampled = silent_sampled wanted;
    new_only_sampled = λ request m h n y silent. let one = silent_sampled wanted request m h n y silent in (one.0, sym one.1);
    two_changed = two_changed;
    old_only_changed = silent_changed wanted;
    new_only_changed = silent_changed wanted;
  }

  -- ---- the start

  two_fresh : (old new : Actionpoint) → RequestsAlike old new ⊎ (RequestsNone wanted old × RequestsNone wanted new) → Two 0 (old, fresh_point old) (new, fresh_point new)
  two_fresh old new (inl same) = (refl, inl (record { rules = same; state = same.mode; run = refl }))
  two_fresh old new (inr none) = (refl, inr (silent_fresh wanted old none.0, silent_fresh wanted new none.1))

  pub fresh_alike : (olds news : List Actionpoint) → AreAlikeFor wanted olds news → Seats alike_for 0 (fresh_seats olds) (fresh_seats news)
  fresh_alike [] [] h = refl
  fresh_alike (old ∷ olds) [] h = (silent_fresh wanted old h.0, fresh_alike olds [] h.1)
  fresh_alike [] (new ∷ news) h = (silent_fresh wanted new h.0, fresh_alike [] news h.1)
  fresh_alike (old ∷ olds) (new ∷ news) h = (0, 0, refl, two_fresh old new h.0, fresh_alike olds news h.1)

  pub alike_itself : (rules : List Actionpoint) → AreAlikeFor wanted rules rules
  alike_itself [] = tt
  alike_itself (rule ∷ rules) =
      (inl (record { only = λ h e. e; wherever = λ h e. e; mode = refl; fails = refl; sequence = refl }), alike_itself rules)
