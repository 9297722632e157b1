-- Commands to executive services, by the name that they have.
use Rattle.std.proofs.Common.{◌≡◌, ℕ, ◌+◌, ◌-◌, Bool, false, cond, not, ◌==◌, List, [], ◌∷◌, map, refl, ap, sym, ◌∙◌, subst, arith, Option, Some, None, is_none, is_some, if◌then◌else◌, Result, Ok, Err, IsFalse, true≢false}
use Rattle.std.specs.List.{AllByRecursion, position_from}
use Rattle.lc_model.specs.declared.record.Moment.{Moment}
use Rattle.lc_model.specs.Name.{Name, is_named, host_name, lc_name, sch_name, counter_name}
use Rattle.lc_model.specs.Refusal.{Refusal, ◌>>=◌, refused, found, provided}
use Rattle.lc_model.specs.Tables.Interpretation.{Interpretation}
use Rattle.lc_model.specs.Command.{Order, Start, Stop, Restart, Reload, order_in}
use Rattle.lc_model.specs.LimitChecker.Steps.{by_lists, lc_start, LcStep}
use Rattle.lc_model.specs.LimitChecker.Watch.{History}
use Rattle.lc_model.specs.LimitChecker.Past.{Past}
use Rattle.lc_model.specs.Host.Schedule.{Schedule}
use Rattle.lc_model.specs.Host.World.{World, Running, Lc, runs, spares_of}
use Rattle.lc_model.specs.Host.React.{Step, ordered, left, started, spare_taken, executive_service}
use Rattle.lc_model.specs.Kept.Effort.{Effort, no_effort}
use Rattle.lc_model.specs.Kept.Summary.{LcOwn, AppState, LcState, SchState, CounterState, Other}
use Rattle.lc_model.specs.Kept.Executive.{Member, Executive, Written, is_called, is_seated, seat_of, spare_of, free_seat, seated, spare_at, without_spare, left_from, begun_on, ordered_now, executive_service_now}
use Rattle.host_refinement.specs.Keeping.{App, LimitChecker, Scheduler, Counter, name_of, holds, times, seat_with, standing_of, numbers_of, state_in, IsOfProfile, IsSpare, IsSeated}
use Rattle.host_refinement.proofs.Names.{by_names}
use Rattle.host_refinement.proofs.Seats.{lc_on, lc_off, sch_on, sch_off, counter_on, counter_off, lc_leaves, lc_begins, sch_leaves, sch_begins, counter_leaves, counter_begins}
use Rattle.host_refinement.proofs.Steps.{by_lc, by_sch, by_counter, kept, BothKept}
use Rattle.host_refinement.proofs.Orders.{Begins, Leaves, start_kept, stop_kept, restart_kept, reload_kept, start_refused, other_refused}

-- all but one of the three
but_lc : (P : App → Type 0) → P Scheduler → P Counter → (other : App) → IsFalse (holds other (Some LimitChecker)) → P other
but_lc P sch counter LimitChecker h = absurd (true≢false h)
but_lc P sch counter Scheduler h = sch
but_lc P sch counter Counter h = counter

but_sch : (P : App → Type 0) → P LimitChecker → P Counter → (other : App) → IsFalse (holds other (Some Scheduler)) → P other
but_sch P lc counter LimitChecker h = lc
but_sch P lc counter Scheduler h = absurd (true≢false h)
but_sch P lc counter Counter h = counter

but_counter : (P : App → Type 0) → P LimitChecker → P Scheduler → (other : App) → IsFalse (holds other (Some Counter)) → P other
but_counter P lc sch LimitChecker h = lc
but_counter P lc sch Scheduler h = sch
but_counter P lc sch Counter h = absurd (true≢false h)

-- a test that nothing passes
no_place : {A B : Type 0} (f : A → B) (test : B → Bool) → ((x : A) → IsFalse (test (f x))) → (n : ℕ) (xs : List A) → position_from test n (map f xs) ≡ None
no_place f test fails n [] = refl
no_place f test fails n (x ∷ xs) = ap (λ b. cond b (Some n) (position_from test (n + 1) (map f xs))) (fails x) ∙ no_place f test fails (n + 1) xs

no_place_of : {A : Type 0} (P : A → Type 0) (test : A → Bool) → ((x : A) → P x → IsFalse (test x)) → (n : ℕ) (xs : List A) → AllByRecursion P xs → position_from test n xs ≡ None
no_place_of P test fails n [] all = refl
no_place_of P test fails n (x ∷ xs) all = ap (λ b. cond b (Some n) (position_from test (n + 1) xs)) (fails x all.0) ∙ no_place_of P test fails (n + 1) xs all.1

less_none : (n : ℕ) → n ≡ n - 0
less_none n = omega arith

module _ {Image : Type 0} (images : Interpretation Image) (schedule : Schedule) where
  -- an object of the profile by its name
  lc_member : (member : Member) → member.called ≡ lc_name → IsSpare images schedule member → (own : LcOwn) × (member ≡ record { called = lc_name; state = LcState own })
  lc_member member called profile = by_state member.state profile
    where
      by_state : (state : AppState) → IsOfProfile images schedule member.called state →
          (own : LcOwn) × (let given : Member = record { called = member.called; state = state } in given ≡ record { called = lc_name; state = LcState own })
      by_state (LcState own) h = (own, λ i. record { called = called i; state = LcState own })
      by_state (SchState own slot) h = absurd (true≢false (ap (is_named lc_name) (sym called ∙ h.0)))
      by_state (CounterState count) h = absurd (true≢false (ap (is_named lc_name) (sym called ∙ h)))
      by_state Other h = absurd h

  sch_member : (member : Member) → member.called ≡ sch_name → IsSpare images schedule member → (slot : ℕ) × (member ≡ record { called = sch_name; state = SchState schedule slot })
  sch_member member called profile = by_state member.state profile
    where
      by_state : (state : AppState) → IsOfProfile images schedule member.called state →
          (slot : ℕ) × (let given : Member = record { called = member.called; state = state } in given ≡ record { called = sch_name; state = SchState schedule slot })
      by_state (LcState own) h = absurd (true≢false (ap (is_named sch_name) (sym called ∙ h)))
      by_state (SchState own slot) h = (slot, λ i. record { called = called i; state = SchState (h.1 i) slot })
      by_state (CounterState count) h = absurd (true≢false (ap (is_named sch_name) (sym called ∙ h)))
      by_state Other h = absurd h

  counter_member : (member : Member) → member.called ≡ counter_name → IsSpare images schedule member → (count : ℕ) × (member ≡ record { called = counter_name; state = CounterState count })
  counter_member member called profile = by_state member.state profile
    where
      by_state : (state : AppState) → IsOfProfile images schedule member.called state →
          (count : ℕ) × (let given : Member = record { called = member.called; state = state } in given ≡ record { called = counter_name; state = CounterState count })
      by_state (LcState own) h = absurd (true≢false (ap (is_named counter_name) (sym called ∙ h)))
      by_state (SchState own slot) h = absurd (true≢false (ap (is_named counter_name) (sym called ∙ h.0)))
      by_state (CounterState count) h = (count, λ i. record { called = called i; state = CounterState count })
      by_state Other h = absurd h

  module _ (moment : Moment) (effort : Effort) (stock : List Member) (order : List (Option App)) where
    -- a command with this name
    abbrev OrderKept : Name → Order → World Image → Type 0
    OrderKept name o w = IsSeated images schedule (standing_of w) stock order → BothKept images schedule moment (ordered images o name w) (ordered_now images moment o name (kept images schedule effort stock order w))

    -- ---- the Limit Checker

    lc_step : World Image → ℕ → Step Image
    lc_step w spares = let start : LcStep Image History Past = lc_start by_lists images w.files in (lc_on w spares (record { state = start.0; log = [] }), start.1)

    lc_can_begin : (w : World Image) (spares more : ℕ) (order : List (Option App)) → times LimitChecker order ≡ 0 → Begins images schedule moment effort LimitChecker no_effort (lc_off w more) order (lc_step w spares)
    unfolding lc_step Begins
    lc_can_begin w spares more order none stock k member called profile =
        let own = lc_member member called profile in
        ap (λ (m : Member). begun_on images moment k m (kept images schedule effort stock order (lc_off w more))) own.1
        ∙ lc_begins images schedule effort moment w spares stock order k own.0 none

    lc_can_leave : (w : World Image) (spares : ℕ) (r : Running (Lc Image)) → Leaves images schedule moment effort LimitChecker (lc_on w spares r) (lc_off w spares) order
    unfolding Leaves
    lc_can_leave w spares r stock k at = lc_leaves images schedule effort w spares r stock order k at

    lc_ordered : (w : World Image) (o : Order) → OrderKept lc_name o w
    unfolding lc_step
    lc_ordered w o = by_lc (OrderKept lc_name o) (λ w spares. off w spares o) (λ w spares r. on w spares r o) w
      where
        off : (w : World Image) (spares : ℕ) (o : Order) → OrderKept lc_name o (lc_off w spares)
        off w spares Start h =
            start_kept images schedule moment effort LimitChecker no_effort (lc_off w spares) (lc_off w (spares - 1)) stock order (lc_step w (spares - 1)) h refl
            (record { runs = refl; spares = refl; others = but_lc _ (refl, refl) (refl, refl) })
            (record { runs = refl; spares = less_none (spares - 1); others = but_lc _ (refl, refl) (refl, refl) })
            (lc_can_begin w (spares - 1) spares order (h.placed LimitChecker))
        off w spares Stop h = other_refused images schedule moment effort LimitChecker (lc_off w spares) stock order _ h refl
        off w spares Restart h = other_refused images schedule moment effort LimitChecker (lc_off w spares) stock order _ h refl
        off w spares Reload h = other_refused images schedule moment effort LimitChecker (lc_off w spares) stock order _ h refl

        on : (w : World Image) (spares : ℕ) (r : Running (Lc Image)) (o : Order) → OrderKept lc_name o (lc_on w spares r)
        on w spares r Start h = start_refused images schedule moment effort LimitChecker (lc_on w spares r) stock order h refl
        on w spares r Stop h =
            stop_kept images schedule moment effort LimitChecker (lc_on w spares r) (lc_off w spares) stock order h refl
            (record { runs = refl; spares = less_none spares; others = but_lc _ (refl, refl) (refl, refl) }) (lc_can_leave w spares r)
        on w spares r Restart h =
            restart_kept images schedule moment effort LimitChecker no_effort (lc_on w spares r) (lc_off w spares) stock order (lc_step w spares) h refl
            (record { runs = refl; spares = less_none spares; others = but_lc _ (refl, refl) (refl, refl) })
            (record { runs = refl; spares = less_none spares; others = but_lc _ (refl, refl) (refl, refl) }) (lc_can_leave w spares r) (lc_can_begin w spares spares) refl
        on w spares r Reload h =
            reload_kept images schedule moment effort LimitChecker no_effort (lc_on w spares r) (lc_off w spares) (lc_off w (spares - 1)) stock order (lc_step w (spares - 1)) h refl
            (record { runs = refl; spares = less_none spares; others = but_lc _ (refl, refl) (refl, refl) })
            (record { runs = refl; spares = refl; others = but_lc _ (refl, refl) (refl, refl) })
            (record { runs = refl; spares = less_none (spares - 1); others = but_lc _ (refl, refl) (refl, refl) }) (lc_can_leave w spares r) (lc_can_begin w (spares - 1) spares)

    -- ---- the scheduler

    sch_step : World Image → ℕ → Step Image
    sch_step w spares = (sch_on w spares (record { state = 0; log = [] }), [])

    sch_can_begin : (w : World Image) (spares more : ℕ) (order : List (Option App)) → times Scheduler order ≡ 0 → Begins images schedule moment effort Scheduler effort (sch_off w more) order (sch_step w spares)
    unfolding sch_step Begins
    sch_can_begin w spares more order none stock k member called profile =
        let slot = sch_member member called profile in
        ap (λ (m : Member). begun_on images moment k m (kept images schedule effort stock order (sch_off w more))) slot.1
        ∙ sch_begins images schedule effort moment w spares slot.0 stock order k none

    sch_can_leave : (w : World Image) (spares : ℕ) (r : Running ℕ) → Leaves images schedule moment effort Scheduler (sch_on w spares r) (sch_off w spares) order
    unfolding Leaves
    sch_can_leave w spares r stock k at = sch_leaves images schedule effort w spares r stock order k at

    sch_ordered : (w : World Image) (o : Order) → OrderKept sch_name o w
    unfolding sch_step
    sch_ordered w o = by_sch (OrderKept sch_name o) (λ w spares. off w spares o) (λ w spares r. on w spares r o) w
      where
        off : (w : World Image) (spares : ℕ) (o : Order) → OrderKept sch_name o (sch_off w spares)
        off w spares Start h =
            start_kept images schedule moment effort Scheduler effort (sch_off w spares) (sch_off w (spares - 1)) stock order (sch_step w (spares - 1)) h refl
            (record { runs = refl; spares = refl; others = but_sch _ (refl, refl) (refl, refl) })
            (record { runs = refl; spares = less_none (spares - 1); others = but_sch _ (refl, refl) (refl, refl) })
            (sch_can_begin w (spares - 1) spares order (h.placed Scheduler))
        off w spares Stop h = other_refused images schedule moment effort Scheduler (sch_off w spares) stock order _ h refl
        off w spares Restart h = other_refused images schedule moment effort Scheduler (sch_off w spares) stock order _ h refl
        off w spares Reload h = other_refused images schedule moment effort Scheduler (sch_off w spares) stock order _ h refl

        on : (w : World Image) (spares : ℕ) (r : Running ℕ) (o : Order) → OrderKept sch_name o (sch_on w spares r)
        on w spares r Start h = start_refused images schedule moment effort Scheduler (sch_on w spares r) stock order h refl
        on w spares r Stop h =
            stop_kept images schedule moment effort Scheduler (sch_on w spares r) (sch_off w spares) stock order h refl
            (record { runs = refl; spares = less_none spares; others = but_sch _ (refl, refl) (refl, refl) }) (sch_can_leave w spares r)
        on w spares r Restart h =
            restart_kept images schedule moment effort Scheduler effort (sch_on w spares r) (sch_off w spares) stock order (sch_step w spares) h refl
            (record { runs = refl; spares = less_none spares; others = but_sch _ (refl, refl) (refl, refl) })
            (record { runs = refl; spares = less_none spares; others = but_sch _ (refl, refl) (refl, refl) }) (sch_can_leave w spares r) (sch_can_begin w spares spares) (refl, refl)
        on w spares r Reload h =
            reload_kept images schedule moment effort Scheduler effort (sch_on w spares r) (sch_off w spares) (sch_off w (spares - 1)) stock order (sch_step w (spares - 1)) h refl
            (record { runs = refl; spares = less_none spares; others = but_sch _ (refl, refl) (refl, refl) })
            (record { runs = refl; spares = refl; others = but_sch _ (refl, refl) (refl, refl) })
            (record { runs = refl; spares = less_none (spares - 1); others = but_sch _ (refl, refl) (refl, refl) }) (sch_can_leave w spares r) (sch_can_begin w (spares - 1) spares)

    -- ---- the counter

    counter_step : World Image → ℕ → Step Image
    counter_step w spares = (counter_on w spares (record { state = 0; log = [] }), [])

    counter_can_begin : (w : World Image) (spares more : ℕ) (order : List (Option App)) → times Counter order ≡ 0 → Begins images schedule moment effort Counter effort (counter_off w more) order (counter_step w spares)
    unfolding counter_step Begins
    counter_can_begin w spares more order none stock k member called profile =
        let count = counter_member member called profile in
        ap (λ (m : Member). begun_on images moment k m (kept images schedule effort stock order (counter_off w more))) count.1
        ∙ counter_begins images schedule effort moment w spares count.0 stock order k none

    counter_can_leave : (w : World Image) (spares : ℕ) (r : Running ℕ) → Leaves images schedule moment effort Counter (counter_on w spares r) (counter_off w spares) order
    unfolding Leaves
    counter_can_leave w spares r stock k at = counter_leaves images schedule effort w spares r stock order k at

    counter_ordered : (w : World Image) (o : Order) → OrderKept counter_name o w
    unfolding counter_step
    counter_ordered w o = by_counter (OrderKept counter_name o) (λ w spares. off w spares o) (λ w spares r. on w spares r o) w
      where
        off : (w : World Image) (spares : ℕ) (o : Order) → OrderKept counter_name o (counter_off w spares)
        off w spares Start h =
            start_kept images schedule moment effort Counter effort (counter_off w spares) (counter_off w (spares - 1)) stock order (counter_step w (spares - 1)) h refl
            (record { runs = refl; spares = refl; others = but_counter _ (refl, refl) (refl, refl) })
            (record { runs = refl; spares = less_none (spares - 1); others = but_counter _ (refl, refl) (refl, refl) })
            (counter_can_begin w (spares - 1) spares order (h.placed Counter))
        off w spares Stop h = other_refused images schedule moment effort Counter (counter_off w spares) stock order _ h refl
        off w spares Restart h = other_refused images schedule moment effort Counter (counter_off w spares) stock order _ h refl
        off w spares Reload h = other_refused images schedule moment effort Counter (counter_off w spares) stock order _ h refl

        on : (w : World Image) (spares : ℕ) (r : Running ℕ) (o : Order) → OrderKept counter_name o (counter_on w spares r)
        on w spares r Start h = start_refused images schedule moment effort Counter (counter_on w spares r) stock order h refl
        on w spares r Stop h =
            stop_kept images schedule moment effort Counter (counter_on w spares r) (counter_off w spares) stock order h refl
            (record { runs = refl; spares = less_none spares; others = but_counter _ (refl, refl) (refl, refl) }) (counter_can_leave w spares r)
        on w spares r Restart h =
            restart_kept images schedule moment effort Counter effort (counter_on w spares r) (counter_off w spares) stock order (counter_step w spares) h refl
            (record { runs = refl; spares = less_none spares; others = but_counter _ (refl, refl) (refl, refl) })
            (record { runs = refl; spares = less_none spares; others = but_counter _ (refl, refl) (refl, refl) }) (counter_can_leave w spares r) (counter_can_begin w spares spares) refl
        on w spares r Reload h =
            reload_kept images schedule moment effort Counter effort (counter_on w spares r) (counter_off w spares) (counter_off w (spares - 1)) stock order (counter_step w (spares - 1)) h refl
            (record { runs = refl; spares = less_none spares; others = but_counter _ (refl, refl) (refl, refl) })
            (record { runs = refl; spares = refl; others = but_counter _ (refl, refl) (refl, refl) })
            (record { runs = refl; spares = less_none (spares - 1); others = but_counter _ (refl, refl) (refl, refl) }) (counter_can_leave w spares r) (counter_can_begin w (spares - 1) spares)

    -- ---- any other name

    other_ordered : (name : Name) → IsFalse (is_named name lc_name) → IsFalse (is_named name sch_name) → IsFalse (is_named name counter_name) → (w : World Image) (o : Order) → OrderKept name o w
    other_ordered name not_lc not_sch not_counter w o h = by_order o
      where
        e : Executive Image
        e = kept images schedule effort stock order w

        off : runs w name ≡ false
        off = λ i. if not_lc i then is_some w.lc.running else if not_sch i then is_some w.sch.running else if not_counter i then is_some w.counter.running else false

        spares : spares_of w name ≡ 0
        spares = λ i. if not_lc i then w.lc.spares else if not_sch i then w.sch.spares else if not_counter i then w.counter.spares else 0

        not_app : (app : App) → IsFalse (is_named name (name_of app))
        not_app LimitChecker = not_lc
        not_app Scheduler = not_sch
        not_app Counter = not_counter

        not_seat : (seat : Option App) → IsFalse (is_seated name (seat_with (state_in images schedule (numbers_of images schedule effort w)) seat))
        not_seat None = refl
        not_seat (Some app) = not_app app

        not_spare : (called : Name) (state : AppState) → IsOfProfile images schedule called state → IsFalse (is_named name called)
        not_spare called (LcState own) p = ap (is_named name) p ∙ not_lc
        not_spare called (SchState own slot) p = ap (is_named name) p.0 ∙ not_sch
        not_spare called (CounterState count) p = ap (is_named name) p ∙ not_counter
        not_spare called Other p = absurd p

        seat : seat_of name e.seats ≡ None
        seat = no_place (seat_with (state_in images schedule (numbers_of images schedule effort w))) (is_seated name) not_seat 0 order

        spare : spare_of name stock ≡ None
        spare = no_place_of (IsSpare images schedule) (is_called name) (λ (m : Member) p. not_spare m.called m.state p) 0 stock h.profile

        refused_now : (f : ℕ → Result (Written Image) Refusal) → (found (seat_of name e.seats) 121 >>= f) ≡ refused 121
        refused_now f = ap (λ (k : Option ℕ). found k 121 >>= f) seat

        by_order : (o : Order) → BothKept images schedule moment (ordered images o name w) (ordered_now images moment o name e)
        by_order Start =
            subst (λ (r : Bool). BothKept images schedule moment (if r then refused 123 else if spares_of w name == 0 then refused 122 else Ok (started images name (spare_taken name w))) (ordered_now images moment Start name e)) (sym off)
            (subst (λ (n : ℕ). BothKept images schedule moment (if n == 0 then refused 122 else Ok (started images name (spare_taken name w))) (ordered_now images moment Start name e)) (sym spares)
            (subst (λ (k : Option ℕ). BothKept images schedule moment (refused 122) (if not (is_none k) then refused 123
            else (found (spare_of name stock) 122 >>= (λ i. found (free_seat e.seats) 124 >>= (λ k. Ok (begun_on images moment k (spare_at stock i) (without_spare i e))))))) (sym seat)
            (subst (λ (i : Option ℕ). BothKept images schedule moment (refused 122) (found i 122 >>= (λ i. found (free_seat e.seats) 124 >>= (λ k. Ok (begun_on images moment k (spare_at stock i) (without_spare i e)))))) (sym spare) refl)))
        by_order Stop =
            subst (λ (r : Bool). BothKept images schedule moment (provided r 121 (left name w, [])) (ordered_now images moment Stop name e)) (sym off)
            (subst (BothKept images schedule moment (refused 121)) (sym (refused_now (λ k. Ok (left_from k e, [])))) refl)
        by_order Restart =
            subst (λ (r : Bool). BothKept images schedule moment (provided r 121 (started images name (left name w))) (ordered_now images moment Restart name e)) (sym off)
            (subst (BothKept images schedule moment (refused 121)) (sym (refused_now (λ k. Ok (begun_on images moment k (seated e.seats k) (left_from k e))))) refl)
        by_order Reload =
            subst (λ (r : Bool). BothKept images schedule moment (if not r then refused 121 else if spares_of w name == 0 then refused 122 else Ok (started images name (spare_taken name (left name w)))) (ordered_now images moment Reload name e)) (sym off)
            (subst (BothKept images schedule moment (refused 121)) (sym (refused_now (λ k. found (spare_of name stock) 122 >>= (λ i. Ok (begun_on images moment k (spare_at stock i) (without_spare i (left_from k e))))))) refl)

    -- a command to executive services
    pub executive_service_kept : (w : World Image) (packet : List ℕ) → IsSeated images schedule (standing_of w) stock order →
        BothKept images schedule moment (executive_service images packet w) (executive_service_now images moment packet (kept images schedule effort stock order w))
    executive_service_kept w packet h = by_command (order_in packet)
      where
        by_command : (r : Result (Order × Name) Refusal) → BothKept images schedule moment
            (r >>= (λ command. ordered images command.0 command.1 w)) (r >>= (λ command. ordered_now images moment command.0 command.1 (kept images schedule effort stock order w)))
        by_command (Err refusal) = refl
        by_command (Ok command) =
            by_names (λ name. OrderKept name command.0 w) command.1
            (other_ordered host_name refl refl refl w command.0) (lc_ordered w command.0) (sch_ordered w command.0) (counter_ordered w command.0)
            (λ x lc sch counter. other_ordered command.1 lc sch counter w command.0) h
