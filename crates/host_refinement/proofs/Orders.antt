-- Commands to executive services, in numbers and over the world.
use Rattle.std.proofs.Common.{◌≡◌, ℕ, suc, ◌+◌, ◌-◌, ◌<◌, ◌≤◌, ◌⊎◌, inl, inr, Bool, true, false, cond, not, ◌==◌, List, [], ◌∷◌, count_by, remove, slice_set, slice_index_or, refl, ap, ap₂, sym, ◌∙◌, subst, arith, Option, Some, None, is_none, unwrap_or, if◌then◌else◌, Result, Ok, Err, IsFalse, IsTrue, true≢false}
use Rattle.std.specs.List.{AllByRecursion}
use Rattle.std.proofs.lemmas.List.{length-set}
use Rattle.std.proofs.lemmas.List.Sums.{sum_by-remove}
use Rattle.std.proofs.lemmas.Slice.Eq.{bytes_eq-Decides}
use Rattle.std.proofs.lemmas.Bool.Decides.{Decides-eqb}
use Rattle.lc_model.specs.declared.record.Moment.{Moment}
use Rattle.lc_model.specs.Name.{is_named}
use Rattle.lc_model.specs.Refusal.{Refusal, ◌>>=◌, refused, found}
use Rattle.lc_model.specs.Tables.Interpretation.{Interpretation}
use Rattle.lc_model.specs.Command.{Start, Stop, Restart, Reload}
use Rattle.lc_model.specs.Host.Schedule.{Schedule}
use Rattle.lc_model.specs.Host.World.{World}
use Rattle.lc_model.specs.Host.React.{Step}
use Rattle.lc_model.specs.Host.Run.{all_delivered}
use Rattle.lc_model.specs.Kept.Effort.{Effort}
use Rattle.lc_model.specs.Kept.Summary.{AppState}
use Rattle.lc_model.specs.Kept.Executive.{Member, Executive, Written, no_member, is_called, is_seated, seat_of, spare_of, free_seat, seated, spare_at, without_spare, left_from, begun_on, ordered_now}
use Rattle.host_refinement.specs.Keeping.{App, LimitChecker, Scheduler, Counter, name_of, holds, times, seat_with, Standing, standing_of, runs_in, spares_in, numbers_of, state_in, IsSpare, IsSeated}
use Rattle.host_refinement.proofs.Places.{Stands, stands, Free, First, first_free, room, free_found, place_absent, place_found, at_place, times_taken, times_left, times_other, free_left, holds_own, all_at, all_removed, Found, first_or_none}
use Rattle.host_refinement.proofs.Steps.{kept, StepKept, BothKept}

-- ---- names

own_name : (app : App) → IsTrue (is_named (name_of app) (name_of app))
own_name LimitChecker = refl
own_name Scheduler = refl
own_name Counter = refl

other_name : (app other : App) → IsFalse (holds other (Some app)) → IsFalse (is_named (name_of other) (name_of app))
other_name LimitChecker LimitChecker h = absurd (true≢false h)
other_name LimitChecker Scheduler h = refl
other_name LimitChecker Counter h = refl
other_name Scheduler LimitChecker h = refl
other_name Scheduler Scheduler h = absurd (true≢false h)
other_name Scheduler Counter h = refl
other_name Counter LimitChecker h = refl
other_name Counter Scheduler h = refl
other_name Counter Counter h = absurd (true≢false h)

not_seated : (app : App) (states : App → AppState) (seat : Option App) → IsFalse (holds app seat) → IsFalse (is_seated (name_of app) (seat_with states seat))
not_seated app states None h = refl
not_seated app states (Some other) h = other_name other app h

none_free : (states : App → AppState) (seat : Option App) → is_none (seat_with states seat) ≡ is_none seat
none_free states None = refl
none_free states (Some app) = refl

-- one application changes
pub record Changed {Image : Type 0} (app : App) (s t : Standing Image) (on : Bool) (taken : ℕ) : Type 0 where
  pub runs : runs_in t app ≡ on
  pub spares : spares_in t app ≡ spares_in s app - taken
  pub others : (other : App) → IsFalse (holds other (Some app)) → (runs_in t other ≡ runs_in s other) × (spares_in t other ≡ spares_in s other)

module _ {Image : Type 0} (images : Interpretation Image) (schedule : Schedule) where
  -- each application by whether it is this one
  by_app : (app other : App) (P : Type 0) → (other ≡ app → P) → (IsFalse (holds other (Some app)) → P) → P
  by_app LimitChecker LimitChecker P same apart = same refl
  by_app LimitChecker Scheduler P same apart = apart refl
  by_app LimitChecker Counter P same apart = apart refl
  by_app Scheduler LimitChecker P same apart = apart refl
  by_app Scheduler Scheduler P same apart = same refl
  by_app Scheduler Counter P same apart = apart refl
  by_app Counter LimitChecker P same apart = apart refl
  by_app Counter Scheduler P same apart = apart refl
  by_app Counter Counter P same apart = same refl

  seated_left : (app : App) (s t : Standing Image) (stock : List Member) (order : List (Option App)) (k : ℕ) → IsSeated images schedule s stock order → Stands app k order → Changed app s t false 0 →
      IsSeated images schedule t stock (slice_set order k None)
  seated_left app s t stock order k h at c = record {
    eight = length-set order k None ∙ h.eight;
    placed = λ other. by_app app other (times other (slice_set order k None) ≡ (if runs_in t other then 1 else 0))
        (λ e. ap (λ a. times a (slice_set order k None)) e ∙ times_left app k order at ∙ sym (ap (λ a. if runs_in t a then 1 else 0) e ∙ ap (λ (b : Bool). if b then 1 else 0) c.runs))
        (λ apart. times_other app other k order at apart ∙ h.placed other ∙ ap (λ (b : Bool). if b then 1 else 0) (sym (c.others other apart).0));
    profile = h.profile;
    spares = λ other. by_app app other (spares_in t other ≡ count_by (is_called (name_of other)) stock)
        (λ e. subst (λ a. spares_in t a ≡ count_by (is_called (name_of a)) stock) (sym e) (c.spares ∙ (let less : spares_in s app - 0 ≡ spares_in s app = omega arith in less) ∙ h.spares app))
        (λ apart. (c.others other apart).1 ∙ h.spares other);
  }

  seated_begun : (app : App) (s t : Standing Image) (stock : List Member) (order : List (Option App)) (k : ℕ) → IsSeated images schedule s stock order → times app order ≡ 0 → Free k order → Changed app s t true 0 →
      IsSeated images schedule t stock (slice_set order k (Some app))
  seated_begun app s t stock order k h none free c = record {
    eight = length-set order k (Some app) ∙ h.eight;
    placed = λ other. by_app app other (times other (slice_set order k (Some app)) ≡ (if runs_in t other then 1 else 0))
        (λ e. subst (λ a. times a (slice_set order k (Some app)) ≡ (if runs_in t a then 1 else 0)) (sym e)
        (times_taken app app k order free ∙ ap (λ (b : Bool). if b then suc (times app order) else times app order) (holds_own app) ∙ ap suc none ∙ sym (ap (λ (b : Bool). if b then 1 else 0) c.runs)))
        (λ apart. times_taken other app k order free ∙ ap (λ (b : Bool). if b then suc (times other order) else times other order) apart
        ∙ h.placed other ∙ ap (λ (b : Bool). if b then 1 else 0) (sym (c.others other apart).0));
    profile = h.profile;
    spares = λ other. by_app app other (spares_in t other ≡ count_by (is_called (name_of other)) stock)
        (λ e. subst (λ a. spares_in t a ≡ count_by (is_called (name_of a)) stock) (sym e) (c.spares ∙ (let less : spares_in s app - 0 ≡ spares_in s app = omega arith in less) ∙ h.spares app))
        (λ apart. (c.others other apart).1 ∙ h.spares other);
  }

  -- a spare of this name leaves the stock
  seated_spare : (app : App) (s t : Standing Image) (stock : List Member) (order : List (Option App)) → IsSeated images schedule s stock order →
      (spare : Found (is_called (name_of app)) no_member 0 stock) → Changed app s t (runs_in s app) 1 → IsSeated images schedule t (remove stock spare.place) order
  seated_spare app s t stock order h spare c = record {
    eight = h.eight;
    placed = λ other. by_app app other (times other order ≡ (if runs_in t other then 1 else 0))
        (λ e. subst (λ a. times a order ≡ (if runs_in t a then 1 else 0)) (sym e) (h.placed app ∙ ap (λ (b : Bool). if b then 1 else 0) (sym c.runs)))
        (λ apart. h.placed other ∙ ap (λ (b : Bool). if b then 1 else 0) (sym (c.others other apart).0));
    profile = all_removed (IsSpare images schedule) stock spare.place spare.within h.profile;
    spares = λ other. by_app app other (spares_in t other ≡ count_by (is_called (name_of other)) (remove stock spare.place))
        (λ e. subst (λ a. spares_in t a ≡ count_by (is_called (name_of a)) (remove stock spare.place)) (sym e)
        (c.spares ∙ ap (λ n. n - 1) (h.spares app) ∙ one_less (count_by (is_called (name_of app)) (remove stock spare.place)) (count_by (is_called (name_of app)) stock) (counted app true spare.passes)))
        (λ apart. (c.others other apart).1 ∙ h.spares other ∙ none_less (count_by (is_called (name_of other)) (remove stock spare.place)) (count_by (is_called (name_of other)) stock)
        (counted other false (ap (is_named (name_of other)) (sym ((bytes_eq-Decides (name_of app) member.called).0 spare.passes)) ∙ other_name app other apart)));
  }
    where
      member : Member
      member = slice_index_or stock spare.place no_member

      counted : (other : App) (test : Bool) → is_called (name_of other) member ≡ test →
          count_by (is_called (name_of other)) (remove stock spare.place) + cond test 1 0 ≡ count_by (is_called (name_of other)) stock
      counted other test e = ap (λ b. count_by (is_called (name_of other)) (remove stock spare.place) + cond b 1 0) (sym e)
          ∙ sum_by-remove (λ m. cond (is_called (name_of other) m) 1 0) stock spare.place no_member spare.within

      one_less : (n m : ℕ) → n + 1 ≡ m → m - 1 ≡ n
      one_less n m e = omega arith

      none_less : (n m : ℕ) → n + 0 ≡ m → m ≡ n
      none_less n m e = omega arith

  module _ (moment : Moment) (effort : Effort) (app : App) where
    -- the seats of an application that runs or not
    seat_none : (stock : List Member) (order : List (Option App)) (v : World Image) → times app order ≡ 0 → seat_of (name_of app) (kept images schedule effort stock order v).seats ≡ None
    seat_none stock order v none =
        place_absent app (seat_with (state_in images schedule (numbers_of images schedule effort v))) (is_seated (name_of app)) (not_seated app _) 0 order none

    seat_some : (stock : List Member) (order : List (Option App)) (v : World Image) (k : ℕ) → Stands app k order → seat_of (name_of app) (kept images schedule effort stock order v).seats ≡ Some k
    seat_some stock order v k at =
        place_found app (seat_with (state_in images schedule (numbers_of images schedule effort v))) (is_seated (name_of app)) (own_name app) (not_seated app _) 0 k order at
        ∙ (let same : 0 + k ≡ k = omega arith in ap Some same)

    absent : (s : Standing Image) (stock : List Member) (order : List (Option App)) → IsSeated images schedule s stock order → runs_in s app ≡ false → times app order ≡ 0
    absent s stock order h off = h.placed app ∙ ap (λ (b : Bool). if b then 1 else 0) off

    present : (s : Standing Image) (stock : List Member) (order : List (Option App)) → IsSeated images schedule s stock order → runs_in s app ≡ true → (k : ℕ) × Stands app k order
    present s stock order h on = stands app order (h.placed app ∙ ap (λ (b : Bool). if b then 1 else 0) on)

    roomy : (s : Standing Image) (stock : List Member) (order : List (Option App)) → IsSeated images schedule s stock order → (k : ℕ) × First k order
    roomy s stock order h =
        let l = at_most_one (runs_in s LimitChecker) in let c = at_most_one (runs_in s Scheduler) in let d = at_most_one (runs_in s Counter) in
        let a = h.placed LimitChecker in let b = h.placed Scheduler in let e = h.placed Counter in let eight = h.eight in
        room order (few _ _ _ _ _ _ _ a b e l c d eight)
      where
        at_most_one : (test : Bool) → (if test then 1 else 0) ≤ 1
        at_most_one true = omega arith
        at_most_one false = omega arith

        few : (x y z a b c n : ℕ) → x ≡ a → y ≡ b → z ≡ c → a ≤ 1 → b ≤ 1 → c ≤ 1 → n ≡ 8 → x + y + z < n
        few x y z a b c n e f g l m o eight = omega arith

    spare_member : (stock : List Member) → AllByRecursion (IsSpare images schedule) stock → (spare : Found (is_called (name_of app)) no_member 0 stock) →
        (spare_at stock spare.place).called ≡ name_of app
    spare_member stock profile spare = sym ((bytes_eq-Decides (name_of app) (spare_at stock spare.place).called).0 spare.passes)

    -- it starts on a seat, with one list of events, and this effort afterwards
    unfoldable pub Begins : Effort → World Image → List (Option App) → Step Image → Type 0
    Begins after v order step = (stock : List Member) (k : ℕ) (member : Member) → member.called ≡ name_of app → IsSpare images schedule member →
        begun_on images moment k member (kept images schedule effort stock order v)
        ≡ (kept images schedule after stock (slice_set order k (Some app)) (all_delivered moment step.1 step.0).0, (all_delivered moment step.1 step.0).1)

    zero_test : (n : ℕ) → n ≡ 0 → (n == 0) ≡ true
    zero_test n e = ap (λ m. m == 0) e

    one_test : (n m : ℕ) → m + 1 ≡ n → (n == 0) ≡ false
    one_test n m e = by_test (n == 0) refl
      where
        never : (n m : ℕ) → m + 1 ≡ n → n ≡ 0 → ⊥
        never n m e z = omega arith

        by_test : (b : Bool) → (n == 0) ≡ b → (n == 0) ≡ false
        by_test true is = absurd (never n m e ((Decides-eqb n 0).0 is))
        by_test false is = is

    pub start_kept : (after : Effort) (v u : World Image) (stock : List Member) (order : List (Option App)) (step : Step Image) → IsSeated images schedule (standing_of v) stock order →
        runs_in (standing_of v) app ≡ false → Changed app (standing_of v) (standing_of u) false 1 → Changed app (standing_of u) (standing_of step.0) true 0 → Begins after v order step →
        BothKept images schedule moment (if spares_in (standing_of v) app == 0 then refused 122 else Ok step) (ordered_now images moment Start (name_of app) (kept images schedule effort stock order v))
    unfolding Begins
    start_kept after v u stock order step h off less on begins = by_spare (first_or_none (is_called (name_of app)) no_member 0 stock)
      where
        e : Executive Image
        e = kept images schedule effort stock order v

        none : times app order ≡ 0
        none = absent (standing_of v) stock order h off

        seats : seat_of (name_of app) e.seats ≡ None
        seats = seat_none stock order v none

        free : (k : ℕ) × First k order
        free = roomy (standing_of v) stock order h

        free_seat_is : free_seat e.seats ≡ Some free.0
        free_seat_is = free_found (seat_with (state_in images schedule (numbers_of images schedule effort v))) (none_free _) 0 free.0 order free.1 ∙ (let same : 0 + free.0 ≡ free.0 = omega arith in ap Some same)

        told : Option ℕ → Option ℕ → Option ℕ → Result (Written Image) Refusal
        told seat spare free =
            if not (is_none seat) then refused 123
            else (found spare 122 >>= (λ i. found free 124 >>= (λ k. Ok (begun_on images moment k (spare_at stock i) (without_spare i e)))))

        by_spare : ((count_by (is_called (name_of app)) stock ≡ 0) × (spare_of (name_of app) stock ≡ None)) ⊎ Found (is_called (name_of app)) no_member 0 stock →
            BothKept images schedule moment (if spares_in (standing_of v) app == 0 then refused 122 else Ok step) (told (seat_of (name_of app) e.seats) (spare_of (name_of app) stock) (free_seat e.seats))
        by_spare (inl gone) =
            subst (λ test. BothKept images schedule moment (if test then refused 122 else Ok step) (told (seat_of (name_of app) e.seats) (spare_of (name_of app) stock) (free_seat e.seats)))
            (sym (zero_test _ (h.spares app ∙ gone.0)))
            (subst (λ o. BothKept images schedule moment (Err (122 ∷ [])) (told o (spare_of (name_of app) stock) (free_seat e.seats))) (sym seats)
            (subst (λ o. BothKept images schedule moment (Err (122 ∷ [])) (told None o (free_seat e.seats))) (sym gone.1) refl))
        by_spare (inr spare) =
            subst (λ test. BothKept images schedule moment (if test then refused 122 else Ok step) (told (seat_of (name_of app) e.seats) (spare_of (name_of app) stock) (free_seat e.seats)))
            (sym (one_test _ (count_by (is_called (name_of app)) (remove stock spare.place)) (counted ∙ sym (h.spares app))))
            (subst (λ o. BothKept images schedule moment (Ok step) (told o (spare_of (name_of app) stock) (free_seat e.seats))) (sym seats)
            (subst (λ o. BothKept images schedule moment (Ok step) (told None o (free_seat e.seats))) (sym (spare.first ∙ (let same : 0 + spare.place ≡ spare.place = omega arith in ap Some same)))
            (subst (λ o. BothKept images schedule moment (Ok step) (told None (Some spare.place) o)) (sym free_seat_is) begun)))
          where
            counted : count_by (is_called (name_of app)) (remove stock spare.place) + 1 ≡ count_by (is_called (name_of app)) stock
            counted = ap (λ b. count_by (is_called (name_of app)) (remove stock spare.place) + cond b 1 0) (sym spare.passes)
                ∙ sum_by-remove (λ m. cond (is_called (name_of app) m) 1 0) stock spare.place no_member spare.within

            begun : StepKept images schedule moment step (begun_on images moment free.0 (spare_at stock spare.place) (without_spare spare.place e))
            begun = record {
              stock = remove stock spare.place;
              order = slice_set order free.0 (Some app);
              effort = after;
              seated = seated_begun app (standing_of u) (standing_of step.0) (remove stock spare.place) order free.0
                  (seated_spare app (standing_of v) (standing_of u) stock order h spare (record { runs = less.runs ∙ sym off; spares = less.spares; others = less.others }))
                  none (first_free free.0 order free.1) on;
              same = begins (remove stock spare.place) free.0 (spare_at stock spare.place) (spare_member stock h.profile spare)
                  (all_at (IsSpare images schedule) stock spare.place no_member spare.within h.profile);
            }

    -- it leaves its seat
    unfoldable pub Leaves : World Image → World Image → List (Option App) → Type 0
    Leaves v u order = (stock : List Member) (k : ℕ) → Stands app k order →
        left_from k (kept images schedule effort stock order v) ≡ kept images schedule effort stock (slice_set order k None) u

    pub stop_kept : (v u : World Image) (stock : List Member) (order : List (Option App)) → IsSeated images schedule (standing_of v) stock order → runs_in (standing_of v) app ≡ true →
        Changed app (standing_of v) (standing_of u) false 0 → Leaves v u order →
        BothKept images schedule moment (Ok (u, [])) (ordered_now images moment Stop (name_of app) (kept images schedule effort stock order v))
    unfolding Leaves
    stop_kept v u stock order h on off leaves =
        let e : Executive Image = kept images schedule effort stock order v in
        let at : (k : ℕ) × Stands app k order = present (standing_of v) stock order h on in
        subst (λ (o : Option ℕ). BothKept images schedule moment (Ok (u, [])) (found o 121 >>= (λ k. Ok (left_from k e, [])))) (sym (seat_some stock order v at.0 at.1))
        (record {
          stock = stock;
          order = slice_set order at.0 None;
          effort = effort;
          seated = seated_left app (standing_of v) (standing_of u) stock order at.0 h at.1 off;
          same = ap (λ (e : Executive Image). (e, [])) (leaves stock at.0 at.1);
        })

    pub restart_kept : (after : Effort) (v u : World Image) (stock : List Member) (order : List (Option App)) (step : Step Image) → IsSeated images schedule (standing_of v) stock order → runs_in (standing_of v) app ≡ true →
        Changed app (standing_of v) (standing_of u) false 0 → Changed app (standing_of u) (standing_of step.0) true 0 → Leaves v u order →
        ((order : List (Option App)) → times app order ≡ 0 → Begins after u order step) →
        IsSpare images schedule (record { called = name_of app; state = state_in images schedule (numbers_of images schedule effort v) app }) →
        BothKept images schedule moment (Ok step) (ordered_now images moment Restart (name_of app) (kept images schedule effort stock order v))
    unfolding Leaves Begins
    restart_kept after v u stock order step h on off again leaves begins own =
        let e : Executive Image = kept images schedule effort stock order v in
        let at : (k : ℕ) × Stands app k order = present (standing_of v) stock order h on in
        let without : List (Option App) = slice_set order at.0 None in
        let member : Member = record { called = name_of app; state = state_in images schedule (numbers_of images schedule effort v) app } in
        subst (λ (o : Option ℕ). BothKept images schedule moment (Ok step) (found o 121 >>= (λ k. Ok (begun_on images moment k (seated e.seats k) (left_from k e))))) (sym (seat_some stock order v at.0 at.1))
        (record {
          stock = stock;
          order = slice_set without at.0 (Some app);
          effort = after;
          seated = seated_begun app (standing_of u) (standing_of step.0) stock without at.0 (seated_left app (standing_of v) (standing_of u) stock order at.0 h at.1 off)
              (times_left app at.0 order at.1) (free_left app at.0 order at.1) again;
          same = ap₂ (λ (m : Member) (e : Executive Image). begun_on images moment at.0 m e)
              (ap (λ (seat : Option Member). unwrap_or seat no_member) (at_place app (seat_with (state_in images schedule (numbers_of images schedule effort v))) None at.0 order at.1)) (leaves stock at.0 at.1)
              ∙ begins without (times_left app at.0 order at.1) stock at.0 member refl own;
        })

    pub reload_kept : (after : Effort) (v u t : World Image) (stock : List Member) (order : List (Option App)) (step : Step Image) → IsSeated images schedule (standing_of v) stock order → runs_in (standing_of v) app ≡ true →
        Changed app (standing_of v) (standing_of u) false 0 → Changed app (standing_of u) (standing_of t) false 1 → Changed app (standing_of t) (standing_of step.0) true 0 → Leaves v u order →
        ((order : List (Option App)) → times app order ≡ 0 → Begins after u order step) →
        BothKept images schedule moment (if spares_in (standing_of v) app == 0 then refused 122 else Ok step) (ordered_now images moment Reload (name_of app) (kept images schedule effort stock order v))
    unfolding Leaves Begins
    reload_kept after v u t stock order step h on off less again leaves begins = by_spare (first_or_none (is_called (name_of app)) no_member 0 stock)
      where
        e : Executive Image
        e = kept images schedule effort stock order v

        at : (k : ℕ) × Stands app k order
        at = present (standing_of v) stock order h on

        without : List (Option App)
        without = slice_set order at.0 None

        told : Option ℕ → Option ℕ → Result (Written Image) Refusal
        told seat spare = found seat 121 >>= (λ k. found spare 122 >>= (λ i. Ok (begun_on images moment k (spare_at stock i) (without_spare i (left_from k e)))))

        by_spare : ((count_by (is_called (name_of app)) stock ≡ 0) × (spare_of (name_of app) stock ≡ None)) ⊎ Found (is_called (name_of app)) no_member 0 stock →
            BothKept images schedule moment (if spares_in (standing_of v) app == 0 then refused 122 else Ok step) (told (seat_of (name_of app) e.seats) (spare_of (name_of app) stock))
        by_spare (inl gone) =
            subst (λ test. BothKept images schedule moment (if test then refused 122 else Ok step) (told (seat_of (name_of app) e.seats) (spare_of (name_of app) stock)))
            (sym (zero_test _ (h.spares app ∙ gone.0)))
            (subst (λ o. BothKept images schedule moment (Err (122 ∷ [])) (told o (spare_of (name_of app) stock))) (sym (seat_some stock order v at.0 at.1))
            (subst (λ o. BothKept images schedule moment (Err (122 ∷ [])) (told (Some at.0) o)) (sym gone.1) refl))
        by_spare (inr spare) =
            subst (λ test. BothKept images schedule moment (if test then refused 122 else Ok step) (told (seat_of (name_of app) e.seats) (spare_of (name_of app) stock)))
            (sym (one_test _ (count_by (is_called (name_of app)) (remove stock spare.place)) (counted ∙ sym (h.spares app))))
            (subst (λ o. BothKept images schedule moment (Ok step) (told o (spare_of (name_of app) stock))) (sym (seat_some stock order v at.0 at.1))
            (subst (λ o. BothKept images schedule moment (Ok step) (told (Some at.0) o)) (sym (spare.first ∙ (let same : 0 + spare.place ≡ spare.place = omega arith in ap Some same))) begun))
          where
            counted : count_by (is_called (name_of app)) (remove stock spare.place) + 1 ≡ count_by (is_called (name_of app)) stock
            counted = ap (λ b. count_by (is_called (name_of app)) (remove stock spare.place) + cond b 1 0) (sym spare.passes)
                ∙ sum_by-remove (λ m. cond (is_called (name_of app) m) 1 0) stock spare.place no_member spare.within

            gone : times app without ≡ 0
            gone = times_left app at.0 order at.1

            left : IsSeated images schedule (standing_of u) stock without
            left = seated_left app (standing_of v) (standing_of u) stock order at.0 h at.1 off

            begun : StepKept images schedule moment step (begun_on images moment at.0 (spare_at stock spare.place) (without_spare spare.place (left_from at.0 e)))
            begun = record {
              stock = remove stock spare.place;
              order = slice_set without at.0 (Some app);
              effort = after;
              seated = seated_begun app (standing_of t) (standing_of step.0) (remove stock spare.place) without at.0
                  (seated_spare app (standing_of u) (standing_of t) stock without left spare (record { runs = less.runs ∙ sym off.runs; spares = less.spares; others = less.others }))
                  gone (free_left app at.0 order at.1) again;
              same = ap (λ (e : Executive Image). begun_on images moment at.0 (spare_at stock spare.place) (without_spare spare.place e)) (leaves stock at.0 at.1)
                  ∙ begins without gone (remove stock spare.place) at.0 (spare_at stock spare.place) (spare_member stock h.profile spare)
                  (all_at (IsSpare images schedule) stock spare.place no_member spare.within h.profile);
            }

    -- what is refused by whether it runs
    pub start_refused : (v : World Image) (stock : List Member) (order : List (Option App)) → IsSeated images schedule (standing_of v) stock order → runs_in (standing_of v) app ≡ true →
        BothKept images schedule moment (refused 123) (ordered_now images moment Start (name_of app) (kept images schedule effort stock order v))
    start_refused v stock order h on =
        let e : Executive Image = kept images schedule effort stock order v in
        let at : (k : ℕ) × Stands app k order = present (standing_of v) stock order h on in
        subst (λ (o : Option ℕ). BothKept images schedule moment (Err (123 ∷ [])) (if not (is_none o) then refused 123
        else (found (spare_of (name_of app) stock) 122 >>= (λ i. found (free_seat e.seats) 124 >>= (λ k. Ok (begun_on images moment k (spare_at stock i) (without_spare i e)))))))
        (sym (seat_some stock order v at.0 at.1)) refl

    pub other_refused : (v : World Image) (stock : List Member) (order : List (Option App)) (f : ℕ → Result (Written Image) Refusal) → IsSeated images schedule (standing_of v) stock order → runs_in (standing_of v) app ≡ false →
        BothKept images schedule moment (refused 121) (found (seat_of (name_of app) (kept images schedule effort stock order v).seats) 121 >>= f)
    other_refused v stock order f h off =
        subst (λ (o : Option ℕ). BothKept images schedule moment (Err (121 ∷ [])) (found o 121 >>= f)) (sym (seat_none stock order v (absent (standing_of v) stock order h off))) refl
