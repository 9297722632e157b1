-- Commands to table services, in numbers and over the world.
use Rattle.std.proofs.Common.{◌≡◌, ℕ, Bool, true, false, List, [], ◌∷◌, map, refl, ap, sym, ◌∙◌, subst, Option, Some, None, option_map, is_some, if◌then◌else◌, Result, Ok, Err, IfOk, true≢false}
use Rattle.std.specs.Option.{option_map_or}
use Rattle.std.proofs.lemmas.Slice.Eq.{bytes_eq-Decides}
use Rattle.lc_model.specs.declared.kind.Kind.{Kind}
use Rattle.lc_model.specs.declared.kind.Kind.TheVariants.{Wdt, Adt}
use Rattle.lc_model.specs.declared.record.Moment.{Moment}
use Rattle.lc_model.specs.Name.{Name, is_named, value_under}
use Rattle.lc_model.specs.Packet.{lc_command_mid, lc_housekeeping_request_mid, sample_mid}
use Rattle.lc_model.specs.Refusal.{Refusal, ◌>>=◌, refused, found, provided}
use Rattle.lc_model.specs.Tables.File.{table_name}
use Rattle.lc_model.specs.Tables.Slot.{Slot, loaded, moved}
use Rattle.lc_model.specs.Tables.Interpretation.{FileMeaning, Interpretation, Pair, kind_named}
use Rattle.lc_model.specs.LimitChecker.Steps.{paired}
use Rattle.lc_model.specs.declared.field.Term.{Term}
use Rattle.lc_model.specs.Command.{TableCommand, Load, Manage, table_command_in}
use Rattle.lc_model.specs.Host.Schedule.{Schedule}
use Rattle.lc_model.specs.Host.World.{World, Running, Lc, become}
use Rattle.lc_model.specs.Host.React.{opened_file, slot_of, with_slot, table_named, managed, table_service}
use Rattle.lc_model.specs.Kept.Effort.{Effort}
use Rattle.lc_model.specs.Kept.Summary.{LcNow, LcOwn, AppState, LcState, SchState, CounterState, Other, now_by, lc_now, lc_own}
use Rattle.lc_model.specs.Kept.Call.{with_at, with_mids, lc_subscriptions, sch_subscriptions, counter_subscriptions, ServicesNow}
use Rattle.lc_model.specs.Kept.Executive.{Member, with_services, managed_now, table_service_now}
use Rattle.lc_model.proofs.LimitChecker.Slots.{loaded_active, moved_active}
use Rattle.host_refinement.specs.Keeping.{App, LimitChecker, Scheduler, Counter, no_packets, executive_by, standing_of, Numbers, numbers_of, slot_now, slots_in, IsSeated}
use Rattle.host_refinement.proofs.Steps.{by_lc, kept, StepKept, BothKept}

-- the states and subscriptions of all, with these of the Limit Checker
abbrev pub states_with : {Image : Type 0} → Schedule → Numbers Image → LcOwn → App → AppState
states_with schedule n own LimitChecker = LcState own
states_with schedule n own Scheduler = option_map_or (SchState schedule) n.sch Other
states_with schedule n own Counter = option_map_or CounterState n.counter Other

abbrev pub subscriptions_with : {Image : Type 0} → Numbers Image → List ℕ → App → List ℕ
subscriptions_with n mids LimitChecker = mids
subscriptions_with n mids Scheduler = sch_subscriptions
subscriptions_with n mids Counter = counter_subscriptions

-- the Limit Checker in numbers with this slot of a kind
abbrev with_slot_now : {Image : Type 0} → Kind → Slot Image → LcNow Image → LcNow Image
with_slot_now Wdt slot lc = record lc { wdt = slot }
with_slot_now Adt slot lc = record lc { adt = slot }

-- the name of a table is that of its kind
named_so : (name : Name) (kind : Kind) → kind_named name ≡ Some kind → name ≡ table_name kind
named_so name kind is = by_wdt (is_named name (table_name Wdt)) refl is
  where
    is_wdt : Option Kind → Bool
    is_wdt (Some Wdt) = true
    is_wdt other = false

    by_adt : (b : Bool) → is_named name (table_name Adt) ≡ b → (if b then Some Adt else None) ≡ Some kind → name ≡ table_name kind
    by_adt true e same = (bytes_eq-Decides name (table_name Adt)).0 e ∙ of_adt kind same
      where
        of_adt : (kind : Kind) → Some Adt ≡ Some kind → table_name Adt ≡ table_name kind
        of_adt Adt same = refl
        of_adt Wdt same = absurd (true≢false (sym (ap is_wdt same)))
    by_adt false e same = absurd (true≢false (sym (ap is_some same)))

    by_wdt : (b : Bool) → is_named name (table_name Wdt) ≡ b → (if b then Some Wdt else if is_named name (table_name Adt) then Some Adt else None) ≡ Some kind → name ≡ table_name kind
    by_wdt true e same = (bytes_eq-Decides name (table_name Wdt)).0 e ∙ of_wdt kind same
      where
        of_wdt : (kind : Kind) → Some Wdt ≡ Some kind → table_name Wdt ≡ table_name kind
        of_wdt Wdt same = refl
        of_wdt Adt same = absurd (true≢false (ap is_wdt same))
    by_wdt false e same = by_adt (is_named name (table_name Adt)) refl same

module _ {Image : Type 0} (images : Interpretation Image) (schedule : Schedule) where
  -- the tables with a slot of a kind
  slots_with : (kind : Kind) (slot : Slot Image) (lc : LcNow Image) →
      slots_in images schedule (Some (with_slot_now kind slot lc)) ≡ with_at (table_name kind) (Some slot) (slots_in images schedule (Some lc))
  slots_with Wdt slot lc i name = at (is_named name (table_name Wdt)) (is_named name (table_name Adt)) i
    where
      at : (a b : Bool) →
          option_map (λ kind. slot_now images schedule kind (with_slot_now Wdt slot lc)) (if a then Some Wdt else if b then Some Adt else None)
          ≡ (if a then Some slot else option_map (λ kind. slot_now images schedule kind lc) (if a then Some Wdt else if b then Some Adt else None))
      at true b = refl
      at false true = refl
      at false false = refl
  slots_with Adt slot lc i name = by_adt (is_named name (table_name Adt)) refl i
    where
      at : (a : Bool) →
          option_map (λ kind. slot_now images schedule kind (with_slot_now Adt slot lc)) (if a then Some Wdt else None)
          ≡ option_map (λ kind. slot_now images schedule kind lc) (if a then Some Wdt else None)
      at true = refl
      at false = refl

      by_adt : (b : Bool) → is_named name (table_name Adt) ≡ b →
          option_map (λ kind. slot_now images schedule kind (with_slot_now Adt slot lc)) (kind_named name)
          ≡ (if b then Some slot else option_map (λ kind. slot_now images schedule kind lc) (kind_named name))
      by_adt true e =
          subst (λ name. option_map (λ kind. slot_now images schedule kind (with_slot_now Adt slot lc)) (kind_named name) ≡ Some slot)
          (sym ((bytes_eq-Decides name (table_name Adt)).0 e)) refl
      by_adt false e =
          subst (λ b. option_map (λ kind. slot_now images schedule kind (with_slot_now Adt slot lc)) (if is_named name (table_name Wdt) then Some Wdt else if b then Some Adt else None)
          ≡ option_map (λ kind. slot_now images schedule kind lc) (if is_named name (table_name Wdt) then Some Wdt else if b then Some Adt else None))
          (sym e) (at (is_named name (table_name Wdt)))

  -- the numbers of a Limit Checker with a slot whose image in use is the old one
  now_with : (kind : Kind) (slot : Slot Image) (lc : Lc Image) → slot.active ≡ (slot_of kind lc).active →
      lc_now images (with_slot kind slot lc) ≡ with_slot_now kind slot (lc_now images lc)
  now_with Wdt slot lc same =
      ap (λ (force : Option (Pair Image)). now_by (option_map_or images.terms force []) (option_map_or images.rules force []) (with_slot Wdt slot lc))
      (ap (λ active. paired images active lc.adt.active) same)
  now_with Adt slot lc same =
      ap (λ (force : Option (Pair Image)). now_by (option_map_or images.terms force []) (option_map_or images.rules force []) (with_slot Adt slot lc))
      (ap (λ active. paired images lc.wdt.active active) same)

  own_by : Effort → LcNow Image → Option (Pair Image) → LcOwn
  own_by effort lc force = record {
    mode = lc.mode;
    terms = option_map_or images.terms force [];
    rules = option_map_or images.rules force [];
    watch = lc.watch;
    points = lc.points;
    effort = effort;
  }

  own_same : (effort : Effort) (kind : Kind) (slot : Slot Image) (lc : LcNow Image) → slot.active ≡ (slot_now images schedule kind lc).active →
      lc_own images effort (with_slot_now kind slot lc) ≡ lc_own images effort lc
  unfolding own_by
  own_same effort Wdt slot lc same = λ i. own_by effort lc (paired images (same i) lc.adt.active)
  own_same effort Adt slot lc same = λ i. own_by effort lc (paired images lc.wdt.active (same i))

  mids_same : (kind : Kind) (slot : Slot Image) (lc : LcNow Image) → slot.active ≡ (slot_now images schedule kind lc).active →
      lc_subscriptions images (with_slot_now kind slot lc) ≡ lc_subscriptions images lc
  mids_same Wdt slot lc same = λ i. with_mids (mids_by (paired images (same i) lc.adt.active)) []
    where
      mids_by : Option (Pair Image) → List ℕ
      mids_by force = lc_command_mid ∷ lc_housekeeping_request_mid ∷ sample_mid ∷ map (λ (t : Term). t.mid) (option_map_or images.terms force [])
  mids_same Adt slot lc same = λ i. with_mids (mids_by (paired images lc.wdt.active (same i))) []
    where
      mids_by : Option (Pair Image) → List ℕ
      mids_by force = lc_command_mid ∷ lc_housekeeping_request_mid ∷ sample_mid ∷ map (λ (t : Term). t.mid) (option_map_or images.terms force [])

  slot_kept : (kind : Kind) (lc : Lc Image) → slot_now images schedule kind (lc_now images lc) ≡ slot_of kind lc
  slot_kept Wdt lc = refl
  slot_kept Adt lc = refl

  module _ (moment : Moment) (effort : Effort) (stock : List Member) (order : List (Option App)) where
    -- the world in which this Limit Checker runs
    abbrev lc_at : World Image → ℕ → Running (Lc Image) → World Image
    lc_at w spares r = record w { lc = record { running = Some r; spares = spares } }

    -- a slot of the running Limit Checker changes
    slot_placed : (w : World Image) (spares : ℕ) (r : Running (Lc Image)) (kind : Kind) (name : Name) (slot : Slot Image) →
        IsSeated images schedule (standing_of (lc_at w spares r)) stock order → kind_named name ≡ Some kind → slot.active ≡ (slot_of kind r.state).active →
        StepKept images schedule moment (lc_at w spares (record r { state = with_slot kind slot r.state }), []) (
          record (kept images schedule effort stock order (lc_at w spares r)) {
            services =
                record (numbers_of images schedule effort (lc_at w spares r)).services { slots = with_at name (Some slot) (slots_in images schedule (Some (lc_now images r.state))) };
          },
          [],
        )
    slot_placed w spares r kind name slot seated is same =
        let v : World Image = lc_at w spares r in
        let n : Numbers Image = numbers_of images schedule effort v in
        let now : LcNow Image = lc_now images r.state in
        let after : lc_now images (with_slot kind slot r.state) ≡ with_slot_now kind slot now = now_with kind slot r.state same in
        let active : slot.active ≡ (slot_now images schedule kind now).active = same ∙ ap (λ (s : Slot Image). s.active) (sym (slot_kept kind r.state)) in
        let own : lc_own images effort now ≡ lc_own images effort (lc_now images (with_slot kind slot r.state)) = sym (own_same effort kind slot now active) ∙ ap (lc_own images effort) (sym after) in
        let mids : lc_subscriptions images now ≡ lc_subscriptions images (lc_now images (with_slot kind slot r.state)) =
        sym (mids_same kind slot now active) ∙ ap (lc_subscriptions images) (sym after) in
        let slots : with_at name (Some slot) (slots_in images schedule (Some now)) ≡ slots_in images schedule (Some (lc_now images (with_slot kind slot r.state))) =
        ap (λ name. with_at name (Some slot) (slots_in images schedule (Some now))) (named_so name kind is)
        ∙ sym (slots_with kind slot now) ∙ ap (λ lc. slots_in images schedule (Some lc)) (sym after) in
        record {
          stock = stock;
          order = order;
          effort = effort;
          seated = record { eight = seated.eight; placed = seated.placed; profile = seated.profile; spares = seated.spares };
          same = λ i. (executive_by stock order (states_with schedule n (own i)) (subscriptions_with n (mids i)) no_packets (record n.services { slots = slots i }), []);
        }

    -- a changed slot of the running Limit Checker, or one refusal
    placed_or_refused : (w : World Image) (spares : ℕ) (r : Running (Lc Image)) (kind : Kind) (name : Name) (q : Result (Slot Image) Refusal) →
        IsSeated images schedule (standing_of (lc_at w spares r)) stock order → kind_named name ≡ Some kind → IfOk q (λ (after : Slot Image). after.active ≡ (slot_of kind r.state).active) →
        BothKept images schedule moment
        ((q >>= (λ slot. Ok (lc_at w spares (record r { state = with_slot kind slot r.state })))) >>= (λ after. Ok (after, [])))
        (with_services (kept images schedule effort stock order (lc_at w spares r))
        (q >>= (λ after. Ok (record (numbers_of images schedule effort (lc_at w spares r)).services { slots = with_at name (Some after) (slots_in images schedule (Some (lc_now images r.state))) }))))
    placed_or_refused w spares r kind name (Err refusal) seated is same = refl
    placed_or_refused w spares r kind name (Ok slot) seated is same = slot_placed w spares r kind name slot seated is same

    abbrev Managed : World Image → TableCommand → Type 0
    Managed w command = BothKept images schedule moment (managed images command w >>= (λ after. Ok (after, [])))
        (with_services (kept images schedule effort stock order w) (managed_now images command (numbers_of images schedule effort w).services))

    -- without a Limit Checker there is no table
    none_managed : (w : World Image) (spares : ℕ) (command : TableCommand) → Managed (record w { lc = record { running = None; spares = spares } }) command
    none_managed w spares (Manage move name) = by_kind (kind_named name)
      where
        v : World Image
        v = record w { lc = record { running = None; spares = spares } }

        by_kind : (o : Option Kind) → BothKept images schedule moment
            (((found o 113 >>= (λ kind. refused 113)) >>= (λ (table : Kind × Lc Image). moved move (slot_of table.0 table.1) >>= (λ slot. Ok (record v { lc = become (with_slot table.0 slot table.1) v.lc })))) >>= (λ after. Ok (after, [])))
            (Err (113 ∷ []))
        by_kind None = refl
        by_kind (Some kind) = refl
    none_managed w spares (Load file) = by_file (value_under file w.files)
      where
        v : World Image
        v = record w { lc = record { running = None; spares = spares } }

        by_kind : (contents : Name × ℕ × Image) (o : Option Kind) → BothKept images schedule moment
            (((found o 113 >>= (λ kind. refused 113)) >>= (λ (table : Kind × Lc Image). provided (images.has_size table.0 contents.1) 114 contents.2 >>= (λ image.
            loaded image (slot_of table.0 table.1) >>= (λ slot. Ok (record v { lc = become (with_slot table.0 slot table.1) v.lc }))))) >>= (λ after. Ok (after, [])))
            (with_services (kept images schedule effort stock order v) (found o 113 >>= (λ kind. refused 113)))
        by_kind contents None = refl
        by_kind contents (Some kind) = refl

        by_contents : (r : Result (Name × ℕ × Image) Refusal) → BothKept images schedule moment
            ((r >>= (λ contents. table_named contents.0 v >>= (λ table. provided (images.has_size table.0 contents.1) 114 contents.2 >>= (λ image.
            loaded image (slot_of table.0 table.1) >>= (λ slot. Ok (record v { lc = become (with_slot table.0 slot table.1) v.lc })))))) >>= (λ after. Ok (after, [])))
            (with_services (kept images schedule effort stock order v) (r >>= (λ contents. found (kind_named contents.0) 113 >>= (λ kind. refused 113))))
        by_contents (Err refusal) = refl
        by_contents (Ok contents) = by_kind contents (kind_named contents.0)

        by_file : (o : Option (FileMeaning Image)) → BothKept images schedule moment
            ((found o 111 >>= (λ meaning. opened_file meaning >>= (λ contents. table_named contents.0 v >>= (λ table. provided (images.has_size table.0 contents.1) 114 contents.2 >>= (λ image.
            loaded image (slot_of table.0 table.1) >>= (λ slot. Ok (record v { lc = become (with_slot table.0 slot table.1) v.lc }))))))) >>= (λ after. Ok (after, [])))
            (with_services (kept images schedule effort stock order v) (found o 111 >>= (λ meaning. opened_file meaning >>= (λ contents. found (kind_named contents.0) 113 >>= (λ kind. refused 113)))))
        by_file None = refl
        by_file (Some meaning) = by_contents (opened_file meaning)

    -- with one, its slot changes
    some_managed : (w : World Image) (spares : ℕ) (r : Running (Lc Image)) (command : TableCommand) → IsSeated images schedule (standing_of (lc_at w spares r)) stock order →
        Managed (lc_at w spares r) command
    some_managed w spares r (Manage move name) seated = by_kind (kind_named name) refl
      where
        v : World Image
        v = lc_at w spares r

        n : ServicesNow Image
        n = (numbers_of images schedule effort v).services

        by_kind : (o : Option Kind) → kind_named name ≡ o → BothKept images schedule moment
            (((found o 113 >>= (λ kind. Ok (kind, r.state))) >>= (λ (table : Kind × Lc Image). moved move (slot_of table.0 table.1) >>= (λ slot. Ok (record v { lc = become (with_slot table.0 slot table.1) v.lc })))) >>= (λ after. Ok (after, [])))
            (with_services (kept images schedule effort stock order v)
            (found (option_map (λ kind. slot_now images schedule kind (lc_now images r.state)) o) 113 >>= (λ slot. moved move slot >>= (λ after. Ok (record n { slots = with_at name (Some after) n.slots })))))
        by_kind None is = refl
        by_kind (Some Wdt) is = placed_or_refused w spares r Wdt name (moved move r.state.wdt) seated is (moved_active move r.state.wdt)
        by_kind (Some Adt) is = placed_or_refused w spares r Adt name (moved move r.state.adt) seated is (moved_active move r.state.adt)
    some_managed w spares r (Load file) seated = by_file (value_under file w.files)
      where
        v : World Image
        v = lc_at w spares r

        n : ServicesNow Image
        n = (numbers_of images schedule effort v).services

        by_size : (kind : Kind) (contents : Name × ℕ × Image) (slot : Slot Image) (test : Bool) → slot ≡ slot_of kind r.state → kind_named contents.0 ≡ Some kind → BothKept images schedule moment
            ((provided test 114 contents.2 >>= (λ image. loaded image (slot_of kind r.state) >>= (λ slot. Ok (record v { lc = become (with_slot kind slot r.state) v.lc })))) >>= (λ after. Ok (after, [])))
            (with_services (kept images schedule effort stock order v)
            (provided test 114 contents.2 >>= (λ image. loaded image slot >>= (λ after. Ok (record n { slots = with_at contents.0 (Some after) n.slots })))))
        by_size kind contents slot false same is = refl
        by_size kind contents slot true same is =
            subst (λ (s : Slot Image). BothKept images schedule moment
            ((loaded contents.2 (slot_of kind r.state) >>= (λ slot. Ok (record v { lc = become (with_slot kind slot r.state) v.lc }))) >>= (λ after. Ok (after, [])))
            (with_services (kept images schedule effort stock order v)
            (loaded contents.2 s >>= (λ after. Ok (record n { slots = with_at contents.0 (Some after) n.slots }))))) (sym same)
            (placed_or_refused w spares r kind contents.0 (loaded contents.2 (slot_of kind r.state)) seated is (loaded_active contents.2 (slot_of kind r.state)))

        by_kind : (contents : Name × ℕ × Image) (o : Option Kind) → kind_named contents.0 ≡ o → BothKept images schedule moment
            (((found o 113 >>= (λ kind. Ok (kind, r.state))) >>= (λ (table : Kind × Lc Image). provided (images.has_size table.0 contents.1) 114 contents.2 >>= (λ image.
            loaded image (slot_of table.0 table.1) >>= (λ slot. Ok (record v { lc = become (with_slot table.0 slot table.1) v.lc }))))) >>= (λ after. Ok (after, [])))
            (with_services (kept images schedule effort stock order v)
            (found o 113 >>= (λ kind. found (option_map (λ kind. slot_now images schedule kind (lc_now images r.state)) o) 113 >>= (λ slot.
            provided (images.has_size kind contents.1) 114 contents.2 >>= (λ image. loaded image slot >>= (λ after. Ok (record n { slots = with_at contents.0 (Some after) n.slots })))))))
        by_kind contents None is = refl
        by_kind contents (Some kind) is = by_size kind contents (slot_now images schedule kind (lc_now images r.state)) (images.has_size kind contents.1) (slot_kept kind r.state) is

        by_contents : (q : Result (Name × ℕ × Image) Refusal) → BothKept images schedule moment
            ((q >>= (λ contents. table_named contents.0 v >>= (λ table. provided (images.has_size table.0 contents.1) 114 contents.2 >>= (λ image.
            loaded image (slot_of table.0 table.1) >>= (λ slot. Ok (record v { lc = become (with_slot table.0 slot table.1) v.lc })))))) >>= (λ after. Ok (after, [])))
            (with_services (kept images schedule effort stock order v)
            (q >>= (λ contents. found (kind_named contents.0) 113 >>= (λ kind. found (n.slots contents.0) 113 >>= (λ slot.
            provided (images.has_size kind contents.1) 114 contents.2 >>= (λ image. loaded image slot >>= (λ after. Ok (record n { slots = with_at contents.0 (Some after) n.slots }))))))))
        by_contents (Err refusal) = refl
        by_contents (Ok contents) = by_kind contents (kind_named contents.0) refl

        by_file : (o : Option (FileMeaning Image)) → BothKept images schedule moment
            ((found o 111 >>= (λ meaning. opened_file meaning >>= (λ contents. table_named contents.0 v >>= (λ table. provided (images.has_size table.0 contents.1) 114 contents.2 >>= (λ image.
            loaded image (slot_of table.0 table.1) >>= (λ slot. Ok (record v { lc = become (with_slot table.0 slot table.1) v.lc }))))))) >>= (λ after. Ok (after, [])))
            (with_services (kept images schedule effort stock order v)
            (found o 111 >>= (λ meaning. opened_file meaning >>= (λ contents. found (kind_named contents.0) 113 >>= (λ kind. found (n.slots contents.0) 113 >>= (λ slot.
            provided (images.has_size kind contents.1) 114 contents.2 >>= (λ image. loaded image slot >>= (λ after. Ok (record n { slots = with_at contents.0 (Some after) n.slots })))))))))
        by_file None = refl
        by_file (Some meaning) = by_contents (opened_file meaning)

    -- a command to table services
    pub table_service_kept : (w : World Image) (packet : List ℕ) → IsSeated images schedule (standing_of w) stock order →
        BothKept images schedule moment (table_service images packet w)
        (with_services (kept images schedule effort stock order w) (table_service_now images packet (numbers_of images schedule effort w).services))
    table_service_kept w packet seated = by_command (table_command_in packet)
      where
        by_command : (r : Result TableCommand Refusal) → BothKept images schedule moment
            (r >>= (λ command. managed images command w >>= (λ after. Ok (after, []))))
            (with_services (kept images schedule effort stock order w) (r >>= (λ command. managed_now images command (numbers_of images schedule effort w).services)))
        by_command (Err refusal) = refl
        by_command (Ok command) =
            by_lc (λ w. IsSeated images schedule (standing_of w) stock order → Managed w command)
            (λ w spares seated. none_managed w spares command) (λ w spares r seated. some_managed w spares r command seated) w seated
