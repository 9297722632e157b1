-- No two seats come to have objects of one name; and an object's pipe is subscribed to what its state says.
use Rattle.std.proofs.Common.{◌≡◌, refl, ap, sym, ◌∙◌, ℕ, zero, suc, ◌+◌, Bool, true, false, not, ◌==◌, List, [], ◌∷◌, ◌++◌, count_by, ◌⊎◌, inl, inr, arith, if◌then◌else◌, Option, Some, None, is_none, is_some, slice_index_or, slice_set, unwrap_or, Result, Ok, Err, IsTrue, true≢false}
use Rattle.std.specs.Option.{option_map_or}
use Rattle.std.specs.List.{position_from}
use Rattle.std.proofs.lemmas.Slice.Eq.{bytes_eq-Decides}
use Rattle.lc_model.specs.declared.record.Moment.{Moment}
use Rattle.lc_model.specs.Name.{Name}
use Rattle.lc_model.specs.Packet.{stream_fault, message_id, tick_mid, counter_mid, event_services_mid, table_services_mid, executive_services_mid}
use Rattle.lc_model.specs.Refusal.{Refusal, ◌>>=◌, refused, found}
use Rattle.lc_model.specs.Tables.Interpretation.{FileMeaning, Interpretation}
use Rattle.lc_model.specs.Events.Request.{Service, event_services, table_services, executive_services, bad_packet}
use Rattle.lc_model.specs.Command.{Order, Start, Stop, Restart, Reload, order_in}
use Rattle.lc_model.specs.Host.React.{Input, Packet, Tick, File, stored}
use Rattle.lc_model.specs.Kept.Summary.{LcState, SchState, CounterState, Other}
use Rattle.lc_model.specs.Kept.Next.{next_tick, next_count}
use Rattle.lc_model.specs.Kept.Call.{ServicesNow, Called, silent, sch_told, counter_told, sch_subscriptions, counter_subscriptions, next_start, next_on_packet}
use Rattle.lc_model.specs.Kept.Executive.{Member, Pipe, Executive, Written, no_member, is_called, is_seated, seat_of, spare_of, free_seat, seated, spare_at, after_call, after_taking, left_from, without_spare, begun_on, handed, delivered_at, drained, most_deliveries, passed_on, published_to, tick_packet, ready_seat, with_services, told_by_host, answered_now, ordered_now, executive_service_now, event_service_now, table_service_now, filed_now, routed_now, step_by}
use Rattle.lc_model.specs.Kept.GoesWith.{subscriptions_of}
use Rattle.host_refinement.specs.Invariants.{HaveOwnNames, PipesFollowStates, NamesStayOwn}
use Rattle.host_refinement.proofs.HostRecords.{IfOk}
use Rattle.host_refinement.proofs.Keeps.{either_called}
use Rattle.host_refinement.proofs.Places.{Found, first_or_none}

-- ---- subscriptions

module _ {Image : Type 0} (images : Interpretation Image) where
  pub pipes_follow_states : PipesFollowStates images
  pipes_follow_states (LcState own) services moment = record { start = refl; packet = λ packet. refl }
  pipes_follow_states (SchState schedule slot) services moment = record {
    start = refl;
    packet = λ packet. either_called (λ (called : Called Image). called.mids ≡ subscriptions_of called.state) (message_id packet == tick_mid)
        (sch_told (next_tick schedule slot) schedule services) (silent (SchState schedule slot) sch_subscriptions [] services) refl refl;
  }
  pipes_follow_states (CounterState count) services moment = record {
    start = refl;
    packet = λ packet. either_called (λ (called : Called Image). called.mids ≡ subscriptions_of called.state) (message_id packet == counter_mid)
        (counter_told moment (next_count packet count) services) (silent (CounterState count) counter_subscriptions [] services) refl refl;
  }
  pipes_follow_states Other services moment = record { start = tt; packet = λ packet. tt }

-- ---- seats

-- what stands at a place where one place changed
at_set : {A : Type 0} (xs : List A) (k : ℕ) (new d : A) (j : ℕ) →
    ((j ≡ k) × (slice_index_or (slice_set xs k new) j d ≡ new)) ⊎ (slice_index_or (slice_set xs k new) j d ≡ slice_index_or xs j d)
at_set [] k new d j = inr refl
at_set (x ∷ xs) zero new d zero = inl (refl, refl)
at_set (x ∷ xs) zero new d (suc j) = inr refl
at_set (x ∷ xs) (suc k) new d zero = inr refl
at_set (x ∷ xs) (suc k) new d (suc j) = one_further (at_set xs k new d j)
  where
    one_further : ((j ≡ k) × (slice_index_or (slice_set xs k new) j d ≡ new)) ⊎ (slice_index_or (slice_set xs k new) j d ≡ slice_index_or xs j d) →
        ((suc j ≡ suc k) × (slice_index_or (slice_set xs k new) j d ≡ new)) ⊎ (slice_index_or (slice_set xs k new) j d ≡ slice_index_or xs j d)
    one_further (inl here) = inl (ap suc here.0, here.1)
    one_further (inr there) = inr there

-- nothing passes where there is no place
none_there : {A : Type 0} (test : A → Bool) (d : A) → test d ≡ false → (n : ℕ) (xs : List A) → position_from test n xs ≡ None → (j : ℕ) → test (slice_index_or xs j d) ≡ false
none_there test d fails n [] none j = fails
none_there {A} test d fails n (x ∷ xs) none j = by_test (test x) refl none (none_there test d fails (n + 1) xs) j
  where
    by_test : (b : Bool) → test x ≡ b → (if b then Some n else position_from test (n + 1) xs) ≡ None → (position_from test (n + 1) xs ≡ None → (j : ℕ) → test (slice_index_or xs j d) ≡ false) → (j : ℕ) →
        test (slice_index_or (x ∷ xs) j d) ≡ false
    by_test true e none others j = absurd (true≢false (ap is_some none))
    by_test false e none others zero = e
    by_test false e none others (suc j) = others none j

-- what stands at a place that was found passes
found_there : {A : Type 0} (test : A → Bool) (d : A) (xs : List A) (k : ℕ) → position_from test 0 xs ≡ Some k → test (slice_index_or xs k d) ≡ true
found_there test d xs k is = by_first (first_or_none test d 0 xs)
  where
    by_first : ((count_by test xs ≡ 0) × (position_from test 0 xs ≡ None)) ⊎ Found test d 0 xs → test (slice_index_or xs k d) ≡ true
    by_first (inl none) = absurd (true≢false (sym (ap is_some is) ∙ ap is_some none.1))
    by_first (inr first) =
        let same : k ≡ first.place = ap (λ o. unwrap_or o k) (sym is ∙ first.first) ∙ (let none : 0 + first.place ≡ first.place = omega arith in none) in
        ap (λ place. test (slice_index_or xs place d)) same ∙ first.passes

-- the seats with another object at one, whose name no other seat has
set_own : (seats : List (Option Member)) (k : ℕ) (new : Member) → HaveOwnNames seats →
    ((name : Name) (j : ℕ) → IsTrue (is_called name new) → IsTrue (is_seated name (slice_index_or seats j None)) → j ≡ k) → HaveOwnNames (slice_set seats k (Some new))
set_own seats k new own alone name j l at_j at_l = by_places (at_set seats k (Some new) None j) (at_set seats k (Some new) None l)
  where
    Place : ℕ → Type 0
    Place i = ((i ≡ k) × (slice_index_or (slice_set seats k (Some new)) i None ≡ Some new)) ⊎ (slice_index_or (slice_set seats k (Some new)) i None ≡ slice_index_or seats i None)

    by_places : Place j → Place l → j ≡ l
    by_places (inl a) (inl b) = a.0 ∙ sym b.0
    by_places (inl a) (inr b) = a.0 ∙ sym (alone name l (ap (is_seated name) (sym a.1) ∙ at_j) (ap (is_seated name) (sym b) ∙ at_l))
    by_places (inr a) (inl b) = alone name j (ap (is_seated name) (sym b.1) ∙ at_l) (ap (is_seated name) (sym a) ∙ at_j) ∙ sym b.0
    by_places (inr a) (inr b) = own name j l (ap (is_seated name) (sym a) ∙ at_j) (ap (is_seated name) (sym b) ∙ at_l)

-- a seat that was left has nobody's name
left_there : (seats : List (Option Member)) (k : ℕ) (name : Name) (j : ℕ) → IsTrue (is_seated name (slice_index_or (slice_set seats k None) j None)) → IsTrue (is_seated name (slice_index_or seats j None))
left_there seats k name j at = by_place (at_set seats k None None j)
  where
    by_place : ((j ≡ k) × (slice_index_or (slice_set seats k None) j None ≡ None)) ⊎ (slice_index_or (slice_set seats k None) j None ≡ slice_index_or seats j None) → IsTrue (is_seated name (slice_index_or seats j None))
    by_place (inl a) = absurd (true≢false (sym at ∙ ap (is_seated name) a.1))
    by_place (inr b) = ap (is_seated name) (sym b) ∙ at

left_own : (seats : List (Option Member)) (k : ℕ) → HaveOwnNames seats → HaveOwnNames (slice_set seats k None)
left_own seats k own name j l at_j at_l = own name j l (left_there seats k name j at_j) (left_there seats k name l at_l)

-- who sits there
seated_name : (seat : Option Member) (name other : Name) → IsTrue (is_seated name seat) → IsTrue (is_called other (unwrap_or seat no_member)) → IsTrue (is_seated other seat)
seated_name None name other at is = absurd (true≢false (sym at))
seated_name (Some member) name other at is = is

-- two names of one object
same_name : (name other : Name) (member : Member) → is_called name member ≡ true → IsTrue (is_called other member) → other ≡ name
same_name name other member a b = (bytes_eq-Decides other member.called).0 b ∙ sym ((bytes_eq-Decides name member.called).0 a)

-- ---- steps

found_ok : {A B : Type 0} (P : B → Type 0) (o : Option A) (code : ℕ) (next : A → Result B Refusal) → ((a : A) → o ≡ Some a → IfOk P (next a)) → IfOk P (found o code >>= next)
found_ok P None code next each = tt
found_ok P (Some a) code next each = each a refl

module _ {Image : Type 0} (images : Interpretation Image) (moment : Moment) where
  abbrev Own : Written Image → Type 0
  Own s = HaveOwnNames s.0.seats

  begun_own : (k : ℕ) (member : Member) (e : Executive Image) → HaveOwnNames e.seats →
      ((name : Name) (j : ℕ) → IsTrue (is_called name member) → IsTrue (is_seated name (slice_index_or e.seats j None)) → j ≡ k) → Own (begun_on images moment k member e)
  begun_own k member e own alone = by_start (next_start images moment member.state e.services)
    where
      by_start : (o : Option (Called Image)) → Own (option_map_or (after_call k member.called [] e) o (e, []))
      by_start None = own
      by_start (Some call) = set_own e.seats k (record { called = member.called; state = call.state }) own alone

  handed_own : (k : ℕ) (seat : Option Member) (pipe : Pipe) (waiting : List (List ℕ)) (e : Executive Image) → slice_index_or e.seats k None ≡ seat → HaveOwnNames e.seats →
      Own (handed images moment k (unwrap_or seat no_member) pipe waiting e)
  handed_own k seat pipe [] e is own = own
  handed_own k None pipe (packet ∷ waiting) e is own = own
  handed_own k (Some member) pipe (packet ∷ waiting) e is own = by_call (next_on_packet images moment member.state packet e.services)
    where
      by_call : (o : Option (Called Image)) → Own (option_map_or (after_call k member.called waiting e) o (after_taking k pipe waiting e))
      by_call None = own
      by_call (Some call) =
          set_own e.seats k (record { called = member.called; state = call.state }) own (λ name j called at. own name j k at (ap (is_seated name) is ∙ called))

  delivered_own : (k : ℕ) (e : Executive Image) → HaveOwnNames e.seats → Own (delivered_at images moment k e)
  delivered_own k e own = by_pipe (slice_index_or e.pipes k None)
    where
      by_pipe : (o : Option Pipe) → Own (option_map_or (λ (pipe : Pipe). handed images moment k (seated e.seats k) pipe pipe.waiting e) o (e, []))
      by_pipe None = own
      by_pipe (Some pipe) = handed_own k (slice_index_or e.seats k None) pipe pipe.waiting e refl own

  drained_own : (most : ℕ) (e : Executive Image) → HaveOwnNames e.seats → Own (drained images moment most e)
  unfolding drained
  drained_own zero e own = own
  drained_own (suc most) e own = by_ready (λ e own. drained_own most e own) (ready_seat e.pipes)
    where
      by_ready : ((e : Executive Image) → HaveOwnNames e.seats → Own (drained images moment most e)) → (o : Option ℕ) →
          Own (option_map_or (λ k. let first : Written Image = delivered_at images moment k e in let others : Written Image = drained images moment most first.0 in (others.0, first.1 ++ others.1)) o (e, []))
      by_ready others None = own
      by_ready others (Some k) = others (delivered_at images moment k e).0 (delivered_own k e own)

  passed_own : (packet : List ℕ) (e : Executive Image) → HaveOwnNames e.seats → Own (passed_on images moment packet e)
  passed_own packet e own = drained_own most_deliveries (record e { pipes = published_to e.pipes packet }) own

  -- ---- orders

  ordered_own : (order : Order) (name : Name) (e : Executive Image) → HaveOwnNames e.seats → IfOk Own (ordered_now images moment order name e)
  ordered_own Start name e own = by_seat (seat_of name e.seats) refl
    where
      by_seat : (o : Option ℕ) → seat_of name e.seats ≡ o → IfOk Own (if not (is_none o) then refused 123
          else (found (spare_of name e.stock) 122 >>= (λ i. found (free_seat e.seats) 124 >>= (λ k. Ok (begun_on images moment k (spare_at e.stock i) (without_spare i e))))))
      by_seat (Some k) is = tt
      by_seat None none =
          found_ok Own (spare_of name e.stock) 122 _ (λ i spare. found_ok Own (free_seat e.seats) 124 _ (λ k free.
          begun_own k (spare_at e.stock i) (without_spare i e) own (λ other j called at.
          absurd (true≢false (sym at ∙ ap (λ n. is_seated n (slice_index_or e.seats j None)) (same_name name other (spare_at e.stock i) (found_there (is_called name) no_member e.stock i spare) called)
          ∙ none_there (is_seated name) None refl 0 e.seats none j)))))
  ordered_own Stop name e own = found_ok Own (seat_of name e.seats) 121 _ (λ k is. left_own e.seats k own)
  ordered_own Restart name e own =
      found_ok Own (seat_of name e.seats) 121 _ (λ k is.
      begun_own k (seated e.seats k) (left_from k e) (left_own e.seats k own) (λ other j called at.
      own other j k (left_there e.seats k other j at) (seated_name (slice_index_or e.seats k None) name other (found_there (is_seated name) None e.seats k is) called)))
  ordered_own Reload name e own =
      found_ok Own (seat_of name e.seats) 121 _ (λ k is. found_ok Own (spare_of name e.stock) 122 _ (λ i spare.
      begun_own k (spare_at e.stock i) (without_spare i (left_from k e)) (left_own e.seats k own) (λ other j called at.
      own name j k (ap (λ n. is_seated n (slice_index_or e.seats j None)) (sym (same_name name other (spare_at e.stock i) (found_there (is_called name) no_member e.stock i spare) called)) ∙ left_there e.seats k other j at)
      (found_there (is_seated name) None e.seats k is))))

  executive_own : (packet : List ℕ) (e : Executive Image) → HaveOwnNames e.seats → IfOk Own (executive_service_now images moment packet e)
  executive_own packet e own = by_command (order_in packet)
    where
      by_command : (r : Result (Order × Name) Refusal) → IfOk Own (r >>= (λ command. ordered_now images moment command.0 command.1 e))
      by_command (Ok command) = ordered_own command.0 command.1 e own
      by_command (Err refusal) = tt

  -- ---- records

  answered_own : (service : Service) (packet : List ℕ) (e : Executive Image) (r : Result (Written Image) Refusal) → HaveOwnNames e.seats → IfOk Own r →
      Own (answered_now images moment service packet e r)
  answered_own service packet e (Ok step) own after = after
  answered_own service packet e (Err refusal) own after = own

  serviced_own : (e : Executive Image) (r : Result (ServicesNow Image) Refusal) → HaveOwnNames e.seats → IfOk Own (with_services e r)
  serviced_own e (Ok services) own = own
  serviced_own e (Err refusal) own = tt

  either_own : (test : Bool) (s t : Written Image) → Own s → Own t → Own (if test then s else t)
  either_own true s t x y = x
  either_own false s t x y = y

  routed_own : (packet : List ℕ) (e : Executive Image) → HaveOwnNames e.seats → Own (routed_now images moment packet e)
  routed_own packet e own =
      either_own (message_id packet == event_services_mid) _ _ (answered_own event_services packet e (with_services e (event_service_now packet e.services)) own (serviced_own e (event_service_now packet e.services) own))
      (either_own (message_id packet == table_services_mid) _ _ (answered_own table_services packet e (with_services e (table_service_now images packet e.services)) own (serviced_own e (table_service_now images packet e.services) own))
      (either_own (message_id packet == executive_services_mid) _ _ (answered_own executive_services packet e (executive_service_now images moment packet e) own (executive_own packet e own))
      (passed_own packet e own)))

  step_own : (e : Executive Image) (input : Input Image) → HaveOwnNames e.seats → Own (step_by images moment e input)
  step_own e (Packet bytes) own = by_fault (stream_fault bytes)
    where
      by_fault : (o : Option ℕ) → Own (option_map_or (λ reason. told_by_host moment (bad_packet reason ∷ []) e) o (routed_now images moment bytes e))
      by_fault (Some reason) = own
      by_fault None = routed_own bytes e own
  step_own e Tick own = passed_own tick_packet e own
  step_own e (File name size meaning) own = by_stored (stored name size meaning e.services.files)
    where
      by_stored : (r : Result (List (Name × FileMeaning Image)) Refusal) → Own (filed_now moment e r)
      by_stored (Ok files) = own
      by_stored (Err refusal) = own

pub names_stay_own : {Image : Type 0} (images : Interpretation Image) → NamesStayOwn images
names_stay_own images moment e input own = step_own images moment e input own
