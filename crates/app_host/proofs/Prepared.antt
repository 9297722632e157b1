-- An order is begun: who is to leave a seat has left it.
use Rattle.std.proofs.Common.{◌≡◌, ◌≢◌, refl, ap, sym, ◌∙◌, subst, ℕ, zero, suc, ◌<◌, Bool, true, false, List, [], ◌∷◌, length, map, Option, Some, None, Result, Ok, get_or}
use Rattle.std.specs.Prelude.{IfSome, IsSome, option_map, is_some, is_none, not, if◌then◌else◌}
use Rattle.std.proofs.lemmas.List.{get_or-set_same, length-map}
use Rattle.std.proofs.lemmas.List.Elements.{All-get_or}
use Rattle.std.proofs.lemmas.Slice.Eq.{bytes_eq-Decides}
use Rattle.lc_model.specs.Name.{Name, is_named}
use Rattle.lc_model.specs.Refusal.{Refusal, ◌>>=◌, refused, found as found_or}
use Rattle.lc_model.specs.Command.{Start, Stop, Restart, Reload}
use Rattle.lc_model.specs.Kept.Summary.{Other}
use Rattle.lc_model.specs.Kept.Executive.{Member, Executive, Written, no_member, is_called, is_seated, seat_of, spare_of, free_seat, spare_at, seated, begun_on, left_from, without_spare}
use Rattle.app_host.specs.Shared.{on_board}
use Rattle.app_host.specs.Hosted.{Object, Hosted, object_at, spare_in, no_object, member_of}
use Rattle.app_host.specs.Whole.{IsKnown, AreKnown, IsWhole}
use Rattle.app_host.specs.Party.{ordered, IsKnownOnSeat, IsKnownSpare}
use Rattle.app_host.specs.Delivered.{executive_in}
use Rattle.app_host.specs.Left.{LeavesExactly}
use Rattle.app_host.specs.Ordered.{Nobody, Spare, Same, MayBegin, HasWithdrawn, outcome_of, IsPrepared}
use Rattle.app_host.proofs.Found.{shown_in, found, found_first, nowhere}
use Rattle.app_host.proofs.Rosters.{spare_by_name}
use Rattle.app_host.proofs.Frames.{fact_at_set}
use Rattle.app_host.proofs.Answered.{seated_is}
use Rattle.app_host.proofs.Followed.{stays_so}

-- ---- places

place_shown : (seats : List (Option Object)) (k : ℕ) → get_or (map (option_map member_of) seats) k None ≡ option_map member_of (get_or seats k None)
place_shown [] k = refl
place_shown (place ∷ seats) zero = refl
place_shown (place ∷ seats) (suc k) = place_shown seats k

module _ (h : Hosted) (name : Name) (whole : IsWhole h) where
  abbrev e : Executive (List ℕ)
  e = executive_in h

  -- an object runs there under this name
  pub record RunsAt (k : ℕ) : Type 0 where
    pub o : Object
    pub at : object_at k h.seats ≡ Some o
    pub named : name ≡ o.called
    pub inside : k < length h.seats

  called_so : (place : Option Object) → is_seated name (option_map member_of place) ≡ true → (o : Object) × (place ≡ Some o) × (name ≡ o.called)
  called_so None is = cc
  called_so (Some o) is = (o, refl, (bytes_eq-Decides name o.called).0 is)

  pub runs_there : (k : ℕ) → Some k ≡ seat_of name e.seats → RunsAt k
  runs_there k is =
      let there = found (is_seated name) e.seats k None is in
      let so = called_so (object_at k h.seats) (ap (is_seated name) (sym (place_shown h.seats k)) ∙ there.1) in
      record { o = so.0; at = so.1; named = so.2; inside = subst (λ n. k < n) (length-map h.seats (option_map member_of)) there.0 }

  pub is_there : (s : Option ℕ) (k : ℕ) → s ≡ seat_of name e.seats → s ≡ Some k → IsSome (object_at k h.seats)
  is_there s k searched is = subst IsSome (sym (runs_there k (sym is ∙ searched)).at) refl

  unlike_so : (place : Option Object) → is_seated name (option_map member_of place) ≡ false → IfSome place (λ (there : Object). is_named name there.called ≡ false)
  unlike_so None is = tt
  unlike_so (Some there) is = is

  unlike : None ≡ seat_of name e.seats → (other : ℕ) → IfSome (object_at other h.seats) (λ (there : Object). is_named name there.called ≡ false)
  unlike none other = unlike_so (object_at other h.seats) (ap (is_seated name) (sym (place_shown h.seats other)) ∙ nowhere (is_seated name) e.seats 0 other None (sym none) refl)

  nobody_there : (place : Option Object) → is_none (option_map member_of place) ≡ true → place ≡ None
  nobody_there None is = refl
  nobody_there (Some o) is = cc

  is_free : (k : ℕ) → Some k ≡ free_seat e.seats → object_at k h.seats ≡ None
  is_free k is = nobody_there (object_at k h.seats) (ap is_none (sym (place_shown h.seats k)) ∙ (found is_none e.seats k None is).1)

  -- a spare of this name
  record SpareAt (i : ℕ) : Type 0 where
    less : i < length h.stock
    named : name ≡ (spare_in h.stock i).called
    holds_none : (spare_in h.stock i).seat ≡ None

  spare_there : (i : ℕ) → Some i ≡ spare_of name e.stock → SpareAt i
  spare_there i is =
      let there = found (is_called name) e.stock i no_member is in
      let inside : i < length h.stock = subst (λ n. i < n) (length-map h.stock member_of) there.0 in
      record {
        less = inside;
        named = (bytes_eq-Decides name (spare_in h.stock i).called).0 (ap (is_called name) (sym (shown_in member_of h.stock i no_object no_member inside)) ∙ there.1);
        holds_none = All-get_or (λ (spare : Object). spare.seat ≡ None) h.stock i no_object inside whole.spares;
      }

  -- the first one is known, where that is asked for
  known_spare : (i : ℕ) → Some i ≡ spare_of name e.stock → IsKnownSpare (Some name) h.stock → IsKnown (spare_in h.stock i)
  known_spare i is known =
      subst (λ (o : Option Object). IfSome o IsKnown) (found_first (λ (spare : Object). is_named name spare.called) h.stock i no_object (is ∙ spare_by_name name h.stock)) known

  -- ---- start

  abbrev started_by : Option ℕ → Option ℕ → Option ℕ → Result (Written (List ℕ)) Refusal
  started_by s i k =
      if not (is_none s) then refused 123
      else (found_or i 122 >>= (λ i. found_or k 124 >>= (λ k. Ok (begun_on on_board h.services.moment k (spare_at e.stock i) (without_spare i e)))))

  module _ (s : Option ℕ) (searched : s ≡ seat_of name e.seats) where
    nowhere_so : is_some s ≡ false → s ≡ None
    nowhere_so is = by_place s is
      where
        by_place : (x : Option ℕ) → is_some x ≡ false → x ≡ None
        by_place None is = refl
        by_place (Some k) is = cc

    start_by : is_some s ≡ false → (i k : Option ℕ) → i ≡ spare_of name e.stock → k ≡ free_seat e.seats → outcome_of Start name h ≡ started_by None i k
    start_by is i k spares free = λ j. started_by ((sym searched ∙ nowhere_so is) j) (sym spares j) (sym free j)

    module _ (is : is_some s ≡ false) (i k : Option ℕ) (place : ℕ) (spares : i ≡ spare_of name e.stock) (there : i ≡ Some place) (free : k ≡ free_seat e.seats) where
      pub start_ready : (seat : ℕ) → k ≡ Some seat → IsPrepared (ordered Start name) (outcome_of Start name h) h h (Spare place seat)
      start_ready seat at = record {
        whole = stays_so h h whole.seated whole.idle refl refl refl refl;
        stock = refl;
        may = (
          spare.less,
          record {
            free = is_free seat (sym at ∙ free);
            spare = spare.holds_none;
            unused = λ other. subst (λ n. IfSome (object_at other h.seats) (λ (there : Object). is_named n there.called ≡ false)) spare.named (unlike (sym (nowhere_so is) ∙ searched) other);
          },
        );
        known = λ known. known;
        exact = λ asked. record { next_known = known_spare place (sym there ∙ spares) asked.1; outgoing = whole.idle; step = start_by is i k spares free ∙ (λ j. started_by None (there j) (at j)) };
      }
        where
          spare : SpareAt place
          spare = spare_there place (sym there ∙ spares)

  -- ---- stop, restart, reload

  module _ (s : Option ℕ) (searched : s ≡ seat_of name e.seats) where
    abbrev stopped_by : Option ℕ → Result (Written (List ℕ)) Refusal
    stopped_by s = found_or s 121 >>= (λ k. Ok (left_from k e, []))

    abbrev restarted_by : Option ℕ → Result (Written (List ℕ)) Refusal
    restarted_by s = found_or s 121 >>= (λ k. Ok (begun_on on_board h.services.moment k (seated e.seats k) (left_from k e)))

    abbrev reloaded_by : Option ℕ → Option ℕ → Result (Written (List ℕ)) Refusal
    reloaded_by s i = found_or s 121 >>= (λ k. found_or i 122 >>= (λ i. Ok (begun_on on_board h.services.moment k (spare_at e.stock i) (without_spare i (left_from k e)))))

    module _ (k : ℕ) (there : s ≡ Some k) where
      runs : RunsAt k
      runs = runs_there k (sym there ∙ searched)

      module _ (new : Hosted) (gone : Object) (left : HasWithdrawn k h new gone) where
        was_so : member_of runs.o ≡ member_of gone
        was_so = subst (λ (x : Option Object). IfSome x (λ (there : Object). member_of there ≡ member_of gone)) runs.at left.was

        known_gone : IsKnownOnSeat (Some name) h.seats → gone.state ≢ Other
        known_gone known other =
            subst (λ (x : Option Object). IfSome x (λ (there : Object). is_named name there.called ≡ true → IsKnown there)) runs.at (known k)
            ((bytes_eq-Decides name runs.o.called).1 runs.named) (ap (λ (m : Member). m.state) was_so ∙ other)

        leaves : IsKnownOnSeat (Some name) h.seats → LeavesExactly k h new
        leaves known = left.exact (known_gone known)

        known_then : AreKnown h → AreKnown new
        known_then known = λ other. rw left.seats
            (fact_at_set (λ i (x : Option Object). IfSome x (λ (there : Object). there.state ≢ Other)) h.seats k other None None runs.inside tt (λ i another. known i))

        differ : (n : Name) → n ≡ runs.o.called → (other : ℕ) → other ≢ k → (place : Option Object) → object_at other h.seats ≡ place → IfSome place (λ (there : Object). is_named n there.called ≡ false)
        differ n same other another None at = tt
        differ n same other another (Some there) at = by_test (is_named n there.called) refl
          where
            by_test : (b : Bool) → is_named n there.called ≡ b → b ≡ false
            by_test true is =
                absurd (another (whole.seated.own n other k (ap (option_map (λ (x : Object). x.called)) at ∙ ap Some (sym ((bytes_eq-Decides n there.called).0 is)))
                (ap (option_map (λ (x : Object). x.called)) runs.at ∙ ap Some (sym same))))
            by_test false is = refl

        -- an object of the same name may take the seat
        may_begin : (o : Object) → o.seat ≡ None → o.called ≡ runs.o.called → MayBegin k new o
        may_begin o none same = record {
          free = ap (λ (seats : List (Option Object)). object_at k seats) left.seats ∙ get_or-set_same h.seats k None None runs.inside;
          spare = none;
          unused = λ other. rw left.seats
              (fact_at_set (λ i (x : Option Object). IfSome x (λ (there : Object). is_named o.called there.called ≡ false)) h.seats k other None None runs.inside tt
              (λ i another. differ o.called same i another (object_at i h.seats) refl));
        }

        pub stop_ready : IsPrepared (ordered Stop name) (outcome_of Stop name h) h new Nobody
        stop_ready = record {
          whole = left.whole;
          stock = left.stock;
          may = tt;
          known = known_then;
          exact = λ asked. let gone_so = leaves asked.0 in record {
            next_known = tt;
            outgoing = gone_so.outgoing;
            step = ap stopped_by (sym searched ∙ there) ∙ ap (λ (x : Executive (List ℕ)). Ok (x, [])) (sym gone_so.executive);
          };
        }

        pub restart_ready : IsPrepared (ordered Restart name) (outcome_of Restart name h) h new (Same gone k)
        restart_ready = record {
          whole = left.whole;
          stock = left.stock;
          may = may_begin gone left.spare (ap (λ (m : Member). m.called) (sym was_so));
          known = known_then;
          exact = λ asked. let gone_so = leaves asked.0 in record {
            next_known = known_gone asked.0;
            outgoing = gone_so.outgoing;
            step = ap restarted_by (sym searched ∙ there)
                ∙ (λ j. Ok (begun_on on_board (sym left.whole.moment j) k ((seated_is h.seats k runs.o runs.inside runs.at ∙ was_so) j) (sym gone_so.executive j)));
          };
        }

        pub reload_ready : (i : Option ℕ) (place : ℕ) → i ≡ spare_of name e.stock → i ≡ Some place → IsPrepared (ordered Reload name) (outcome_of Reload name h) h new (Spare place k)
        reload_ready i place spares at = record {
          whole = left.whole;
          stock = left.stock;
          may = subst (λ (stock : List Object). (place < length stock) × MayBegin k new (spare_in stock place)) (sym left.stock) (spare.less, may_begin (spare_in h.stock place) spare.holds_none (sym spare.named ∙ runs.named));
          known = known_then;
          exact = λ asked. let gone_so = leaves asked.0 in record {
            next_known = rw left.stock (known_spare place (sym at ∙ spares) asked.1);
            outgoing = gone_so.outgoing;
            step = (λ j. reloaded_by ((sym searched ∙ there) j) ((sym spares ∙ at) j))
                ∙ (λ j. Ok (begun_on on_board (sym left.whole.moment j) k (spare_at (sym gone_so.executive j).stock place) (without_spare place (sym gone_so.executive j))));
          };
        }
          where
            spare : SpareAt place
            spare = spare_there place (sym at ∙ spares)
