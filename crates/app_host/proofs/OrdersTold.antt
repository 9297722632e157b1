-- What HOST sends of its own for an order, behind the applications.
use Rattle.std.proofs.Common.{◌≡◌, ap, refl, sym, ◌∙◌, subst, inl, inr, ◌⊎◌, ℕ, ◌<◌, ◌≤◌, List, length, take, map, arith, length-append, if◌then◌else◌, Option, Some, Result, Ok}
use Rattle.std.specs.Prelude.{option_map}
use Rattle.std.specs.Io.KnownBytes.{Appends}
use Rattle.std.proofs.lemmas.List.{take-append-le, append-nil}
use Rattle.lc_model.specs.declared.record.Moment.{Moment}
use Rattle.lc_model.specs.Device.{Sink}
use Rattle.lc_model.specs.Packet.{function_code}
use Rattle.lc_model.specs.Refusal.{Refusal}
use Rattle.lc_model.specs.Events.Request.{Request, executive_services, command_done}
use Rattle.lc_model.specs.Services.Events.{EventService}
use Rattle.lc_model.specs.Services.Tables.{TableService}
use Rattle.lc_model.proofs.Facts.{test_less}
use Rattle.app_host.specs.declared.services.Services.{Services}
use Rattle.app_host.specs.Hosted.{Object, Hosted}
use Rattle.app_host.specs.Roster.{Comer, Again, Succession, ComesTo, name_of, roster_of}
use Rattle.app_host.specs.Turn.{Turn, without_comer, ComesAs, HasTurned}
use Rattle.app_host.specs.Response.{Response, obeying_orders, asked_by_host, HasCalled, RespondsWithCount, RespondsPart}
use Rattle.app_host.specs.Writing.{written_off, IsFlushed, IsAllSent, IsPartSent}
use Rattle.app_host.specs.Told.{HasTold}
use Rattle.app_host.specs.Ordered.{Next, Nobody, Spare, Same, comer_of, gone_in, seated_next, IsAgain, HasMadeWay, HasCome, HasStayed, HasEntered, HasNotEntered}
use Rattle.app_host.proofs.Course.{taken_both, cut_behind}
use Rattle.app_host.proofs.Rosters.{same_roster, roster_still}
use Rattle.app_host.proofs.Responding.{by_less}

module _ (packet : List ℕ) (Gone : ℕ → Type 0) (old ready : Hosted) (next : Next) (answer : Result Succession Refusal) (made : HasMadeWay Gone answer old ready next) where
  abbrev moment : Moment
  moment = old.services.moment

  abbrev response : Response
  response = obeying_orders packet old (Ok made.succession)

  response_is : obeying_orders packet old answer ≡ response
  response_is = ap (obeying_orders packet old) made.is

  abbrev request : Request
  request = command_done executive_services (function_code packet)

  -- what the applications have sent, and that HOST's own filters stayed
  abbrev called_with : (new : Hosted) (theirs : List ℕ) (behind : EventService) → length theirs ≤ 131072 → behind.host ≡ old.services.events.host → new.calls ≡ 0 → HasCalled moment response old new
  called_with new theirs behind small own none_yet = record {
    theirs = theirs;
    behind = behind;
    own = own;
    few = omega (arith, small);
    none_given = λ given. none_yet;
    alone = λ none. absurd (omega (arith, none));
    heard = tt;
    gone = made.gone;
  }

  -- ---- who left, and who came

  abbrev turn : Turn
  turn = record { leaves = made.succession.leaves; comes = made.succession.comes }

  -- who comes again is the one that left
  again_so : (n : Next) (object : Option Object) (before after : Services) (seats now : List (Option Object)) → IsAgain n object → ComesAs (comer_of n) ready.stock (gone_in n) before after seats now →
      ComesAs (comer_of n) ready.stock object before after seats now
  again_so Nobody object before after seats now again came = came
  again_so (Spare place seat) object before after seats now again came = came
  again_so (Same o seat) object before after seats now again came = subst (λ x. ComesAs (Again seat) ready.stock x before after seats now) (sym again) came

  module _ (mid new : Hosted) (theirs : List ℕ) (behind : EventService) (events : behind ≡ mid.services.events) (bus : new.services.bus ≡ mid.services.bus)
      (tables : new.services.tables ≡ mid.services.tables) (counts : new.services.counts ≡ mid.services.counts) (seats : new.seats ≡ mid.seats) where
    turned_by : HasCome next ready mid theirs → HasTurned turn moment old new theirs behind
    turned_by come = record {
      after = ready.services;
      later = come.later;
      gone = made.object;
      left = made.left_as;
      come = subst (λ (x : Comer × List Object × List (Option Object) × List (Option Object)). ComesAs x.0 x.1 made.object (written_off ready.services) come.later x.2 x.3)
          (λ i. (made.comes i, made.stock i, made.seats i, sym seats i))
          (again_so next made.object (written_off ready.services) come.later ready.seats mid.seats made.again come.came);
      sent = come.sent;
      events = events ∙ ap (λ (s : Services). s.events) come.services;
      bus = bus ∙ ap (λ (s : Services). s.bus) come.services;
      tables = tables ∙ ap (λ (s : Services). s.tables) come.services;
      counts = counts ∙ ap (λ (s : Services). s.counts) come.services;
    }

    stayed_by : HasStayed ready mid theirs → HasTurned (without_comer turn) moment old new theirs behind
    stayed_by stay = record {
      after = ready.services;
      later = written_off ready.services;
      gone = made.object;
      left = made.left_as;
      come = (refl, seats ∙ stay.seats ∙ made.seats);
      sent = stay.sent ∙ sym (append-nil ready.services.outgoing);
      events = events ∙ ap (λ (s : Services). s.events) stay.services;
      bus = bus ∙ ap (λ (s : Services). s.bus) stay.services;
      tables = tables ∙ ap (λ (s : Services). s.tables) stay.services;
      counts = counts ∙ ap (λ (s : Services). s.counts) stay.services;
    }

  -- ---- the application's output was cut

  module _ (new : Hosted) (before now : Option (List ℕ)) (sent : ℕ) (cut : HasNotEntered next sent ready new before now) (none_yet : new.calls ≡ 0) where
    own_in : {wanted : _} → ComesTo wanted ready new → (new.services.events.host ≡ old.services.events.host) × (new.services.tables.files ≡ old.services.tables.files)
    own_in comes = (comes.host ∙ made.left.host, comes.files ∙ made.left.files)

    own_then : (new.services.events.host ≡ old.services.events.host) × (new.services.tables.files ≡ old.services.tables.files)
    own_then = by_place cut.own
      where
        by_place : ComesTo (seated_next next (roster_of ready)) ready new ⊎ ComesTo (roster_of ready) ready new → (new.services.events.host ≡ old.services.events.host) × (new.services.tables.files ≡ old.services.tables.files)
        by_place (inl comes) = own_in comes
        by_place (inr comes) = own_in comes

    who_then : (roster_of new ≡ response.come) ⊎ ((roster_of new ≡ response.left) × (sent < length cut.theirs))
    who_then = by_place cut.own
      where
        by_place : ComesTo (seated_next next (roster_of ready)) ready new ⊎ ComesTo (roster_of ready) ready new → (roster_of new ≡ response.come) ⊎ ((roster_of new ≡ response.left) × (sent < length cut.theirs))
        by_place (inl comes) = inl (comes.roster ∙ made.come)
        by_place (inr comes) = inr (comes.roster ∙ made.left.roster, cut.fewer)

    turned_then : HasTurned turn moment old new cut.theirs new.services.events ⊎ (HasTurned (without_comer turn) moment old new cut.theirs new.services.events × (sent < length cut.theirs))
    turned_then = by_place cut.come
      where
        by_place : HasCome next ready new cut.theirs ⊎ HasStayed ready new cut.theirs →
            HasTurned turn moment old new cut.theirs new.services.events ⊎ (HasTurned (without_comer turn) moment old new cut.theirs new.services.events × (sent < length cut.theirs))
        by_place (inl come) = inl (turned_by new new cut.theirs new.services.events refl refl refl refl refl come)
        by_place (inr stay) = inr (stayed_by new new cut.theirs new.services.events refl refl refl refl refl stay, cut.fewer)

    abbrev told : List ℕ
    told = (asked_by_host moment (Some request) new.services.events).1

    pub responds_broken : RespondsPart moment (obeying_orders packet old answer) sent old new before now
    responds_broken = subst (λ r. RespondsPart moment r sent old new before now) (sym response_is) (record {
      called = called_with new cut.theirs new.services.events cut.small own_then.0 none_yet;
      fewer = omega (arith, cut.fewer, length-append cut.theirs told);
      gains = subst (Appends before now) (sym (take-append-le sent cut.theirs told (omega (arith, cut.fewer)))) cut.gains;
      events = sym (ap (λ b. if b then new.services.events else (asked_by_host moment (Some request) new.services.events).0) (test_less sent (length cut.theirs) cut.fewer));
      files = own_then.1;
      roster = who_then;
      turned = turned_then;
    })

  -- ---- HOST tells

  module _ (one two new : Hosted) (before mid : Option (List ℕ)) (after now : Sink) (sent : ℕ) (entered : HasEntered next sent ready one before mid) (small : sent ≤ 131072) (same : after.gained ≡ mid)
      (moment_one : one.services.moment ≡ old.services.moment) (asked : Request) (is : asked ≡ request) (told : HasTold asked one two) (flushed : IsFlushed two new)
      (none_yet : one.calls ≡ 0) where
    abbrev packet_then : EventService × List ℕ
    packet_then = asked_by_host moment (Some request) one.services.events

    asked_is : asked_by_host one.services.moment (Some asked) one.services.events ≡ packet_then
    asked_is = λ i. asked_by_host (moment_one i) (Some (is i)) one.services.events

    sends : two.services.outgoing ≡ packet_then.1
    sends = told.sends ∙ ap (λ (p : EventService × List ℕ). p.1) asked_is

    events_then : new.services.events ≡ packet_then.0
    events_then = ap (λ (s : Services). s.events) flushed.services ∙ told.events ∙ ap (λ (p : EventService × List ℕ). p.0) asked_is

    files_then : new.services.tables.files ≡ old.services.tables.files
    files_then = ap (λ (s : Services). s.tables.files) flushed.services ∙ ap (λ (t : TableService). t.files) told.tables ∙ entered.own.files ∙ made.left.files

    who : roster_of new ≡ response.come
    who = roster_still two new flushed ∙ same_roster one two told.stock (ap (map (option_map name_of)) told.seats) ∙ entered.own.roster ∙ made.come

    abbrev called : HasCalled moment response old new
    called = called_with new entered.theirs one.services.events (omega (arith, entered.count, small)) (entered.own.host ∙ made.left.host) (flushed.calls ∙ told.calls ∙ none_yet)

    first : Appends before after.gained entered.theirs
    first = subst (λ (m : Option (List ℕ)). Appends before m entered.theirs) (sym same) entered.gains

    turned : HasTurned turn moment old new entered.theirs one.services.events
    turned = turned_by one new entered.theirs one.services.events refl
        (ap (λ (s : Services). s.bus) flushed.services ∙ told.bus) (ap (λ (s : Services). s.tables) flushed.services ∙ told.tables)
        (ap (λ (s : Services). s.counts) flushed.services ∙ told.counts) (flushed.seats ∙ told.seats) entered.come

    pub responds_done : (total : ℕ) → IsAllSent sent two new after now total → RespondsWithCount moment (obeying_orders packet old answer) total old new before now.gained
    responds_done total all = subst (λ r. RespondsWithCount moment r total old new before now.gained) (sym response_is) (record {
      responds = record {
        called = called;
        gains = taken_both before after.gained now.gained entered.theirs packet_then.1 first (subst (Appends after.gained now.gained) sends all.gains);
        events = events_then;
        files = files_then;
        roster = who;
        turned = turned;
      };
      count = omega (arith, entered.count, all.count, ap length sends, length-append entered.theirs packet_then.1);
    })

    pub responds_partly : (total : ℕ) → IsPartSent sent two new after now total → RespondsPart moment (obeying_orders packet old answer) total old new before now.gained
    responds_partly total part = subst (λ r. RespondsPart moment r total old new before now.gained) (sym response_is) (record {
      called = called;
      fewer = omega (arith, entered.count, part.count, part.fewer, ap length sends, length-append entered.theirs packet_then.1);
      gains = subst (Appends before now.gained) (sym (cut_behind sent part.taken total entered.theirs packet_then.1 part.count entered.count))
          (taken_both before after.gained now.gained entered.theirs (take part.taken packet_then.1) first
          (subst (λ bytes. Appends after.gained now.gained (take part.taken bytes)) sends part.gains));
      events = events_then ∙ sym (by_less total (length entered.theirs) one.services.events packet_then.0 (omega (arith, entered.count, part.count)));
      files = files_then;
      roster = inl who;
      turned = inl turned;
    })
