-- Objects that are known: at first, and behind each record.
use Rattle.std.proofs.Common.{◌≡◌, ◌≢◌, refl, sym, ap, subst, ℕ, zero, suc, ◌==◌, Bool, true, false, cond, List, [], ◌∷◌, map, replicate, get_or, Option, Some, None, arith}
use Rattle.std.specs.Prelude.{option_map, All, Contains, find, slice_index_or, IfSome, IsTrue}
use Rattle.std.specs.List.{AllByRecursion, list_any}
use Rattle.std.proofs.lemmas.List.Elements.{All-head, All-tail, All-contains}
use Rattle.lc_model.specs.Name.{Name, is_named}
use Rattle.lc_model.specs.Tables.HalvesAndBytes.{as_bytes}
use Rattle.lc_model.specs.Tables.InForce.{layouts}
use Rattle.lc_model.specs.Host.Schedule.{Schedule}
use Rattle.lc_model.specs.Kept.Summary.{AppState, LcState, SchState, CounterState, Other}
use Rattle.lc_model.specs.Kept.Executive.{Member, Pipe}
use Rattle.lc_model.specs.Kept.Stations as model
use Rattle.lc_model.specs.Kept.Stations.{first_host}
use Rattle.lc_model.specs.Services.Bus.{seen}
use Rattle.host_refinement.specs.Keeping as keeping
use Rattle.host_refinement.specs.Keeping.{IsSpare}
use Rattle.app_host.specs.Hosted.{Object, Hosted, in_numbers, member_of, object_at}
use Rattle.app_host.specs.Whole.{IsKnown}
use Rattle.app_host.specs.Party.{Party, Hearers, Waiting, Holders, Only, scheduled_mids, AreKnownHearers, IsKnownOnSeat, IsKnownSpare, AreKnownIn}
use Rattle.flight_core.specs.Flight.{AreAllKnown}

-- ---- at first

not_other : (schedule : Schedule) (member : Member) → IsSpare (as_bytes layouts) schedule member → member.state ≢ Other
not_other schedule member spare other = by_state member.state other spare
  where
    by_state : (state : AppState) → state ≡ Other → keeping.IsOfProfile (as_bytes layouts) schedule member.called state → ⊥
    by_state (LcState own) e is = absurd (cc e)
    by_state (SchState own slot) e is = absurd (cc e)
    by_state (CounterState count) e is = absurd (cc e)
    by_state Other e is = is

pub all_not_other : (schedule : Schedule) (members : List Member) → AllByRecursion (IsSpare (as_bytes layouts) schedule) members → AllByRecursion (λ (member : Member). member.state ≢ Other) members
all_not_other schedule [] all = tt
all_not_other schedule (member ∷ members) all = (not_other schedule member all.0, all_not_other schedule members all.1)

spares_known : (stock : List Object) → AllByRecursion (λ (member : Member). member.state ≢ Other) (map member_of stock) → All IsKnown stock
spares_known [] all k d less = absurd (omega (arith, less))
spares_known (spare ∷ stock) all zero d less = all.0
spares_known (spare ∷ stock) all (suc k) d less = spares_known stock all.1 k d (omega (arith, less))

no_seat : (n : ℕ) (seats : List (Option Object)) (seat : ℕ) → map (option_map member_of) seats ≡ replicate n None → object_at seat seats ≡ None
no_seat n [] seat is = refl
no_seat zero (place ∷ seats) seat is = absurd (cc is)
no_seat (suc n) (None ∷ seats) zero is = refl
no_seat (suc n) (None ∷ seats) (suc seat) is = let rest : map (option_map member_of) seats ≡ replicate n None = cc is in no_seat n seats seat rest
no_seat (suc n) (Some o ∷ seats) seat is = let clash : Some (member_of o) ≡ None = cc is in absurd (cc clash)

pub known_first : (h : Hosted) (members : List Member) → in_numbers h ≡ first_host members → AllByRecursion (λ (member : Member). member.state ≢ Other) members → AreAllKnown h
known_first h members is all = record {
  spares = spares_known h.stock (subst (AllByRecursion (λ (member : Member). member.state ≢ Other)) (sym (ap (λ (x : model.Host (List ℕ)). x.executive.stock) is)) all);
  seated = λ seat. subst (λ o. IfSome o IsKnown) (sym (no_seat 8 h.seats seat (ap (λ (x : model.Host (List ℕ)). x.executive.seats) is))) tt;
}

-- ---- who takes part in a record

found_known : (test : Object → Bool) (stock : List Object) → All IsKnown stock → IfSome (find test stock) IsKnown
found_known test [] all = tt
found_known test (o ∷ stock) all = by_test (test o) (found_known test stock (All-tail IsKnown o stock all))
  where
    by_test : (b : Bool) → IfSome (find test stock) IsKnown → IfSome (cond b (Some o) (find test stock)) IsKnown
    by_test true rest = All-head IsKnown o stock all
    by_test false rest = rest

spare_known : (name : Option Name) (stock : List Object) → All IsKnown stock → IsKnownSpare name stock
spare_known None stock all = tt
spare_known (Some name) stock all = found_known (λ (spare : Object). is_named name spare.called) stock all

seat_known : (name : Option Name) (seats : List (Option Object)) → ((seat : ℕ) → IfSome (object_at seat seats) IsKnown) → IsKnownOnSeat name seats
seat_known None seats all = tt
seat_known (Some name) seats all = λ seat. by_place (object_at seat seats) (all seat)
  where
    by_place : (place : Option Object) → IfSome place IsKnown → IfSome place (λ (o : Object). is_named name o.called ≡ true → IsKnown o)
    by_place None known = tt
    by_place (Some o) known = λ named. known

heard_by_known : (mid : ℕ) (pipe : Option Pipe) (place : Option Object) → IfSome place IsKnown → IfSome pipe (λ (p : Pipe). IsTrue (list_any (λ own. mid == own) p.subscriptions) → IfSome place IsKnown)
heard_by_known mid None place known = tt
heard_by_known mid (Some pipe) place known = λ subscribed. known

hearers_known : (mids : List ℕ) (h : Hosted) → ((seat : ℕ) → IfSome (object_at seat h.seats) IsKnown) → AllByRecursion (AreKnownHearers h) mids
hearers_known [] h all = tt
hearers_known (mid ∷ mids) h all = ((λ seat. heard_by_known mid (slice_index_or (seen h.services.bus) seat None) (object_at seat h.seats) (all seat)), hearers_known mids h all)

pub party_known : (party : Party) (h : Hosted) → AreAllKnown h → AreKnownIn party h
party_known (Hearers mids) h all = hearers_known mids h all.seated
party_known Waiting h all = record { waiting = λ seat some. all.seated seat; scheduled = λ some. hearers_known scheduled_mids h all.seated }
party_known Holders h all = λ seat some. all.seated seat
party_known (Only leaving coming) h all = (seat_known leaving h.seats all.seated, spare_known coming h.stock all.spares)

-- and where none is new, all are
pub still_known : (old new : List Object) → All IsKnown old → All (Contains old) new → All IsKnown new
still_known old new all among k d less = All-contains IsKnown old (get_or new k d) all (among k d less)
