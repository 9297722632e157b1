-- An object stays at home on its seat.
use Rattle.std.proofs.Common.{◌≡◌, refl, sym, subst, ℕ, List, Option, Some, None}
use Rattle.std.specs.Prelude.{IfSome}
use Rattle.lc_model.specs.declared.record.Moment.{Moment}
use Rattle.lc_model.specs.Name.{Name}
use Rattle.lc_model.specs.Tables.HalvesAndBytes.{as_bytes}
use Rattle.lc_model.specs.Tables.InForce.{layouts}
use Rattle.lc_model.specs.Kept.Summary.{AppState, LcState, SchState, CounterState, Other}
use Rattle.lc_model.specs.Kept.Call.{ServicesNow, Called, next_start, next_on_packet}
use Rattle.lc_model.specs.Kept.GoesWith.{GoesWith, MayStart}
use Rattle.lc_model.specs.Services.Interface.{IsStarted, IsGiven}
use Rattle.host_refinement.specs.Calls.{StartsGoWith, PacketsKeep}
use Rattle.lc_model.specs.Services.Settled.{Settled}
use Rattle.app_host.specs.declared.services.Services.{Services}
use Rattle.app_host.specs.Shared.{on_board, held_by, shared}
use Rattle.app_host.specs.Calls.{IsObject, IsAtHome, Leaves}

-- what goes with the services that a call leaves goes with these
left_so : (state : AppState) (services : ServicesNow (List ℕ)) (called : Called (List ℕ)) → state ≡ called.state → services ≡ called.services →
    GoesWith on_board called.state called.services → GoesWith on_board state services
left_so state services called becomes is goes =
    subst (λ s. GoesWith on_board s services) (sym becomes) (subst (GoesWith on_board called.state) (sym is) goes)

-- the law of starts, and that of packets, on board
abbrev StartsHere : Type 0
StartsHere = (moment : Moment) (state : AppState) (services : ServicesNow (List ℕ)) → MayStart state →
    IfSome (next_start on_board moment state services) (λ (called : Called (List ℕ)). GoesWith on_board called.state called.services)

starts_here : StartsGoWith (as_bytes layouts) → StartsHere
unfolding on_board
starts_here law = law

abbrev PacketsHere : Type 0
PacketsHere = (moment : Moment) (state : AppState) (packet : List ℕ) (services : ServicesNow (List ℕ)) → GoesWith on_board state services →
    IfSome (next_on_packet on_board moment state packet services) (λ (called : Called (List ℕ)). GoesWith on_board called.state called.services)

packets_here : PacketsKeep (as_bytes layouts) → PacketsHere
unfolding on_board
packets_here law = law

-- both at once
both : (o : Option (Called (List ℕ))) (seat : ℕ) (state : AppState) (before after : Services) → IfSome o (Leaves seat state before after) →
    IfSome o (λ (called : Called (List ℕ)). GoesWith on_board called.state called.services) → (o ≡ None → GoesWith on_board state (shared after)) → GoesWith on_board state (shared after)
both None seat state before after leaves goes otherwise = otherwise refl
both (Some called) seat state before after leaves goes otherwise = left_so state (shared after) called leaves.becomes leaves.services goes

unknown_goes : (state : AppState) (services : ServicesNow (List ℕ)) → state ≡ Other → GoesWith on_board state services
unknown_goes state services is = subst (λ s. GoesWith on_board s services) (sym is) tt

never_none : {A : Type 0} {P : Type 0} (x : A) → Some x ≡ None → P
never_none x e = cc

-- an object that started
pub started_is_home : StartsGoWith (as_bytes layouts) → (seat : ℕ) (name : Name) (old state : AppState) (before after : Services) → IsObject old name →
    IsStarted seat name (held_by before) (held_by after) → IfSome (next_start on_board before.moment old (shared before)) (Leaves seat state before after) →
    Settled state seat (held_by after) → (old ≡ Other → state ≡ Other) → IsAtHome state name seat after
started_is_home law seat name old state before after object started leaves settled other = record {
  belongs = started.belongs;
  settled = settled;
  goes = both (next_start on_board before.moment old (shared before)) seat state before after leaves (starts_here law before.moment old (shared before) object.may_start)
      (λ none. unknown_goes state (shared after) (other (only_unknown old none)));
}
  where
    only_unknown : (old : AppState) → next_start on_board before.moment old (shared before) ≡ None → old ≡ Other
    only_unknown (LcState own) e = never_none _ e
    only_unknown (SchState schedule slot) e = never_none _ e
    only_unknown (CounterState count) e = never_none _ e
    only_unknown Other e = refl

-- an object that had a packet
pub given_is_home : PacketsKeep (as_bytes layouts) → (seat : ℕ) (name : Name) (packet : List ℕ) (old state : AppState) (before after : Services) → IsAtHome old name seat before →
    IsGiven seat name packet (held_by before) (held_by after) → IfSome (next_on_packet on_board before.moment old packet (shared before)) (Leaves seat state before after) →
    Settled state seat (held_by after) → (old ≡ Other → state ≡ Other) → IsAtHome state name seat after
given_is_home law seat name packet old state before after home given leaves settled other = record {
  belongs = given.belongs;
  settled = settled;
  goes = both (next_on_packet on_board before.moment old packet (shared before)) seat state before after leaves (packets_here law before.moment old packet (shared before) home.goes)
      (λ none. unknown_goes state (shared after) (other (only_unknown old none)));
}
  where
    only_unknown : (old : AppState) → next_on_packet on_board before.moment old packet (shared before) ≡ None → old ≡ Other
    only_unknown (LcState own) e = never_none _ e
    only_unknown (SchState schedule slot) e = never_none _ e
    only_unknown (CounterState count) e = never_none _ e
    only_unknown Other e = refl
