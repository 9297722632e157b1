-- An object gave its seat back, and may take it again.
use Rattle.std.proofs.Common.{◌≡◌, ◌≢◌, ap, sym, ◌∙◌, subst, ℕ, ◌<◌, [], Option, Some, None}
use Rattle.std.specs.Prelude.{IfSome, IsSomeAnd, IsSome, option_map, slice_set}
use Rattle.lc_model.specs.Kept.Summary.{Other}
use Rattle.lc_model.specs.Kept.Executive.{is_ready}
use Rattle.lc_model.specs.Laws.TablesByName.{TablesAreFound}
use Rattle.lc_model.specs.Services.Bus.{seen_pipe}
use Rattle.lc_model.specs.Services.Tables.{IsTableService}
use Rattle.app_host.specs.declared.services.Services.{Services}
use Rattle.app_host.specs.Hosted.{Object, Hosted, object_at, member_of}
use Rattle.app_host.specs.Objects.{MayRetire, HasRetired}
use Rattle.app_host.specs.Whole.{IsRunning, AreSeated}
use Rattle.app_host.specs.Left.{HasVacated, LeavesExactly}
use Rattle.app_host.specs.Ordered.{HasWithdrawn}
use Rattle.app_host.proofs.Rules.{seen_of_place}
use Rattle.app_host.proofs.Departed.{has_vacated}
use Rattle.app_host.proofs.Begun.{still_quiet}

-- the object of a seat may retire
pub may_withdraw : (seat : ℕ) (s : Services) (place : Option Object) → s.outgoing ≡ [] → IfSome place (IsRunning s seat) → IsSome place → IsSomeAnd place (MayRetire seat s)
may_withdraw seat s None idle running there = cc
may_withdraw seat s (Some o) idle running there = record { holds = running.holds; home = running.home; idle = idle }

-- by what was at the place
pub has_withdrawn : TablesAreFound → (old new : Hosted) (seat : ℕ) (o' : Object) (place : Option Object) → object_at seat old.seats ≡ place → AreSeated old.seats old.services → old.services.outgoing ≡ [] →
    IsTableService old.services.tables → IsTableService new.services.tables → seat < 8 → IsSome place → IfSome place (λ (o : Object). HasRetired seat old.services new.services o o') →
    new.seats ≡ slice_set old.seats seat None → new.stock ≡ old.stock → new.is_closed ≡ old.is_closed → new.calls ≡ old.calls → HasWithdrawn seat old new o'
has_withdrawn law old new seat o' None at seated idle sound sound' below there left seats stock closed calls = cc
has_withdrawn law old new seat o' (Some o) at seated idle sound sound' below there left seats stock closed calls = record {
  whole = record {
    is_closed = vacated.is_closed;
    calls = vacated.calls;
    moment = vacated.moment;
    seated = vacated.seated;
    quiet = still_quiet seat old.services new.services left.rules.call.pipes (ap is_ready (seen_of_place seat new.services.bus ∙ ap (option_map seen_pipe) left.rules.free.pipe));
    fits = vacated.fits;
  };
  stock = stock;
  seats = seats;
  spare = left.holds;
  was = subst (λ (x : Option Object). IfSome x (λ (there : Object). member_of there ≡ member_of o')) (sym at) same;
  retired = subst (λ (x : Option Object). IsSomeAnd x (λ (there : Object). HasRetired seat old.services new.services there o')) (sym at) left;
  exact = λ known. exactly (λ other. known (left.state ∙ other));
}
  where
    vacated : HasVacated seat old new
    vacated = has_vacated law old new seat seated idle sound sound' below stock seats closed calls (Some o) at (record { rules = left.rules; exact = left.exact })

    same : member_of o ≡ member_of o'
    same = λ i. record { called = sym left.name i; state = sym left.state i }

    exactly : (o.state ≢ Other) → LeavesExactly seat old new
    exactly = subst (λ (x : Option Object). IfSome x (λ (y : Object). y.state ≢ Other → LeavesExactly seat old new)) at vacated.exact
