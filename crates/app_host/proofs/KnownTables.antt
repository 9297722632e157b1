-- Where all objects that have tables are this profile's, each registered table is one of the Limit Checker's two.
use Rattle.std.proofs.Common.{◌≡◌, ◌≢◌, refl, ap, ◌∙◌, ℕ, suc, List, [], ◌∷◌, map, Option, Some, None, inl, inr, subst, sym}
use Rattle.std.specs.Prelude.{◌⊎◌, IfSome, slice_index_or}
use Rattle.std.specs.List.{AllByRecursion}
use Rattle.lc_model.specs.Kept.Summary.{AppState, LcState, SchState, CounterState, Other}
use Rattle.lc_model.specs.Services.Settled.{Form, form_of, wdt_form, adt_form, Settled}
use Rattle.lc_model.specs.Services.Tables.{Table, tables_at}
use Rattle.lc_model.specs.Services.Interface.{IsFreeSeat}
use Rattle.host_refinement.specs.Commands.{HasKnownForm}
use Rattle.app_host.specs.declared.services.Services.{Services}
use Rattle.app_host.specs.Shared.{held_by}
use Rattle.app_host.specs.Hosted.{Object, Hosted, object_at}
use Rattle.app_host.specs.Whole.{IsRunning, AreSeated}
use Rattle.app_host.specs.Party.{AreKnownHolders}

-- ---- forms

abbrev IsKnownForm : Form → Type 0
IsKnownForm form = (form ≡ wdt_form) ⊎ (form ≡ adt_form)

known_by_form : (tables : List Table) (forms : List Form) → map form_of tables ≡ forms → AllByRecursion IsKnownForm forms → AllByRecursion HasKnownForm tables
known_by_form [] forms same known = tt
known_by_form (table ∷ tables) [] same known = cc
known_by_form (table ∷ tables) (form ∷ forms) same known =
    let first : form_of table ≡ form = cc in
    let others : map form_of tables ≡ forms = cc in
    (subst IsKnownForm (sym first) known.0, known_by_form tables forms others known.1)

own_tables : (state : AppState) (seat : ℕ) (s : Services) → state ≢ Other → Settled state seat (held_by s) → AllByRecursion HasKnownForm (tables_at seat s.tables.places)
own_tables (LcState own) seat s this settled = known_by_form (tables_at seat s.tables.places) (wdt_form ∷ adt_form ∷ []) settled.tables (inl refl, (inr refl, tt))
own_tables (SchState schedule slot) seat s this settled = known_by_form (tables_at seat s.tables.places) [] settled.tables tt
own_tables (CounterState count) seat s this settled = known_by_form (tables_at seat s.tables.places) [] settled.tables tt
own_tables Other seat s this settled = absurd (this refl)

-- ---- seats

known_at : (seat : ℕ) (s : Services) (o : Option Object) → IfSome o (IsRunning s seat) → (o ≡ None → IsFreeSeat seat (held_by s)) → (tables_at seat s.tables.places ≢ [] → IfSome o (λ (o : Object). o.state ≢ Other)) →
    AllByRecursion HasKnownForm (tables_at seat s.tables.places)
known_at seat s None running free this = known_by_form (tables_at seat s.tables.places) [] (ap (map form_of) (free refl).tables) tt
known_at seat s (Some o) running free this = by_tables (tables_at seat s.tables.places) refl
  where
    by_tables : (tables : List Table) → tables_at seat s.tables.places ≡ tables → AllByRecursion HasKnownForm (tables_at seat s.tables.places)
    by_tables [] is = subst (AllByRecursion HasKnownForm) (sym is) tt
    by_tables (table ∷ tables) is = own_tables o.state seat s (this (λ none. let clash : [] ≡ table ∷ tables = sym none ∙ is in cc)) running.home.settled

all_places : {A : Type 0} (P : List A → Type 0) (places : List (List A)) → ((seat : ℕ) → P (slice_index_or places seat [])) → AllByRecursion P places
all_places P [] each = tt
all_places P (tables ∷ places) each = (each 0, all_places P places (λ seat. each (suc seat)))

pub known_tables : (h : Hosted) → AreSeated h.seats h.services → AreKnownHolders h → AllByRecursion (λ (tables : List Table). AllByRecursion HasKnownForm tables) h.services.tables.places
known_tables h seated known =
    all_places (λ (tables : List Table). AllByRecursion HasKnownForm tables) h.services.tables.places
    (λ seat. known_at seat h.services (object_at seat h.seats) (seated.running seat) (seated.free seat) (known seat))
