-- The application gives its seat back.
use Rattle.std.proofs.Common.{◌≡◌, refl, ap, sym, ◌∙◌, ℕ, List, [], ◌∷◌, map, Option, Some, None}
use Rattle.std.specs.Prelude.{IfSome}
use Rattle.lc_model.specs.declared.kind.Kind.TheVariants.{Wdt, Adt}
use Rattle.lc_model.specs.Laws.TablesByName.{UnregisteringTables, withdrawn}
use Rattle.lc_model.specs.Name.{lc_name}
use Rattle.lc_model.specs.Tables.File.{table_name}
use Rattle.lc_model.specs.Kept.Summary.{LcOwn, LcState}
use Rattle.lc_model.specs.Kept.Call.{with_at, next_retire}
use Rattle.lc_model.specs.Services.Interface.{IsRetired}
use Rattle.lc_model.specs.Services.Seen.{slot_among}
use Rattle.lc_model.specs.Services.Settled.{Form, form_of}
use Rattle.lc_model.specs.Services.Tables.{Table, IsTableService, tables_at}
use Rattle.app_host.specs.declared.services.Services.{Services}
use Rattle.app_host.specs.Shared.{held_by, shared}
use Rattle.app_host.specs.Seating.{IsClosed}
use Rattle.app_host.specs.Calls.{LeavesEmpty}
use Rattle.app_host.specs.Statements.{ClosingRetires, ClosingLeaves}
use Rattle.limit_checker.specs.Application.{IsHome}

pub retires : ClosingRetires → (place : Option ℕ) (before after : Services) → IfSome place (λ seat. IsClosed seat before after) → before.outgoing ≡ [] →
    IfSome place (λ seat. IsRetired seat lc_name (held_by before) (held_by after))
retires law None before after closed idle = tt
retires law (Some seat) before after closed idle = law seat lc_name before after closed idle

names_of_forms : (tables : List Table) → map (λ (form : Form). form.name) (map form_of tables) ≡ map (λ (table : Table). table.name) tables
names_of_forms [] = refl
names_of_forms (table ∷ tables) = ap (λ names. table.name ∷ names) (names_of_forms tables)

pub slots_are : (s : Services) → slot_among s.tables.places ≡ (shared s).slots
unfolding shared
slots_are s = refl

pub leaves_empty : ClosingLeaves → UnregisteringTables → (place : Option ℕ) (own : LcOwn) (before after : Services) → IsTableService before.tables → IsHome place own before →
    IfSome place (λ seat. IsClosed seat before after) → before.outgoing ≡ [] →
    IfSome place (λ seat. IfSome (next_retire (LcState own) (shared before)) (LeavesEmpty seat before after))
leaves_empty law tables_go None own before after sound home closed idle = tt
leaves_empty law tables_go (Some seat) own before after sound home closed idle =
    law seat lc_name before after closed idle home.settled.sender (with_at (table_name Adt) None (with_at (table_name Wdt) None (shared before).slots))
    (tables_go seat before.tables sound
    ∙ (λ i. withdrawn (names i) (slots_are before i)))
  where
    names : map (λ (table : Table). table.name) (tables_at seat before.tables.places) ≡ table_name Wdt ∷ table_name Adt ∷ []
    names = sym (names_of_forms (tables_at seat before.tables.places)) ∙ ap (map (λ (form : Form). form.name)) home.settled.tables
