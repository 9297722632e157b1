-- What an object of this profile has on its seat, from its start to its retirement. The tables follow the cFS Limit Checker
-- user's guide; names, sizes and seats are this project's own.
use Rattle.std.specs.Prelude.{◌≡◌, ℕ, ⊤, List, [], ◌∷◌, map, Option, Some, None, option_map}
use Rattle.lc_model.specs.declared.kind.Kind.TheVariants.{Wdt, Adt}
use Rattle.lc_model.specs.Name.{Name}
use Rattle.lc_model.specs.Tables.File.{table_name}
use Rattle.lc_model.specs.Tables.Image.{Watchpoints, Actionpoints, WideActionpoints, image_length}
use Rattle.lc_model.specs.Kept.Summary.{AppState, LcState, SchState, CounterState, Other}
use Rattle.lc_model.specs.Kept.Executive.{Pipe}
use Rattle.lc_model.specs.Kept.GoesWith.{own_name, subscriptions_of}
use Rattle.lc_model.specs.Services.Events.{Sender, sender_at}
use Rattle.lc_model.specs.Services.Tables.{Table, tables_at}
use Rattle.lc_model.specs.Services.Interface.{Held, seen_at}

-- How a table is registered: its name, and the one or two image sizes that it takes.
pub record Form : Type 0 where
  pub name : Name
  pub size : ℕ
  pub other : Option ℕ

-- How this table was registered.
abbrev pub form_of : Table → Form
form_of table = record { name = table.name; size = table.size; other = table.other }

-- LC's WDT.
abbrev pub wdt_form : Form
wdt_form = record { name = table_name Wdt; size = image_length Watchpoints; other = None }

-- LC's ADT, in version 1 or 2.
abbrev pub adt_form : Form
adt_form = record { name = table_name Adt; size = image_length Actionpoints; other = Some (image_length WideActionpoints) }

-- The tables of each application, in the order in which it registers them.
abbrev pub own_forms : AppState → List Form
own_forms (LcState own) = wdt_form ∷ adt_form ∷ []
own_forms (SchState schedule slot) = []
own_forms (CounterState count) = []
own_forms Other = []

-- On its seat the object has an event sender under its own name, its tables, and a pipe with the subscriptions that its state
-- gives.
pub record IsSettled (state : AppState) (seat : ℕ) (held : Held) : Type 0 where
  pub sender : option_map (λ (sender : Sender). sender.name) (sender_at (Some seat) held.events) ≡ Some (own_name state)
  pub tables : map form_of (tables_at seat held.tables.places) ≡ own_forms state
  pub pipe : option_map (λ (pipe : Pipe). pipe.subscriptions) (seen_at seat held) ≡ Some (subscriptions_of state)

-- The object has on its seat what `IsSettled` lists; nothing is claimed of an object of another profile.
abbrev pub Settled : AppState → ℕ → Held → Type 0
Settled Other seat held = ⊤
Settled state seat held = IsSettled state seat held

-- An object of this profile has its kind's name.
abbrev pub IsNamedAs : AppState → Name → Type 0
IsNamedAs Other name = ⊤
IsNamedAs state name = name ≡ own_name state
