-- Which types of events are on for the Limit Checker. This project's own.
use Rattle.std.specs.Prelude.{ℕ, Bool, List}
use Rattle.lc_model.specs.declared.rule.EventKind.{EventKind}
use Rattle.lc_model.specs.Kept.Executive.{Executive}
use Rattle.lc_model.specs.Name.{lc_name}
use Rattle.event_service.specs.Types.{is_type_on}

-- whether events of this type are on for the application of the Limit Checker's name; off if none of that name is registered
abbrev pub is_type_of_checker_on : EventKind → Executive (List ℕ) → Bool
is_type_of_checker_on kind now = is_type_on kind (now.services.events lc_name)
