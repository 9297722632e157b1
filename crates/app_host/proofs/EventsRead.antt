-- A command to the event services, as it is read.
use Rattle.std.proofs.Common.{◌≡◌, ap, sym, ◌∙◌, ℕ, List, length, if◌then◌else◌, Result, Ok}
use Rattle.lc_model.specs.Name.{Name}
use Rattle.lc_model.specs.Refusal.{Refusal, refused}
use Rattle.lc_model.specs.Events.Log.{LogItem}
use Rattle.lc_model.specs.Command.{of_length}
use Rattle.lc_model.specs.Services.Events.{EventService, commanded}
use Rattle.lc_model.proofs.Facts.{test_equal}
use Rattle.app_host.specs.Obeyed.{events_by}

-- a payload of its length
pub of_size : (size : ℕ) (payload : List ℕ) (command : Name × LogItem) (service : EventService) (r : Result EventService Refusal) → length payload ≡ size →
    r ≡ commanded command.0 command.1 service → r ≡ events_by (of_length size payload command) service
of_size size payload command service r long is = is ∙ sym (ap (λ b. events_by (if b then Ok command else refused 152) service) (test_equal (length payload) size long))
