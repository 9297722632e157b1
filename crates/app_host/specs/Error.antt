-- The numbers of the executive's errors. This project's own.
use Rattle.std.specs.Prelude.{ℕ, Option, Some, None}
use Rattle.app_host.specs.declared.error.HostError.{HostError}
use Rattle.app_host.specs.declared.error.HostError.TheVariants.{NoSuchApp, NoSpare, AlreadyRunning, TooManyApps, Memory}
use Rattle.lc_model.specs.Refusal.{not_running, no_spare, already_running, no_free_seat}

-- The error's refusal number; lack of memory has none.
abbrev pub error_code : HostError → Option ℕ
error_code NoSuchApp = Some not_running
error_code NoSpare = Some no_spare
error_code AlreadyRunning = Some already_running
error_code TooManyApps = Some no_free_seat
error_code Memory = None
