-- The services as contracts see them.
use Rattle.std.specs.Prelude.{ℕ, List}
use Rattle.lc_model.specs.declared.record.Moment.{Moment}
use Rattle.lc_model.specs.Tables.Interpretation.{Interpretation}
use Rattle.lc_model.specs.Tables.HalvesAndBytes.{as_bytes}
use Rattle.lc_model.specs.Tables.InForce.{layouts}
use Rattle.lc_model.specs.Kept.Call.{ServicesNow}
use Rattle.lc_model.specs.Services.Interface.{Held}
use Rattle.lc_model.specs.Services.Seen.{services_seen}
use Rattle.app_host.specs.declared.services.Services.{Services}

-- The host's reading of images: by their bytes.
unfoldable pub on_board : Interpretation (List ℕ)
on_board = as_bytes layouts

-- The services by seats.
abbrev pub held_by : Services → Held
held_by s = record { bus = s.bus; events = s.events; tables = s.tables; moment = s.moment; outgoing = s.outgoing }

-- The services by names, as the model has them.
unfoldable pub shared : Services → ServicesNow (List ℕ)
shared s = services_seen s.events s.tables s.counts

-- The services with another moment.
abbrev pub at_moment : Moment → Services → Services
at_moment moment s = record s { moment = moment }
