-- A packet with a single subscriber, which gets it without a copy.
use Rattle.std.specs.Prelude.{ℕ, List}
use Rattle.lc_model.specs.Services.Bus.{published_as}
use Rattle.app_host.specs.Hosted.{Hosted}

-- The host with `packet` published, as the only waiting publication.
abbrev pub with_packet : List ℕ → Hosted → Hosted
with_packet packet h = record h { services = record h.services { bus = published_as 0 packet h.services.bus } }
