-- The parts of event texts.
use Rattle.lc_model.specs.Events.Request.{Service as Kept, table_services, event_services, executive_services}
use Rattle.app_host.specs.declared.texts.Service.{Service}
use Rattle.app_host.specs.declared.texts.Service.TheVariants.{Tables, Events, Applications}

-- The service with its title and event ids.
abbrev pub service_titled : Service → Kept
service_titled Tables = table_services
service_titled Events = event_services
service_titled Applications = executive_services
