-- Examples of the host in numbers, computed: whole runs are in `worked_examples`.
use Rattle.std.specs.Prelude.{◌≡◌, [], ◌∷◌, codes, refl, Some}
use Rattle.std.specs.Fmt.{digits}
use Rattle.lc_model.specs.declared.record.Moment.{Moment}
use Rattle.lc_model.specs.declared.rule.EventKind.TheVariants.{Error}
use Rattle.lc_model.specs.Name.{host_name}
use Rattle.lc_model.specs.Tables.InForce.{layouts}
use Rattle.lc_model.specs.Tables.HalvesAndBytes.{as_bytes}
use Rattle.lc_model.specs.Events.Outgoing.{event_packet}
use Rattle.lc_model.specs.Host.React.{Packet}
use Rattle.lc_model.specs.Kept.Executive.{step_by, first_executive}
use Rattle.lc_model.specs.Kept.Stations.{first_host, stop_at, host_step}

then : Moment
then = record { seconds = 100; subseconds = 0 }

-- a packet of one byte leads to HOST's event and nothing else
short_packet : (step_by (as_bytes layouts) then (first_executive []) (Packet (1 ∷ []))).1 ≡ event_packet 0 then host_name 1 Error (codes "bad packet 1") ∷ []
unfolding digits then
short_packet = refl

-- a writer that takes 167 of its 168 bytes has failed
one_byte_short : (host_step (as_bytes layouts) then 167 (first_host []) (Packet (1 ∷ []))).1 ≡ Some 167
unfolding digits then stop_at
one_byte_short = refl
