use Rattle.std.proofs.Common.{refl, rules}
use Rattle.packet_bus.proofs.Fresh.{fresh}
use Rattle.packet_bus.proofs.bus.Bus.new.Goals as goal

pub invariant_of-result : goal.invariant_of-result
invariant_of-result c =
    (rw (c.in_ok-empty_places.ensures.places, c.in_ok-new.ensures, c.in_ok-empty_rows.ensures.rows, c.new-2.ensures, c.new-3.ensures) (fresh 576 8192 refl), search rules, search rules)
