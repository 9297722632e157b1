-- The memory of a host.
use Rattle.std.specs.Borrow.{RattleType}
use Rattle.std.specs.Mem.{FitsInMemory}
use Rattle.app_host.specs.contracts.host.Host.{the_row}

-- A host of these applications has fewer than 2 ^ 63 bytes.
abbrev pub HostFits : RattleType → Type 0
HostFits B = FitsInMemory (the_row B)
