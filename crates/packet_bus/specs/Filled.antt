-- The buffer of a receiver.
use Rattle.std.specs.Prelude.{ℕ, List, ◌++◌, length, drop, Option, Some, None}

-- The buffer after `receive`: the packet stands at its start, and the bytes after the packet are unchanged; without a packet
-- all are.
abbrev pub filled : Option (List ℕ) → List ℕ → List ℕ
filled None buffer = buffer
filled (Some packet) buffer = packet ++ drop (length packet) buffer
