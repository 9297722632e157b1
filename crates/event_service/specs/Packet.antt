-- Fields within bytes.
use Rattle.std.specs.Prelude.{ℕ, ◌+◌, List, ◌++◌, length, take, drop, Option, Some, None}

-- The bytes with `field` written over them from place `at` on.
abbrev pub laid : ℕ → List ℕ → List ℕ → List ℕ
laid at field bytes = take at bytes ++ (field ++ drop (at + length field) bytes)

-- The bytes, followed by the packet if there is one.
abbrev pub with_packet : List ℕ → Option (List ℕ) → List ℕ
with_packet bytes None = bytes
with_packet bytes (Some packet) = bytes ++ packet
