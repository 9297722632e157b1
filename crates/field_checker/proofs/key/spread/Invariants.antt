use Rattle.std.proofs.Common.{◌≡◌, take, fold}
use Rattle.field_checker.specs.Index.{begin, spread_with}
use Rattle.field_checker.proofs.key.spread.Given as goal

abbrev pub invariant-loop-byte : goal.invariant-loop-byte
invariant-loop-byte l = l.number ≡ fold spread_with begin (take l.byte-index l.name)
