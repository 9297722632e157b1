-- What is declared with the texts that are left is what all declare.
use Rattle.std.proofs.Common.{◌≡◌, drop, map}
use Rattle.rpn_compiler.specs.TextParts.{items_in}
use Rattle.scenarios.specs.Declarations.{nothing_declared}
use Rattle.scenarios.proofs.TextsDeclare.{all_declared}
use Rattle.scenarios.proofs.declared.declared_in.Given as goal

abbrev pub invariant-loop-number : goal.invariant-loop-number
invariant-loop-number l =
    all_declared l.number (map items_in (drop l.number l.texts)) l.declared ≡ all_declared 0 (map items_in l.texts) nothing_declared
