use Rattle.std.proofs.Common.{◌≡◌, drop}
use Rattle.std.specs.Prelude.{bytes_eq}
use Rattle.std.specs.List.{list_any}
use Rattle.rule_lints.specs.Words.{texts_of}
use Rattle.rule_lints.proofs.comments.is_among.Given as goal

abbrev pub invariant-loop-other : goal.invariant-loop-other
invariant-loop-other l = list_any (bytes_eq l.name) (texts_of l.names) ≡ list_any (bytes_eq l.name) (texts_of (drop l.other-index l.names))
