use Rattle.std.proofs.Common.{take}
use Rattle.rule_parser.specs.Syntax.{items_of}
use Rattle.field_checker.specs.Index.{IsIndexOf}
use Rattle.field_checker.proofs.names.Names.new.Given as goal

abbrev pub invariant-loop-item : goal.invariant-loop-item
invariant-loop-item l = IsIndexOf l.index (items_of (take l.item-index l.items))
