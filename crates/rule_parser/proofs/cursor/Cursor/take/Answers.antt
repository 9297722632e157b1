use Rattle.std.proofs.Common.{sym, ◌∙◌}
use Rattle.rule_parser.specs.Front.{class_of}
use Rattle.rule_parser.proofs.TokenFronts.{nothing_there, taken_there}
use Rattle.rule_parser.proofs.cursor.Cursor.take.Goals as goal

pub returns-then-not-begins : goal.returns-then-not-begins
returns-then-not-begins c = nothing_there (class_of c.args.kind) _ (sym c.begins.ensures ∙ c.if-not-begins.true)

pub returns : goal.returns
returns c = taken_there (class_of c.args.kind) _ _ c.next.result c.next.ensures (sym c.begins.ensures ∙ c.if-not-begins.false)
