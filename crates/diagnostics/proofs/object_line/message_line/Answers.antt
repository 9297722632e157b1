use Rattle.std.proofs.Common.{ap, ◌∙◌}
use Rattle.serde_json.specs.Written.{has_float}
use Rattle.diagnostics.proofs.Whole.{message_has_none}
use Rattle.diagnostics.proofs.object_line.message_line.Goals as goal

pub line_of-requires : goal.line_of-requires
line_of-requires c = ap has_float c.in_ok-object.ensures ∙ message_has_none c.args.file.now c.args.text.now c.args.message.now
