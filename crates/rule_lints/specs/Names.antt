-- The names of warnings. This project's own.
use Rattle.std.specs.Prelude.{ℕ, List, codes}
use Rattle.rule_lints.specs.declared.lint.Lint.{Lint}
use Rattle.rule_lints.specs.declared.lint.Lint.TheVariants as lint

abbrev pub name_of : Lint → List ℕ
name_of lint.NoRules = codes "no-rules"
name_of lint.UnusedField = codes "unused-field"
name_of lint.UnusedPacket = codes "unused-packet"
name_of lint.SameMessageId = codes "same-message-id"
name_of lint.OverlappingFields = codes "overlapping-fields"
name_of lint.DebugEvent = codes "debug-event"
name_of lint.SameSequence = codes "same-sequence"
name_of lint.NeverFails = codes "never-fails"
name_of lint.AlwaysFails = codes "always-fails"
name_of lint.NeverPasses = codes "never-passes"
name_of lint.NotKnown = codes "not-known"
name_of lint.ConstantComparison = codes "constant-comparison"
name_of lint.FailsAlike = codes "fails-alike"
name_of lint.FailsWherever = codes "fails-wherever"
name_of lint.SpareComparison = codes "spare-comparison"
name_of lint.NeverSampled = codes "never-sampled"
name_of lint.UnusedQuiet = codes "unused-quiet"
