-- Which line is written of a rule, by what was found of it. This project's own.
use Rattle.std.specs.Prelude.{Bool, true, false}
use Rattle.rule_analysis.specs.declared.finding.Finding.{Finding}
use Rattle.rule_analysis.specs.declared.finding.Finding.TheVariants as finding
use Rattle.analysis_listing.specs.declared.said.RuleFindings.{RuleFindings}
use Rattle.analysis_listing.specs.declared.said.RuleFindings.TheVariants as said

-- nothing that may be seen does
abbrev pub is_never : Finding → Bool
is_never finding.Never = true
is_never other = false

-- the kinds of lines
pub data Line : Type 0 where
  FailsAndPasses : Line
  NeverFails : Line
  AlwaysFails : Line
  NeverPasses : Line
  FailsUnknown : Line
  PassesUnknown : Line

-- a rule that never fails is said to, whatever else is known; so is one that never passes; where one of the two isn't known,
-- that is said
abbrev pub line_of : (fails passes : Finding) → Line
line_of finding.Never passes = NeverFails
line_of (finding.Possible packets) finding.Never = AlwaysFails
line_of (finding.Possible packets) (finding.Possible others) = FailsAndPasses
line_of (finding.Possible packets) (finding.Unknown reason) = PassesUnknown
line_of (finding.Unknown reason) finding.Never = NeverPasses
line_of (finding.Unknown reason) (finding.Possible packets) = FailsUnknown
line_of (finding.Unknown reason) (finding.Unknown other) = FailsUnknown

-- the line's kind
abbrev pub kind_of : RuleFindings → Line
kind_of (said.FailsAndPasses fails passes) = FailsAndPasses
kind_of (said.NeverFails passes) = NeverFails
kind_of (said.AlwaysFails fails) = AlwaysFails
kind_of said.NeverPasses = NeverPasses
kind_of (said.FailsUnknown reason) = FailsUnknown
kind_of (said.PassesUnknown reason) = PassesUnknown
