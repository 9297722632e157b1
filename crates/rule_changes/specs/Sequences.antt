-- How often two texts request a sequence. This project's own.
use Rattle.std.specs.Prelude.{◌≡◌, ◌⊎◌, ℕ, ◌≤◌, ◌==◌, Bool, List, Option, Some, None, ⊤}
use Rattle.lc_model.specs.Condition.{Condition}
use Rattle.lc_model.specs.Rule.{Actionpoint, NamedRule, actions}
use Rattle.lc_model.specs.Laws.Lagging.{IsTrueOnlyWhere}
use Rattle.rule_changes.specs.declared.sequences.RequestedSequence.{RequestedSequence}
use Rattle.rule_changes.specs.declared.sequences.SequenceChange.{SequenceChange}
use Rattle.rule_changes.specs.declared.sequences.SequenceChange.TheVariants as change
use Rattle.rule_changes.specs.Runs.{RequestsAlike, RequestsNoSooner, RequestsNone, AreAlikeFor, AreNoSoonerFor}

-- The set of one sequence.
abbrev pub is_sequence : ℕ → (ℕ → Bool)
is_sequence number = λ other. other == number

-- A claim about a sequence, by the rules of both texts. The laws of `Runs` carry it to runs.
abbrev pub IsSequenceChange : (old new : List NamedRule) → (number : ℕ) → SequenceChange → Type 0
IsSequenceChange old new number change.Same = AreAlikeFor (is_sequence number) (actions old) (actions new)
IsSequenceChange old new number change.NoMoreOften = AreNoSoonerFor (is_sequence number) (actions old) (actions new)
IsSequenceChange old new number change.NoLessOften = AreNoSoonerFor (is_sequence number) (actions new) (actions old)
IsSequenceChange old new number change.Unknown = ⊤

-- The claim of a listed sequence.
abbrev pub IsRequested : (old new : List NamedRule) → RequestedSequence → Type 0
IsRequested old new listed = IsSequenceChange old new listed.sequence listed.change

-- ---- rules of the same number

-- The numbers of failures that two rules count.
abbrev pub CountsFit : SequenceChange → (old new : ℕ) → Type 0
CountsFit change.Same old new = old ≡ new
CountsFit change.NoMoreOften old new = old ≤ new
CountsFit change.NoLessOften old new = new ≤ old
CountsFit change.Unknown old new = ⊤

-- The conditions of two rules.
abbrev pub ConditionsFit : SequenceChange → (old new : Condition) → Type 0
ConditionsFit change.Same old new = IsTrueOnlyWhere new old × IsTrueOnlyWhere old new
ConditionsFit change.NoMoreOften old new = IsTrueOnlyWhere new old
ConditionsFit change.NoLessOften old new = IsTrueOnlyWhere old new
ConditionsFit change.Unknown old new = ⊤

-- Two rules.
abbrev pub RulesFit : SequenceChange → (old new : Actionpoint) → Type 0
RulesFit change.Same old new = RequestsAlike old new
RulesFit change.NoMoreOften old new = RequestsNoSooner old new
RulesFit change.NoLessOften old new = RequestsNoSooner new old
RulesFit change.Unknown old new = ⊤

-- If there is a rule, it requests no sequence of the set.
abbrev pub IsNoneOf : (ℕ → Bool) → Option NamedRule → Type 0
IsNoneOf wanted None = ⊤
IsNoneOf wanted (Some rule) = RequestsNone wanted rule.action

-- None of the two rules requests a sequence of the set, as far as that matters.
abbrev pub AreNoneOf : SequenceChange → (ℕ → Bool) → (old new : Option NamedRule) → Type 0
AreNoneOf change.Same wanted old new = IsNoneOf wanted old × IsNoneOf wanted new
AreNoneOf change.NoMoreOften wanted old new = IsNoneOf wanted new
AreNoneOf change.NoLessOften wanted old new = IsNoneOf wanted old
AreNoneOf change.Unknown wanted old new = ⊤

-- Both texts have a rule, and the two fit; or none of them matters.
abbrev pub BothFit : SequenceChange → (old new : Option NamedRule) → Type 0
BothFit claim (Some old) (Some new) = RulesFit claim old.action new.action
BothFit claim old new = ⊥

abbrev pub IsFitAt : SequenceChange → (ℕ → Bool) → (old new : Option NamedRule) → Type 0
IsFitAt claim wanted old new = BothFit claim old new ⊎ AreNoneOf claim wanted old new
