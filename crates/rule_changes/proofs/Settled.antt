-- What a decision says of the question that it was asked.
use Rattle.std.proofs.Common.{◌≡◌, ℕ, ◌+◌, ◌≤◌, min, true, false, List, length, length-append, ap, ◌∙◌, subst, arith, Vec}
use Rattle.std.specs.Global.{Global}
use Rattle.std.specs.List.{list_any}
use Rattle.lc_model.specs.declared.field.Term.{Term}
use Rattle.lc_model.specs.Condition.{Condition, Watch, Not, Join, And, Or, Xor}
use Rattle.lc_model.specs.Tables.Equation.{mentions}
use Rattle.lc_model.specs.Laws.Lagging.{IsTrueOnlyWhere}
use Rattle.rule_analysis.specs.declared.deciding.Decision.{Decision}
use Rattle.rule_analysis.specs.declared.deciding.Decision.TheVariants.{Never, Holds, Spent}
use Rattle.rule_analysis.specs.Findings.{IsDecided}
use Rattle.rule_analysis.specs.declared.fields.Field.{Field}
use Rattle.rule_analysis.specs.Judgement.{HoldsForSome}
use Rattle.rule_analysis.specs.Steps.{AreFewFor}
use Rattle.rule_analysis.proofs.StepLaws.{few_by_distinct}
use Rattle.rule_changes.specs.Known.{IsTied, only_first, is_of_no_packet, lifted_size, most_comparisons, terms_of_both}
use Rattle.rule_changes.specs.ConditionChanges.{SomeQuestion, least_steps}
use Rattle.rule_changes.proofs.Tied.{never_tied, some_question}

pub with_fewer : (c : Condition) (d : Decision) (given least : ℕ) → least ≤ given → IsDecided c given d → IsDecided c least d
with_fewer c Never given least fewer is = is
with_fewer c (Holds fields bits) given least fewer is = is
with_fewer c Spent given least fewer few = λ named all. let below = few named all in omega (arith, below, fewer)

-- ---- the terms of a question

mentions_are_few : (c : Condition) → length (mentions c) ≤ lifted_size c
mentions_are_few (Watch t) = omega arith
mentions_are_few (Not c) = mentions_are_few c
mentions_are_few (Join And a b) = omega (arith, length-append (mentions a) (mentions b), mentions_are_few a, mentions_are_few b)
mentions_are_few (Join Or a b) = omega (arith, length-append (mentions a) (mentions b), mentions_are_few a, mentions_are_few b)
mentions_are_few (Join Xor a b) = omega (arith, length-append (mentions a) (mentions b), mentions_are_few a, mentions_are_few b)

pub terms_are_few : (a b : Condition) (terms : List Term) (n m : ℕ) → terms ≡ terms_of_both a b → n ≡ min (lifted_size a) (most_comparisons + 1) →
    m ≡ min (lifted_size b) (most_comparisons + 1) → n + m ≤ most_comparisons → length terms ≤ most_comparisons
terms_are_few a b terms n m are n_is m_is below =
    let count : length terms ≡ length (mentions a) + length (mentions b) = ap length are ∙ length-append (mentions a) (mentions b) in
    omega (arith, count, mentions_are_few a, mentions_are_few b, n_is, m_is, below)

-- ---- what a decision says

-- the decision of a question with ties
pub never_decided : (terms : List Term) (first second question made : Condition) (d : Decision) → list_any is_of_no_packet terms ≡ false →
    terms ≡ terms_of_both first second → question ≡ only_first terms true first second → IsTied terms question made → d ≡ Never →
    IsDecided made least_steps d → IsTrueOnlyWhere first second
never_decided terms first second question made d none are asks tied is decided =
    never_tied terms first second question made none are asks tied (subst (IsDecided made least_steps) is decided)

pub spent : (terms : List Term) (first second question made : Condition) (d : Decision) → terms ≡ terms_of_both first second →
    question ≡ only_first terms true first second → IsTied terms question made → d ≡ Spent → IsDecided made least_steps d →
    SomeQuestion first second (λ asked. AreFewFor asked least_steps)
spent terms first second question made d are asks tied is decided =
    some_question terms first second question made (λ asked. AreFewFor asked least_steps) are asks tied
    (few_by_distinct made least_steps (subst (IsDecided made least_steps) is decided))

pub unshown : (terms : List Term) (first second question made : Condition) (d : Decision) (fields : Vec Field Global) (bits : Vec ℕ Global) →
    terms ≡ terms_of_both first second → question ≡ only_first terms true first second → IsTied terms question made → d ≡ Holds fields bits →
    IsDecided made least_steps d → SomeQuestion first second HoldsForSome
unshown terms first second question made d fields bits are asks tied is decided =
    some_question terms first second question made HoldsForSome are asks tied (subst (IsDecided made least_steps) is decided).some

-- the same of the question whether the first one can be false where the second one is not
pub never_false : (terms : List Term) (first second question : Condition) (d : Decision) → list_any is_of_no_packet terms ≡ false →
    terms ≡ terms_of_both first second → question ≡ only_first terms false first second → d ≡ Never → IsDecided question least_steps d →
    IsTrueOnlyWhere (Not first) (Not second)
never_false terms first second question d none are asks is decided =
    never_decided terms (Not first) (Not second) question question d none are asks IsTied.free is decided
