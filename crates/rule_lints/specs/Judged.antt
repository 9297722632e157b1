-- The warnings of what is judged of rules before any packet comes. This project's own.
use Rattle.std.specs.Prelude.{ℕ, zero, suc, Bool, true, false, not, ◌&&◌, ◌||◌, ◌==◌, if◌then◌else◌, List, [], ◌∷◌, ◌++◌, filter_map, find, flat_map, fold, length, slice_get, Option, Some, None, option_map}
use Rattle.std.specs.List.{list_any}
use Rattle.std.specs.Option.{option_map_or}
use Rattle.std.specs.Ordering.{int_eq}
use Rattle.lc_model.specs.declared.field.Term.{Term}
use Rattle.lc_model.specs.Tables.Equation.{same_term}
use Rattle.lc_model.specs.Text.Syntax.{Expression, Compare, Not, Join, RuleItem, Item, Packet, Field, Rule}
use Rattle.rule_analysis.specs.declared.finding.ComparisonJudgement.{ComparisonJudgement}
use Rattle.rule_analysis.specs.declared.finding.Constancy.{Constancy}
use Rattle.rule_analysis.specs.declared.finding.Constancy.TheVariants as constancy
use Rattle.rule_analysis.specs.declared.finding.PairJudgement.{PairJudgement}
use Rattle.rule_analysis.specs.declared.finding.Relation.{Relation}
use Rattle.rule_analysis.specs.declared.finding.Relation.TheVariants as relation
use Rattle.rule_analysis.specs.declared.finding.RuleJudgement.{RuleJudgement}
use Rattle.rule_analysis.specs.declared.finding.SpareComparison.{SpareComparison}
use Rattle.analysis_listing.specs.Said as said
use Rattle.analysis_listing.specs.Said.{Line, is_never, line_of}
use Rattle.rule_lints.specs.declared.lint.Lint.{Lint}
use Rattle.rule_lints.specs.declared.lint.Lint.TheVariants as lint
use Rattle.rule_lints.specs.declared.warning.Warning.{Warning}
use Rattle.rule_lints.specs.Items.{warn_if}

-- ---- the rules of a text

abbrev pub rule_in : Item → Option RuleItem
rule_in (Packet p) = None
rule_in (Field f) = None
rule_in (Rule r) = Some r

abbrev pub rules_among : List Item → List RuleItem
rules_among = filter_map rule_in

-- the rule of this number, and the place of its name
abbrev pub rule_at : List Item → ℕ → Option RuleItem
rule_at items number = slice_get (rules_among items) number

abbrev pub name_at : List Item → ℕ → Option ℕ
name_at items number = option_map (λ (r : RuleItem). r.name.at) (rule_at items number)

-- the places of a condition's comparisons, from left to right
abbrev pub places : Expression → List ℕ
places (Compare field op value) = field.at ∷ []
places (Not e) = places e
places (Join o a b) = places a ++ places b

-- ---- a rule by itself

-- this warning, if there is one, and if there is such a place
abbrev pub warn_of : Option Lint → (at about : ℕ) → List Warning
warn_of None place number = []
warn_of (Some which) place number = record { lint = which; at = place; about = number } ∷ []

abbrev pub warn_at : Option ℕ → Lint → (about : ℕ) → List Warning
warn_at None which number = []
warn_at (Some place) which number = record { lint = which; at = place; about = number } ∷ []

abbrev pub lint_of : Line → Option Lint
lint_of said.FailsAndPasses = None
lint_of said.NeverFails = Some lint.NeverFails
lint_of said.AlwaysFails = Some lint.AlwaysFails
lint_of said.NeverPasses = Some lint.NeverPasses
lint_of said.FailsUnknown = Some lint.NotKnown
lint_of said.PassesUnknown = Some lint.NotKnown

-- the comparison says the same of all numbers
abbrev pub is_constant : Constancy → Bool
is_constant constancy.Always = true
is_constant constancy.Never = true
is_constant constancy.Varies = false

abbrev pub of_comparison : ℕ → Option ℕ → Option ComparisonJudgement → List Warning
of_comparison number (Some place) (Some j) = warn_if (is_constant j.says) lint.ConstantComparison place number
of_comparison number place j = []

-- the warnings of the first comparisons
abbrev pub comparisons_below : ℕ → List ℕ → List ComparisonJudgement → ℕ → List Warning
comparisons_below number ats js zero = []
comparisons_below number ats js (suc n) =
    comparisons_below number ats js n ++ of_comparison number (slice_get ats n) (slice_get js n)

abbrev pub of_judged : ℕ → RuleItem → RuleJudgement → List Warning
of_judged number r j =
    warn_of (lint_of (line_of j.fails j.passes)) r.name.at number
    ++ comparisons_below number (places r.condition) j.comparisons.items (length j.comparisons.items)

abbrev pub of_found : ℕ → Option RuleItem → Option RuleJudgement → List Warning
of_found number (Some r) (Some j) = of_judged number r j
of_found number r j = []

-- the warnings of the first rules
abbrev pub rules_below : List Item → List RuleJudgement → ℕ → List Warning
rules_below items js zero = []
rules_below items js (suc n) = rules_below items js n ++ of_found n (rule_at items n) (slice_get js n)

-- ---- rules together

-- the rule both can fail and can pass, or may
abbrev pub goes_both_ways : Option RuleJudgement → Bool
goes_both_ways None = false
goes_both_ways (Some j) = not (is_never j.fails) && not (is_never j.passes)

-- the rule at which a pair is reported, and the other one: the later one if both fail alike, else the one that fails less often
abbrev pub told_first : Relation → Bool
told_first relation.Same = false
told_first relation.FirstFollows = false
told_first relation.SecondFollows = true

abbrev pub told_of : PairJudgement → ℕ
told_of p = if told_first p.relation then p.first else p.second

abbrev pub other_of : PairJudgement → ℕ
other_of p = if told_first p.relation then p.second else p.first

abbrev pub lint_of_relation : Relation → Lint
lint_of_relation relation.Same = lint.FailsAlike
lint_of_relation relation.FirstFollows = lint.FailsWherever
lint_of_relation relation.SecondFollows = lint.FailsWherever

-- both rules request one sequence
abbrev pub request_alike : Option RuleItem → Option RuleItem → Bool
request_alike None second = false
request_alike (Some first) None = false
request_alike (Some first) (Some second) = int_eq first.sequence.value second.sequence.value

abbrev pub is_same : Relation → Bool
is_same relation.Same = true
is_same relation.FirstFollows = false
is_same relation.SecondFollows = false

-- ---- groups of rules that fail alike

-- both always fail together, and may both fail and pass
abbrev pub is_alike : List RuleJudgement → PairJudgement → Bool
is_alike js p = is_same p.relation && goes_both_ways (slice_get js p.first) && goes_both_ways (slice_get js p.second)

-- some pair has the rules with these numbers
abbrev pub is_among : List PairJudgement → (first second : ℕ) → Bool
is_among pairs first second = list_any (λ (p : PairJudgement). (p.first == first) && (p.second == second)) pairs

-- both rules of the pair are in the group of a third one
abbrev pub is_covered : List PairJudgement → PairJudgement → Bool
is_covered groups p = list_any (λ (q : PairJudgement). (q.second == p.first) && is_among groups q.first p.second) groups

abbrev pub with_pair : List RuleJudgement → List PairJudgement → PairJudgement → List PairJudgement
with_pair js groups p = if is_alike js p && not (is_covered groups p) then groups ++ p ∷ [] else groups

-- the groups of rules that fail alike, as pairs of the first rule of a group with each other one: of the pairs of such rules, those
-- that the pairs before don't cover
abbrev pub grouped : List RuleJudgement → List PairJudgement → List PairJudgement
grouped js pairs = fold (with_pair js) [] pairs

-- the pair has the first two rules of a group
abbrev pub leads : List PairJudgement → PairJudgement → Bool
leads groups p =
    option_map_or (λ (q : PairJudgement). q.second == p.second) (find (λ (q : PairJudgement). q.first == p.first) groups) false

-- ---- pairs that are told

-- an earlier rule fails alike and requests the same sequence, so what is said of that one isn't said again of this one
abbrev pub has_twin : List Item → List PairJudgement → ℕ → Bool
has_twin items pairs number =
    list_any (λ (q : PairJudgement). is_same q.relation && (q.second == number)
    && request_alike (rule_at items q.first) (rule_at items q.second)) pairs

-- one of two rules follows the other, and both request one sequence: others are stages
abbrev pub is_within : List Item → List PairJudgement → PairJudgement → Bool
is_within items pairs p =
    not (is_same p.relation) && request_alike (rule_at items p.first) (rule_at items p.second)
    && not (has_twin items pairs p.first) && not (has_twin items pairs p.second)

abbrev pub is_doubtful : List Item → (pairs groups : List PairJudgement) → PairJudgement → Bool
is_doubtful items pairs groups p = (is_same p.relation && leads groups p) || is_within items pairs p

-- rules that always or never fail are reported already
abbrev pub of_pair : List Item → List RuleJudgement → (pairs groups : List PairJudgement) → PairJudgement → List Warning
of_pair items js pairs groups p =
    if goes_both_ways (slice_get js p.first) && goes_both_ways (slice_get js p.second) && is_doubtful items pairs groups p
    then warn_at (name_at items (told_of p)) (lint_of_relation p.relation) (other_of p) else []

-- ---- comparisons that can be done without

-- the comparison has the same outcome for all values; that is reported already
abbrev pub is_told_constant : Option RuleJudgement → Term → Bool
is_told_constant None t = false
is_told_constant (Some j) t = list_any (λ (c : ComparisonJudgement). same_term c.term t && is_constant c.says) j.comparisons.items

abbrev pub of_spare : List Item → List RuleJudgement → ℕ → Option SpareComparison → List Warning
of_spare items js number None = []
of_spare items js number (Some s) =
    if goes_both_ways (slice_get js s.rule) && not (is_told_constant (slice_get js s.rule) s.term)
    then warn_at (name_at items s.rule) lint.SpareComparison number else []

-- those of the first so many
abbrev pub spare_below : List Item → List RuleJudgement → List SpareComparison → ℕ → List Warning
spare_below items js spare zero = []
spare_below items js spare (suc n) = spare_below items js spare n ++ of_spare items js n (slice_get spare n)

-- ---- rules that a schedule never samples

abbrev pub of_unsampled : List Item → ℕ → List Warning
of_unsampled items number = warn_at (name_at items number) lint.NeverSampled number

-- ---- all that is judged

abbrev pub judged : List Item → List RuleJudgement → (pairs groups : List PairJudgement) → List SpareComparison → List ℕ → List Warning
judged items js pairs groups spare unsampled =
    rules_below items js (length js) ++ flat_map (of_pair items js pairs groups) pairs
    ++ spare_below items js spare (length spare) ++ flat_map (of_unsampled items) unsampled
