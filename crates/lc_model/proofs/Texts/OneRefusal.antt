-- A text has at most one refusal, and none where it reads; the same of compiling.
use Rattle.std.proofs.Common.{◌≡◌, refl, sym, ◌∙◌, ap, subst, ℕ, ◌≤◌, ◌<◌, inl, inr, List, Option, Some, None, length, arith}
use Rattle.lc_model.specs.Rule.{NamedRule}
use Rattle.lc_model.specs.Text.Token.{Token, Splits, longest_text}
use Rattle.lc_model.specs.Text.Syntax.{Item}
use Rattle.lc_model.specs.Text.Grammar.{DerivesFile}
use Rattle.lc_model.specs.Text.Meaning.{faults, first_fault}
use Rattle.lc_model.specs.Text.Reading.{Reads, Parses, ParseFault, HasParseFault, TextRefusal, AtPlace, Unparsed, IsUnreadable, too_long, bad_token, no_parse, no_meaning}
use Rattle.lc_model.specs.Tables.Compiling.{Limits, limit_refusal, Compiles, IsRefused, unreadable, beyond_limits}
use Rattle.lc_model.specs.Laws.Reading.{AtMostOneAnswer, AtMostOneVerdict, HasAnswer, HasVerdict}
use Rattle.lc_model.proofs.Texts.OneSplit.{one_split}
use Rattle.lc_model.proofs.Texts.OneFile.{one_file}
use Rattle.lc_model.proofs.Texts.OneReading.{one_reading}
use Rattle.lc_model.proofs.Texts.OneParse.{one_parse_fault, parses_has_no_fault}
use Rattle.lc_model.proofs.Texts.OneBadToken.{one_bad_token, splits_has_no_bad_token}

-- ---- texts that split

too_long_to_split : (text : List ℕ) (tokens : List Token) → longest_text < length text → Splits text tokens → ⊥
too_long_to_split text tokens long splits =
    let short : length text ≤ longest_text = splits.0 in
    omega (arith, long, short)

-- tokens of one text that parse have no fault
parses_or_not : (text : List ℕ) {tokens others : List Token} {items : List Item} {fault : ParseFault} → Splits text tokens → Splits text others →
    Parses tokens items → HasParseFault (length text) others fault → ⊥
parses_or_not text {tokens} {others} {items} {fault} splits splits' parses has =
    let same : tokens ≡ others = one_split text tokens others splits splits' in
    parses_has_no_fault parses (subst (λ ts. HasParseFault (length text) ts fault) (sym same) has)

-- the items of one text are one
same_items : (text : List ℕ) {tokens others : List Token} {items items' : List Item} → Splits text tokens → Splits text others →
    Parses tokens items → Parses others items' → items ≡ items'
same_items text {tokens} {others} {items} {items'} splits splits' parses parses' =
    let same : tokens ≡ others = one_split text tokens others splits splits' in
    one_file (subst (λ ts. DerivesFile ts items) same parses.0) parses'.0

same_fault : (text : List ℕ) {tokens others : List Token} {fault other : ParseFault} → Splits text tokens → Splits text others →
    HasParseFault (length text) tokens fault → HasParseFault (length text) others other → fault ≡ other
same_fault text {tokens} {others} {fault} {other} splits splits' has has' =
    let same : tokens ≡ others = one_split text tokens others splits splits' in
    one_parse_fault (length text) others fault other (subst (λ ts. HasParseFault (length text) ts fault) same has) has'

-- ---- refusals

one_refusal : (text : List ℕ) (refusal other : TextRefusal) → IsUnreadable text refusal → IsUnreadable text other → refusal ≡ other
one_refusal text refusal other (too_long long) (too_long long') = refl
one_refusal text refusal other (too_long long) (bad_token short bad) = absurd (omega (arith, long, short))
one_refusal text refusal other (too_long long) (no_parse {tokens = ts} splits has) = absurd (too_long_to_split text ts long splits)
one_refusal text refusal other (too_long long) (no_meaning {tokens = ts} splits parses first) = absurd (too_long_to_split text ts long splits)
one_refusal text refusal other (bad_token short bad) (too_long long) = absurd (omega (arith, long, short))
one_refusal text refusal other (bad_token {code = c} {at = p} short bad) (bad_token {code = d} {at = q} short' bad') =
    let one : (c ≡ d) × (p ≡ q) = one_bad_token text c p d q bad bad' in
    λ i. AtPlace (record { code = one.0 i; at = one.1 i })
one_refusal text refusal other (bad_token {code = c} {at = p} short bad) (no_parse {tokens = ts} splits has) =
    absurd (splits_has_no_bad_token text ts c p splits bad)
one_refusal text refusal other (bad_token {code = c} {at = p} short bad) (no_meaning {tokens = ts} splits parses first) =
    absurd (splits_has_no_bad_token text ts c p splits bad)
one_refusal text refusal other (no_parse {tokens = ts} splits has) (too_long long) = absurd (too_long_to_split text ts long splits)
one_refusal text refusal other (no_parse {tokens = ts} splits has) (bad_token {code = c} {at = p} short bad) =
    absurd (splits_has_no_bad_token text ts c p splits bad)
one_refusal text refusal other (no_parse splits has) (no_parse splits' has') =
    ap Unparsed (same_fault text splits splits' has has')
one_refusal text refusal other (no_parse splits has) (no_meaning splits' parses first) =
    absurd (parses_or_not text splits' splits parses has)
one_refusal text refusal other (no_meaning {tokens = ts} splits parses first) (too_long long) = absurd (too_long_to_split text ts long splits)
one_refusal text refusal other (no_meaning {tokens = ts} splits parses first) (bad_token {code = c} {at = p} short bad) =
    absurd (splits_has_no_bad_token text ts c p splits bad)
one_refusal text refusal other (no_meaning splits parses first) (no_parse splits' has) =
    absurd (parses_or_not text splits splits' parses has)
one_refusal text refusal other (no_meaning {items = items} {fault = f} splits parses first) (no_meaning {items = items'} {fault = g} splits' parses' first') =
    let found : Some f ≡ Some g = sym first ∙ ap (λ is. first_fault (faults is)) (same_items text splits splits' parses parses') ∙ first' in
    let same : f ≡ g = cc found in
    ap AtPlace same

not_both : (text : List ℕ) (rules : List NamedRule) (refusal : TextRefusal) → Reads text rules → IsUnreadable text refusal → ⊥
not_both text rules refusal (ts, items, splits, parses, means) (too_long long) = too_long_to_split text ts long splits
not_both text rules refusal (ts, items, splits, parses, means) (bad_token {code = c} {at = p} short bad) =
    splits_has_no_bad_token text ts c p splits bad
not_both text rules refusal (ts, items, splits, parses, means) (no_parse splits' has) = parses_or_not text splits splits' parses has
not_both text rules refusal (ts, items, splits, parses, means) (no_meaning {fault = f} splits' parses' first) =
    let found : None ≡ Some f = sym (ap first_fault means.accepted) ∙ ap (λ is. first_fault (faults is)) (same_items text splits splits' parses parses') ∙ first in
    cc found

pub at_most_one_answer : (text : List ℕ) → AtMostOneAnswer text
at_most_one_answer text = record { one_refusal = one_refusal text; not_both = not_both text }

-- ---- compiling

one_refused : (limits : Limits) (text : List ℕ) (refusal other : TextRefusal) → IsRefused limits text refusal → IsRefused limits text other →
    refusal ≡ other
one_refused limits text refusal other (unreadable why) (unreadable why') = one_refusal text refusal other why why'
one_refused limits text refusal other (unreadable why) (beyond_limits {rules = rules} reads beyond) = absurd (not_both text rules refusal reads why)
one_refused limits text refusal other (beyond_limits {rules = rules} reads beyond) (unreadable why) = absurd (not_both text rules other reads why)
one_refused limits text refusal other (beyond_limits {rules = rules} reads beyond) (beyond_limits {rules = rules'} reads' beyond') =
    let found : Some refusal ≡ Some other = sym beyond ∙ ap (limit_refusal limits) (one_reading text rules rules' reads reads') ∙ beyond' in
    cc found

compiles_or_not : (limits : Limits) (text : List ℕ) (rules : List NamedRule) (refusal : TextRefusal) → Compiles limits text rules →
    IsRefused limits text refusal → ⊥
compiles_or_not limits text rules refusal compiles (unreadable why) = not_both text rules refusal compiles.0 why
compiles_or_not limits text rules refusal compiles (beyond_limits {rules = rules'} reads beyond) =
    let found : None ≡ Some refusal = sym compiles.1 ∙ ap (limit_refusal limits) (one_reading text rules rules' compiles.0 reads) ∙ beyond in
    cc found

pub at_most_one_verdict : (limits : Limits) (text : List ℕ) → AtMostOneVerdict limits text
at_most_one_verdict limits text = record { one_refusal = one_refused limits text; not_both = compiles_or_not limits text }

-- a text with an answer has a verdict
pub verdict_of_answer : (limits : Limits) (text : List ℕ) → HasAnswer text → HasVerdict limits text
verdict_of_answer limits text (inr refused) = inr (refused.0, unreadable refused.1)
verdict_of_answer limits text (inl found) = go (limit_refusal limits found.0) refl
  where
    go : (r : Option TextRefusal) → limit_refusal limits found.0 ≡ r → HasVerdict limits text
    go None e = inl (found.0, (found.1, e))
    go (Some refusal) e = inr (refusal, beyond_limits found.1 e)
