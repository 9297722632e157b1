-- Texts that say the same in other words.
use Rattle.std.proofs.Common.{◌≡◌, ℕ, ◌+◌, ◌<◌, ◌≤◌, Bool, true, false, ◌&&◌, ◌||◌, ◌==◌, not, nat_le, nat_lt, List, [], ◌∷◌, ◌++◌, filter, length, take, get_or, slice_get, ℤ, is_none, Some, None, if◌then◌else◌, refl, ap, sym, ◌∙◌, subst, arith, true≢false}
use Rattle.std.specs.Prelude.{IsTrue}
use Rattle.std.specs.List.{AllByRecursion, AllZip, list_any}
use Rattle.std.proofs.lemmas.List.{take_all, take_more}
use Rattle.std.proofs.lemmas.Bool.Decides.{nat_tests}
use Rattle.lc_model.specs.declared.field.Term.{Term}
use Rattle.lc_model.specs.declared.rule.Rule.{Rule}
use Rattle.lc_model.specs.Rule.{NamedRule, actions, rule_of, rules_of}
use Rattle.lc_model.specs.Field.{value_of, width}
use Rattle.lc_model.specs.Packet.{message_id}
use Rattle.lc_model.specs.Tables.Equation.{same_term, distinct, terms_of}
use Rattle.lc_model.specs.LimitChecker.Steps.{is_short}
use Rattle.lc_model.specs.Tables.HalvesAndBytes.{Text}
use Rattle.lc_model.specs.Laws.Tables.{IsReworded}
use Rattle.lc_model.specs.Laws.Reworded.{SaysTheSame}
use Rattle.lc_model.proofs.Facts.{and_first, and_second}
use Rattle.lc_model.proofs.LimitChecker.ResultLaws.{one_term}
use Rattle.rule_analysis.proofs.Each.{each, zip_more}
use Rattle.rule_changes.specs.RuleChanges.{mentions_of, reaches}
use Rattle.rule_changes.proofs.Matched.{rule_there, same_some}

-- ---- rules in their order

abbrev pub IsRewordedRule : Rule → Rule → Type 0
IsRewordedRule old new = IsReworded (rule_of old).action (rule_of new).action

pub one_rule_more : (old new : List Rule) (i : ℕ) (a b : Rule) → i < length old → i < length new → AllZip IsRewordedRule (take i old) (take i new) →
    IsRewordedRule a b → a ≡ get_or old i a → b ≡ get_or new i b → AllZip IsRewordedRule (take (i + 1) old) (take (i + 1) new)
one_rule_more old new i a b below others_below so_far here a_is b_is =
    subst (λ xs. AllZip IsRewordedRule xs (take (i + 1) new)) (sym (take_more old i a below))
    (subst (λ ys. AllZip IsRewordedRule (take i old ++ get_or old i a ∷ []) ys) (sym (take_more new i b others_below))
    (zip_more IsRewordedRule (take i old) (take i new) (get_or old i a) (get_or new i b) so_far
    (subst (λ x. IsRewordedRule x (get_or new i b)) a_is (subst (IsRewordedRule a) b_is here))))

of_actions : (old new : List Rule) → AllZip IsRewordedRule old new → AllZip IsReworded (actions (rules_of old)) (actions (rules_of new))
of_actions [] [] all = tt
of_actions [] (y ∷ new) all = absurd all
of_actions (x ∷ old) [] all = absurd all
of_actions (x ∷ old) (y ∷ new) all = (all.0, of_actions old new all.1)

pub all_rules : (old new : List Rule) (i : ℕ) → length old ≤ i → length new ≤ i → AllZip IsRewordedRule (take i old) (take i new) →
    AllZip IsReworded (actions (rules_of old)) (actions (rules_of new))
all_rules old new i past others_past all =
    of_actions old new (subst (λ xs. AllZip IsRewordedRule xs new) (take_all i old past) (subst (AllZip IsRewordedRule (take i old)) (take_all i new others_past) all))

-- ---- packets that are too short

abbrev short : List ℕ → Term → Bool
short packet t = t.mid == message_id packet && is_none (value_of t packet)

-- one of two tests
one_of : {C : Type 0} (a b : Bool) → IsTrue (a || b) → (IsTrue a → C) → (IsTrue b → C) → C
one_of true b is first second = first refl
one_of false b is first second = second is

by_first : (a b x y : Bool) → IsTrue (a || b) → (IsTrue a → IsTrue x) → (IsTrue b → IsTrue y) → IsTrue (x || y)
by_first true b true y is first second = refl
by_first true b false y is first second = absurd (true≢false (sym (first refl)))
by_first false b true y is first second = refl
by_first false b false y is first second = second is

-- a term that stands in a list twice counts once
dropped : (p : Term → Bool) (t u : Term) (rest : List Term) (same : Bool) → same_term t u ≡ same →
    (p t || list_any p (filter (λ v. not (same_term t v)) rest)) ≡ (p t || list_any p rest) →
    (p t || list_any p (if not same then u ∷ filter (λ v. not (same_term t v)) rest else filter (λ v. not (same_term t v)) rest)) ≡ (p t || (p u || list_any p rest))
dropped p t u rest true e later = later ∙ absorbed (p t) (list_any p rest) ∙ ap (λ v. p t || (p v || list_any p rest)) (one_term t u e)
  where
    absorbed : (a b : Bool) → (a || b) ≡ (a || (a || b))
    absorbed true b = refl
    absorbed false b = refl
dropped p t u rest false e later = turned (p t) (p u) (list_any p (filter (λ v. not (same_term t v)) rest)) (list_any p rest) later
  where
    turned : (a b x y : Bool) → (a || x) ≡ (a || y) → (a || (b || x)) ≡ (a || (b || y))
    turned true b x y e = refl
    turned false b x y e = ap (λ z. b || z) e

without : (p : Term → Bool) (t : Term) (terms : List Term) →
    (p t || list_any p (filter (λ u. not (same_term t u)) terms)) ≡ (p t || list_any p terms)
without p t [] = refl
without p t (u ∷ terms) = dropped p t u terms (same_term t u) refl (without p t terms)

any_distinct : (p : Term → Bool) (terms : List Term) → list_any p (distinct terms) ≡ list_any p terms
any_distinct p [] = refl
any_distinct p (t ∷ terms) = without p t (distinct terms) ∙ ap (λ b. p t || b) (any_distinct p terms)

-- a packet has no value for the term's field if it ends before the field does
ends_before : (packet : List ℕ) (t : Term) → is_none (value_of t packet) ≡ nat_lt (length packet) (t.offset + width t.kind)
ends_before packet t = by_test (nat_lt (length packet) (t.offset + width t.kind)) _
  where
    by_test : (b : Bool) (x : ℤ) → is_none {T = ℤ} (if b then None else Some x) ≡ b
    by_test true x = refl
    by_test false x = refl

short_on : (packet : List ℕ) (t u : Term) → IsTrue (reaches t u) → IsTrue (short packet t) → IsTrue (short packet u)
short_on packet t u reach is =
    let own = and_first (t.mid == message_id packet) (is_none (value_of t packet)) is in
    let ends = sym (ends_before packet t) ∙ and_second (t.mid == message_id packet) (is_none (value_of t packet)) is in
    let mids = and_first (u.mid == t.mid) (nat_le (t.offset + width t.kind) (u.offset + width u.kind)) reach in
    let far = and_second (u.mid == t.mid) (nat_le (t.offset + width t.kind) (u.offset + width u.kind)) reach in
    λ i. same_mid u.mid t.mid (message_id packet) mids own i
    && (ends_before packet u ∙ later_end (length packet) (t.offset + width t.kind) (u.offset + width u.kind) ends far) i
  where
    same_mid : (a b c : ℕ) → (a == b) ≡ true → (b == c) ≡ true → (a == c) ≡ true
    same_mid a b c one other = grind (arith, nat_tests)

    later_end : (size a b : ℕ) → nat_lt size a ≡ true → nat_le a b ≡ true → nat_lt size b ≡ true
    later_end size a b one other = grind (arith, nat_tests)

short_of_reached : (packet : List ℕ) (t : Term) (others : List Term) → IsTrue (short packet t) → IsTrue (list_any (reaches t) others) → IsTrue (list_any (short packet) others)
short_of_reached packet t [] is reached = absurd (true≢false (sym reached))
short_of_reached packet t (u ∷ others) is reached =
    by_first (reaches t u) (list_any (reaches t) others) (short packet u) (list_any (short packet) others) reached
    (λ reach. short_on packet t u reach is) (short_of_reached packet t others is)

short_of_some : (packet : List ℕ) (terms others : List Term) → AllByRecursion (λ t. IsTrue (list_any (reaches t) others)) terms →
    IsTrue (list_any (short packet) terms) → IsTrue (list_any (short packet) others)
short_of_some packet [] others reached is = absurd (true≢false (sym is))
short_of_some packet (t ∷ terms) others reached is =
    one_of (short packet t) (list_any (short packet) terms) is (λ own. short_of_reached packet t others own reached.0) (short_of_some packet terms others reached.1)

same_test : (a b : Bool) → (IsTrue a → IsTrue b) → (IsTrue b → IsTrue a) → a ≡ b
same_test true b one other = sym (one refl)
same_test false true one other = other refl
same_test false false one other = refl

pub short_alike : (old new : List NamedRule) (packet : List ℕ) → AllByRecursion (λ t. IsTrue (list_any (reaches t) (mentions_of new))) (mentions_of old) →
    AllByRecursion (λ t. IsTrue (list_any (reaches t) (mentions_of old))) (mentions_of new) → is_short (terms_of old) packet ≡ is_short (terms_of new) packet
short_alike old new packet one other =
    any_distinct (short packet) (mentions_of old)
    ∙ same_test (list_any (short packet) (mentions_of old)) (list_any (short packet) (mentions_of new)) (short_of_some packet (mentions_of old) (mentions_of new) one)
    (short_of_some packet (mentions_of new) (mentions_of old) other)
    ∙ sym (any_distinct (short packet) (mentions_of new))

pub they_say_the_same : (old new : List NamedRule) (terms others : List Term) → AllZip IsReworded (actions old) (actions new) →
    terms ≡ mentions_of old → others ≡ mentions_of new → AllByRecursion (λ t. IsTrue (list_any (reaches t) others)) terms →
    AllByRecursion (λ t. IsTrue (list_any (reaches t) terms)) others → (a b : Text) → a.rules ≡ old → b.rules ≡ new → SaysTheSame a b
they_say_the_same old new terms others reworded terms_are others_are one other a b a_is b_is = record {
  rules = subst (λ xs. AllZip IsReworded (actions xs) (actions b.rules)) (sym a_is)
      (subst (λ ys. AllZip IsReworded (actions old) (actions ys)) (sym b_is) reworded);
  short = λ packet. ap (λ rules. is_short (terms_of rules) packet) a_is
      ∙ short_alike old new packet
      (subst (λ ts. AllByRecursion (λ t. IsTrue (list_any (reaches t) (mentions_of new))) ts) terms_are
      (subst (λ us. AllByRecursion (λ t. IsTrue (list_any (reaches t) us)) terms) others_are one))
      (subst (λ us. AllByRecursion (λ t. IsTrue (list_any (reaches t) (mentions_of old))) us) others_are
      (subst (λ ts. AllByRecursion (λ t. IsTrue (list_any (reaches t) ts)) others) terms_are other))
      ∙ ap (λ rules. is_short (terms_of rules) packet) (sym b_is);
}

-- ---- texts with the same rules

reaches_itself : (t : Term) → reaches t t ≡ true
reaches_itself t = λ i. same_mid t.mid i && no_later (t.offset + width t.kind) i
  where
    same_mid : (n : ℕ) → (n == n) ≡ true
    same_mid n = grind (arith, nat_tests)

    no_later : (n : ℕ) → nat_le n n ≡ true
    no_later n = grind (arith, nat_tests)

reached_by_themselves : (terms : List Term) → AllByRecursion (λ t. IsTrue (list_any (reaches t) terms)) terms
reached_by_themselves [] = tt
reached_by_themselves (t ∷ terms) = (
  ap (λ b. b || list_any (reaches t) terms) (reaches_itself t),
  each terms (λ u reached. or_second (reaches u t) (list_any (reaches u) terms) reached) (reached_by_themselves terms),
)
  where
    or_second : (a b : Bool) → IsTrue b → IsTrue (a || b)
    or_second true b is = refl
    or_second false b is = is

pub reached_if_one : (terms others : List Term) → terms ≡ others → AllByRecursion (λ t. IsTrue (list_any (reaches t) others)) terms
reached_if_one terms others same = subst (λ us. AllByRecursion (λ t. IsTrue (list_any (reaches t) us)) terms) same (reached_by_themselves terms)

pub one_rule_at : (old new : List Rule) (i : ℕ) (a b : Rule) → rules_of old ≡ rules_of new → i < length old → i < length new → a ≡ get_or old i a →
    b ≡ get_or new i b → rule_of a ≡ rule_of b
one_rule_at old new i a b same below others_below a_is b_is =
    same_some (rule_of a) (rule_of b) (sym (rule_there old i a below a_is) ∙ ap (λ rs. slice_get rs i) same ∙ rule_there new i b others_below b_is)
