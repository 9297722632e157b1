-- Whether a rule has a twin is read off the pairs of rules that fail alike.
use Rattle.std.proofs.Common.{◌≡◌, ℕ, Bool, true, false, ◌&&◌, ◌==◌, List, refl, ap, sym, ◌∙◌}
use Rattle.std.specs.Prelude.{filter}
use Rattle.std.proofs.lemmas.Map.Views.{any-filter_same}
use Rattle.rule_analysis.specs.declared.finding.PairJudgement.{PairJudgement}
use Rattle.lc_model.specs.Text.Syntax.{Item}
use Rattle.rule_lints.specs.Judged.{has_twin, is_same, request_alike, rule_at}

pub twin_among : (items : List Item) (pairs alike : List PairJudgement) (number : ℕ) → alike ≡ filter (λ (p : PairJudgement). is_same p.relation) pairs →
    has_twin items alike number ≡ has_twin items pairs number
twin_among items pairs alike number are =
    ap (λ list. has_twin items list number) are ∙ any-filter_same _ (λ (p : PairJudgement). is_same p.relation) true first pairs
  where
    first : (q : PairJudgement) → (is_same q.relation && (q.second == number) && request_alike (rule_at items q.first) (rule_at items q.second)) ≡ true → is_same q.relation ≡ true
    first q e = by_parts (is_same q.relation) (q.second == number) (request_alike (rule_at items q.first) (rule_at items q.second)) e
      where
        by_parts : (a b c : Bool) → (a && b && c) ≡ true → a ≡ true
        by_parts true b c h = refl
        by_parts false b c h = h
