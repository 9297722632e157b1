-- A sample of rules, one after the other.
use Rattle.std.proofs.Common.{◌≡◌, refl, sym, ◌∙◌, ap, ap₂, subst, ℕ, ◌+◌, ◌-◌, ◌<◌, ◌≤◌, true, false, ◌&&◌, List, [], ◌∷◌, ◌++◌, length, map, take, drop, set, get_or, slice_get, Some, option_map, append_assoc, append-nil, arith}
use Rattle.std.proofs.lemmas.List.{length-map, take_more, take_more_set, drop-set-lt, drop_more, drop_all}
use Rattle.std.proofs.Math.Seq.{take_all}
use Rattle.std.proofs.lemmas.Option.{slice_get-map, slice_get_read, slice_get-get_or}
use Rattle.lc_model.specs.declared.field.Term.{Term}
use Rattle.lc_model.specs.declared.mode.LcMode.{LcMode}
use Rattle.lc_model.specs.declared.mode.ApMode.TheVariants.{Active}
use Rattle.lc_model.specs.declared.command.SampleRequest.{SampleRequest}
use Rattle.lc_model.specs.Command.{takes}
use Rattle.lc_model.specs.Rule.{Actionpoint}
use Rattle.lc_model.specs.Events.Request.{Request}
use Rattle.lc_model.specs.Tables.Equation.{equation_length}
use Rattle.lc_model.specs.LimitChecker.Steps.{Point, is_sampled, sampled_point, sampled_points}
use Rattle.lc_model.specs.Kept.Summary.{WatchResult, Tally}
use Rattle.lc_model.specs.Kept.Next.{by_counts}
use Rattle.lc_model.specs.Kept.Effort.{sampled_words}
use Rattle.limit_engine.specs.declared.actionpoint.RuleEntry.{RuleEntry}
use Rattle.limit_engine.specs.declared.reaction.Asked.{Asked}
use Rattle.limit_engine.specs.Entry.{rule_in, IsRunnable}
use Rattle.limit_engine.specs.Reactions.{requests_in}
use Rattle.limit_engine.specs.Tables.{AreTables}
use Rattle.limit_engine.proofs.CountedWords.{counted_words}

module _ (request : SampleRequest) (terms : List Term) (mode : LcMode) (watch : List WatchResult) (rules : List Actionpoint) (first : List (Point Tally)) where
  -- the points and the requests of the rules from here on
  abbrev pub rest : ℕ → List (Point Tally) → List (Point Tally) × List Request
  rest n points = sampled_points by_counts request terms mode watch n (drop n rules) (drop n points)

  abbrev pub all : List (Point Tally) × List Request
  all = sampled_points by_counts request terms mode watch 0 rules first

  -- the rules up to a number are sampled
  pub record SampledBelow (n : ℕ) (points : List (Point Tally)) (requests : List Request) (steps : ℕ) : Type 0 where
    pub points_are : take n points ++ (rest n points).0 ≡ all.0
    pub requests_are : requests ++ (rest n points).1 ≡ all.1
    pub steps_are : steps + sampled_words request n (drop n rules) (drop n points) ≡ sampled_words request 0 rules first

  module _ (n : ℕ) (points : List (Point Tally)) (requests : List Request) (steps : ℕ) (so_far : SampledBelow n points requests steps)
      (rule : Actionpoint) (point : Point Tally) (in_rules : n < length rules) (in_points : n < length points)
      (rule_at : rule ≡ get_or rules n rule) (point_at : point ≡ get_or points n point) where
    rules_from : drop n rules ≡ rule ∷ drop (n + 1) rules
    rules_from = drop_more rules n rule in_rules ∙ ap (λ (r : Actionpoint). r ∷ drop (n + 1) rules) (sym rule_at)

    points_from : drop n points ≡ point ∷ drop (n + 1) points
    points_from = drop_more points n point in_points ∙ ap (λ (p : Point Tally). p ∷ drop (n + 1) points) (sym point_at)

    -- one rule more, which is not sampled
    pub not_sampled : (takes request n && is_sampled point.state) ≡ false → SampledBelow (n + 1) points requests steps
    unfolding sampled_words
    not_sampled off =
        let here : rest n points ≡ (point ∷ (rest (n + 1) points).0, (rest (n + 1) points).1) =
        ap₂ (sampled_points by_counts request terms mode watch n) rules_from points_from ∙ rw off refl in
        let words : sampled_words request n (drop n rules) (drop n points) ≡ sampled_words request (n + 1) (drop (n + 1) rules) (drop (n + 1) points) =
        ap₂ (sampled_words request n) rules_from points_from ∙ rw off (omega arith) in
        record {
          points_are = ap (λ (front : List (Point Tally)). front ++ (rest (n + 1) points).0)
              (take_more points n point in_points ∙ ap (λ (p : Point Tally). take n points ++ p ∷ []) (sym point_at))
              ∙ append_assoc (take n points) (point ∷ []) (rest (n + 1) points).0
              ∙ ap (λ (r : List (Point Tally) × List Request). take n points ++ r.0) (sym here) ∙ so_far.points_are;
          requests_are = ap (λ (r : List (Point Tally) × List Request). requests ++ r.1) (sym here) ∙ so_far.requests_are;
          steps_are = ap (λ k. steps + k) (sym words) ∙ so_far.steps_are;
        }

    -- one rule more, which is sampled
    pub one_sampled : (takes request n && is_sampled point.state) ≡ true → (after : Point Tally) (more : List Request) →
        after ≡ (sampled_point by_counts terms mode watch n rule point).0 → more ≡ requests ++ (sampled_point by_counts terms mode watch n rule point).1 →
        SampledBelow (n + 1) (set points n after) more (steps + equation_length rule.condition)
    unfolding sampled_words
    one_sampled on after more after_is more_is =
        let made : Point Tally × List Request = sampled_point by_counts terms mode watch n rule point in
        let here : rest n points ≡ (made.0 ∷ (rest (n + 1) points).0, made.1 ++ (rest (n + 1) points).1) =
        ap₂ (sampled_points by_counts request terms mode watch n) rules_from points_from ∙ rw on refl in
        let words : sampled_words request n (drop n rules) (drop n points)
        ≡ equation_length rule.condition + sampled_words request (n + 1) (drop (n + 1) rules) (drop (n + 1) points) =
        ap₂ (sampled_words request n) rules_from points_from ∙ rw on refl in
        let behind : drop (n + 1) (set points n after) ≡ drop (n + 1) points = drop-set-lt (n + 1) points n after (omega arith) in
        let others : rest (n + 1) (set points n after) ≡ rest (n + 1) points =
        ap (sampled_points by_counts request terms mode watch (n + 1) (drop (n + 1) rules)) behind in
        record {
          points_are = ap₂ (λ (front : List (Point Tally)) (r : List (Point Tally) × List Request). front ++ r.0) (take_more_set points n after in_points) others
              ∙ append_assoc (take n points) (after ∷ []) (rest (n + 1) points).0
              ∙ ap (λ (p : Point Tally). take n points ++ p ∷ (rest (n + 1) points).0) after_is
              ∙ ap (λ (r : List (Point Tally) × List Request). take n points ++ r.0) (sym here) ∙ so_far.points_are;
          requests_are = ap₂ (λ (front : List Request) (r : List (Point Tally) × List Request). front ++ r.1) more_is others
              ∙ append_assoc requests made.1 (rest (n + 1) points).1
              ∙ ap (λ (r : List (Point Tally) × List Request). requests ++ r.1) (sym here) ∙ so_far.requests_are;
          steps_are = ap (λ (ps : List (Point Tally)). steps + equation_length rule.condition + sampled_words request (n + 1) (drop (n + 1) rules) ps) behind
              ∙ omega (arith, words, so_far.steps_are);
        }

  -- all rules are sampled
  module _ (n : ℕ) (points : List (Point Tally)) (requests : List Request) (steps : ℕ) (so_far : SampledBelow n points requests steps)
      (as_many : length points ≡ length rules) (done : length rules ≤ n) where
    nothing_left : rest n points ≡ ([], [])
    nothing_left = ap₂ (sampled_points by_counts request terms mode watch n) (drop_all n rules done) (drop_all n points (omega (arith, as_many, done)))

    pub points_sampled_are : points ≡ all.0
    points_sampled_are =
        sym (take_all n points (omega (arith, as_many, done))) ∙ sym (append-nil (take n points))
        ∙ ap (λ (r : List (Point Tally) × List Request). take n points ++ r.0) (sym nothing_left) ∙ so_far.points_are

    pub requests_sampled_are : requests ≡ all.1
    requests_sampled_are = sym (append-nil requests) ∙ ap (λ (r : List (Point Tally) × List Request). requests ++ r.1) (sym nothing_left) ∙ so_far.requests_are

    pub steps_sampled_are : steps ≡ sampled_words request 0 rules first
    unfolding sampled_words
    steps_sampled_are =
        let none : sampled_words request n (drop n rules) (drop n points) ≡ 0 =
        ap₂ (sampled_words request n) (drop_all n rules done) (drop_all n points (omega (arith, as_many, done))) in
        omega (arith, none, so_far.steps_are)

-- ---- rules that lie in the tables

module _ (request : SampleRequest) (terms : List Term) (mode : LcMode) (watch : List WatchResult) (entries : List RuleEntry) (words : List ℕ) (first : List (Point Tally))
    (tables : AreTables terms watch entries first words) where
  abbrev pub rules_of : List Actionpoint
  rules_of = map (rule_in terms words) entries

  module _ (n : ℕ) (points : List (Point Tally)) (asked : List Asked) (steps : ℕ) (so_far : SampledBelow request terms mode watch rules_of first n points (requests_in rules_of asked) steps)
      (long : length points ≡ length first) (inside : n < length entries) (entry : RuleEntry) (entry_at : entry ≡ get_or entries n entry) where
    in_rules : n < length rules_of
    in_rules = omega (arith, inside, length-map entries (rule_in terms words))

    in_points : n < length points
    in_points = omega (arith, inside, long, tables.counted)

    rule : Actionpoint
    rule = rule_in terms words entry

    rule_at : rule_in terms words entry ≡ get_or rules_of n (rule_in terms words entry)
    rule_at =
        cc (sym (ap (option_map (rule_in terms words)) (slice_get_read entries (length entries) n entry refl inside entry_at))
        ∙ sym (slice_get-map (rule_in terms words) entries n) ∙ slice_get-get_or rules_of n (rule_in terms words entry) in_rules)

    pub there : slice_get rules_of n ≡ Some (rule_in terms words entry)
    there = slice_get-get_or rules_of n (rule_in terms words entry) in_rules ∙ ap (λ (r : Actionpoint). Some r) (sym rule_at)

    runs : IsRunnable terms words entry
    runs = subst (IsRunnable terms words) (sym entry_at) (tables.runnable n entry inside)

    -- a rule that is not taken, disabled or off
    pub rule_skipped : (seen : Point Tally) → seen ≡ get_or points n seen → (takes request n && is_sampled seen.state) ≡ false →
        SampledBelow request terms mode watch rules_of first (n + 1) points (requests_in rules_of asked) steps
    rule_skipped seen seen_at off =
        not_sampled request terms mode watch rules_of first n points (requests_in rules_of asked) steps so_far (rule_in terms words entry) seen in_rules in_points rule_at seen_at off

    -- a rule that is sampled
    module _ (seen point after : Point Tally) (seen_at : seen ≡ get_or points n seen) (point_at : point ≡ get_or points n point)
        (taken : takes request n ≡ true) (on : is_sampled seen.state ≡ true)
        (after_is : after ≡ (sampled_point by_counts terms mode watch n (rule_in terms words entry) point).0) where
      one : seen ≡ point
      one = cc (sym (slice_get_read points (length points) n seen refl in_points seen_at) ∙ slice_get_read points (length points) n point refl in_points point_at)

      sampled_on : (takes request n && is_sampled point.state) ≡ true
      sampled_on = rw taken (ap (λ (p : Point Tally). is_sampled p.state) (sym one) ∙ on)

      pub rule_sampled : (noted : List Asked) (points_after : List (Point Tally)) (steps_after : ℕ) →
          requests_in rules_of noted ≡ requests_in rules_of asked ++ (sampled_point by_counts terms mode watch n (rule_in terms words entry) point).1 →
          points_after ≡ set points n after → steps_after ≡ steps + (entry.end - entry.start + 1) →
          SampledBelow request terms mode watch rules_of first (n + 1) points_after (requests_in rules_of noted) steps_after
      rule_sampled noted points_after steps_after notes points_are steps_are =
          let made = one_sampled request terms mode watch rules_of first n points (requests_in rules_of asked) steps so_far (rule_in terms words entry) point in_rules in_points rule_at
          point_at sampled_on after (requests_in rules_of noted) after_is notes in
          let counted : steps_after ≡ steps + equation_length (rule_in terms words entry).condition = omega (arith, steps_are, counted_words terms words entry tables.few runs) in
          rw (points_are, counted) made

-- an entry has at most 31 words before EQUAL
pub short_entry : (watch : List WatchResult) (entries : List RuleEntry) (points : List (Point Tally)) (words : List ℕ) (terms : List Term) → AreTables terms watch entries points words →
    (n : ℕ) (entry : RuleEntry) → n < length entries → entry ≡ get_or entries n entry → entry.end - entry.start ≤ 31
short_entry watch entries points words terms tables n entry inside at =
    let runs : IsRunnable terms words entry = subst (IsRunnable terms words) (sym at) (tables.runnable n entry inside) in omega (arith, runs.short)

pub as_many_points : (terms : List Term) (watch : List WatchResult) (entries : List RuleEntry) (first : List (Point Tally)) (words : List ℕ) → AreTables terms watch entries first words →
    (points : List (Point Tally)) → length points ≡ length first → length points ≡ length (map (rule_in terms words) entries)
as_many_points terms watch entries first words tables points long = omega (arith, long, tables.counted, length-map entries (rule_in terms words))

-- the point at this place
pub first_point : List (Point Tally) → ℕ → Point Tally
first_point points n = get_or points n (record { state = Active; past = by_counts.unsampled })

pub first_point_at : (points : List (Point Tally)) (n : ℕ) → n < length points → first_point points n ≡ get_or points n (first_point points n)
unfolding first_point
first_point_at points n inside =
    let d : Point Tally = record { state = Active; past = by_counts.unsampled } in
    let p : Point Tally = get_or points n d in
    cc (sym (slice_get-get_or points n d inside) ∙ slice_get-get_or points n p inside)
