-- Rules that fail no sooner stay behind.
use Rattle.std.proofs.Common.{◌≡◌, ℕ, ◌+◌, ◌≤◌, Bool, true, false, List, [], ◌∷◌, ◌++◌, ◌&&◌, nat_le, refl, ap, ap₂, sym, ◌∙◌, subst, arith, if◌then◌else◌, IsTrue, true≢false}
use Rattle.std.proofs.lemmas.Bool.Decides.{nat_tests}
use Rattle.lc_model.specs.declared.field.Term.{Term}
use Rattle.lc_model.specs.declared.truth.Truth.{Truth}
use Rattle.lc_model.specs.declared.truth.Truth.TheVariants.{True, False, Stale, Error}
use Rattle.lc_model.specs.declared.mode.LcMode.TheVariants as mode
use Rattle.lc_model.specs.declared.mode.ApMode.{ApMode}
use Rattle.lc_model.specs.declared.mode.ApMode.TheVariants as state
use Rattle.lc_model.specs.declared.mode.ApResult.{ApResult}
use Rattle.lc_model.specs.declared.mode.ApResult.TheVariants.{Pass, Fail}
use Rattle.lc_model.specs.Count.{capped}
use Rattle.lc_model.specs.Rule.{Actionpoint}
use Rattle.lc_model.specs.Events.Request.{Request, failed_passive, turned_to_fail, turned_to_pass}
use Rattle.lc_model.specs.LimitChecker.Watch.{History, truth_of, result_of, result_of_truth}
use Rattle.lc_model.specs.LimitChecker.Past.{Past, Sample, has_turned, turns, run_of_fails, quiet_count}
use Rattle.lc_model.specs.LimitChecker.Reaction.{Reaction, turn_reports, failure_requests, on_failure, reaction}
use Rattle.lc_model.specs.LimitChecker.Steps.{Point, by_lists, is_sampled, sampled_point}
use Rattle.lc_model.specs.Laws.Lagging.{FailsNoSooner, Lags, debt, IsBehind, sequences, StaysBehind, RulesStayBehind}

-- ---- failures in a row

abbrev with_sample : Truth → ApMode → Past → Past
with_sample truth state past = record { result = result_of_truth truth; state = state } ∷ past

longer_run : (a b : Truth) (s s' : ApMode) (past past' : Past) → (a ≡ True → b ≡ True) → run_of_fails past ≤ run_of_fails past' →
    run_of_fails (with_sample a s past) ≤ run_of_fails (with_sample b s' past')
longer_run True True s s' past past' only less = omega (arith, less)
longer_run True False s s' past past' only less = absurd (cc (only refl))
longer_run True Stale s s' past past' only less = absurd (cc (only refl))
longer_run True Error s s' past past' only less = absurd (cc (only refl))
longer_run False b s s' past past' only less = omega arith
longer_run Stale b s s' past past' only less = omega arith
longer_run Error b s s' past past' only less = omega arith

-- ---- one rule

module _ (rule : Actionpoint) (n : ℕ) (past : Past) where
  -- what a sample leads to, by its state, and by whether it failed often enough
  abbrev failing : ApMode → Bool → Reaction
  failing s test = if test then on_failure rule n mode.Active s past else record { requests = []; state = s }

  abbrev led : ApMode → Bool → Reaction
  led s test = record { requests = turn_reports rule n past ++ (failing s test).requests; state = (failing s test).state }

  no_turns : (requests : List Request) → sequences (turn_reports rule n past ++ requests) ≡ sequences requests
  no_turns requests = by_tests (has_turned Pass Fail past && nat_le (capped (turns Pass Fail past)) rule.report.pass_to_fail)
      (has_turned Fail Pass past && nat_le (capped (turns Fail Pass past)) rule.report.fail_to_pass)
    where
      by_tests : (a b : Bool) → sequences ((if a then turned_to_fail n ∷ [] else if b then turned_to_pass n ∷ [] else []) ++ requests) ≡ sequences requests
      by_tests true b = refl
      by_tests false true = refl
      by_tests false false = refl

  passive_asks_none : (test : Bool) → sequences (led state.Passive test).requests ≡ 0
  passive_asks_none false = no_turns []
  passive_asks_none true = no_turns (on_failure rule n mode.Active state.Passive past).requests ∙ by_test (nat_le (quiet_count rule.fails past) rule.report.passive)
    where
      by_test : (test : Bool) → sequences (if test then failed_passive n ∷ [] else []) ≡ 0
      by_test true = refl
      by_test false = refl

  passive_stays : (test : Bool) → (led state.Passive test).state ≡ state.Passive
  passive_stays true = refl
  passive_stays false = refl

  active_asks : sequences (led state.Active true).requests ≡ 1
  active_asks = no_turns (failure_requests rule n mode.Active (run_of_fails past))

  active_waits : sequences (led state.Active false).requests ≡ 0
  active_waits = no_turns []

-- ---- two rules

module _ (new old : Actionpoint) (n m : ℕ) (past past' : Past) where
  pub record Both (s s' : ApMode) (t t' : Bool) : Type 0 where
    pub state : Lags (led new n past s t).state (led old m past' s' t').state
    pub requests : sequences (led new n past s t).requests + debt (led new n past s t).state (led old m past' s' t').state
        ≤ sequences (led old m past' s' t').requests + debt s s'

  by_states : (s s' : ApMode) (t t' : Bool) → Lags s s' → IsTrue (is_sampled s) → (t ≡ true → t' ≡ true) → Both s s' t t'
  by_states state.Active state.Active true true lags sampled both =
      record { state = tt; requests = omega (arith, active_asks new n past, active_asks old m past') }
  by_states state.Active state.Active true false lags sampled both = absurd (true≢false (sym (both refl)))
  by_states state.Active state.Active false true lags sampled both =
      record { state = tt; requests = omega (arith, active_waits new n past, active_asks old m past') }
  by_states state.Active state.Active false false lags sampled both =
      record { state = tt; requests = omega (arith, active_waits new n past, active_waits old m past') }
  by_states state.Active state.Passive true true lags sampled both =
      record { state = tt; requests = omega (arith, active_asks new n past, passive_asks_none old m past' true) }
  by_states state.Active state.Passive true false lags sampled both =
      record { state = tt; requests = omega (arith, active_asks new n past, passive_asks_none old m past' false) }
  by_states state.Active state.Passive false true lags sampled both =
      record { state = tt; requests = omega (arith, active_waits new n past, passive_asks_none old m past' true) }
  by_states state.Active state.Passive false false lags sampled both =
      record { state = tt; requests = omega (arith, active_waits new n past, passive_asks_none old m past' false) }
  by_states state.Passive state.Passive true true lags sampled both =
      record { state = tt; requests = omega (arith, passive_asks_none new n past true, passive_asks_none old m past' true) }
  by_states state.Passive state.Passive true false lags sampled both =
      record { state = tt; requests = omega (arith, passive_asks_none new n past true, passive_asks_none old m past' false) }
  by_states state.Passive state.Passive false true lags sampled both =
      record { state = tt; requests = omega (arith, passive_asks_none new n past false, passive_asks_none old m past' true) }
  by_states state.Passive state.Passive false false lags sampled both =
      record { state = tt; requests = omega (arith, passive_asks_none new n past false, passive_asks_none old m past' false) }
  by_states state.Active state.Disabled t t' lags sampled both = absurd lags
  by_states state.Active state.PermOff t t' lags sampled both = absurd lags
  by_states state.Passive state.Active t t' lags sampled both = absurd lags
  by_states state.Passive state.Disabled t t' lags sampled both = absurd lags
  by_states state.Passive state.PermOff t t' lags sampled both = absurd lags
  by_states state.Disabled s' t t' lags sampled both = absurd (true≢false (sym sampled))
  by_states state.PermOff s' t t' lags sampled both = absurd (true≢false (sym sampled))

often_enough : (f f' r r' : ℕ) → f' ≤ f → r ≤ r' → nat_le f r ≡ true → nat_le f' r' ≡ true
often_enough f f' r r' more less enough = grind (arith, nat_tests, enough)

pub rules_stay_behind : RulesStayBehind
rules_stay_behind terms theirs h n m new old p q later behind sampled =
    let past : Past = with_sample (truth_of new.condition h) p.state p.past in
    let past' : Past = with_sample (truth_of old.condition h) q.state q.past in
    let run = longer_run (truth_of new.condition h) (truth_of old.condition h) p.state q.state p.past q.past (later.only h) behind.run in
    let both = by_states new old n m past past' p.state q.state (nat_le new.fails (run_of_fails past)) (nat_le old.fails (run_of_fails past'))
    behind.state sampled (often_enough new.fails old.fails (run_of_fails past) (run_of_fails past') later.fails run) in
    record { behind = record { state = both.state; run = run }; requests = both.requests }
