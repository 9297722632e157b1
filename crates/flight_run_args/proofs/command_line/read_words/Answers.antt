use Rattle.std.proofs.Common.{rules, ◌≡◌, ◌∙◌, ap, sym, subst, map, [], Ok, Err}
use Rattle.std.proofs.lemmas.Result.{IfOk-weaker}
use Rattle.std.specs.Prelude.{IsSomeAnd}
use Rattle.clap.specs.Words.{FailsBy, app_of, fault_of, is_simple_and_free, subcommand_rows_of}
use Rattle.flight_run_args.specs.declared.command_line.WordsError.TheVariants.{Usage}
use Rattle.flight_run_args.specs.Words.{HasWhatItNeeds, command_line}
use Rattle.flight_run_args.proofs.Given.{holds, not_taken, rows_given, whole_of}
use Rattle.flight_run_args.proofs.command_line.read_words.Goals as goal

pub returns-clause-holds : goal.returns-clause-holds
returns-clause-holds c =
    let app_is : app_of c.in_ok-all_words.field-0 ≡ command_line = c.in_ok-all_words.ensures in
    let found : c.try_get_matches_from.result ≡ Ok c.in_ok-matches.matches = search rules in
    let words = map (λ word. word.now) c.args.words.now in
    let rows = rows_given (app_of c.in_ok-all_words.field-0) words c.try_get_matches_from.result c.in_ok-matches.matches app_is found c.try_get_matches_from.ensures.matches in
    IfOk-weaker c.given_plan.result _ _ (λ plan some. holds words (subcommand_rows_of c.in_ok-matches.matches) rows plan some) c.given_plan.ensures.holds

pub returns-clause-accepts : goal.returns-clause-accepts
returns-clause-accepts c = λ _ is_ok.
    let app_is : app_of c.in_ok-all_words.field-0 ≡ command_line = c.in_ok-all_words.ensures in
    let found : c.try_get_matches_from.result ≡ Ok c.in_ok-matches.matches = search rules in
    let words = map (λ word. word.now) c.args.words.now in
    let rows = rows_given (app_of c.in_ok-all_words.field-0) words c.try_get_matches_from.result c.in_ok-matches.matches app_is found c.try_get_matches_from.ensures.matches in
    let none : fault_of (app_of c.in_ok-all_words.field-0) words ≡ [] =
    subst (FailsBy (fault_of (app_of c.in_ok-all_words.field-0) words)) found (c.try_get_matches_from.ensures.kinds (ap is_simple_and_free app_is)) in (
      subst (λ app. fault_of app words ≡ []) app_is none,
      subst (λ o. IsSomeAnd o HasWhatItNeeds) rows (whole_of (subcommand_rows_of c.in_ok-matches.matches) c.given_plan.result is_ok c.given_plan.ensures.holds),
    )

pub returns-clause-refuses : goal.returns-clause-refuses
returns-clause-refuses c = λ refused gives.
    let app_is : app_of c.in_ok-all_words.field-0 ≡ command_line = c.in_ok-all_words.ensures in
    let found : c.try_get_matches_from.result ≡ Ok c.in_ok-matches.matches = search rules in
    let words = map (λ word. word.now) c.args.words.now in
    let rows = rows_given (app_of c.in_ok-all_words.field-0) words c.try_get_matches_from.result c.in_ok-matches.matches app_is found c.try_get_matches_from.ensures.matches in
    c.given_plan.ensures.refused refused (subst (λ o. IsSomeAnd o HasWhatItNeeds) (sym rows) gives.1)

pub returns-in_err-matches-clause-refuses : goal.returns-in_err-matches-clause-refuses
returns-in_err-matches-clause-refuses c = λ refused gives.
    let app_is : app_of c.in_ok-all_words.field-0 ≡ command_line = c.in_ok-all_words.ensures in
    let words = map (λ word. word.now) c.args.words.now in
    let told : c.map_err.result ≡ Err c.in_err-matches.field-0.0 = search rules in
    let usage : c.in_err-matches.field-0.0 ≡ Usage = search (rules, refused) in
    not_taken (fault_of (app_of c.in_ok-all_words.field-0) words) c.try_get_matches_from.result c.map_err.result c.in_err-matches.field-0.0
    (c.try_get_matches_from.ensures.kinds (ap is_simple_and_free app_is)) c.map_err.ensures.cases told usage (ap (λ app. fault_of app words) app_is ∙ gives.0)
